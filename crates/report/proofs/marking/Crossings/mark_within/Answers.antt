use Rattle.std.proofs.Common.{vec_items, ◌∙◌}
use Rattle.table.specs.Tables.{content_of, records_of}
use Rattle.report.specs.Marks.{edges_of}
use Rattle.report.proofs.Coming.{marked_all}
use Rattle.report.proofs.marking.Crossings.mark_within.Goals as goal

pub returns : goal.returns
returns c =
    marked_all c.args.self.now.radius.current (edges_of c.args.self.now.edges.now) (content_of c.open-table.result) _ _ (records_of c.mark_all.new.table) (vec_items c.in_ok-marks.marks) c.in-Ok.is_rounded
    c.open-table.ensures.content c.open-table.result.sound c.in-Ok.ensures.marks c.in-Ok.ensures.rounded (c.in_ok-marks.ensures.items ∙ c.records.ensures)
