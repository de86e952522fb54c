use Rattle.table.specs.Tables.{records_of}
use Rattle.report.specs.Marks.{edges_of}
use Rattle.report.proofs.Coming.{Kept}
use Rattle.report.proofs.marking.Crossings.mark_all.Given as goal

abbrev pub invariant-loop-index : goal.invariant-loop-index
invariant-loop-index l = Kept l.self.radius.current (edges_of l.self.edges.now) l.self.edges.now l.index (records_of l.initial.table) (records_of l.table) l.is_rounded
