use Rattle.table.specs.Tables.{records_of}
use Rattle.report.specs.Marks.{edges_of}
use Rattle.report.proofs.Coming.{kept_none, kept_more, kept_all}
use Rattle.report.proofs.marking.Crossings.mark_all.Goals as goal

pub loop-index-init : goal.loop-index-init
loop-index-init c = kept_none c.args.self.now.radius.current (edges_of c.args.self.now.edges.now) c.args.self.now.edges.now (records_of c.args.table.now)

pub loop-index-preserved : goal.loop-index-preserved
loop-index-preserved c =
    kept_more c.args.self.now.radius.current (edges_of c.args.self.now.edges.now) c.args.self.now.edges.now c.loop-index.index c.drawn-item.result
    (records_of c.args.table.now) (records_of c.loop-index.table) (records_of c.mark_edge.new.table) c.loop-index.is_rounded c.in_ok-is_rounded.field-0
    c.loop-index-test.true c.drawn-item.is c.in_ok-is_rounded.ensures.marks c.in_ok-is_rounded.ensures.rounded c.loop-index.invariant

pub returns : goal.returns
returns c =
    let all =
    kept_all c.args.self.now.radius.current (edges_of c.args.self.now.edges.now) c.args.self.now.edges.now c.loop-index.index
    (records_of c.args.table.now) (records_of c.loop-index.table) c.loop-index.is_rounded c.loop-index-test.false c.loop-index.invariant in
    record { marks = all.0; rounded = all.1 }
