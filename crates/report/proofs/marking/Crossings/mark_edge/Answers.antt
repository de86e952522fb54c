use Rattle.plane.specs.Models.{edge_of, points_of}
use Rattle.table.specs.Tables.{records_of}
use Rattle.report.proofs.Coming.{crossed_none, crossed_more, crossed_all}
use Rattle.report.proofs.marking.Crossings.mark_edge.Goals as goal

pub loop-other-init : goal.loop-other-init
loop-other-init c = crossed_none c.args.self.now.radius.current c.args.index (edge_of c.args.edge.now) c.args.self.now.edges.now (records_of c.args.table.now)

pub loop-other-preserved : goal.loop-other-preserved
loop-other-preserved c =
    let crossed = c.marks-crossed.result in
    let told = c.marks-crossed.ensures in
    crossed_more c.args.self.now.radius.current c.args.index (edge_of c.args.edge.now) c.args.self.now.edges.now c.loop-other.other-index c.other-item.result (points_of crossed.first)
    (records_of c.args.table.now) (records_of c.loop-other.table) (records_of c.join_marks.new.marks) c.loop-other.is_rounded crossed.is_round
    c.loop-other-test.true c.other-item.is told.on_first told.flag c.in_ok-join_marks.ensures.marked c.loop-other.invariant

pub returns : goal.returns
returns c =
    let all =
    crossed_all c.args.self.now.radius.current c.args.index (edge_of c.args.edge.now) c.args.self.now.edges.now c.loop-other.other-index
    (records_of c.args.table.now) (records_of c.loop-other.table) c.loop-other.is_rounded c.loop-other-test.false c.loop-other.invariant in
    record { marks = all.0; rounded = all.1 }
