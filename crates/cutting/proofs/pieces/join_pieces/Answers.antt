-- What one piece after another brings.
use Rattle.std.proofs.Common.{refl, ◌∙◌}
use Rattle.table.specs.Tables.{content_of}
use Rattle.cutting.proofs.Joining.{joins_failed}
use Rattle.cutting.proofs.Stops.{passed_none, passed_more, passed_crowded, passed_joins}
use Rattle.cutting.proofs.pieces.join_pieces.Goals as goal

pub loop-stop-init : goal.loop-stop-init
loop-stop-init g c = (passed_none g.C.WindingCount.kind c.args.edge.count c.args.edge.a c.args.stops.now, refl)

pub loop-stop-preserved : goal.loop-stop-preserved
loop-stop-preserved g c = (
  passed_more g.C.WindingCount.kind c.args.edge.count c.args.edge.a c.args.stops.now c.loop-stop.stop-index c.loop-stop.from c.loop-stop.invariant.0 c.create.result
      c.stop-item.result c.loop-stop-test.true c.stop-item.is c.create.ensures.ends c.in_ok-join_piece.ensures.joins,
  c.in_ok-join_piece.ensures.same ∙ c.loop-stop.invariant.1,
)

pub returns-in_err-join_piece : goal.returns-in_err-join_piece
returns-in_err-join_piece g c = record {
  joins = joins_failed c.from_residual.result
      (passed_crowded g.C.WindingCount.kind c.args.edge.count c.args.edge.a c.args.stops.now c.loop-stop.stop-index c.loop-stop.from c.loop-stop.invariant.0 c.create.result
      c.args.edge.b c.loop-stop-test.true c.in_err-join_piece.ensures.joins)
      c.from_residual.ensures.1;
  same = c.in_err-join_piece.ensures.same ∙ c.loop-stop.invariant.1;
}

pub returns : goal.returns
returns g c = record {
  joins = passed_joins g.C.WindingCount.kind c.args.edge.count c.args.edge.a c.args.stops.now c.loop-stop.stop-index c.loop-stop.from c.loop-stop.invariant.0 c.create-2.result
      (content_of c.join_piece-2.new.list) c.join_piece-2.result c.args.edge.b c.loop-stop-test.false c.create-2.ensures.ends c.join_piece-2.ensures.joins;
  same = c.join_piece-2.ensures.same ∙ c.loop-stop.invariant.1;
}
