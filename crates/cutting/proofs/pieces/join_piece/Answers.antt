-- What the table's insertion says of a piece.
use Rattle.std.proofs.Common.{rules}
use Rattle.table.specs.Tables.{content_of}
use Rattle.cutting.proofs.Joining.{piece_joins}
use Rattle.cutting.proofs.pieces.join_piece.Goals as goal

pub returns : goal.returns
returns g c = record {
  joins =
      piece_joins g.C.WindingCount.kind c.args.piece (content_of c.args.list.now) (content_of c.insert.new.self) c.insert.result c.map_err.result _ c.args.list.now.sound c.insert.ensures.answer c.map_err.ensures.cases (λ e f k. search rules);
  same = c.insert.ensures.same;
}
