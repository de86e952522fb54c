-- What the loop keeps: if the marks are in order, the pieces of the edges passed are joined, and the rows of the others are left, in the same places.
use Rattle.std.proofs.Common.{◌≡◌, take}
use Rattle.table.specs.Listings.{Ordered}
use Rattle.table.specs.Tables.{content_of, places_name}
use Rattle.segm.specs.MarkKind.{mark_kind}
use Rattle.rounds.specs.Pieces.{cut_from}
use Rattle.cutting.specs.Cutting.{Keeps, Joined}
use Rattle.cutting.proofs.MarkRows.{Rows}
use Rattle.cutting.proofs.pieces.cut_into.Given as goal

abbrev pub invariant-loop-i : goal.invariant-loop-i
invariant-loop-i g l =
    let K = g.C.WindingCount.kind in
    let ms = l.initial.rest in
    record {
      kept : Keeps (content_of l.initial.list) (content_of l.list);
      joined : Ordered mark_kind ms → Rows l.i ms l.rest × Joined K (cut_from K 0 ms (take l.i l.edges)) (content_of l.initial.list) (content_of l.list);
      same : places_name l.list ≡ places_name l.initial.list;
    }
