-- What the loop keeps: the pieces up to the last stop passed are joined.
use Rattle.std.proofs.Common.{◌≡◌}
use Rattle.table.specs.Tables.{content_of, places_name}
use Rattle.cutting.proofs.Stops.{Passed}
use Rattle.cutting.proofs.pieces.join_pieces.Given as goal

abbrev pub invariant-loop-stop : goal.invariant-loop-stop
invariant-loop-stop g l =
    (Passed g.C.WindingCount.kind l.count l.initial.from l.stops l.stop-index l.from (content_of l.initial.list) (content_of l.list))
    × (places_name l.list ≡ places_name l.initial.list)
