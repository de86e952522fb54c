use Rattle.std.proofs.Common.{◌≡◌}
use Rattle.table.specs.Tables.{content_of, places_name}
use Rattle.finder.proofs.Walking.{pairs_left}
use Rattle.marking.proofs.PairSpots.{Kept}
use Rattle.marking.proofs.gathering.mark_pairs.Given as goal

-- the pairs taken so far are counted, and what they mark is noted, in the same places
abbrev pub invariant-loop-i : goal.invariant-loop-i
invariant-loop-i g l =
    let F = g.F.Finder in
    (Kept F.walks (F.meaning l.initial.finder) l.radius.current l.edges (content_of l.initial.marks) (F.meaning l.finder) (content_of l.marks) l.is_rounded l.pairs) × (places_name l.marks ≡ places_name l.initial.marks)

abbrev pub decreases-loop-i : goal.decreases-loop-i
decreases-loop-i g l = pairs_left (g.F.Finder.meaning l.finder)
