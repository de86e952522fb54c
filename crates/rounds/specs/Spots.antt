-- What the crossings of pairs of edges mark.
use Rattle.std.specs.Prelude.{ℕ, Bool, false, ◌||◌, List, [], ◌∷◌, ◌++◌}
use Rattle.plane.specs.Edges.{Edge}
use Rattle.plane.specs.Rules.{marked_on, rounded?}
use Rattle.finder.specs.Finders.{Pair, edge_at}
use Rattle.segm.specs.Spots.{Spot, spots}

-- what the crossing of a pair of edges marks on both
abbrev pub pair_spots : ℕ → List Edge → Pair → List Spot
pair_spots s es p =
    spots p.0 (marked_on (edge_at es p.0) (edge_at es p.1) s)
    ++ spots p.1 (marked_on (edge_at es p.1) (edge_at es p.0) s)

-- the same for one pair after another
abbrev pub all_spots : ℕ → List Edge → List Pair → List Spot
all_spots s es [] = []
all_spots s es (p ∷ ps) = pair_spots s es p ++ all_spots s es ps

-- the crossing of one of the pairs is rounded
abbrev pub any_rounded? : ℕ → List Edge → List Pair → Bool
any_rounded? s es [] = false
any_rounded? s es (p ∷ ps) = rounded? (edge_at es p.0) (edge_at es p.1) s || any_rounded? s es ps
