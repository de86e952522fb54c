-- The all-pairs finder: the pairs of n edges in the order (0, 1), (0, 2), .., then (1, 2), ..
use Rattle.std.specs.Prelude.{◌≡◌, ℕ, zero, suc, ◌+◌, ◌-◌, cond, List, [], ◌∷◌, ◌++◌, map, length, take, nat_lt, Some, None, Option, is_some}
use Rattle.plane.specs.Edges.{Edge}
use Rattle.plane.specs.Models.{plain_point}
use Rattle.finder.specs.declared.plain_edge.PlainEdge.{PlainEdge}
use Rattle.finder.specs.declared.all_pairs.AllPairs.{AllPairs}
use Rattle.finder.specs.Finders.{Pair, Meaning, Needs, Walks, box_of}

-- k pairs (i, j), (i, j + 1), ..
abbrev pub row : ℕ → ℕ → ℕ → List Pair
row i j zero = []
row i j (suc k) = (i, j) ∷ row i (j + 1) k

-- the rows of k numbers from i on, among n
abbrev pub rows : ℕ → ℕ → ℕ → List Pair
rows n i zero = []
rows n i (suc k) = row i (i + 1) (n - (i + 1)) ++ rows n (i + 1) k

abbrev pub all_pairs : ℕ → List Pair
all_pairs n = rows n 0 n

-- the pairs from (i, j) on, none where j is no number of an edge
unfoldable pub pairs_from : ℕ → ℕ → ℕ → List Pair
pairs_from n i j = cond (nat_lt j n) (row i j (n - j) ++ rows n (i + 1) (n - (i + 1))) []

-- the pairs to come, none before a walk
abbrev pub coming_from : ℕ → Option Pair → List Pair
coming_from n None = []
coming_from n (Some p) = pairs_from n p.0 p.1

abbrev pub plain_edge : PlainEdge → Edge
plain_edge e = record { a = plain_point e.a; b = plain_point e.b }

abbrev pub pairs_meaning : AllPairs → Meaning
pairs_meaning s = record {
  box = box_of s.intake.extent;
  announced = s.intake.announced;
  shown = map plain_edge (take s.intake.shown s.table.now);
  coming = coming_from s.intake.shown s.ahead;
  walking = is_some s.ahead;
  capacity = length s.table.now;
}

-- the need is the number of edges
abbrev pub pairs_need : Needs
pairs_need box announced es = length es

-- the one list that comes
abbrev pub pairs_walks : Walks
pairs_walks box announced es ps = ps ≡ all_pairs (length es)
