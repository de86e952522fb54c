-- What taking pairs until none is left gives.
use Rattle.std.specs.Prelude.{◌≡◌, ℕ, ◌-◌, ◌^◌, min, List, [], length}
use Rattle.std.specs.List.{FoldsTo}
use Rattle.finder.specs.Finders.{Pair, Meaning, Walks, MayCome, walking_on}

-- a number of pairs; a count stops at the greatest number it can hold, which no walk from its beginning reaches
abbrev pub number_of : List Pair → ℕ
number_of ps = min (length ps) (2 ^ 64 - 1)

-- the pairs of a list that may come were taken, so many, and none is left
pub record Took (walks : Walks) (before after : Meaning) (n : ℕ) : Type 0 where
  pub pairs : List Pair
  pub allowed : MayCome walks before pairs
  pub number : n ≡ number_of pairs
  pub leaves : after ≡ walking_on [] before

-- all pairs were taken, and each was visited in its turn
pub record Visited {S : Type 0} (walks : Walks) (before after : Meaning) (n : ℕ) (visits : S → Pair → S → Type 0) (s t : S) : Type 0 where
  pub took : Took walks before after n
  pub visited : FoldsTo visits s took.pairs t
