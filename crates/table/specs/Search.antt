-- Where a key stands in a list in order, or where it belongs.
use Rattle.std.specs.Prelude.{◌≡◌, ℕ, ◌<◌, ◌≤◌, List, length, Result, MatchResult}
use Rattle.std.specs.declared.cmp.Ordering.TheVariants.{Less, Equal, Greater}
use Rattle.std.specs.List.{HoldsAt}
use Rattle.std.specs.List.Sorted.{IsPartitionPoint}
use Rattle.table.specs.Records.{RecordKind}
use Rattle.table.specs.Listings.{Ascending}

module _ {R : Type 0} (K : RecordKind R) (r : R) (xs : List R) where
  -- all records up to i are before r, and all from i on behind it
  abbrev pub Parts : ℕ → Type 0
  Parts i = IsPartitionPoint (λ x. K.order x r ≡ Less) (λ x. K.order x r ≡ Greater) xs i

  -- the record at a place has the key of r, or no record has, and r belongs to a place
  abbrev pub Searched : Result ℕ ℕ → Type 0
  Searched o = MatchResult o
      (λ i. (i < length xs) × HoldsAt (λ x. K.order x r ≡ Equal) xs i)
      (λ i. (i ≤ length xs) × (Ascending K xs → Parts i))
