-- A list of records in the order of their keys, as the listing of a function from keys.
use Rattle.std.specs.Prelude.{◌≡◌, false, cond, List, [], ◌∷◌, Some, None, Option}
use Rattle.std.specs.declared.cmp.Ordering.TheVariants.{Less}
use Rattle.std.specs.Ordering.{is_eq}
use Rattle.std.specs.List.{AllByRecursion}
use Rattle.table.specs.Records.{RecordKind}

module _ {R : Type 0} where
  -- each record comes before all that follow it
  abbrev pub Ascending : RecordKind R → List R → Type 0
  Ascending K [] = Unit {0}
  Ascending K (x ∷ xs) = AllByRecursion (λ y. K.order x y ≡ Less) xs × Ascending K xs

  -- strictly ascending keys, and no record is empty
  pub record Ordered (K : RecordKind R) (xs : List R) : Type 0 where
    pub ascending : Ascending K xs
    pub filled : AllByRecursion (λ x. K.empty? x ≡ false) xs

  -- the record of a list with the key of k
  abbrev pub record_at : RecordKind R → List R → R → Option R
  record_at K [] k = None
  record_at K (x ∷ xs) k = cond (is_eq (K.order k x)) (Some x) (record_at K xs k)

  -- a record by itself: nothing where it is empty
  abbrev pub standing : RecordKind R → R → Option R
  standing K r = cond (K.empty? r) None (Some r)

  -- what stands at a key once r has come to it
  abbrev pub joined_at : RecordKind R → Option R → R → Option R
  joined_at K None r = standing K r
  joined_at K (Some x) r = standing K (K.joined x r)

  -- the function f from keys, joined with r at its key
  abbrev pub with_record : RecordKind R → R → (R → Option R) → R → Option R
  with_record K r f k = cond (is_eq (K.order k r)) (joined_at K (f k) r) (f k)

  -- xs lists f: in order, with f's record at every key
  pub record Listing (K : RecordKind R) (f : R → Option R) (xs : List R) : Type 0 where
    pub ordered : Ordered K xs
    pub each : (k : R) → record_at K xs k ≡ f k

  -- what stands at every key once all of rs have come to nothing
  abbrev pub gathered : RecordKind R → List R → R → Option R
  gathered K [] = λ _. None
  gathered K (r ∷ rs) = with_record K r (gathered K rs)

  -- the same records in another order
  pub data Reordered : List R → List R → Type 0 where
    none : Reordered [] []
    same : (x : R) {xs ys : List R} → Reordered xs ys → Reordered (x ∷ xs) (x ∷ ys)
    swap : (x y : R) (xs : List R) → Reordered (x ∷ y ∷ xs) (y ∷ x ∷ xs)
    then : {xs ys zs : List R} → Reordered xs ys → Reordered ys zs → Reordered xs zs
