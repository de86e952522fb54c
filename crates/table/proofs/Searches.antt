-- What is known of a list in order around the place that a search found.
use Rattle.std.proofs.Common.{◌≡◌, ℕ, zero, suc, ◌+◌, ◌<◌, ◌≤◌, List, [], ◌∷◌, ◌++◌, length, get_or, take, drop, Some, Result, Ok, Err, Less, sym, ap, ◌∙◌, ⊎_elim, ◌-◌, arith}
use Rattle.std.specs.Cmp.{IsTotalOrder}
use Rattle.std.specs.List.{AllByRecursion, AllWithin, slice_get}
use Rattle.std.specs.List.Sorted.{IsSortedBy, IsBinarySearchResult, IsSearchInRange}
use Rattle.std.specs.Ordering.{is_lt}
use Rattle.std.proofs.ByRecursion.{All-get_or}
use Rattle.std.proofs.lemmas.List.Sorted.{searchable_from_sorted}
use Rattle.std.proofs.lemmas.Bool.{cases_lt}
use Rattle.table.specs.Records.{RecordKind}
use Rattle.table.specs.Listings.{Ascending}
use Rattle.table.specs.Search.{Parts, Searched}
use Rattle.table.proofs.Orders.{turned_less, all_parts}

pub all_taken : {X : Type 0} (P : X → Type 0) (xs : List X) (i : ℕ) → i ≤ length xs → AllWithin P xs 0 i → AllByRecursion P (take i xs)
all_taken P xs zero le h = tt
all_taken P [] (suc i) le h = tt
all_taken P (x ∷ xs) (suc i) le h = (h 0 x (omega arith) (omega arith), all_taken P xs i (omega arith) (λ k d low high. h (suc k) d (omega arith) (omega arith)))

pub all_dropped : {X : Type 0} (P : X → Type 0) (xs : List X) (i : ℕ) → AllWithin P xs i (length xs) → AllByRecursion P (drop i xs)
all_dropped P [] zero h = tt
all_dropped P [] (suc i) h = tt
all_dropped P (x ∷ xs) zero h = (h 0 x (omega arith) (omega arith), all_dropped P xs zero (λ k d low high. h (suc k) d (omega arith) (omega arith)))
all_dropped P (x ∷ xs) (suc i) h = all_dropped P xs i (λ k d low high. h (suc k) d (omega arith) (omega arith))

-- a list with a last item is not empty
pub some_last : {X : Type 0} (xs : List X) (x : X) → Some x ≡ slice_get xs (length xs - 1) → 0 < length xs
some_last [] x e = let no : ⊥ = cc in absurd no
some_last (y ∷ xs) x e = omega arith

module _ {R : Type 0} (K : RecordKind R) where
  pub total : IsTotalOrder K.order
  total = record { antisymm = K.flip; trans = K.trans; congr = K.alike }

  -- a record is before those further on
  pub further : (xs : List R) (i j : ℕ) (d : R) → Ascending K xs → i < j → j < length xs → K.order (get_or xs i d) (get_or xs j d) ≡ Less
  further [] i j d asc lt le = let no : ⊥ = omega arith in absurd no
  further (x ∷ xs) i zero d asc lt le = let no : ⊥ = omega arith in absurd no
  further (x ∷ xs) zero (suc j) d asc lt le = All-get_or _ xs j d (omega arith) asc.0
  further (x ∷ xs) (suc i) (suc j) d asc lt le = further xs i j d asc.1 (omega arith) (omega arith)

  sorted : (xs : List R) → Ascending K xs → IsSortedBy (λ a b. is_lt (K.order a b)) xs
  sorted xs asc k d low high = ap is_lt (turned_less K (get_or xs k d) (get_or xs (k + 1) d) (further xs k (k + 1) d asc (omega arith) high))

  -- all records before one in order are before it
  pub ascending_across : (low : List R) (z : R) (high : List R) → Ascending K (low ++ (z ∷ high)) → AllByRecursion (λ a. K.order a z ≡ Less) low
  ascending_across [] z high h = tt
  ascending_across (a ∷ low) z high h = ((all_parts _ low (z ∷ high) h.0).1.0, ascending_across low z high h.1)

  -- a last record that is before r leaves all of them before r
  pub parts_at_end : (xs : List R) (r last : R) → 0 < length xs → ((d : R) → get_or xs (length xs - 1) d ≡ last) → K.order last r ≡ Less → Ascending K xs → Parts K r xs (length xs)
  parts_at_end xs r last some is e asc = (
    λ k d low high. ⊎_elim
        (λ (lt : k < length xs - 1). K.trans (get_or xs k d) last r (ap (K.order (get_or xs k d)) (sym (is d)) ∙ further xs k (length xs - 1) d asc lt (omega arith)) e)
        (λ (ge : length xs - 1 ≤ k). let q : k ≡ length xs - 1 = omega arith in ap (λ n. K.order (get_or xs n d) r) q ∙ ap (λ x. K.order x r) (is d) ∙ e)
        (cases_lt k (length xs - 1)),
    λ k d low high. let no : ⊥ = omega arith in absurd no,
  )

  pub searched : (xs : List R) (r : R) (o : Result ℕ ℕ) → IsSearchInRange o (length xs) → IsBinarySearchResult (λ x. K.order x r) xs o → Searched K r xs o
  searched xs r (Ok i) bound h = (bound, h)
  searched xs r (Err i) bound h = (bound, λ asc. h (searchable_from_sorted total (λ x. x) xs r (sorted xs asc)))
