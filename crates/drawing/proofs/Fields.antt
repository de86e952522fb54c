-- Laws of the fields of a text.
use Rattle.std.proofs.Common.{◌≡◌, ℕ, zero, suc, ◌+◌, ◌<◌, ◌≤◌, eqb, List, [], ◌∷◌, ◌++◌, length, get_or, take, drop, Some, None, sym, refl, ap, ◌∙◌, add-one, arith}
use Rattle.std.specs.List.{position, position_or_len}
use Rattle.std.proofs.lemmas.List.Quantifiers.{position-Some}
use Rattle.std.proofs.lemmas.List.Sums.{fails_before_first}
use Rattle.std.proofs.lemmas.Bool.{both_ways, cond-true, cond-false, cond_both, eq-eqb, eqb-true, ne_eqb}
use Rattle.std.proofs.lemmas.Bool.Decides.{nat_tests}
use Rattle.drawing.specs.Fields.{onto, fields}

-- none of the first n bytes is m
abbrev pub Free : ℕ → List ℕ → ℕ → Type 0
Free m bs n = (k : ℕ) → k < n → get_or bs k 0 ≡ m → ⊥

after : (m b : ℕ) (bs : List ℕ) (n : ℕ) → Free m (b ∷ bs) (suc n) → Free m bs n
after m b bs n free k low = free (suc k) (omega arith)

-- the field before the first mark, at place i
pub fields_at : (m : ℕ) (bs : List ℕ) (i : ℕ) → i < length bs → Free m bs i → get_or bs i 0 ≡ m → fields m bs ≡ take i bs ∷ fields m (drop (suc i) bs)
fields_at m [] i within free is = absurd (omega arith)
fields_at m (b ∷ bs) zero within free is = cond-true _ _ _ (eq-eqb b m is)
fields_at m (b ∷ bs) (suc i) within free is =
    cond-false _ _ _ (ne_eqb b m (free 0 (omega arith)))
    ∙ ap (onto b) (fields_at m bs i (omega arith) (after m b bs i free) is)

-- without a mark the text is its only field
pub fields_one : (m : ℕ) (bs : List ℕ) → Free m bs (length bs) → fields m bs ≡ bs ∷ []
fields_one m [] free = refl
fields_one m (b ∷ bs) free =
    cond-false _ _ _ (ne_eqb b m (free 0 (omega arith))) ∙ ap (onto b) (fields_one m bs (after m b bs (length bs) free))

-- the field before the first mark, by the place that a search for the mark found
pub fields_found : (m : ℕ) (bs : List ℕ) (i : ℕ) → position (λ b. eqb b m) bs ≡ Some i → (fields m bs ≡ take i bs ∷ fields m (drop (i + 1) bs)) × (i < length bs)
fields_found m bs i e =
    let found = position-Some (λ b. eqb b m) bs i 0 e in
    (rw add-one (fields_at m bs i found.0 (λ k low is. both_ways _ (found.2 k low) (eq-eqb (get_or bs k 0) m is)) (eqb-true _ m found.1)), found.0)

-- the search found none
pub fields_unfound : (m : ℕ) (bs : List ℕ) → position (λ b. eqb b m) bs ≡ None → fields m bs ≡ bs ∷ []
fields_unfound m bs e =
    let last : length bs ≤ position_or_len (λ b. eqb b m) bs = grind (arith, nat_tests) in
    fields_one m bs (λ k low is. both_ways _ (fails_before_first (λ b. eqb b m) bs k 0 (omega arith)) (eq-eqb (get_or bs k 0) m is))

-- there is a first field
pub fields_some : (m : ℕ) (bs : List ℕ) → (f : List ℕ) × (fs : List (List ℕ)) × (fields m bs ≡ f ∷ fs)
fields_some m [] = ([], [], refl)
fields_some m (b ∷ bs) =
    cond_both (eqb b m) _ _ (λ l. (f : List ℕ) × (fs : List (List ℕ)) × (l ≡ f ∷ fs))
    (λ _. ([], fields m bs, refl)) (λ _. onto_some (fields m bs))
  where
    onto_some : (l : List (List ℕ)) → (f : List ℕ) × (fs : List (List ℕ)) × (onto b l ≡ f ∷ fs)
    onto_some [] = (b ∷ [], [], refl)
    onto_some (f ∷ fs) = (b ∷ f, fs, refl)

-- fields with their marks between them
abbrev pub rejoined : ℕ → List (List ℕ) → List ℕ
rejoined m [] = []
rejoined m (f ∷ []) = f
rejoined m (f ∷ g ∷ fs) = f ++ (m ∷ rejoined m (g ∷ fs))

rejoined_onto : (m b : ℕ) (fs : List (List ℕ)) → rejoined m (onto b fs) ≡ b ∷ rejoined m fs
rejoined_onto m b [] = refl
rejoined_onto m b (f ∷ []) = refl
rejoined_onto m b (f ∷ g ∷ fs) = refl

pub rejoined_fields : (m : ℕ) (bs : List ℕ) → rejoined m (fields m bs) ≡ bs
rejoined_fields m [] = refl
rejoined_fields m (b ∷ bs) =
    cond_both (eqb b m) _ _ (λ l. rejoined m l ≡ b ∷ bs)
    (λ is.
    let some = fields_some m bs in
    ap (λ l. rejoined m ([] ∷ l)) some.2
    ∙ ap (λ l. m ∷ l) (ap (rejoined m) (sym some.2) ∙ rejoined_fields m bs)
    ∙ ap (λ x. x ∷ bs) (sym (eqb-true b m is)))
    (λ _. rejoined_onto m b (fields m bs) ∙ ap (λ l. b ∷ l) (rejoined_fields m bs))
