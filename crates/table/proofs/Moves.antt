-- What the move of a part of a table by one place, and a write beside it, leave of the table.
use Rattle.std.proofs.Common.{◌≡◌, ℕ, suc, ◌+◌, ◌-◌, ◌<◌, ◌≤◌, min, List, [], ◌∷◌, ◌++◌, length, get_or, take, drop, set, sym, ap, ◌∙◌, ap₂, ⊎_elim, add-one, arith, drop-cons}
use lib.Seq.{paste}
use Rattle.std.specs.List.{insert, remove}
use Rattle.std.proofs.lemmas.List.Edits.{length-insert, length-remove}
use Rattle.std.proofs.lemmas.List.{take_more, drop_at, take_at, set_at, length-take-le, length-drop, length-append, append_assoc, take-take, take_all}
use Rattle.std.proofs.lemmas.Slice.{between_is}
use Rattle.std.proofs.lemmas.Bool.{cases_lt}

-- no more than all
pub take_within : {X : Type 0} (t : List X) (n m : ℕ) → m ≡ min n (length t) → take (m - 0) t ≡ take n t
take_within t n m e =
    ⊎_elim
    (λ (lt : n < length t). let q : m - 0 ≡ n = omega arith in ap (λ k. take k t) q)
    (λ (ge : length t ≤ n). take_all (m - 0) t (omega arith) ∙ sym (take_all n t ge))
    (cases_lt n (length t))

-- the first n places hold xs, and behind them stands rest
pub record Splits {X : Type 0} (t : List X) (n : ℕ) (xs rest : List X) : Type 0 where
  pub front : take n t ≡ xs
  pub back : drop n t ≡ rest

pub splits_append : {X : Type 0} (t xs rest : List X) (n : ℕ) → t ≡ xs ++ rest → length xs ≡ n → Splits t n xs rest
splits_append t xs rest n is l = record {
  front = ap (take n) is ∙ take_at xs rest n l;
  back = ap (drop n) is ∙ drop_at xs rest n l;
}

module _ {X : Type 0} (t : List X) (used i : ℕ) where
  -- the records from i on moved one place further, and r written at i
  pub opened : (r : X) → i ≤ used → used < length t
      → Splits (set (paste t (i + 1) (drop i t) (used - i)) i r) (used + 1) (insert (take used t) i r) (drop (used + 1) t)
  opened r le lt =
      let one : take (i + 1) t ≡ take i t ++ (get_or t i r ∷ []) = take_more t i r (omega arith) in
      let a : i + 1 + (used - i) ≡ used + 1 = omega arith in
      let l : length (take used t) ≡ used = length-take-le used t (omega arith) in
      splits_append _ (insert (take used t) i r) (drop (used + 1) t) (used + 1)
      (ap (λ z. set z i r) (append_assoc (take (i + 1) t) (take (used - i) (drop i t)) (drop (i + 1 + (used - i)) t))
      ∙ ap (λ z. set (z ++ (take (used - i) (drop i t) ++ drop (i + 1 + (used - i)) t)) i r) one
      ∙ ap (λ z. set z i r) (append_assoc (take i t) (get_or t i r ∷ []) (take (used - i) (drop i t) ++ drop (i + 1 + (used - i)) t))
      ∙ set_at (take i t) (get_or t i r) (take (used - i) (drop i t) ++ drop (i + 1 + (used - i)) t) r i (length-take-le i t (omega arith))
      ∙ ap₂ (λ u v. take i t ++ (r ∷ (u ++ v))) (between_is t i used) (ap (λ n. drop n t) a)
      ∙ sym (append_assoc (take i t) (r ∷ drop i (take used t)) (drop (used + 1) t))
      ∙ ap (λ u. (u ++ (r ∷ drop i (take used t))) ++ drop (used + 1) t) (sym (take-take i used t le)))
      (omega (arith, length-insert (take used t) i r (omega arith)))

  -- the records behind i moved up by one place, and b written where the last one stood
  pub closed : (b : X) → i < used → used ≤ length t
      → Splits (set (paste t i (drop (i + 1) t) (used - (i + 1))) (used - 1) b) (used - 1) (remove (take used t) i) (b ∷ drop used t)
  closed b lt le =
      let k : i + (used - (i + 1)) ≡ used - 1 = omega arith in
      let last : drop (used - 1) t ≡ get_or t (used - 1) b ∷ drop (suc (used - 1)) t = drop-cons t (used - 1) b (omega arith) in
      let s : suc (used - 1) ≡ used = omega arith in
      let mid : take (used - (i + 1)) (drop (i + 1) t) ≡ drop (suc i) (take used t) = between_is t (i + 1) used ∙ ap (λ n. drop n (take used t)) (add-one i) in
      let lm : length (take i t ++ take (used - (i + 1)) (drop (i + 1) t)) ≡ used - 1 =
      omega (arith, length-append (take i t) (take (used - (i + 1)) (drop (i + 1) t)), length-take-le i t (omega arith), length-take-le (used - (i + 1)) (drop (i + 1) t) (omega (arith, length-drop (i + 1) t))) in
      let l : length (take used t) ≡ used = length-take-le used t (omega arith) in
      splits_append _ (remove (take used t) i) (b ∷ drop used t) (used - 1)
      (ap (λ (n : ℕ). set ((take i t ++ take (used - (i + 1)) (drop (i + 1) t)) ++ drop n t) (used - 1) b) k
      ∙ ap (λ z. set ((take i t ++ take (used - (i + 1)) (drop (i + 1) t)) ++ z) (used - 1) b) (last ∙ ap (λ (n : ℕ). get_or t (used - 1) b ∷ drop n t) s)
      ∙ set_at (take i t ++ take (used - (i + 1)) (drop (i + 1) t)) (get_or t (used - 1) b) (drop used t) b (used - 1) lm
      ∙ ap (λ u. (take i t ++ u) ++ (b ∷ drop used t)) mid
      ∙ ap (λ u. (u ++ drop (suc i) (take used t)) ++ (b ∷ drop used t)) (sym (take-take i used t (omega arith))))
      (omega (arith, length-remove (take used t) i (omega arith)))
