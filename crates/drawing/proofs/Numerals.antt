-- Laws of numerals and their values.
use Rattle.std.proofs.Common.{◌≡◌, ℕ, ◌+◌, ◌-◌, ◌*◌, ◌<◌, ◌≤◌, min, true, false, not, ◌&&◌, List, [], ◌∷◌, length, get_or, drop, sym, refl, ap, ◌∙◌, arith}
use Rattle.std.specs.Char.{is_ascii_digit}
use Rattle.std.specs.Str.{all_ascii_digits}
use Rattle.std.proofs.lemmas.List.{at_drop_more}
use Rattle.std.proofs.lemmas.Bool.{ne_eqb}
use Rattle.drawing.specs.Numbers.{numeral?, value_after}

-- digits that do not begin with a needless zero are a numeral
pub numeral_plain : (bs : List ℕ) → 0 < length bs → (get_or bs 0 0 ≡ 48 → length bs ≤ 1) → all_ascii_digits bs ≡ numeral? bs
numeral_plain [] some plain = absurd (omega arith)
numeral_plain (b ∷ []) some plain = refl
numeral_plain (b ∷ c ∷ bs) some plain =
    let not_zero : b ≡ 48 → ⊥ = λ e. omega (arith, plain e) in
    sym (ap (λ t. not t && all_ascii_digits (b ∷ c ∷ bs)) (ne_eqb b 48 not_zero))

module _ (bs : List ℕ) (i : ℕ) (in' : i < length bs) where
  pub digits_more : is_ascii_digit (get_or bs i 0) ≡ true → all_ascii_digits (drop (i + 1) bs) ≡ all_ascii_digits (drop i bs)
  digits_more is = sym (at_drop_more all_ascii_digits bs i 0 in' ∙ ap (λ t. t && all_ascii_digits (drop (i + 1) bs)) is)

  pub digits_stop : is_ascii_digit (get_or bs i 0) ≡ false → all_ascii_digits (drop i bs) ≡ false
  digits_stop is = at_drop_more all_ascii_digits bs i 0 in' ∙ ap (λ t. t && all_ascii_digits (drop (i + 1) bs)) is

-- a number that is cut at m on the way and at the end is as if it were cut at the end
value_cut : (m n : ℕ) (bs : List ℕ) → min (value_after (min n m) bs) m ≡ min (value_after n bs) m
value_cut m n [] = omega arith
value_cut m n (b ∷ bs) =
    let same : min (10 * min n m + (b - 48)) m ≡ min (10 * n + (b - 48)) m = omega arith in
    sym (value_cut m (10 * min n m + (b - 48)) bs)
    ∙ ap (λ k. min (value_after k bs) m) same
    ∙ value_cut m (10 * n + (b - 48)) bs

pub value_more : (m n : ℕ) (bs : List ℕ) (i : ℕ) → i < length bs
    → min (value_after (min (10 * n + (get_or bs i 0 - 48)) m) (drop (i + 1) bs)) m ≡ min (value_after n (drop i bs)) m
value_more m n bs i in' =
    value_cut m (10 * n + (get_or bs i 0 - 48)) (drop (i + 1) bs) ∙ sym (ap (λ k. min k m) (at_drop_more (value_after n) bs i 0 in'))
