-- A reading of bytes as a number is the number of that decimal form, and fails where there is none.
use Rattle.std.proofs.Common.{◌≡◌, ℕ, zero, suc, ◌+◌, ◌^◌, ◌<◌, ◌≤◌, min, true, cond, ltb, List, [], ◌∷◌, length, get_or, ℤ, pos, negsuc, neg_ℤ, Ok, Err, decimal, Result, sym, refl, ap, ◌∙◌, subst, ⊎_elim, arith, rules}
use lib.Signed.{mag}
use Rattle.std.specs.Fmt.{signed_decimal}
use Rattle.std.specs.Str.{all_ascii_digits}
use Rattle.std.proofs.lemmas.Fmt.{decimal-digits_value, digits_value-decimal, digits_decimal, decimal_nonempty, first_decimal, decimal_digit}
use Rattle.std.proofs.lemmas.Str.Parse.{IsNumeralModel, numerals_by_fold, tells_all_ascii_digits, not_in_digits}
use Rattle.std.proofs.lemmas.Bool.{and_parts, and_from, not-true, not_from_false, cond_both, cond-true, cond-false, le-ltb, cases_eq, cases_lt, eqb-false, ltb-true, ltb-false, ne_eqb, both_ways}
use Rattle.std.proofs.lemmas.Bool.Decides.{nat_tests}
use Rattle.drawing.specs.declared.number.NumberFault.{NumberFault}
use Rattle.drawing.specs.declared.number.NumberFault.TheVariants.{Form, TooLarge}
use Rattle.drawing.specs.Numbers.{numeral?, value, value_after, unsigned_of, signed_of, signed_numeral?, signed_value, OnlyDecimal, OnlySigned}
use Rattle.drawing.proofs.Numerals.{numeral_plain}

pub own : IsNumeralModel (λ ds. all_ascii_digits ds ≡ true) value
own = numerals_by_fold _ tells_all_ascii_digits value_after (search rules)

-- a numeral is the decimal form of its value
numeral_written : (bs : List ℕ) → numeral? bs ≡ true → value bs < 2 ^ 64 → bs ≡ decimal (value bs)
numeral_written [] is fits = cc
numeral_written (b ∷ []) is fits = sym (decimal-digits_value own (b ∷ []) is (omega arith) (λ _. refl) fits)
numeral_written (b ∷ c ∷ bs) is fits =
    let parts = and_parts _ (all_ascii_digits (b ∷ c ∷ bs)) is in
    let plain : b ≡ 48 → ⊥ = eqb-false b 48 (not-true _ parts.0) in
    sym (decimal-digits_value own (b ∷ c ∷ bs) parts.1 (omega arith) (λ e. absurd (plain e)) fits)

-- a decimal form is a numeral
pub numeral_decimal : (n : ℕ) → n < 2 ^ 64 → numeral? (decimal n) ≡ true
numeral_decimal n fits = sym (numeral_plain (decimal n) (decimal_nonempty n fits) plain) ∙ digits_decimal own n fits
  where
    plain : get_or (decimal n) 0 0 ≡ 48 → length (decimal n) ≤ 1
    plain e =
        ⊎_elim (λ more. absurd (omega (arith, first_decimal n more fits, e)))
        (λ least. let one : n ≡ 0 = omega arith in omega (arith, ap length (ap decimal one ∙ decimal_digit 0 (omega arith))))
        (cases_lt 0 n)

pub unsigned_only : (bs : List ℕ) → OnlyDecimal bs (unsigned_of bs)
unsigned_only bs =
    cond_both (numeral? bs) _ _ (OnlyDecimal bs)
    (λ is. cond_both (ltb (value bs) (2 ^ 32)) _ _ (OnlyDecimal bs)
    (λ fits. numeral_written bs is (omega (arith, ltb-true _ _ fits)))
    (λ large n low e. omega (arith, ltb-false _ _ large, ap value e, digits_value-decimal own n (omega arith))))
    (λ none n low e. both_ways _ none (ap numeral? e ∙ numeral_decimal n (omega arith)))

pub unsigned_exact : (bs : List ℕ) (r : Result ℕ NumberFault) → r ≡ unsigned_of bs → OnlyDecimal bs r
unsigned_exact bs r said = subst (OnlyDecimal bs) (sym said) (unsigned_only bs)

-- without a minus in front, a signed number is an unsigned one
plain_signed : (b : ℕ) (bs : List ℕ) → (b ≡ 45 → ⊥) → (signed_numeral? (b ∷ bs) ≡ numeral? (b ∷ bs)) × (signed_value (b ∷ bs) ≡ pos (value (b ∷ bs)))
plain_signed b bs other = (cond-false _ _ _ (ne_eqb b 45 other), cond-false _ _ _ (ne_eqb b 45 other))

digits_signed : (bs : List ℕ) → all_ascii_digits bs ≡ true → 0 < length bs → (signed_numeral? bs ≡ numeral? bs) × (signed_value bs ≡ pos (value bs))
digits_signed [] all some = absurd (omega arith)
digits_signed (b ∷ bs) all some = plain_signed b bs (λ e. omega (arith, not_in_digits own (b ∷ bs) 45 all (λ h. omega (arith, h.0)) 0 (omega arith) e))

minus_written : (n : ℕ) → (n ≡ 0 → ⊥) → 45 ∷ decimal n ≡ signed_decimal (neg_ℤ (pos n))
minus_written zero some = absurd (some refl)
minus_written (suc n) some = refl

mag_minus : (n : ℕ) → n ≤ mag (neg_ℤ (pos n)) + 1
mag_minus zero = omega arith
mag_minus (suc n) = omega arith

-- a signed number is the decimal form of its value
signed_written : (bs : List ℕ) → signed_numeral? bs ≡ true → mag (signed_value bs) < 2 ^ 31 → bs ≡ signed_decimal (signed_value bs)
signed_written [] is fits = cc
signed_written (b ∷ bs) is fits = ⊎_elim minus plain (cases_eq b 45)
  where
    minus : b ≡ 45 → b ∷ bs ≡ signed_decimal (signed_value (b ∷ bs))
    minus e =
        let front : b ∷ bs ≡ 45 ∷ bs = ap (λ x. x ∷ bs) e in
        let parts = and_parts (numeral? bs) _ (sym (ap signed_numeral? front) ∙ is) in
        let low : value bs < 2 ^ 64 = omega (arith, mag_minus (value bs), ap (λ l. mag (signed_value l)) front) in
        front ∙ ap (λ l. 45 ∷ l) (numeral_written bs parts.0 low)
        ∙ minus_written (value bs) (eqb-false _ 0 (not-true _ parts.1))
        ∙ sym (ap (λ l. signed_decimal (signed_value l)) front)

    plain : (b ≡ 45 → ⊥) → b ∷ bs ≡ signed_decimal (signed_value (b ∷ bs))
    plain other =
        let same = plain_signed b bs other in
        numeral_written (b ∷ bs) (sym same.0 ∙ is) (omega (arith, ap mag same.1)) ∙ sym (ap signed_decimal same.1)

-- a decimal form reads as its number
pub signed_reads : (z : ℤ) → mag z < 2 ^ 31 → (signed_numeral? (signed_decimal z) ≡ true) × (signed_value (signed_decimal z) ≡ z)
signed_reads (pos n) fits =
    let same = digits_signed (decimal n) (digits_decimal own n (omega arith)) (decimal_nonempty n (omega arith)) in
    (same.0 ∙ numeral_decimal n (omega arith), same.1 ∙ ap pos (digits_value-decimal own n (omega arith)))
signed_reads (negsuc n) fits =
    let worth = digits_value-decimal own (suc n) (omega arith) in
    let some = ne_eqb (value (decimal (suc n))) 0 (λ e. omega (arith, worth, e)) in
    (and_from _ _ (numeral_decimal (suc n) (omega arith)) (not_from_false _ some), ap (λ k. neg_ℤ (pos k)) worth)

pub signed_only : (bs : List ℕ) → OnlySigned bs (signed_of bs)
signed_only bs =
    cond_both (signed_numeral? bs) _ _ (OnlySigned bs)
    (λ is. cond_both (ltb (mag (signed_value bs)) (2 ^ 31)) _ _ (OnlySigned bs)
    (λ fits. signed_written bs is (ltb-true _ _ fits))
    (λ large z low e. omega (arith, ltb-false _ _ large, ap (λ l. mag (signed_value l)) e, ap mag (signed_reads z low).1)))
    (λ none z low e. both_ways _ none (ap signed_numeral? e ∙ (signed_reads z low).0))

pub signed_exact : (bs : List ℕ) (r : Result ℤ NumberFault) → r ≡ signed_of bs → OnlySigned bs r
signed_exact bs r said = subst (OnlySigned bs) (sym said) (signed_only bs)

abbrev pub narrow : ℤ → Result ℤ NumberFault
narrow z = cond (ltb (mag z) (2 ^ 31)) (Ok z) (Err TooLarge)

-- a number that was cut at 2 ^ 32 is too large if it was before
narrow_cut : (f : ℕ → ℤ) → ((k : ℕ) → k ≤ mag (f k) + 1) → (n v : ℕ) → n ≡ min v (2 ^ 32) → narrow (f n) ≡ narrow (f v)
narrow_cut f far n v e =
    ⊎_elim (λ low. let same : n ≡ v = omega arith in ap (λ k. narrow (f k)) same)
    (λ high.
    cond-false _ _ _ (le-ltb (mag (f n)) (2 ^ 31) (omega (arith, far n)))
    ∙ sym (cond-false _ _ _ (le-ltb (mag (f v)) (2 ^ 31) (omega (arith, far v)))))
    (cases_lt v (2 ^ 32))

-- what a value that was cut at 2 ^ 32 says
abbrev pub Cut : List ℕ → ℕ → Type 0
Cut bs n = Ok n ≡ cond (numeral? bs) (Ok (min (value bs) (2 ^ 32))) (Err Form)

pub cut_some : (bs : List ℕ) (n : ℕ) → Cut bs n → (numeral? bs ≡ true) × (n ≡ min (value bs) (2 ^ 32))
cut_some bs n e = grind (arith, nat_tests)

module _ (bs : List ℕ) where
  pub minus_some : (n : ℕ) → Cut bs n → (n ≡ 0 → ⊥) → narrow (neg_ℤ (pos n)) ≡ signed_of (45 ∷ bs)
  minus_some n e some =
      let got = cut_some bs n e in
      let more = ne_eqb (value bs) 0 (λ z. some (omega (arith, got.1))) in
      narrow_cut (λ k. neg_ℤ (pos k)) mag_minus n (value bs) got.1
      ∙ sym (cond-true _ _ _ (and_from _ _ got.0 (not_from_false _ more)))

-- no minus in front
module _ (bs : List ℕ) (other : (rest : List ℕ) → bs ≡ 45 ∷ rest → ⊥) where
  plain_is : (ds : List ℕ) → ((rest : List ℕ) → ds ≡ 45 ∷ rest → ⊥) → signed_of ds ≡ cond (numeral? ds) (narrow (pos (value ds))) (Err Form)
  plain_is [] no_minus = refl
  plain_is (d ∷ ds) no_minus =
      let same = plain_signed d ds (λ e. no_minus ds (ap (λ x. x ∷ ds) e)) in
      ap (λ t. cond t (narrow (signed_value (d ∷ ds))) (Err Form)) same.0
      ∙ ap (λ z. cond (numeral? (d ∷ ds)) (narrow z) (Err Form)) same.1

  pub plain_some : (n : ℕ) → Cut bs n → narrow (pos n) ≡ signed_of bs
  plain_some n e =
      let got = cut_some bs n e in
      narrow_cut pos (λ k. omega arith) n (value bs) got.1 ∙ sym (plain_is bs other ∙ cond-true _ _ _ got.0)
