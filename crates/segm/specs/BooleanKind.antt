-- Counts for two shapes as a kind of counts, with the proofs of its laws.
use Rattle.std.specs.Prelude.{◌≡◌, zero, suc, ◌^◌, ◌<◌, true, ℤ, pos, negsuc, ◌+ℤ◌, neg_ℤ, refl}
use Rattle.std.proofs.Common.{sym, ◌∙◌, ap, arith}
use mathlib.Core.HLevel.{is_prop→PathP}
use Rattle.std.proofs.Math.Bridge.{le_prop}
use Rattle.std.specs.Int.Signed.{mag}
use Rattle.std.specs.Int.{int_wrap, w32}
use Rattle.std.proofs.lemmas.Int.{ints, int_wrap_fits, int_wrap-add_left, int_wrap-add_right}
use Rattle.std.proofs.lemmas.Bool.{and_parts}
use Rattle.segm.specs.declared.boolean.ShapeCountBoolean.{ShapeCountBoolean}
use Rattle.segm.specs.Counts.{CountKind}
use Rattle.segm.specs.Booleans.{none_of, sum_of, inverse_of, zero?, both_zero?}

-- two counts are equal where their numbers are
pub same_counts : (x y : ShapeCountBoolean) → x.subj ≡ y.subj → x.clip ≡ y.clip → x ≡ y
same_counts x y p q = λ i. record {
  subj = p i;
  clip = q i;
  subj_fits = is_prop→PathP (λ i. mag (p i) < 2 ^ 31) (λ i. le_prop) x.subj_fits y.subj_fits i;
  clip_fits = is_prop→PathP (λ i. mag (q i) < 2 ^ 31) (λ i. le_prop) x.clip_fits y.clip_fits i;
}

pub wrapped_assoc : (a b c : ℤ) → int_wrap w32 (int_wrap w32 (a +ℤ b) +ℤ c) ≡ int_wrap w32 (a +ℤ int_wrap w32 (b +ℤ c))
wrapped_assoc a b c = int_wrap-add_left w32 (a +ℤ b) c ∙ ap (int_wrap w32) (omega (arith, ints)) ∙ sym (int_wrap-add_right w32 a (b +ℤ c))

pub wrapped_comm : (a b : ℤ) → int_wrap w32 (a +ℤ b) ≡ int_wrap w32 (b +ℤ a)
wrapped_comm a b = ap (int_wrap w32) (omega (arith, ints))

pub wrapped_zero : int_wrap w32 (pos 0) ≡ pos 0
unfolding int_wrap
wrapped_zero = refl

pub wrapped_identity : (a : ℤ) → mag a < 2 ^ 31 → int_wrap w32 (a +ℤ int_wrap w32 (pos 0)) ≡ a
wrapped_identity a h = int_wrap-add_right w32 a (pos 0) ∙ ap (int_wrap w32) (omega (arith, ints)) ∙ int_wrap_fits w32 a (record { sfits = h })

pub wrapped_cancels : (a : ℤ) → int_wrap w32 (a +ℤ int_wrap w32 (neg_ℤ a)) ≡ int_wrap w32 (pos 0)
wrapped_cancels a = int_wrap-add_right w32 a (neg_ℤ a) ∙ ap (int_wrap w32) (omega (arith, ints))

pub none_zero : both_zero? none_of ≡ true
none_zero = rw wrapped_zero

pub zero_is : (z : ℤ) → zero? z ≡ true → z ≡ int_wrap w32 (pos 0)
zero_is (pos zero) e = sym wrapped_zero
zero_is (pos (suc n)) e = cc
zero_is (negsuc n) e = cc

abbrev pub boolean_kind : CountKind ShapeCountBoolean
boolean_kind = record {
  sum = sum_of;
  inverse = inverse_of;
  neutral = none_of;
  empty? = both_zero?;
  assoc = λ x y z. same_counts _ _ (wrapped_assoc x.subj y.subj z.subj) (wrapped_assoc x.clip y.clip z.clip);
  comm = λ x y. same_counts _ _ (wrapped_comm x.subj y.subj) (wrapped_comm x.clip y.clip);
  identity = λ x. same_counts _ _ (wrapped_identity x.subj x.subj_fits) (wrapped_identity x.clip x.clip_fits);
  cancels = λ x. same_counts _ _ (wrapped_cancels x.subj) (wrapped_cancels x.clip);
  neutral_empty = none_zero;
  empty_neutral = λ x e. let p = and_parts (zero? x.subj) (zero? x.clip) e in same_counts _ _ (zero_is x.subj p.0) (zero_is x.clip p.1);
}
