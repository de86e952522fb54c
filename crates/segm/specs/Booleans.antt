-- Counts for two shapes: both numbers add up around the range of 32 bits.
use Rattle.std.specs.Prelude.{zero, suc, Bool, true, false, ◌&&◌, ℤ, pos, negsuc, ◌+ℤ◌, neg_ℤ}
use Rattle.std.specs.Int.{int_wrap, w32}
use Rattle.std.proofs.lemmas.Int.{SFits-int_wrap}
use Rattle.segm.specs.declared.boolean.ShapeCountBoolean.{ShapeCountBoolean}

-- the numbers s and c, brought into range
abbrev pub counts_of : ℤ → ℤ → ShapeCountBoolean
counts_of s c = record {
  subj = int_wrap w32 s;
  clip = int_wrap w32 c;
  subj_fits = (SFits-int_wrap w32 s).sfits;
  clip_fits = (SFits-int_wrap w32 c).sfits;
}

abbrev pub none_of : ShapeCountBoolean
none_of = counts_of (pos 0) (pos 0)

abbrev pub sum_of : ShapeCountBoolean → ShapeCountBoolean → ShapeCountBoolean
sum_of x y = counts_of (x.subj +ℤ y.subj) (x.clip +ℤ y.clip)

abbrev pub inverse_of : ShapeCountBoolean → ShapeCountBoolean
inverse_of x = counts_of (neg_ℤ x.subj) (neg_ℤ x.clip)

abbrev pub zero? : ℤ → Bool
zero? (pos zero) = true
zero? (pos (suc n)) = false
zero? (negsuc n) = false

-- both numbers are 0
abbrev pub both_zero? : ShapeCountBoolean → Bool
both_zero? x = zero? x.subj && zero? x.clip
