-- The whole number that is at most the x of a point with fractions, and no less than one below it.
use Rattle.std.proofs.Common.{◌≡◌, ℕ, suc, ◌+◌, ◌*◌, ◌/◌, ◌<◌, ◌≤◌, ℤ, pos, negsuc, ◌+ℤ◌, ◌*ℤ◌, neg_ℤ, ◌≤ℤ◌, ◌<ℤ◌, ap, ◌∙◌, zero-lt-suc, div-mul-le_self, arith}
use native.Mathlib.Nat.{lt-div-mul-add}
use borrow.Author.Differences.{ints}
use lib.Signed.{shr_z}
use Rattle.algebra.proofs.Laws.{mul_neg}
use Rattle.algebra.proofs.Order.{mul-le, lt_of_mul_lt, le_of_mul_le}
use Rattle.plane.specs.Fractions.{Frac, den}
use Rattle.plane.proofs.Signs.{den_pos, lt_le}

unfoldable pub floor : Frac → ℤ
floor f = shr_z f.at.x (suc f.k)

pub floor_le : (f : Frac) → (den f *ℤ floor f) ≤ℤ f.at.x
unfolding floor
floor_le f = go f.at.x f.k
  where
    go : (z : ℤ) (k : ℕ) → (pos (suc k) *ℤ shr_z z (suc k)) ≤ℤ z
    go (pos a) k = le (suc k) (a / suc k) a (div-mul-le_self a (suc k))
      where
        le : (d q a : ℕ) → q * d ≤ a → (pos d *ℤ pos q) ≤ℤ pos a
        le d q a h = omega (arith, ints)
    go (negsuc a) k = le (suc k) (a / suc k) a (lt-div-mul-add (zero-lt-suc k))
      where
        le : (d q a : ℕ) → a < q * d + d → (pos d *ℤ negsuc q) ≤ℤ negsuc a
        le d q a h = omega (arith, ints)

pub floor_lt : (f : Frac) → f.at.x <ℤ (den f *ℤ (floor f +ℤ pos 1))
unfolding floor
floor_lt f = go f.at.x f.k
  where
    go : (z : ℤ) (k : ℕ) → z <ℤ (pos (suc k) *ℤ (shr_z z (suc k) +ℤ pos 1))
    go (pos a) k = lt (suc k) (a / suc k) a (lt-div-mul-add (zero-lt-suc k))
      where
        lt : (d q a : ℕ) → a < q * d + d → pos a <ℤ (pos d *ℤ (pos q +ℤ pos 1))
        lt d q a h = omega (arith, ints)
    go (negsuc a) k = lt (suc k) (a / suc k) a (div-mul-le_self a (suc k))
      where
        less : (q : ℕ) → negsuc q +ℤ pos 1 ≡ neg_ℤ (pos q)
        less q = omega (arith, ints)

        below : (d q a : ℕ) (z : ℤ) → q * d ≤ a → z ≡ neg_ℤ (pos d *ℤ pos q) → negsuc a <ℤ z
        below d q a z h e = omega (arith, ints)

        lt : (d q a : ℕ) → q * d ≤ a → negsuc a <ℤ (pos d *ℤ (negsuc q +ℤ pos 1))
        lt d q a h = below d q a _ h (ap (λ z. pos d *ℤ z) (less q) ∙ mul_neg (pos d) (pos q))

pub whole_le : (f : Frac) (z : ℤ) → (den f *ℤ z) ≤ℤ f.at.x → z ≤ℤ floor f
whole_le f z h = go (lt_of_mul_lt (den f) z (floor f +ℤ pos 1) (lt_le (den_pos f.k)) (trans h (floor_lt f)))
  where
    trans : {a b c : ℤ} → a ≤ℤ b → b <ℤ c → a <ℤ c
    trans {a} {b} {c} h l = omega (arith, ints)

    go : z <ℤ (floor f +ℤ pos 1) → z ≤ℤ floor f
    go l = omega (arith, ints)

pub le_whole : (f : Frac) (z : ℤ) → f.at.x ≤ℤ (den f *ℤ z) → floor f ≤ℤ z
le_whole f z h = le_of_mul_le (den f) (floor f) z (den_pos f.k) (trans (floor_le f) h)
  where
    trans : {a b c : ℤ} → a ≤ℤ b → b ≤ℤ c → a ≤ℤ c
    trans {a} {b} {c} h l = omega (arith, ints)

-- at most the floor, or above it
pub at_floor : (f : Frac) (z : ℤ) → z ≤ℤ floor f → (den f *ℤ z) ≤ℤ f.at.x
at_floor f z h = trans (mul-le (den f) z (floor f) (lt_le (den_pos f.k)) h) (floor_le f)
  where
    trans : {a b c : ℤ} → a ≤ℤ b → b ≤ℤ c → a ≤ℤ c
    trans {a} {b} {c} h l = omega (arith, ints)

pub over_floor : (f : Frac) (z : ℤ) → floor f <ℤ z → f.at.x ≤ℤ (den f *ℤ z)
over_floor f z h = trans (floor_lt f) (mul-le (den f) (floor f +ℤ pos 1) z (lt_le (den_pos f.k)) (next h))
  where
    next : floor f <ℤ z → (floor f +ℤ pos 1) ≤ℤ z
    next l = omega (arith, ints)

    trans : {a b c : ℤ} → a <ℤ b → b ≤ℤ c → a ≤ℤ c
    trans {a} {b} {c} h l = omega (arith, ints)
