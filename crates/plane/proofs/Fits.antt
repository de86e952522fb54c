-- Sizes of differences and products of coordinates: what fits 64 bits.
use Rattle.std.proofs.Common.{ℕ, ◌+◌, ◌*◌, ◌^◌, ◌<◌, ◌≤◌, ℤ, ◌-ℤ◌, ◌*ℤ◌, nat_abs, arith, w64, SFits}
use native.Mathlib.Nat as NatL
use borrow.Author.Differences.{ints}
use Rattle.algebra.proofs.Order.{abs_mul_le}

fits : (x : ℤ) (n : ℕ) → nat_abs x ≤ n → n < 2 ^ 63 → SFits w64 x
fits x n h g = omega (arith, ints)

pub off64 : (a : ℤ) → nat_abs a ≤ 2 ^ 20 → SFits w64 a
off64 a h = omega (arith, ints)

pub part64 : (a : ℤ) → nat_abs a ≤ 2 ^ 41 → SFits w64 a
part64 a h = omega (arith, ints)

-- |a| ≤ 2^20: the product with b
pub sized : (a b : ℤ) → nat_abs a ≤ 2 ^ 20 → nat_abs (a *ℤ b) ≤ 2 ^ 20 * nat_abs b
sized a b h = abs_mul_le a b (2 ^ 20) (nat_abs b) h (omega arith)

pub times64 : (a b : ℤ) → nat_abs a ≤ 2 ^ 20 → nat_abs b ≤ 2 ^ 42 → SFits w64 (a *ℤ b)
times64 a b h g = fits (a *ℤ b) (2 ^ 62) (abs_mul_le a b (2 ^ 20) (2 ^ 42) h g) (omega arith)

-- a difference
pub diff64 : (a b : ℤ) (n : ℕ) → nat_abs a ≤ n → nat_abs b ≤ n → n ≤ 2 ^ 61 → (SFits w64 (a -ℤ b)) × (nat_abs (a -ℤ b) ≤ n + n)
diff64 a b n h g l = (fits (a -ℤ b) (n + n) (less a b n h g) (omega arith), less a b n h g)
  where
    less : (a b : ℤ) (n : ℕ) → nat_abs a ≤ n → nat_abs b ≤ n → nat_abs (a -ℤ b) ≤ n + n
    less a b n h g = omega (arith, ints)

-- what a product comes to that is sized by b
pub room : (r b : ℤ) (n : ℕ) → nat_abs r ≤ 2 ^ 20 * nat_abs b → nat_abs b ≤ n → nat_abs r ≤ 2 ^ 20 * n
room r b n h g = omega arith

-- a square
pub square_le : (m : ℕ) → m ≤ 2 ^ 20 → m * m ≤ 2 ^ 40
square_le m h = NatL.mul-le-mul h h
