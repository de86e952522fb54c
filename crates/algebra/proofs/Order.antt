-- Signs and magnitudes of products, and orders that a positive factor keeps.
use Rattle.std.proofs.Common.{◌≡◌, ℕ, zero, suc, ◌*◌, ◌<◌, ◌≤◌, [], ◌∷◌, ℤ, pos, negsuc, ◌-ℤ◌, ◌*ℤ◌, neg_ℤ, nat_abs, ◌≤ℤ◌, ◌<ℤ◌, refl, arith}
use native.Mathlib.Nat as NatL
use borrow.Author.Differences.{ints}
use lib.Signed.{clash_ℤ}
use Rattle.std.proofs.lemmas.Int.{by_lt_z}
use Rattle.algebra.proofs.Ring.{v, ◌⊖◌, ◌⊗◌, ring}

pub mul_pos : (a b : ℤ) → pos 0 <ℤ a → pos 0 <ℤ b → pos 0 <ℤ (a *ℤ b)
mul_pos (pos m) (pos n) h g = let p : 0 < m = omega (arith, ints) in let q : 0 < n = omega (arith, ints) in omega (arith, ints, NatL.mul-pos p q)
mul_pos (pos m) (negsuc n) h g = omega (arith, ints)
mul_pos (negsuc m) b h g = omega (arith, ints)

pub mul_nonneg : (a b : ℤ) → pos 0 ≤ℤ a → pos 0 ≤ℤ b → pos 0 ≤ℤ (a *ℤ b)
mul_nonneg (pos m) (pos n) h g = omega (arith, ints)
mul_nonneg (pos m) (negsuc n) h g = omega (arith, ints)
mul_nonneg (negsuc m) b h g = omega (arith, ints)

-- a positive factor keeps an order
pub mul_lt : (c a b : ℤ) → pos 0 <ℤ c → a <ℤ b → (c *ℤ a) <ℤ (c *ℤ b)
mul_lt c a b h g =
    let p : pos 0 <ℤ (b -ℤ a) = omega (arith, ints) in
    go (c *ℤ a) (c *ℤ b) (c *ℤ (b -ℤ a)) (ring (c ∷ a ∷ b ∷ []) (v 0 ⊗ (v 2 ⊖ v 1)) (v 0 ⊗ v 2 ⊖ v 0 ⊗ v 1) tt) (mul_pos c (b -ℤ a) h p)
  where
    go : (x y z : ℤ) → z ≡ y -ℤ x → pos 0 <ℤ z → x <ℤ y
    go x y z e l = omega (arith, ints)

pub mul-le : (c a b : ℤ) → pos 0 ≤ℤ c → a ≤ℤ b → (c *ℤ a) ≤ℤ (c *ℤ b)
mul-le c a b h g =
    let p : pos 0 ≤ℤ (b -ℤ a) = omega (arith, ints) in
    go (c *ℤ a) (c *ℤ b) (c *ℤ (b -ℤ a)) (ring (c ∷ a ∷ b ∷ []) (v 0 ⊗ (v 2 ⊖ v 1)) (v 0 ⊗ v 2 ⊖ v 0 ⊗ v 1) tt) (mul_nonneg c (b -ℤ a) h p)
  where
    go : (x y z : ℤ) → z ≡ y -ℤ x → pos 0 ≤ℤ z → x ≤ℤ y
    go x y z e l = omega (arith, ints)

-- and it may be taken away
pub lt_of_mul_lt : (c a b : ℤ) → pos 0 ≤ℤ c → (c *ℤ a) <ℤ (c *ℤ b) → a <ℤ b
lt_of_mul_lt c a b h g = by_lt_z a b (λ l. l) (λ l. clash_ℤ g (mul-le c b a h l))

pub le_of_mul_le : (c a b : ℤ) → pos 0 <ℤ c → (c *ℤ a) ≤ℤ (c *ℤ b) → a ≤ℤ b
le_of_mul_le c a b h g = by_lt_z b a (λ l. clash_ℤ (mul_lt c b a h l) g) (λ l. l)

pub abs_neg : (z : ℤ) → nat_abs (neg_ℤ z) ≡ nat_abs z
abs_neg (pos zero) = refl
abs_neg (pos (suc n)) = refl
abs_neg (negsuc n) = refl

pub abs_mul : (a b : ℤ) → nat_abs (a *ℤ b) ≡ nat_abs a * nat_abs b
abs_mul (pos m) (pos n) = refl
abs_mul (pos m) (negsuc n) = abs_neg (pos (m * suc n))
abs_mul (negsuc m) (pos n) = abs_neg (pos (suc m * n))
abs_mul (negsuc m) (negsuc n) = refl

-- |a b| ≤ m n
pub abs_mul_le : (a b : ℤ) (m n : ℕ) → nat_abs a ≤ m → nat_abs b ≤ n → nat_abs (a *ℤ b) ≤ m * n
abs_mul_le a b m n h g = rw (abs_mul a b) (NatL.mul-le-mul h g)
