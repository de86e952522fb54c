-- The test for zero on the bits of a number.
use Rattle.std.proofs.Common.{◌≡◌, zero, suc, ◌^◌, ◌<◌, eqb, ℤ, pos, negsuc, refl, arith, w32, of_z}
use lib.Signed.{mag}
use Rattle.segm.specs.Booleans.{zero?}

pub zero_bits : (z : ℤ) → mag z < 2 ^ 31 → eqb (of_z w32 z) 0 ≡ zero? z
zero_bits (pos zero) h = refl
zero_bits (pos (suc n)) h = grind arith
zero_bits (negsuc n) h = grind arith
