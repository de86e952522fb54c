-- Directions from the sign of a cross product.
use Rattle.std.proofs.Common.{◌≡◌, zero, suc, true, false, ℤ, pos, negsuc, ◌-ℤ◌, ◌*ℤ◌, refl, arith}
use borrow.Author.Differences.{ints}
use lib.Signed.{lt_z}
use Rattle.plane.specs.Points.{Point, cross}
use Rattle.plane.specs.Edges.{direction, straight?}
use Rattle.plane.specs.Rounding.{zero?}
use denote.Enum.Bare.{sameb}
use Rattle.plane.specs.contracts.direction.Direction.{the_type}
use Rattle.plane.specs.declared.direction.Direction.{Direction}
use Rattle.plane.specs.declared.direction.Direction.TheVariants.{Left, Straight, Right}

pub is_left : (z : ℤ) → lt_z (pos 0) z ≡ true → Left ≡ direction z
is_left (pos zero) h = absurd (grind (arith, ints))
is_left (pos (suc n)) h = refl
is_left (negsuc n) h = absurd (grind (arith, ints))

pub is_right : (z : ℤ) → lt_z z (pos 0) ≡ true → Right ≡ direction z
is_right (pos n) h = absurd (grind (arith, ints))
is_right (negsuc n) h = refl

pub is_straight : (z : ℤ) → lt_z (pos 0) z ≡ false → lt_z z (pos 0) ≡ false → Straight ≡ direction z
is_straight (pos zero) h g = refl
is_straight (pos (suc n)) h g = absurd (grind (arith, ints))
is_straight (negsuc n) h g = absurd (grind (arith, ints))

-- the cross product of two offsets from p
pub product_is : (r ux uy vx vy : ℤ) (p q s : Point) → r ≡ ux *ℤ vy -ℤ uy *ℤ vx
    → ux ≡ q.x -ℤ p.x → uy ≡ q.y -ℤ p.y → vx ≡ s.x -ℤ p.x → vy ≡ s.y -ℤ p.y → r ≡ cross p q s
product_is r ux uy vx vy p q s e a b c d = cc

-- a cross product is 0 exactly where the direction is straight
pub zero_straight : (z : ℤ) → zero? z ≡ straight? (direction z)
zero_straight (pos zero) = refl
zero_straight (pos (suc n)) = grind arith
zero_straight (negsuc n) = grind arith

-- the derived `==` at Straight
pub straight_eq : (d : Direction) → sameb the_type d Straight ≡ straight? d
straight_eq Left = refl
straight_eq Straight = refl
straight_eq Right = refl
