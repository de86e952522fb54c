-- Whole points of the plane, their range and their order.
use Rattle.std.specs.Prelude.{◌≡◌, ℕ, ◌+◌, ◌*◌, ◌≤◌, Bool, ◌&&◌, ◌||◌, ℤ, ◌-ℤ◌, ◌*ℤ◌, ◌≤ℤ◌, ◌<ℤ◌, int_le, int_lt, unsigned_abs}

pub record Point : Type 0 where
  pub x : ℤ
  pub y : ℤ

-- coordinates run from -524288 to 524288
abbrev pub InRange : ℤ → Type 0
InRange z = unsigned_abs z ≤ 524288

pub record Ranged (p : Point) : Type 0 where
  pub wide : InRange p.x
  pub high : InRange p.y

-- the order of points: x first, then y
infix 40 ◌≺◌ ◌≼◌
pub data ◌≺◌ (p q : Point) : Type 0 where
  by_x : p.x <ℤ q.x → p ≺ q
  by_y : p.x ≡ q.x → p.y <ℤ q.y → p ≺ q

pub data ◌≼◌ (p q : Point) : Type 0 where
  at_x : p.x <ℤ q.x → p ≼ q
  at_y : p.x ≡ q.x → p.y ≤ℤ q.y → p ≼ q

-- the order as a test
abbrev pub before? : Point → Point → Bool
before? p q = int_lt p.x q.x || (int_le p.x q.x && int_lt p.y q.y)

-- the cross product of q less p and r less p: above 0 where r is to the left of the way from p to q
abbrev pub cross : Point → Point → Point → ℤ
cross p q r = (q.x -ℤ p.x) *ℤ (r.y -ℤ p.y) -ℤ (q.y -ℤ p.y) *ℤ (r.x -ℤ p.x)

abbrev pub squared : ℤ → ℕ
squared z = unsigned_abs z * unsigned_abs z

-- the squared distance
abbrev pub distance : Point → Point → ℕ
distance p q = squared (q.x -ℤ p.x) + squared (q.y -ℤ p.y)
