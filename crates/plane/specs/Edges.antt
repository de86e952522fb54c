-- Edges, their order, and the directions of one edge's ends against another edge.
use Rattle.std.specs.Prelude.{◌≡◌, ℕ, zero, suc, ◌+◌, Bool, true, false, not, ◌&&◌, ◌||◌, ℤ, pos, negsuc}
use Rattle.plane.specs.Points.{Point, Ranged, ◌≺◌, before?, cross}
use Rattle.plane.specs.declared.direction.Direction.{Direction}
use Rattle.plane.specs.declared.direction.Direction.TheVariants.{Left, Straight, Right}

pub record Edge : Type 0 where
  pub a : Point
  pub b : Point

-- the first end comes before the second
abbrev pub Proper : Edge → Type 0
Proper e = e.a ≺ e.b

pub record InSheet (e : Edge) : Type 0 where
  pub proper : Proper e
  pub first : Ranged e.a
  pub second : Ranged e.b

-- the order of edges: first end, then second
infix 40 ◌⊏◌
pub data ◌⊏◌ (e g : Edge) : Type 0 where
  by_first : e.a ≺ g.a → e ⊏ g
  by_second : e.a ≡ g.a → e.b ≺ g.b → e ⊏ g

-- the order as a test
abbrev pub smaller? : Edge → Edge → Bool
smaller? e g = before? e.a g.a || (not (before? g.a e.a) && before? e.b g.b)

-- the same ends: neither is smaller
abbrev pub equal? : Edge → Edge → Bool
equal? e g = not (smaller? e g) && not (smaller? g e)

-- p is strictly between the ends of e, in the order of points
pub record Between (e : Edge) (p : Point) : Type 0 where
  pub from : e.a ≺ p
  pub to : p ≺ e.b

abbrev pub between? : Edge → Point → Bool
between? e p = before? e.a p && before? p e.b

-- the direction of three points, by the sign of their cross product
abbrev pub direction : ℤ → Direction
direction (pos zero) = Straight
direction (pos (suc n)) = Left
direction (negsuc n) = Right

-- the cross products of e with the first and the second end of g
abbrev pub first : Edge → Edge → ℤ
first e g = cross e.a e.b g.a

abbrev pub second : Edge → Edge → ℤ
second e g = cross e.a e.b g.b

abbrev pub same? : Direction → Direction → Bool
same? Left Left = true
same? Left Straight = false
same? Left Right = false
same? Straight Left = false
same? Straight Straight = true
same? Straight Right = false
same? Right Left = false
same? Right Straight = false
same? Right Right = true

abbrev pub straight? : Direction → Bool
straight? d = same? d Straight

-- 1 for a direction that is zero
abbrev pub zero_of : Direction → ℕ
zero_of Left = 0
zero_of Straight = 1
zero_of Right = 0

-- how many of the four directions are zero
abbrev pub zeros : Edge → Edge → ℕ
zeros e g =
    zero_of (direction (first e g)) + zero_of (direction (second e g))
    + (zero_of (direction (first g e)) + zero_of (direction (second g e)))

-- the ends of one edge have equal directions against the other
abbrev pub one_sided? : Edge → Edge → Bool
one_sided? e g =
    same? (direction (first e g)) (direction (second e g))
    || same? (direction (first g e)) (direction (second g e))
