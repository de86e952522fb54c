-- From an exact crossing to a whole point, and from there to a near end.
use Rattle.std.specs.Prelude.{◌≡◌, ℕ, ◌+◌, ◌*◌, ◌/◌, ◌^◌, ◌<◌, ◌≤◌, min, Bool, cond, ◌&&◌, ℤ, pos, ◌+ℤ◌, ◌-ℤ◌, ◌*ℤ◌, neg_ℤ, ◌==◌, int_lt, nat_lt, unsigned_abs}
use Rattle.std.specs.Bool.{beq}
use Rattle.plane.specs.Points.{Point, cross, distance}
use Rattle.plane.specs.Edges.{Edge}
use Rattle.plane.specs.Fractions.{numer, denom}

-- m with the sign of n / d
abbrev pub with_sign : ℤ → ℤ → ℕ → ℤ
with_sign n d m = cond (beq (int_lt n (pos 0)) (int_lt d (pos 0))) (pos m) (neg_ℤ (pos m))

-- the whole number nearest to n / d, halves away from 0
abbrev pub nearest : ℤ → ℤ → ℤ
nearest n d = with_sign n d ((2 * unsigned_abs n + unsigned_abs d) / (2 * unsigned_abs d))

-- n / d cut towards 0
abbrev pub cut : ℤ → ℤ → ℤ
cut n d = with_sign n d (unsigned_abs n / unsigned_abs d)

abbrev pub level? : Edge → Bool
level? e = unsigned_abs (e.b.y -ℤ e.a.y) == 0

-- the whole point taken for the crossing n / d of the way along the target, counted from its first end
abbrev pub taken_at : Edge → ℤ → ℤ → Point
taken_at t n d = record {
  x = t.a.x +ℤ cond (level? t) (cut ((t.b.x -ℤ t.a.x) *ℤ n) d) (nearest ((t.b.x -ℤ t.a.x) *ℤ n) d);
  y = t.a.y +ℤ nearest ((t.b.y -ℤ t.a.y) *ℤ n) d;
}

unfoldable pub taken : Edge → Edge → Point
taken t o = taken_at t (numer t o) (denom t o)

abbrev pub zero? : ℤ → Bool
zero? z = unsigned_abs z == 0

-- p is on the lines of both edges
abbrev pub on_lines? : Edge → Edge → Point → Bool
on_lines? t o p = zero? (cross t.a t.b p) && zero? (cross o.a o.b p)

-- a squared distance up to this is near
abbrev pub reach : ℕ → ℕ
reach s = 2 ^ min s 56

-- the squared distance from p to the nearer end of e
abbrev pub gap : Edge → Point → ℕ
gap e p = min (distance p e.a) (distance p e.b)

-- that end; the second where both are as near
abbrev pub nearer : Edge → Point → Point
nearer e p = cond (nat_lt (distance p e.a) (distance p e.b)) e.a e.b

-- r is the whole number nearest to n / d, of two the one farther from 0
pub record Nearest (n d r : ℤ) : Type 0 where
  pub near : 2 * unsigned_abs (r *ℤ d -ℤ n) ≤ unsigned_abs d
  pub tie : 2 * unsigned_abs (r *ℤ d -ℤ n) ≡ unsigned_abs d → unsigned_abs n < unsigned_abs (r *ℤ d)

-- r is n / d without its fraction: less than one away, and no farther from 0
pub record Cut (n d r : ℤ) : Type 0 where
  pub near : unsigned_abs (r *ℤ d -ℤ n) < unsigned_abs d
  pub inward : unsigned_abs (r *ℤ d) ≤ unsigned_abs n
