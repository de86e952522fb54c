-- Points with fractions, as whole numbers over one whole number above 0; when such a point lies on an edge, and when two edges touch.
use Rattle.std.specs.Prelude.{◌≡◌, ℕ, zero, suc, ◌⊎◌, ℤ, pos, negsuc, ◌+ℤ◌, ◌-ℤ◌, ◌*ℤ◌, neg_ℤ}
use Rattle.plane.specs.Points.{Point, ◌≺◌, ◌≼◌}
use Rattle.plane.specs.Edges.{Edge}

-- the point (at .x / (k + 1), at .y / (k + 1))
pub record Frac : Type 0 where
  pub at : Point
  pub k : ℕ

abbrev pub den : Frac → ℤ
den f = pos (suc f.k)

abbrev pub scaled : ℤ → Point → Point
scaled d p = record { x = d *ℤ p.x; y = d *ℤ p.y }

-- a whole point in the measure of f
abbrev pub by : Frac → Point → Point
by f p = scaled (den f) p

abbrev pub whole : Point → Frac
whole p = record { at = p; k = 0 }

-- f is the whole point p
abbrev pub Is : Frac → Point → Type 0
Is f p = f.at ≡ by f p

abbrev pub Whole : Frac → Type 0
Whole f = ∥ ((p : Point) × Is f p) ∥₁

-- the same point, perhaps over other numbers
abbrev pub Alike : Frac → Frac → Type 0
Alike f g = by g f.at ≡ by f g.at

-- f is on the line through the ends of e
abbrev pub Line : Edge → Frac → Type 0
Line e f =
    (e.b.x -ℤ e.a.x) *ℤ (f.at.y -ℤ den f *ℤ e.a.y)
    ≡ (e.b.y -ℤ e.a.y) *ℤ (f.at.x -ℤ den f *ℤ e.a.x)

-- f lies on e: on its line, and between its ends in the order of points
pub record On (e : Edge) (f : Frac) : Type 0 where
  pub line : Line e f
  pub from : by f e.a ≼ f.at
  pub to : f.at ≼ by f e.b

-- f lies on e and is no end of it
pub record Within (e : Edge) (f : Frac) : Type 0 where
  pub line : Line e f
  pub from : by f e.a ≺ f.at
  pub to : f.at ≺ by f e.b

abbrev pub IsEnd : Edge → Frac → Type 0
IsEnd e f = Is f e.a ⊎ Is f e.b

pub record TouchAt (e g : Edge) (f : Frac) : Type 0 where
  pub here : On e f
  pub there : On g f
  pub free : ¬ (IsEnd e f × IsEnd g f)

-- some point lies on both edges and is not an end of both
abbrev pub Touch : Edge → Edge → Type 0
Touch e g = ∥ ((f : Frac) × TouchAt e g f) ∥₁

-- f is the one point of both edges
pub record Only (e g : Edge) (f : Frac) : Type 0 where
  pub here : On e f
  pub there : On g f
  pub alone : (h : Frac) → On e h → On g h → Alike f h

-- two different points of both edges
pub record Shared (e g : Edge) (f h : Frac) : Type 0 where
  pub here : On e f
  pub there : On g f
  pub here_too : On e h
  pub there_too : On g h
  pub different : ¬ Alike f h

-- the first end of e and p / (n + 1) of the way to its second
abbrev pub along : Edge → ℕ → ℤ → Frac
along e n p = record {
  at = record {
    x = pos (suc n) *ℤ e.a.x +ℤ (e.b.x -ℤ e.a.x) *ℤ p;
    y = pos (suc n) *ℤ e.a.y +ℤ (e.b.y -ℤ e.a.y) *ℤ p;
  };
  k = n;
}

-- the first end of e and n / d of the way to its second; the sign goes to the numerator
abbrev pub part : Edge → ℤ → ℤ → Frac
part e n (pos zero) = whole e.a
part e n (pos (suc i)) = along e i n
part e n (negsuc i) = along e i (neg_ℤ n)

-- for A, B and C, the target's second and the other's first and second end less the target's first end: B.x C.y - B.y C.x
abbrev pub numer : Edge → Edge → ℤ
numer t o = (o.a.x -ℤ t.a.x) *ℤ (o.b.y -ℤ t.a.y) -ℤ (o.a.y -ℤ t.a.y) *ℤ (o.b.x -ℤ t.a.x)

-- A.y (B.x - C.x) - A.x (B.y - C.y)
abbrev pub denom : Edge → Edge → ℤ
denom t o =
    (t.b.y -ℤ t.a.y) *ℤ ((o.a.x -ℤ t.a.x) -ℤ (o.b.x -ℤ t.a.x))
    -ℤ (t.b.x -ℤ t.a.x) *ℤ ((o.a.y -ℤ t.a.y) -ℤ (o.b.y -ℤ t.a.y))

-- the exact crossing of two lines: the target's first end plus A n / d
abbrev pub crossing : Edge → Edge → Frac
crossing t o = part t (numer t o) (denom t o)
