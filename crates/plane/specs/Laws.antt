-- The laws of a crossing, from exact geometry: e and g are two edges, s is the snap exponent.
use Rattle.std.specs.Prelude.{◌≡◌, ℕ, ◌<◌, ◌≤◌, true, false, ◌≢◌, ◌↔◌, List, [], ◌∷◌, ◌-ℤ◌, ◌*ℤ◌, ◌<ℤ◌}
use Rattle.plane.specs.Points.{Point, Ranged, distance}
use Rattle.plane.specs.Edges.{Edge}
use Rattle.plane.specs.Fractions.{Frac, den, whole, Whole, On, Within, Touch, Only, crossing}
use Rattle.plane.specs.Rounding.{taken, reach, Nearest, Cut}
use Rattle.plane.specs.Rules.{In, Inner, marked_on, rounded?, marked?, target_of, other_of}

-- distinct edges are marked exactly if they touch
abbrev pub TouchIsMarked : Edge → Edge → ℕ → Type 0
TouchIsMarked e g s = e ≢ g → Touch e g ↔ (marked? e g s ≡ true)

-- the exact point of an inner crossing is the only point of both edges, strictly inside both
pub record CrossesAt (t o : Edge) (f : Frac) : Type 0 where
  pub only : Only t o f
  pub in_target : Within t f
  pub in_other : Within o f

abbrev pub InnerPoint : Edge → Edge → Type 0
InnerPoint e g = Inner (target_of e g) (other_of e g) → CrossesAt (target_of e g) (other_of e g) (crossing (target_of e g) (other_of e g))

-- p stands for f, coordinates counted from the first end of t: the nearest whole numbers, halves away from that end; on a level target x is cut towards it
pub record StandsFor (t : Edge) (f : Frac) (p : Point) : Type 0 where
  pub level : t.a.y ≡ t.b.y
      → Cut (f.at.x -ℤ den f *ℤ t.a.x) (den f) (p.x -ℤ t.a.x) × (p.y ≡ t.a.y)
  pub slanted : t.a.y ≢ t.b.y
      → Nearest (f.at.x -ℤ den f *ℤ t.a.x) (den f) (p.x -ℤ t.a.x)
      × Nearest (f.at.y -ℤ den f *ℤ t.a.y) (den f) (p.y -ℤ t.a.y)

abbrev pub NearestPoint : Edge → Edge → Type 0
NearestPoint e g = Inner (target_of e g) (other_of e g)
    → StandsFor (target_of e g) (crossing (target_of e g) (other_of e g)) (taken (target_of e g) (other_of e g))

-- a crossing is rounded exactly if it is inner and its exact point is not whole
abbrev pub RoundedExactly : Edge → Edge → ℕ → Type 0
RoundedExactly e g s =
    (rounded? e g s ≡ true) ↔ (Inner (target_of e g) (other_of e g) × ¬ Whole (crossing (target_of e g) (other_of e g)))

-- not rounded: every mark on e lies strictly inside e, and on g
abbrev pub ExactMarks : Edge → Edge → ℕ → Type 0
ExactMarks e g s = rounded? e g s ≡ false → (p : Point) → In p (marked_on e g s) → Within e (whole p) × On g (whole p)

-- the end q of e is the nearer one to p; of two as near the second
pub data NearerEnd (e : Edge) (p q : Point) : Type 0 where
  first_end : q ≡ e.a → distance p e.a < distance p e.b → NearerEnd e p q
  second_end : q ≡ e.b → distance p e.b ≤ distance p e.a → NearerEnd e p q

-- both ends of e are farther from p than r
pub record Far (e : Edge) (p : Point) (r : ℕ) : Type 0 where
  pub first : r < distance p e.a
  pub second : r < distance p e.b

-- no end of e is nearer to p than q
pub record Least (e : Edge) (p q : Point) : Type 0 where
  pub first : distance p q ≤ distance p e.a
  pub second : distance p q ≤ distance p e.b

-- the marks on target t and other o of a crossing rounded to p, ends within the squared distance r being near
pub data Snapped (t o : Edge) (p : Point) (r : ℕ) (on_t on_o : List Point) : Type 0 where
  -- no end is near: the point on both
  free : Far t p r → Far o p r → on_t ≡ p ∷ [] → on_o ≡ p ∷ [] → Snapped t o p r on_t on_o
  -- an end q of the target is the nearest of all, and near: it on the other edge
  target_end : (q : Point) → NearerEnd t p q → Least o p q → distance p q ≤ r
      → on_t ≡ [] → on_o ≡ q ∷ [] → Snapped t o p r on_t on_o
  -- an end q of the other edge is nearer than both of the target's, and near: it on the target
  other_end : (q : Point) → NearerEnd o p q → Far t p (distance p q) → distance p q ≤ r
      → on_t ≡ q ∷ [] → on_o ≡ [] → Snapped t o p r on_t on_o

abbrev pub Snaps : Edge → Edge → ℕ → Type 0
Snaps e g s = rounded? e g s ≡ true
    → Snapped (target_of e g) (other_of e g) (taken (target_of e g) (other_of e g)) (reach s)
    (marked_on (target_of e g) (other_of e g) s) (marked_on (other_of e g) (target_of e g) s)

-- no mark is an end of its own edge
abbrev pub MarksInside : Edge → Edge → ℕ → Type 0
MarksInside e g s = (p : Point) → In p (marked_on e g s) → (p ≢ e.a) × (p ≢ e.b)

abbrev pub MarksRanged : Edge → Edge → ℕ → Type 0
MarksRanged e g s = (p : Point) → In p (marked_on e g s) → Ranged p

-- a vertical target has no inner crossing
abbrev pub TargetSlants : Edge → Edge → Type 0
TargetSlants e g = Inner (target_of e g) (other_of e g) → (target_of e g).a.x <ℤ (target_of e g).b.x
