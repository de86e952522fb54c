-- A table of corners that holds a count for every point, and how what it holds grows.
use Rattle.std.specs.Prelude.{◌≡◌, ℕ, ◌+◌, ◌<◌, ◌≤◌, Result, MatchResult}
use Rattle.std.specs.Ordering.{is_eq}
use Rattle.table.specs.Contents.{Content, records, Sound}
use Rattle.plane.specs.Points.{Point}
use Rattle.plane.specs.PointOf.{point_of}
use Rattle.segm.specs.Counts.{CountKind}
use Rattle.segm.specs.Orders.{point_order}
use Rattle.segm.specs.Balance.{when, total}
use Rattle.segm.specs.CornerKind.{corner_kind}
use Rattle.segm.specs.declared.corner.Corner.{Corner}

module _ {C : Type 0} (K : CountKind C) where
  -- what a corner counts at the point p
  abbrev pub counts_at : Point → Corner C → C
  counts_at p c = when K (is_eq (point_order p (point_of c.point))) c.count

  -- the corners of a sound table count f's count at every point; at most n of its m places are used
  pub record Holds (f : Point → C) (n m : ℕ) (t : Content (Corner C)) : Type 0 where
    pub sound : Sound (corner_kind K) t
    pub each : (p : Point) → total K (counts_at p) (records t) ≡ f p
    pub few : t.used ≤ n
    pub roomy : t.room ≡ m

  -- what was held has grown by `part`, on at most i more places
  abbrev pub Grown : (Point → C) → ℕ → Content (Corner C) → Content (Corner C) → Type 0
  Grown part i before after = (f : Point → C) (n m : ℕ) → Holds f n m before → Holds (λ p. K.sum (f p) (part p)) (n + i) m after

  -- there is no room for i more places
  abbrev pub Crowded : ℕ → Content (Corner C) → Type 0
  Crowded i before = (f : Point → C) (n m : ℕ) → Holds f n m before → m < n + i

  abbrev pub Grows : {T E : Type 0} → (Point → C) → ℕ → Content (Corner C) → Content (Corner C) → Result T E → Type 0
  Grows part i before after a = MatchResult a (λ _. Grown part i before after) (λ _. Crowded i before)
