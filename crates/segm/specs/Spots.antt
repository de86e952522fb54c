-- Points on numbered edges, as crossings mark them, and marks that come to a list.
use Rattle.std.specs.Prelude.{◌≡◌, ℕ, Bool, true, false, ◌||◌, List, [], ◌∷◌, length, map}
use Rattle.std.specs.Ordering.{is_eq, nat_cmp, ordering_then}
use Rattle.table.specs.Contents.{Content}
use Rattle.table.specs.Listings.{Ordered}
use Rattle.plane.specs.Points.{Point}
use Rattle.plane.specs.PointOf.{point_of}
use Rattle.segm.specs.Orders.{point_order}
use Rattle.segm.specs.MarkKind.{mark_kind}
use Rattle.segm.specs.Marked.{Marked, holds?}
use Rattle.segm.specs.declared.line_mark.LineMark.{LineMark}

-- a point on the edge of a number
pub record Spot : Type 0 where
  pub edge : ℕ
  pub point : Point

-- points on edge i
abbrev pub spots : ℕ → List Point → List Spot
spots i ps = map (λ p. record { edge = i; point = p }) ps

-- m marks the spot t
abbrev pub at? : Spot → LineMark → Bool
at? t m = is_eq (ordering_then (nat_cmp m.index t.edge) (point_order (point_of m.point) t.point))

abbrev pub at_one? : List Spot → LineMark → Bool
at_one? [] m = false
at_one? (t ∷ ts) m = at? t m || at_one? ts m

-- the marks at the spots have come to a list
abbrev pub Come : List Spot → List LineMark → List LineMark → Type 0
Come ts before after = (P : LineMark → Bool) → Marked P before → Marked (λ m. P m || at_one? ts m) after

-- P tells more than n marks: n in strict order, and another
pub record Overflow (P : LineMark → Bool) (n : ℕ) : Type 0 where
  pub held : List LineMark
  pub ordered : Ordered mark_kind held
  pub many : length held ≡ n
  pub each : (m : LineMark) → holds? held m ≡ true → P m ≡ true
  pub another : LineMark
  pub new : holds? held another ≡ false
  pub told : P another ≡ true

-- with the marks at the spots a list has more than n
abbrev pub Crowded : List Spot → List LineMark → ℕ → Type 0
Crowded ts before n = (P : LineMark → Bool) → Marked P before → Overflow (λ m. P m || at_one? ts m) n

-- a table has as many places, and as much room, as it had
pub record SameSize (before after : Content LineMark) : Type 0 where
  pub room : after.room ≡ before.room
  pub places : length after.places ≡ length before.places
