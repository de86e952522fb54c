-- What the values of the code mean.
use Rattle.std.specs.Prelude.{◌≡◌, ℕ, cond, ◌⊎◌, List, [], ◌∷◌, Some, None, Ok, Err, Option, Result}
use Rattle.plane.specs.Points.{Point, Ranged, before?}
use Rattle.plane.specs.Edges.{Edge}
use Rattle.plane.specs.Fractions.{Frac, Within, IsEnd, Touch, Only, Shared}
use Rattle.plane.specs.PointOf.{point_of}
use Rattle.plane.specs.declared.int_point.IntPoint.{IntPoint}
use Rattle.plane.specs.declared.plain_point.PlainPoint.{PlainPoint}
use Rattle.plane.specs.declared.x_segment.XSegment.{XSegment}
use Rattle.plane.specs.declared.cross_solver.EdgeMarks.{EdgeMarks}
use Rattle.plane.specs.declared.cross_solver.EdgeMarks.TheVariants.{Zero, One, Two}
use Rattle.plane.specs.declared.touch_type.TouchType.{TouchType}
use Rattle.plane.specs.declared.touch_type.TouchType.TheVariants as kind
use Rattle.plane.specs.declared.fault.Fault.{Fault}
use Rattle.plane.specs.declared.fault.Fault.TheVariants.{EndsEqual, CoordinateOutside, CountEmpty, BudgetOutside, NoSuchEdge, LineForm, EdgeOutsideBox, SheetFull, FinderFull, MarksFull, PiecesFull, Walking, AnnouncedReached}

abbrev pub plain_point : PlainPoint → Point
plain_point p = record { x = p.x; y = p.y }

abbrev pub edge_of : XSegment → Edge
edge_of s = record { a = point_of s.a; b = point_of s.b }

-- the point of two coordinates, refused where one is outside
abbrev pub MadePoint : Point → Result IntPoint Fault → Type 0
MadePoint p (Ok q) = point_of q ≡ p
MadePoint p (Err f) = (f ≡ CoordinateOutside) × ¬ Ranged p

-- the edge with the ends p and q, put in order
abbrev pub edge_between : Point → Point → Edge
edge_between p q = cond (before? q p) (record { a = q; b = p }) (record { a = p; b = q })

-- the edge of two ends in either order, refused where they are equal
abbrev pub MadeEdge : Point → Point → Result XSegment Fault → Type 0
MadeEdge p q (Ok s) = edge_of s ≡ edge_between p q
MadeEdge p q (Err f) = (f ≡ EndsEqual) × (p ≡ q)

-- the point, if there is one
abbrev pub point_if : Option IntPoint → List Point
point_if None = []
point_if (Some p) = point_of p ∷ []

abbrev pub points_of : EdgeMarks → List Point
points_of Zero = []
points_of (One p) = point_of p ∷ []
points_of (Two p q) = point_of p ∷ point_of q ∷ []

-- one point, an end of one of the edges
pub record MeetsEnd (e g : Edge) (f : Frac) : Type 0 where
  pub only : Only e g f
  pub end : ∥ (IsEnd e f ⊎ IsEnd g f) ∥₁

-- one point, strictly inside both
pub record MeetsInside (e g : Edge) (f : Frac) : Type 0 where
  pub only : Only e g f
  pub here : Within e f
  pub there : Within g f

-- what each answer says of two edges
abbrev pub TouchesAs : Edge → Edge → Option TouchType → Type 0
TouchesAs e g None = ¬ Touch e g
TouchesAs e g (Some kind.Overlay) = Touch e g × ∥ ((f : Frac) × (h : Frac) × Shared e g f h) ∥₁
TouchesAs e g (Some kind.End) = Touch e g × ∥ ((f : Frac) × MeetsEnd e g f) ∥₁
TouchesAs e g (Some kind.Inner) = Touch e g × ∥ ((f : Frac) × MeetsInside e g f) ∥₁

-- the number of each refusal
abbrev pub number : Fault → ℕ
number EndsEqual = 1
number CoordinateOutside = 2
number CountEmpty = 3
number BudgetOutside = 4
number NoSuchEdge = 5
number LineForm = 6
number EdgeOutsideBox = 7
number SheetFull = 11
number (FinderFull n) = 12
number MarksFull = 13
number PiecesFull = 14
number Walking = 15
number AnnouncedReached = 16
