-- The marks of a list of edges at the snap exponent s: those of the crossings of all pairs, whoever found them.
use Rattle.std.specs.Prelude.{◌≡◌, ℕ, ◌<◌, true, false, ◌≢◌, ◌↔◌, List, length}
use Rattle.table.specs.Listings.{Ordered}
use Rattle.plane.specs.Points.{Point}
use Rattle.plane.specs.PointOf.{point_of}
use Rattle.plane.specs.Edges.{Edge}
use Rattle.plane.specs.Rules.{In, marked_on, rounded?}
use Rattle.finder.specs.Finders.{edge_at}
use Rattle.segm.specs.MarkKind.{mark_kind}
use Rattle.segm.specs.Marked.{holds?}
use Rattle.segm.specs.declared.line_mark.LineMark.{LineMark}

-- the crossing of edge i with edge j marks p on edge i
pub record MarkedBy (s : ℕ) (es : List Edge) (i : ℕ) (p : Point) (j : ℕ) : Type 0 where
  pub here : i < length es
  pub there : j < length es
  pub other : i ≢ j
  pub marked : In p (marked_on (edge_at es i) (edge_at es j) s)

-- m is a mark of the list
abbrev pub Told : ℕ → List Edge → LineMark → Type 0
Told s es m = ∥ ((j : ℕ) × MarkedBy s es m.index (point_of m.point) j) ∥₁

-- ms lists the marks of all pairs: in strict order, and just those
pub record MarksOf (s : ℕ) (es : List Edge) (ms : List LineMark) : Type 0 where
  pub ordered : Ordered mark_kind ms
  pub each : (m : LineMark) → (holds? ms m ≡ true) ↔ Told s es m

-- there are more than n distinct marks: n in strict order, and another
pub record MoreMarks (s : ℕ) (es : List Edge) (n : ℕ) : Type 0 where
  pub held : List LineMark
  pub ordered : Ordered mark_kind held
  pub many : length held ≡ n
  pub each : (m : LineMark) → holds? held m ≡ true → Told s es m
  pub another : LineMark
  pub new : holds? held another ≡ false
  pub told : Told s es another

-- the crossing of edges i and j is rounded
pub record RoundedPair (s : ℕ) (es : List Edge) (i j : ℕ) : Type 0 where
  pub first : i < j
  pub second : j < length es
  pub rounded : rounded? (edge_at es i) (edge_at es j) s ≡ true

-- some crossing is rounded
abbrev pub SomeRounded : ℕ → List Edge → Type 0
SomeRounded s es = ∥ ((i : ℕ) × (j : ℕ) × RoundedPair s es i j) ∥₁
