-- The checks of `show` that all finders share: those before the check of the need.
use Rattle.std.specs.Prelude.{◌≡◌, ℕ, Bool, cond, not, ◌&&◌, Some, None, Ok, Err, Option, Result, nat_le}
use Rattle.plane.specs.Points.{before?}
use Rattle.plane.specs.Edges.{Edge}
use Rattle.plane.specs.Models.{edge_of}
use Rattle.plane.specs.declared.fault.Fault.{Fault}
use Rattle.plane.specs.declared.fault.Fault.TheVariants.{EndsEqual, CoordinateOutside, EdgeOutsideBox, Walking, AnnouncedReached}
use Rattle.plane.specs.declared.x_segment.XSegment.{XSegment}
use Rattle.finder.specs.Finders.{Box, in_range?, in_box?}

-- the refusal by the first five checks, of an edge shown to a finder that walks or not, with an announced number, so many edges shown and a box
abbrev pub early_refusal : Bool → ℕ → ℕ → Box → Edge → Option Fault
early_refusal walking announced shown box e =
    cond walking (Some Walking)
    (cond (nat_le announced shown) (Some AnnouncedReached)
    (cond (not (before? e.a e.b)) (Some EndsEqual)
    (cond (not (in_range? e.a && in_range? e.b)) (Some CoordinateOutside)
    (cond (not (in_box? box e.a && in_box? box e.b)) (Some EdgeOutsideBox) None))))

-- the edge itself where no check refuses it, else the refusal
abbrev pub Checked : Bool → ℕ → ℕ → Box → Edge → Result XSegment Fault → Type 0
Checked walking announced shown box e (Ok s) = (early_refusal walking announced shown box e ≡ None) × (edge_of s ≡ e)
Checked walking announced shown box e (Err f) = early_refusal walking announced shown box e ≡ Some f
