-- What the fields of a sheet keep true.
use Rattle.std.specs.Prelude.{◌≡◌, min, true, List, length, replicate}
use Rattle.std.specs.List.{AllByRecursion}
use mathlib.Core.Bool.{Bool-set}
use Rattle.table.specs.Contents.{Content, Sound, records}
use Rattle.table.specs.Soundness.{each_once}
use Rattle.plane.specs.Points.{before?}
use Rattle.plane.specs.PointOf.{point_of}
use Rattle.segm.specs.Counts.{CountKind}
use Rattle.segm.specs.Marks.{blank_mark}
use Rattle.segm.specs.SegmentKind.{segment_kind}
use Rattle.segm.specs.declared.line_mark.LineMark.{LineMark}
use Rattle.segm.specs.declared.segment.Segment.{Segment}

module _ {C : Type 0} where
  -- each edge has its first end before its second
  abbrev pub AllProper : List (Segment C) → Type 0
  AllProper l = AllByRecursion (λ s. before? (point_of s.a) (point_of s.b) ≡ true) l

  pub all_proper_once : (l : List (Segment C)) → IsProp (AllProper l)
  all_proper_once l = each_once (λ s. before? (point_of s.a) (point_of s.b) ≡ true) (λ s. Bool-set (before? (point_of s.a) (point_of s.b)) true) l

-- the tables of edges and of spare places, and the places for marks, as they are between calls
pub record Fields {C : Type 0} (K : CountKind C) (edges spare : Content (Segment C)) (marks : List LineMark) : Type 0 where
  pub edges_sound : Sound (segment_kind K) edges
  pub spare_sound : Sound (segment_kind K) spare
  pub proper : AllProper (records edges)
  pub emptied : spare.used ≡ 0
  pub edge_room : edges.room ≡ min (min (length edges.places) (length spare.places)) 4096
  pub spare_room : spare.room ≡ edges.room
  pub unmarked : marks ≡ replicate (length marks) blank_mark
