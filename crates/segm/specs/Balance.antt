-- What segments count at an edge, and what they bring to a point.
use Rattle.std.specs.Prelude.{◌≡◌, Bool, cond, List, [], ◌∷◌}
use Rattle.std.specs.Ordering.{is_eq}
use Rattle.table.specs.Listings.{Ordered}
use Rattle.plane.specs.Points.{Point}
use Rattle.plane.specs.Edges.{Edge}
use Rattle.plane.specs.PointOf.{point_of}
use Rattle.segm.specs.Counts.{CountKind}
use Rattle.segm.specs.Orders.{point_order, edge_order}
use Rattle.segm.specs.Segments.{ends_of}
use Rattle.segm.specs.SegmentKind.{segment_kind}
use Rattle.segm.specs.declared.segment.Segment.{Segment}

module _ {C : Type 0} (K : CountKind C) where
  -- c where the test holds
  abbrev pub when : Bool → C → C
  when b c = cond b c K.neutral

  -- the sum of a list
  abbrev pub total : {S : Type 0} → (S → C) → List S → C
  total part [] = K.neutral
  total part (s ∷ l) = K.sum (part s) (total part l)

  -- what s counts at the edge e
  abbrev pub counts : Edge → Segment C → C
  counts e s = when (is_eq (edge_order e (ends_of s))) s.count

  -- what s brings to the point p: its count where it ends there, the inverse where it begins there
  abbrev pub brings : Point → Segment C → C
  brings p s =
      K.sum (when (is_eq (point_order p (point_of s.b))) s.count)
      (when (is_eq (point_order p (point_of s.a))) (K.inverse s.count))

  abbrev pub count_at : Edge → List (Segment C) → C
  count_at e l = total (counts e) l

  abbrev pub balance : Point → List (Segment C) → C
  balance p l = total (brings p) l

  -- l lists the count function f: in strict order, with no empty count, and with f's count at every edge
  pub record Counting (f : Edge → C) (l : List (Segment C)) : Type 0 where
    pub ordered : Ordered (segment_kind K) l
    pub each : (e : Edge) → count_at e l ≡ f e

  -- f with what s counts
  abbrev pub counted : Segment C → (Edge → C) → Edge → C
  counted s f e = K.sum (f e) (counts e s)
