-- Edges with counts: their ends, turned, joined and blank ones.
use Rattle.std.specs.Prelude.{cond}
use Rattle.std.specs.Ordering.{is_gt}
use Rattle.plane.specs.Edges.{Edge}
use Rattle.plane.specs.PointOf.{point_of}
use Rattle.segm.specs.Counts.{CountKind}
use Rattle.segm.specs.Orders.{point_order, origin}
use Rattle.segm.specs.declared.segment.Segment.{Segment}

module _ {C : Type 0} where
  abbrev pub ends_of : Segment C → Edge
  ends_of s = record { a = point_of s.a; b = point_of s.b }

  -- the ends exchanged and the count inverted
  abbrev pub turned_of : CountKind C → Segment C → Segment C
  turned_of K s = record { a = s.b; b = s.a; count = K.inverse s.count }

  -- turned where the second end comes before the first
  abbrev pub directed : CountKind C → Segment C → Segment C
  directed K s = cond (is_gt (point_order (point_of s.a) (point_of s.b))) (turned_of K s) s

  -- two segments with the same ends as one
  abbrev pub joined_segment : CountKind C → Segment C → Segment C → Segment C
  joined_segment K s t = record { a = s.a; b = s.b; count = K.sum s.count t.count }

  abbrev pub blank_segment : CountKind C → Segment C
  blank_segment K = record { a = origin; b = origin; count = K.neutral }
