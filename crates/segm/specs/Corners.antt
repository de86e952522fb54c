-- Points with counts: joined and blank ones, and those at the ends of a segment.
use Rattle.segm.specs.Counts.{CountKind}
use Rattle.segm.specs.Orders.{origin}
use Rattle.segm.specs.declared.corner.Corner.{Corner}
use Rattle.segm.specs.declared.segment.Segment.{Segment}

module _ {C : Type 0} where
  -- two corners of one point as one
  abbrev pub joined_corner : CountKind C → Corner C → Corner C → Corner C
  joined_corner K c d = record { point = c.point; count = K.sum c.count d.count }

  abbrev pub blank_corner : CountKind C → Corner C
  blank_corner K = record { point = origin; count = K.neutral }

  -- the second end, with the count
  abbrev pub ends_at : Segment C → Corner C
  ends_at s = record { point = s.b; count = s.count }

  -- the first end, with the inverse
  abbrev pub begins_of : CountKind C → Segment C → Corner C
  begins_of K s = record { point = s.a; count = K.inverse s.count }
