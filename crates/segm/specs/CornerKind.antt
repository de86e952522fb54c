-- Corners as records of a table, with the proofs of the laws: the key is the point, and corners of one point add their counts.
use Rattle.std.specs.Prelude.{◌≡◌, true}
use Rattle.std.specs.declared.cmp.Ordering.TheVariants.{Equal}
use Rattle.std.specs.declared.cmp.Ordering.{Ordering}
use Rattle.std.proofs.Common.{ap, ◌∙◌}
use Rattle.table.specs.Records.{RecordKind}
use Rattle.table.proofs.Orders.{balanced}
use Rattle.plane.specs.Points.{Point}
use Rattle.plane.specs.PointOf.{point_of}
use Rattle.segm.specs.Counts.{CountKind}
use Rattle.segm.specs.Orders.{point_order}
use Rattle.segm.specs.OrderLaws.{same_point, equal_points, point_total}
use Rattle.segm.specs.Corners.{joined_corner, blank_corner}
use Rattle.segm.specs.declared.corner.Corner.{Corner}

pub point_itself : (p : Point) → point_order p p ≡ Equal
point_itself p = balanced (point_order p p) (point_total.antisymm p p)

module _ {C : Type 0} where
  abbrev pub corner_order : Corner C → Corner C → Ordering
  corner_order c d = point_order (point_of c.point) (point_of d.point)

module _ {C : Type 0} (K : CountKind C) where
  pub corners_comm : (c d : Corner C) → corner_order c d ≡ Equal → joined_corner K c d ≡ joined_corner K d c
  corners_comm c d e = let h = equal_points (point_of c.point) (point_of d.point) e in λ i. record {
    point = same_point c.point d.point h i;
    count = K.comm c.count d.count i;
  }

  pub corners_assoc : (c d e : Corner C) → joined_corner K (joined_corner K c d) e ≡ joined_corner K c (joined_corner K d e)
  corners_assoc c d e = λ i. record { point = c.point; count = K.assoc c.count d.count e.count i }

  pub corners_empty : (c d : Corner C) → K.empty? d.count ≡ true → joined_corner K c d ≡ c
  corners_empty c d e = λ i. record { point = c.point; count = (ap (K.sum c.count) (K.empty_neutral d.count e) ∙ K.identity c.count) i }

  abbrev pub corner_kind : RecordKind (Corner C)
  corner_kind = record {
    order = corner_order;
    joined = joined_corner K;
    empty? = λ c. K.empty? c.count;
    blank = blank_corner K;
    flip = λ c d. point_total.antisymm (point_of c.point) (point_of d.point);
    trans = λ c d e. point_total.trans (point_of c.point) (point_of d.point) (point_of e.point);
    alike = λ c d e. point_total.congr (point_of c.point) (point_of d.point) (point_of e.point);
    keeps = λ c d e. point_itself (point_of c.point);
    comm = corners_comm;
    assoc = λ c d e h k. corners_assoc c d e;
    neutral = λ c d e h. corners_empty c d h;
  }
