-- Points marked on edges, and their order.
use Rattle.std.specs.declared.cmp.Ordering.{Ordering}
use Rattle.plane.specs.PointOf.{point_of}
use Rattle.segm.specs.Orders.{point_order, origin}
use Rattle.segm.specs.declared.line_mark.LineMark.{LineMark}
use Rattle.std.specs.Ordering.{nat_cmp, ordering_then}

-- index first, then point
abbrev pub mark_order : LineMark → LineMark → Ordering
mark_order m n = ordering_then (nat_cmp m.index n.index) (point_order (point_of m.point) (point_of n.point))

abbrev pub blank_mark : LineMark
blank_mark = record { index = 0; point = origin }
