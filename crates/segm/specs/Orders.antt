-- The orders of points and of edges, as answers of a comparison.
use Rattle.std.proofs.Common.{zero-le}
use Rattle.std.specs.Prelude.{pos}
use Rattle.std.specs.declared.cmp.Ordering.{Ordering}
use Rattle.plane.specs.Points.{Point}
use Rattle.plane.specs.Edges.{Edge}
use Rattle.plane.specs.declared.int_point.IntPoint.{IntPoint}
use Rattle.std.specs.Ordering.{int_cmp, ordering_then}

-- x first, then y
abbrev pub point_order : Point → Point → Ordering
point_order p q = ordering_then (int_cmp p.x q.x) (int_cmp p.y q.y)

-- first end, then second
abbrev pub edge_order : Edge → Edge → Ordering
edge_order e g = ordering_then (point_order e.a g.a) (point_order e.b g.b)

abbrev pub origin : IntPoint
origin = record { x = pos 0; y = pos 0; wide = zero-le; high = zero-le }
