-- The point that an `IntPoint` is.
use Rattle.plane.specs.Points.{Point}
use Rattle.plane.specs.declared.int_point.IntPoint.{IntPoint}

abbrev pub point_of : IntPoint → Point
point_of p = record { x = p.x; y = p.y }
