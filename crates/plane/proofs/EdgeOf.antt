-- What the type of an edge promises.
use Rattle.plane.specs.Edges.{Proper, InSheet}
use Rattle.plane.specs.PointOf.{point_of}
use Rattle.plane.specs.Models.{edge_of}
use Rattle.plane.specs.declared.x_segment.XSegment.{XSegment}
use Rattle.plane.proofs.Tests.{before_yes}

pub proper_of : (s : XSegment) → Proper (edge_of s)
proper_of s = before_yes (point_of s.a) (point_of s.b) s.ordered

pub sheet_of : (s : XSegment) → InSheet (edge_of s)
sheet_of s = record {
  proper = proper_of s;
  first = record { wide = s.a.wide; high = s.a.high };
  second = record { wide = s.b.wide; high = s.b.high };
}
