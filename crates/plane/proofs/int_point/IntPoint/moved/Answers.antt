use Rattle.std.proofs.Common.{arith}
use borrow.Author.Differences.{ints}
use Rattle.plane.proofs.Points.{point_ext}
use Rattle.plane.proofs.int_point.IntPoint.moved.Goals as goal

pub returns : goal.returns
returns c = point_ext (omega (arith, ints)) (omega (arith, ints))
