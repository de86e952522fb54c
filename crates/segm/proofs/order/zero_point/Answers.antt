-- A point is its coordinates.
use Rattle.std.proofs.Common.{refl}
use Rattle.segm.specs.OrderLaws.{same_point}
use Rattle.segm.proofs.order.zero_point.Goals as goal

pub returns : goal.returns
returns c = same_point _ _ refl
