use Rattle.std.proofs.Common.{arith}
use borrow.Author.Differences.{ints}
use Rattle.std.proofs.lemmas.Int.{clamps}
use Rattle.finder.specs.Boxes.{with_point}
use Rattle.finder.proofs.Boxes.{box_ext}
use Rattle.finder.proofs.int_rect.IntRect.with_point.Goals as goal

pub returns : goal.returns
unfolding with_point
returns c =
    box_ext (omega (arith, ints, clamps, c.min.ensures.value)) (omega (arith, ints, clamps, c.max.ensures.value))
    (omega (arith, ints, clamps, c.min-2.ensures.value)) (omega (arith, ints, clamps, c.max-2.ensures.value))
