-- The worked crossings compute.
use Rattle.std.proofs.Common.{refl}
use Rattle.plane.specs.Rounding.{taken}
use Rattle.plane.specs.Rules.{overlaid, end_marked, snapped, inner_marked, marking, marked_on, rounded?}
use Rattle.plane.specs.Worked.{WorkedCrossings}

pub worked : WorkedCrossings
unfolding taken overlaid end_marked snapped inner_marked marking marked_on rounded?
worked = record { far = (refl, refl, refl); near = (refl, refl, refl); cut_off = (refl, refl, refl) }
