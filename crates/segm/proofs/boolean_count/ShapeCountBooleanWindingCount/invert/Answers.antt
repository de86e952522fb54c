-- The negative of bits is the negative around the range.
use Rattle.std.proofs.Common.{rules}
use Rattle.std.proofs.lemmas.Int.{wraps}
use Rattle.segm.specs.BooleanKind.{same_counts}
use Rattle.segm.proofs.boolean_count.ShapeCountBooleanWindingCount.invert.Goals as goal

pub returns : goal.returns
returns c = same_counts _ _ (search (rules, wraps)) (search (rules, wraps))
