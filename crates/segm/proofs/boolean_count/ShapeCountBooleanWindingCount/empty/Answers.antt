-- The neutral count has two zeros.
use Rattle.std.proofs.Common.{sym}
use Rattle.segm.specs.BooleanKind.{same_counts, wrapped_zero}
use Rattle.segm.proofs.boolean_count.ShapeCountBooleanWindingCount.empty.Goals as goal

pub returns : goal.returns
returns c = same_counts _ _ (sym wrapped_zero) (sym wrapped_zero)
