-- The test of the bits tells whether a number is 0.
use Rattle.std.proofs.Common.{arith}
use Rattle.segm.proofs.Booleans.{zero_bits}
use Rattle.segm.proofs.boolean_count.ShapeCountBooleanWindingCount.is_not_empty.Goals as goal

pub returns-then-self-ne0 : goal.returns-then-self-ne0
returns-then-self-ne0 c =
    let e = zero_bits c.args.self.subj c.args.self.subj_fits in
    grind arith

pub returns-else-self-ne0 : goal.returns-else-self-ne0
returns-else-self-ne0 c =
    let e = zero_bits c.args.self.subj c.args.self.subj_fits in
    let f = zero_bits c.args.self.clip c.args.self.clip_fits in
    grind arith
