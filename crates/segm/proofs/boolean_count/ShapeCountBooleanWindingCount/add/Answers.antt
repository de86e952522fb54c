-- A sum of bits is the sum around the range.
use Rattle.std.proofs.Common.{w32, SFits, rules}
use Rattle.std.proofs.lemmas.Int.{wrapping_add_is}
use Rattle.segm.specs.BooleanKind.{same_counts}
use Rattle.segm.proofs.boolean_count.ShapeCountBooleanWindingCount.add.Goals as goal

pub returns : goal.returns
returns c =
    let a : SFits w32 c.args.self.subj = search rules in
    let b : SFits w32 c.args.count.subj = search rules in
    let d : SFits w32 c.args.self.clip = search rules in
    let e : SFits w32 c.args.count.clip = search rules in
    same_counts _ _ (wrapping_add_is w32 _ _ a b) (wrapping_add_is w32 _ _ d e)
