use Rattle.std.proofs.Common.{w64, SFits}
use Rattle.std.proofs.lemmas.Int.{to_z-of_z}
use Rattle.plane.specs.Models.{edge_of}
use Rattle.plane.proofs.Taken.{denom_some}
use Rattle.plane.proofs.pair.Pair.part.Goals as goal

pub invariant_of-result : goal.invariant_of-result
invariant_of-result c =
    let fn : SFits w64 c.numerator.result = record { sfits = c.numerator.type_inv } in
    let fd : SFits w64 c.denominator.result = record { sfits = c.denominator.type_inv } in
    record {
      n_small = simp to_z-of_z c.numerator.ensures.size;
      d_small = simp to_z-of_z c.denominator.ensures.size;
      d_nonzero = simp to_z-of_z (denom_some (edge_of c.args.self.target.now) (edge_of c.args.self.other.now) _ c.denominator.ensures.value c.requires);
    }
