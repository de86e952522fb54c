use Rattle.std.proofs.Common.{w64, SFits}
use Rattle.std.proofs.lemmas.Int.{to_z-of_z}
use Rattle.plane.specs.Models.{edge_of}
use Rattle.plane.proofs.Taken.{denom_by}
use Rattle.plane.proofs.pair.Pair.denominator.Goals as goal

pub returns-clause-value : goal.returns-clause-value
returns-clause-value c =
    let f : SFits w64 c.cross_product.result = record { sfits = c.cross_product.type_inv } in
    simp to_z-of_z (denom_by (edge_of c.args.self.target.now) (edge_of c.args.self.other.now) _ _ _ _ _ c.cross_product.ensures.value
    c.between.ensures.x c.between.ensures.y c.between-2.ensures.x c.between-2.ensures.y)
