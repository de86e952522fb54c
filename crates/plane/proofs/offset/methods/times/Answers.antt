use Rattle.std.proofs.lemmas.Int.{to_z-of_z}
use Rattle.plane.proofs.Fits.{times64, sized}
use Rattle.plane.proofs.offset.methods.times.Goals as goal

pub returns : goal.returns
returns c =
    let fa = c.ranges.a in
    let fb = c.ranges.b in
    let f = times64 c.args.a c.args.b c.requires.a_bound c.requires.b_bound in
    record { value = simp to_z-of_z; size = simp to_z-of_z (sized c.args.a c.args.b c.requires.a_bound) }
