-- Reading changes nothing.
use Rattle.std.proofs.Common.{refl}
use Rattle.sheet.proofs.Fields.{held_of}
use Rattle.sheet.proofs.sheet.Sheet.number_of_edges.Goals as goal

pub returns : goal.returns
returns g c = λ u.
    let s = c.args.self.now in
    (held_of g.C.WindingCount.kind s s.edges.sound s.spare.sound, (refl, c.len.ensures))
