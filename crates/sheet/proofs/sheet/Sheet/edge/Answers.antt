-- Reading changes nothing.
use Rattle.std.proofs.Common.{refl}
use Rattle.sheet.specs.Models.{page_of}
use Rattle.sheet.proofs.Fields.{held_of}
use Rattle.sheet.proofs.Reading.{edge_read}
use Rattle.sheet.proofs.sheet.Sheet.edge.Goals as goal

pub returns : goal.returns
returns g c = λ u.
    let s = c.args.self.now in
    (held_of g.C.WindingCount.kind s s.edges.sound s.spare.sound, (refl, rw c.ok_or.ensures.value (edge_read c.args.i (page_of s) c.get.result c.get.ensures)))
