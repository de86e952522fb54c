-- A turned segment brings what it brought.
use Rattle.std.proofs.Common.{◌≡◌, ap, ◌∙◌}
use Rattle.segm.specs.Balance.{brings}
use Rattle.segm.specs.Segments.{turned_of}
use Rattle.segm.proofs.Brings.{brings_turned}
use Rattle.segm.proofs.segment.Segment.turned.Goals as goal

pub returns : goal.returns
returns g c =
    let K = g.C.WindingCount.kind in
    let s = c.args.self in
    let e : record { a = s.b; b = s.a; count = c.invert.result } ≡ turned_of K s = λ i. record { a = s.b; b = s.a; count = c.invert.ensures i } in
    record { ends = e; balance = λ p. ap (brings K p) e ∙ brings_turned K p s }
