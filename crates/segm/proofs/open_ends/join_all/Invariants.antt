-- What the loop keeps: what is held has grown by the balance of the segments passed.
use Rattle.std.proofs.Common.{◌*◌, take}
use Rattle.table.specs.Tables.{content_of}
use Rattle.segm.specs.Balance.{balance}
use Rattle.segm.specs.Held.{Grown}
use Rattle.segm.proofs.open_ends.join_all.Given as goal

abbrev pub invariant-loop-s : goal.invariant-loop-s
invariant-loop-s g l = Grown g.C.WindingCount.kind (λ p. balance g.C.WindingCount.kind p (take l.s-index l.segments)) (2 * l.s-index) (content_of l.initial.corners) (content_of l.corners)
