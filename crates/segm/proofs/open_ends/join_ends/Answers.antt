-- What the two corners of a segment add.
use Rattle.std.proofs.Common.{arith}
use Rattle.table.specs.Tables.{content_of}
use Rattle.segm.specs.Balance.{brings}
use Rattle.segm.specs.Held.{counts_at}
use Rattle.segm.proofs.Growing.{crowded_more, grows_failed, grows_then, both_ends}
use Rattle.segm.proofs.open_ends.join_ends.Goals as goal

pub returns-in_err-join_corner : goal.returns-in_err-join_corner
returns-in_err-join_corner g c =
    let K = g.C.WindingCount.kind in
    grows_failed K (λ p. brings K p c.args.s) 2 (content_of c.args.corners.now) (content_of c.join_corner.new.corners) c.from_residual.result c.from_residual.ensures.0
    (crowded_more K 1 2 (content_of c.args.corners.now) (omega arith) c.in_err-join_corner.ensures)

pub returns : goal.returns
returns g c =
    let K = g.C.WindingCount.kind in
    let second = c.second_end.result in
    let first = c.first_end.result in
    grows_then K (λ p. counts_at K p second) (λ p. counts_at K p first) (λ p. brings K p c.args.s) 1 1 2
    (content_of c.args.corners.now) (content_of c.join_corner.new.corners)
    (both_ends K c.args.s second first c.second_end.ensures c.first_end.ensures) (omega arith)
    (content_of c.join_corner-2.new.corners) c.join_corner-2.result c.in_ok-join_corner.ensures c.join_corner-2.ensures
