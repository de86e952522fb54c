-- What one segment after another adds.
use Rattle.std.proofs.Common.{◌+◌, ◌*◌, length, take, refl, ap, arith}
use Rattle.std.proofs.lemmas.List.{take_all}
use Rattle.table.specs.Tables.{content_of}
use Rattle.segm.specs.Balance.{brings, balance}
use Rattle.segm.proofs.Growing.{grown_none, grown_as, grown_then, crowded_then, grows_failed, balance_more}
use Rattle.segm.proofs.open_ends.join_all.Goals as goal

pub loop-s-init : goal.loop-s-init
loop-s-init g c =
    let K = g.C.WindingCount.kind in
    grown_none K (λ p. balance K p (take 0 c.args.segments.now)) (2 * 0) (content_of c.args.corners.now) (λ p. refl)

pub loop-s-preserved : goal.loop-s-preserved
loop-s-preserved g c =
    let K = g.C.WindingCount.kind in
    let l = c.args.segments.now in
    let i = c.loop-s.s-index in
    let s = c.s-item.result in
    grown_then K (λ p. balance K p (take i l)) (λ p. brings K p s) (λ p. balance K p (take (i + 1) l)) (2 * i) 2 (2 * (i + 1))
    (content_of c.args.corners.now) (content_of c.loop-s.corners)
    (balance_more K l i s c.loop-s-test.true c.s-item.is) (omega arith)
    (content_of c.join_ends.new.corners) c.loop-s.invariant c.in_ok-join_ends.ensures

pub returns-in_err-join_ends : goal.returns-in_err-join_ends
returns-in_err-join_ends g c =
    let K = g.C.WindingCount.kind in
    let l = c.args.segments.now in
    let i = c.loop-s.s-index in
    let s = c.s-item.result in
    grows_failed K (λ p. balance K p l) (2 * length l) (content_of c.args.corners.now) (content_of c.join_ends.new.corners) c.from_residual.result c.from_residual.ensures.0
    (crowded_then K (λ p. balance K p (take i l)) (λ p. brings K p s) (λ p. balance K p (take (i + 1) l)) (2 * i) 2 (2 * length l)
    (content_of c.args.corners.now) (content_of c.loop-s.corners) (balance_more K l i s c.loop-s-test.true c.s-item.is) (omega (arith, c.loop-s-test.true))
    c.loop-s.invariant c.in_err-join_ends.ensures)

pub returns : goal.returns
returns g c =
    let K = g.C.WindingCount.kind in
    let l = c.args.segments.now in
    let i = c.loop-s.s-index in
    grown_as K (λ p. balance K p (take i l)) (λ p. balance K p l) (2 * i) (2 * length l) (content_of c.args.corners.now) (content_of c.loop-s.corners)
    (λ p. ap (balance K p) (take_all i l c.loop-s-test.false)) (omega (arith, c.loop-s.auto.s-index-end)) c.loop-s.invariant
