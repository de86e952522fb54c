-- From an empty table to one that holds the balance, whose corners are the open points.
use Rattle.std.proofs.Common.{◌+◌, ◌*◌, length, sym, arith}
use Rattle.std.proofs.lemmas.Result.{MatchResult-from_err}
use Rattle.table.specs.Tables.{content_of}
use Rattle.segm.specs.Balance.{balance}
use Rattle.segm.proofs.Groups.{identity_left}
use Rattle.segm.proofs.Opening.{holds_none, open_held}
use Rattle.segm.proofs.open_ends.count_open.Goals as goal

pub returns-in_err-join_all : goal.returns-in_err-join_all
returns-in_err-join_all g c =
    let K = g.C.WindingCount.kind in
    let t = content_of c.empty_table-corners.result in
    let start = holds_none K t c.empty_table-corners.result.sound c.empty_table-corners.ensures.none in
    MatchResult-from_err c.from_residual.result _ _ c.from_residual.ensures.0
    (λ y. omega (arith, c.empty_table-corners.ensures.all, c.in_err-join_all.ensures (λ p. K.neutral) 0 t.room start))

pub returns : goal.returns
returns g c =
    let K = g.C.WindingCount.kind in
    let l = c.args.segments.now in
    let t = content_of c.empty_table-corners.result in
    let start = holds_none K t c.empty_table-corners.result.sound c.empty_table-corners.ensures.none in
    open_held K l (λ p. K.sum K.neutral (balance K p l)) (0 + 2 * length l) t.room c.len.result (content_of c.join_all.new.corners)
    (c.in_ok-join_all.ensures (λ p. K.neutral) 0 t.room start) (λ p. identity_left K (balance K p l)) (sym c.len.ensures)
