-- The table over the slice, and the slice when it ends.
use Rattle.std.proofs.Common.{rules}
use Rattle.table.specs.Tables.{content_of}
use Rattle.rounds.specs.Pieces.{cut_from}
use Rattle.cutting.proofs.Slices.{slice_pieced, slice_refused}
use Rattle.cutting.proofs.pieces.cut_edges.Goals as goal

pub returns-clause-pieces : goal.returns-clause-pieces
returns-clause-pieces g c = λ ordered ps p.
    let K = g.C.WindingCount.kind in
    let t = content_of c.cut_into.new.list in
    slice_pieced K (cut_from K 0 c.args.marks.now c.args.edges.now) ps c.args.room c.args.list.now p (content_of c.open-table.result) t c.open-table.ensures.content
    c.in_ok-cut_into.field-0 _ c.len.result (c.in_ok-cut_into.ensures.pieces ordered) c.cut_into.new.list.sound (search rules) c.len.ensures

pub returns-in_err-cut_into-clause-pieces : goal.returns-in_err-cut_into-clause-pieces
returns-in_err-cut_into-clause-pieces g c = λ ordered ps p.
    let K = g.C.WindingCount.kind in
    slice_refused K (cut_from K 0 c.args.marks.now c.args.edges.now) ps c.args.room c.args.list.now p (content_of c.open-table.result) (content_of c.cut_into.new.list) c.open-table.ensures.content
    (Unit {0}) c.in_err-cut_into.field-0.0 c.from_residual.result _ (c.in_err-cut_into.ensures.pieces ordered) c.from_residual.ensures.1
