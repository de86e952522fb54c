-- What one edge after another brings.
use Rattle.std.proofs.Common.{◌≡◌, ◌==◌, ◌∙◌, map, take, refl, arith}
use Rattle.std.proofs.lemmas.List.{take_all}
use Rattle.std.proofs.lemmas.List.Sums.{prefix_len-le-length}
use Rattle.table.specs.Tables.{content_of}
use Rattle.segm.specs.declared.line_mark.LineMark.{LineMark}
use Rattle.rounds.specs.Pieces.{cut_from}
use Rattle.cutting.specs.Cutting.{point_at}
use Rattle.cutting.proofs.Joining.{keeps_none, keeps_then, joined_none, joined_then, crowded_then, joins_failed, brings_joins}
use Rattle.cutting.proofs.MarkRows.{rows_none, rows_points, rows_more, cut_more, cut_fewer}
use Rattle.cutting.proofs.pieces.cut_into.Goals as goal

pub loop-i-init : goal.loop-i-init
loop-i-init g c = record { kept = keeps_none; joined = λ o. (rows_none c.args.marks.now o, joined_none); same = refl }

pub split_at_mut-row-requires : goal.split_at_mut-row-requires
split_at_mut-row-requires g c = omega (arith, c.marks_on-count.ensures, prefix_len-le-length (λ (m : LineMark). m.index == c.loop-i.i) c.loop-i.rest.now)

pub loop-i-preserved : goal.loop-i-preserved
loop-i-preserved g c =
    let K = g.C.WindingCount.kind in
    let ms = c.args.marks.now in
    let l = c.args.edges.now in
    let i = c.loop-i.i in
    let split = c.split_at_mut-row in
    let n = c.marks_on-count in
    let step = c.in_ok-cut_edge.ensures.joins in
    record {
      kept = keeps_then c.loop-i.invariant.kept step.kept;
      joined = λ o.
          let h = c.loop-i.invariant.joined o in
          let on = rows_points h.0 n.result n.ensures split.result.0.now split.ensures.front in (
            rows_more h.0 n.result n.ensures split.result.1.now split.ensures.back,
            joined_then h.1 step (cut_more K ms l i c.index-edges-i.result c.loop-i-test.true c.index-edges-i.is (map point_at split.result.0.now) on),
          );
      same = c.in_ok-cut_edge.ensures.same ∙ c.loop-i.invariant.same;
    }

pub returns-in_err-cut_edge : goal.returns-in_err-cut_edge
returns-in_err-cut_edge g c =
    let K = g.C.WindingCount.kind in
    let ms = c.args.marks.now in
    let l = c.args.edges.now in
    let i = c.loop-i.i in
    let split = c.split_at_mut-row in
    let n = c.marks_on-count in
    let step = c.in_err-cut_edge.ensures.joins in
    record {
      pieces = λ o.
          let h = c.loop-i.invariant.joined o in
          let on = rows_points h.0 n.result n.ensures split.result.0.now split.ensures.front in
          brings_joins (cut_from K 0 ms l) (content_of c.args.list.now) (content_of c.cut_edge.new.list) c.from_residual.result
          (joins_failed c.from_residual.result
          (crowded_then h.1 step (cut_fewer K ms l i c.index-edges-i.result c.loop-i-test.true c.index-edges-i.is (map point_at split.result.0.now) on))
          c.from_residual.ensures.1);
      kept = keeps_then c.loop-i.invariant.kept step.kept;
      same = c.in_err-cut_edge.ensures.same ∙ c.loop-i.invariant.same;
    }

pub returns : goal.returns
returns g c =
    let K = g.C.WindingCount.kind in
    let ms = c.args.marks.now in
    let l = c.args.edges.now in
    let i = c.loop-i.i in
    record {
      pieces = λ o ps p.
          let done : take i l ≡ l = take_all i l c.loop-i-test.false in
          let h = rw done at (c.loop-i.invariant.joined o).1 in
          (h.pieced ps p, h.kept.room, h.kept.long);
      kept = c.loop-i.invariant.kept;
      same = c.loop-i.invariant.same;
    }
