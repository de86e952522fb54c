use Rattle.std.proofs.Common.{◌≡◌, ℕ, ◌<◌, ◌≤◌, map, length, sym, ap, ◌∙◌, arith}
use Rattle.std.specs.List.{range_with_len}
use Rattle.std.proofs.lemmas.List.{take_all}
use Rattle.plane.specs.Models.{edge_of}
use Rattle.grid.specs.Rectangles.{first_column, fragments}
use Rattle.grid.specs.Models.{layout_of}
use Rattle.grid.specs.Tables.{contents, laid_in, laid_one}
use Rattle.grid.proofs.Laid.{laid_more}
use Rattle.grid.proofs.laid_edge.LaidEdge.lay.Goals as goal

pub loop-k-preserved : goal.loop-k-preserved
loop-k-preserved c =
    let h : c.loop-k.k < length c.loop-k.places = omega (arith, c.loop-k.auto.places, c.loop-k-test.true) in
    laid_more c.loop-k.places c.fragment.result c.loop-k.k c.args.self.first (laid_in (layout_of c.args.self.layout) c.args.index (edge_of c.args.self.s)) h c.fragment.ensures c.loop-k.invariant

pub returns : goal.returns
unfolding laid_one
returns c =
    let t = c.args.self in
    let l = layout_of t.layout in
    let f = laid_in l c.args.index (edge_of t.s) in
    let n : length c.loop-k.places ≤ c.loop-k.k = omega (arith, c.loop-k-test.false, c.loop-k.auto.places) in
    let m : c.loop-k.k ≡ fragments l (edge_of t.s) = omega (arith, c.loop-k-test.false, c.loop-k.auto.k-end, c.requires) in
    ap contents (sym (take_all c.loop-k.k c.loop-k.places n)) ∙ c.loop-k.invariant
    ∙ ap (λ (n : ℕ). map f (range_with_len n c.loop-k.k)) t.starts ∙ ap (λ (n : ℕ). map f (range_with_len (first_column l (edge_of t.s)) n)) m
