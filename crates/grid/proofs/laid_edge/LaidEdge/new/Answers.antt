use Rattle.std.proofs.Common.{◌≡◌, ◌<◌, ◌≤◌, pos, ◌-ℤ◌, ◌<ℤ◌, sym, ◌∙◌, arith, w32, SFits}
use borrow.Author.Differences.{ints}
use Rattle.std.proofs.lemmas.Int.{to_z-of_z}
use Rattle.plane.specs.Models.{edge_of}
use Rattle.plane.proofs.Points.{weaken, le_x}
use Rattle.grid.specs.Layouts.{column}
use Rattle.grid.specs.Rectangles.{first_column, last_column}
use Rattle.grid.specs.Models.{layout_of}
use Rattle.grid.proofs.Holds.{upright_column, slanted_column}
use Rattle.grid.proofs.Placing.{columns_ordered}
use Rattle.grid.proofs.Sizes.{segment_proper, coordinate_fits}
use Rattle.grid.proofs.laid_edge.LaidEdge.new.Goals as goal
use Rattle.grid.proofs.laid_edge.LaidEdge.new.Goals.{then-s, else-s}

pub invariant_of-result : goal.invariant_of-result
invariant_of-result c =
    let s = c.args.s in
    let l = layout_of c.args.layout in
    let fa = coordinate_fits s.a.x s.a.wide in
    let fb = coordinate_fits s.b.x s.b.wide in
    let first : c.index-first.result ≡ first_column l (edge_of s) = simp to_z-of_z at c.index-first.ensures in
    let last : c.if-s.last ≡ last_column l (edge_of s) =
    elim c.if-s.branch [
      | then-s w ↦ w.last-is ∙ first ∙ sym (upright_column l (edge_of s) (omega (arith, ints, w.if-s.true)))
      | else-s w ↦
          let p = le_x (weaken (segment_proper s)) in
          let h : s.a.x <ℤ s.b.x = omega (arith, ints, w.if-s.false) in
          let f : SFits w32 (s.b.x -ℤ pos 1) = omega (arith, ints) in
          let i : w.index-last.result ≡ column l (s.b.x -ℤ pos 1) = simp to_z-of_z at w.index-last.ensures in
          w.last-is ∙ i ∙ sym (slanted_column l (edge_of s) h)
    ] in
    let few : c.if-s.last < 128 = omega (arith, c.requires.few) in
    let ordered : c.index-first.result ≤ c.if-s.last = omega (arith, columns_ordered l (edge_of s) (segment_proper s) c.requires.begins) in
    record { begins = c.requires.begins; starts = first; ends = last; few = few; ordered = ordered }
