use Rattle.std.proofs.Common.{ℤ, sym, ◌∙◌, subst, w32, SFits}
use Rattle.grid.specs.Layouts.{border}
use Rattle.grid.specs.Models.{layout_of}
use Rattle.grid.proofs.Sizes.{crossing, between_fits, narrow, narrowed}
use Rattle.grid.proofs.laid_edge.LaidEdge.border.Goals as goal

fits : (c : goal.After-pos) → SFits w32 c.pos.result
fits c =
    let t = c.args.self in
    let w = crossing t c.args.i c.requires.after c.requires.until in
    subst (λ (z : ℤ). SFits w32 z) (sym c.pos.ensures) (between_fits t.s.a.x t.s.b.x (border (layout_of t.layout) c.args.i) t.s.a.wide t.s.b.wide w.from w.to)

pub overflow_cast-result : goal.overflow_cast-result
overflow_cast-result c = narrow c.pos.result (fits c)

pub returns : goal.returns
returns c = narrowed c.pos.result (fits c) ∙ c.pos.ensures
