use Rattle.std.proofs.Common.{◌≡◌, ◌∙◌, w32, SFits, rules}
use Rattle.std.proofs.lemmas.Int.{to_z-of_z}
use Rattle.plane.specs.Models.{edge_of}
use Rattle.finder.specs.Finders.{box_of}
use Rattle.grid.specs.Rectangles.{spanned}
use Rattle.grid.specs.Models.{layout_of}
use Rattle.grid.proofs.Sizes.{rect_is}
use Rattle.grid.proofs.laid_edge.LaidEdge.rectangle.Goals as goal

pub returns : goal.returns
returns c =
    let t = c.args.self in
    let b = c.begin-min_x.result in
    let d = c.end-max_x.result in
    let fb : SFits w32 b.0 = search rules in
    let fd : SFits w32 d.0 = search rules in
    let s : box_of c.span.result ≡ spanned (edge_of t.s) b.0 d.0 b.1 d.1 = simp to_z-of_z at c.span.ensures in
    s
    ∙ rect_is (layout_of t.layout) c.args.column (edge_of t.s) t.first t.last b.0 d.0 b.1 d.1 t.starts t.ends
    c.begin-min_x.ensures.x c.end-max_x.ensures.x c.begin-min_x.ensures.height c.end-max_x.ensures.height
