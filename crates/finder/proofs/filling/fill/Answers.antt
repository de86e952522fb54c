use Rattle.std.proofs.Common.{◌≡◌, map, length, Ok, Err, sym, refl, ap, ◌∙◌, arith}
use Rattle.std.proofs.lemmas.List.{length-map, take_all}
use Rattle.std.proofs.lemmas.Result.{err_from_is_err_and}
use Rattle.finder.specs.Finders.{Meaning, box_of}
use Rattle.finder.specs.Filling.{filling, Filled}
use Rattle.finder.proofs.Showing.{edge_at_map, filled_at, shown_ok, shown_err, by_need}
use Rattle.finder.proofs.filling.fill.Goals as goal

pub loop-edge-preserved : goal.loop-edge-preserved
loop-edge-preserved g c =
    let F = g.F.Finder in
    let edge = g.E.EdgeRecord.edge in
    let xs = c.args.edges.now in
    let m = F.meaning c.start.new.self in
    let i = c.loop-edge.edge-index in
    let size = length-map xs edge in
    let x = c.edge-item.result in
    shown_ok F.need m.capacity m.box (map edge xs) i (edge x) (F.meaning c.loop-edge.finder) (F.meaning c.show_edge.new.finder) c.show_edge.result
    (omega (arith, size, c.loop-edge-test.true)) (edge_at_map edge xs i x c.loop-edge-test.true c.edge-item.is) c.loop-edge.invariant.0 c.loop-edge.invariant.1
    c.show_edge.ensures.answers c.show_edge.ensures.leaves c.in_ok-show_edge.was

pub returns-in_err-show_edge : goal.returns-in_err-show_edge
returns-in_err-show_edge g c =
    let F = g.F.Finder in
    let edge = g.E.EdgeRecord.edge in
    let xs = c.args.edges.now in
    let m = F.meaning c.start.new.self in
    let m' = F.meaning c.show_edge.new.finder in
    let i = c.loop-edge.edge-index in
    let size = length-map xs edge in
    let x = c.edge-item.result in
    let f = c.in_err-show_edge.field-0.0 in
    let p = err_from_is_err_and c.from_residual.result c.from_residual.ensures.1 in
    let refused = shown_err F.need m.capacity m.box (map edge xs) i (edge x) (F.meaning c.loop-edge.finder) m' c.show_edge.result
    (omega (arith, size, c.loop-edge-test.true)) (edge_at_map edge xs i x c.loop-edge-test.true c.edge-item.is) c.loop-edge.invariant.0 c.loop-edge.invariant.1
    c.show_edge.ensures.answers c.show_edge.ensures.leaves f c.in_err-show_edge.was in
    let filled = filled_at F.need m.capacity (F.meaning c.args.finder.now).capacity m.box (box_of c.args.extent) (map edge xs) m' (Err f) c.from_residual.result
    (ap (λ (z : Meaning). z.capacity) c.start.ensures) (ap (λ (z : Meaning). z.box) c.start.ensures) (sym (p.1 ∙ ap Err p.2)) refused in
    record { filled = filled; by_need = λ s. by_need F.need (F.meaning c.args.finder.now).capacity (box_of c.args.extent) (map edge xs) s m' c.from_residual.result filled }

pub returns : goal.returns
returns g c =
    let F = g.F.Finder in
    let edge = g.E.EdgeRecord.edge in
    let xs = c.args.edges.now in
    let es = map edge xs in
    let m = F.meaning c.start.new.self in
    let m' = F.meaning c.loop-edge.finder in
    let size = length-map xs edge in
    let shown : m' ≡ filling m.box (length es) es m.capacity = c.loop-edge.invariant.0 ∙ ap (λ ys. filling m.box (length es) ys m.capacity) (take_all c.loop-edge.edge-index es (omega (arith, size, c.loop-edge-test.false))) in
    let all : Filled F.need m.capacity m.box es m' (Ok tt) = (shown, λ j h. c.loop-edge.invariant.1 j (omega (arith, h, size, c.loop-edge-test.false))) in
    let filled = filled_at F.need m.capacity (F.meaning c.args.finder.now).capacity m.box (box_of c.args.extent) es m' (Ok tt) (Ok tt)
    (ap (λ (z : Meaning). z.capacity) c.start.ensures) (ap (λ (z : Meaning). z.box) c.start.ensures) refl all in
    record { filled = filled; by_need = λ s. by_need F.need (F.meaning c.args.finder.now).capacity (box_of c.args.extent) es s m' (Ok tt) filled }
