use Rattle.std.proofs.Common.{◌≡◌, ℕ, ◌+◌, ◌<◌, ◌≤◌, length, is_ok, refl, Ok, Err, Result, vec_items, sym, ap, ◌∙◌, subst, arith, rules}
use Rattle.std.proofs.lemmas.Bool.{both_ways}
use Rattle.drawing.specs.declared.drawn_edge.DrawnEdge.{DrawnEdge}
use Rattle.drawing.specs.declared.fault.DrawingFault.TheVariants.{Line}
use Rattle.drawing.specs.declared.reason.Reason.{Reason}
use Rattle.drawing.specs.declared.reason.Reason.TheVariants.{TooManyEdges}
use Rattle.drawing.specs.Drawings.{Tells, edges_from, lines, with_edges}
use Rattle.drawing.specs.Lines.{drawn_as, edge_line, read_as}
use Rattle.drawing.proofs.Drawings.{Sofar, full, one_more, refused}
use Rattle.drawing.proofs.reader.read_edges.Goals as goal
use Rattle.drawing.proofs.reader.read_edges.Goals.{In_ok-drawn}

-- what the line says
said_of : (c : In_ok-drawn) → Ok (drawn_as c.in_ok-drawn.drawn) ≡ edge_line c.in-Some.line.now
said_of c =
    let read : c.read_edge.result ≡ Ok c.in_ok-drawn.drawn = search rules in
    sym (ap read_as read) ∙ c.read_edge.ensures.said

pub returns-in_err-drawn : goal.returns-in_err-drawn
returns-in_err-drawn c = by c.read_edge.result refl
  where
    by : (r : Result DrawnEdge Reason) → c.read_edge.result ≡ r → Tells c.from_residual.result (with_edges (Ok c.args.exponent) (edges_from 2 (lines c.args.text.now)))
    by (Ok d) is = absurd (both_ways _ (ap is_ok c.in_err-drawn.was) (c.map_err.ensures.variant ∙ ap is_ok is))
    by (Err f) is =
        let gone : c.from_residual.result ≡ Err (Line (c.len.result + 2) f) = search rules in
        let long : length (vec_items c.loop-line.edges) ≡ c.len.result = omega (arith, c.loop-line.edges.ok.0) in
        let why = refused c.loop-line.invariant c.in-Some.line.now c.in-Some.after.now c.in-Some.ensures.0 f (sym (ap read_as is) ∙ c.read_edge.ensures.said) in
        subst (λ r. Tells r (with_edges (Ok c.args.exponent) (edges_from 2 (lines c.args.text.now)))) (sym gone)
        (ap (with_edges (Ok c.args.exponent)) (why ∙ ap (λ (k : ℕ). Err (k + 2, f)) long))

pub returns-then-len-ge-MOST_EDGES : goal.returns-then-len-ge-MOST_EDGES
returns-then-len-ge-MOST_EDGES c =
    let long : length (vec_items c.loop-line.edges) ≡ c.len.result = omega (arith, c.loop-line.edges.ok.0) in
    let none : 4096 ≤ length (vec_items c.loop-line.edges) = omega (arith, c.loop-line.edges.ok.0) in
    ap (with_edges (Ok c.args.exponent))
    (full c.loop-line.invariant c.in-Some.line.now c.in-Some.after.now c.in-Some.ensures.0 c.in_ok-drawn.drawn (said_of (goal.at.returns-then-len-ge-MOST_EDGES c).In_ok-drawn) none
    ∙ ap (λ (k : ℕ). Err (k + 2, TooManyEdges)) long)

pub loop-line-preserved : goal.loop-line-preserved
loop-line-preserved c =
    let room : length (vec_items c.loop-line.edges) < 4096 = omega (arith, c.loop-line.edges.ok.0) in
    subst (λ es. Sofar c.args.text.now es c.in-Some.after.now) (sym c.in_ok-push.ensures.items)
    (one_more c.loop-line.invariant c.in-Some.line.now c.in-Some.after.now c.in-Some.ensures.0 c.in_ok-drawn.drawn (said_of (goal.at.loop-line-preserved c).In_ok-drawn) room)
