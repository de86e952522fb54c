use Rattle.std.proofs.Common.{◌≡◌, ℕ, is_ok, Ok, Err, Result, sym, refl, ap, ◌∙◌, subst, rules}
use Rattle.std.proofs.lemmas.Bool.{both_ways}
use Rattle.drawing.specs.declared.fault.DrawingFault.TheVariants.{Line}
use Rattle.drawing.specs.declared.reason.Reason.{Reason}
use Rattle.drawing.specs.Drawings.{Tells, with_edges, edges_from, lines, drawing_from, drawing_of}
use Rattle.drawing.specs.Fields.{Cuts}
use Rattle.drawing.specs.Lines.{head_line}
use Rattle.drawing.proofs.Drawings.{drawing_is}
use Rattle.drawing.proofs.Whole.{drawing_only}
use Rattle.drawing.proofs.reader.read_drawing.Goals as goal
use Rattle.drawing.proofs.reader.read_drawing.Goals.{In_ok-head}

-- what the text says, by its first line and the rest
whole : (c : In_ok-head) → with_edges (head_line c.in_ok-head.head.now) (edges_from 2 (lines c.in_ok-head.rest.now)) ≡ drawing_of c.args.text.now
whole c =
    let cut = subst (Cuts 10 c.args.text.now) c.in_ok-head.ensures.ok_part c.cut_at.ensures in
    sym (ap drawing_from cut.0 ∙ drawing_is c.in_ok-head.head.now c.in_ok-head.rest.now)

pub returns-in_err-head-clause-written : goal.returns-in_err-head-clause-written
returns-in_err-head-clause-written c = drawing_only c.args.text.now c.from_residual.result (search rules)

pub returns-in_err-exponent : goal.returns-in_err-exponent
returns-in_err-exponent c = record { said = said; written = drawing_only c.args.text.now c.from_residual-in_err-exponent.result said }
  where
    by : (r : Result ℕ Reason) → c.read_head.result ≡ r → Tells c.from_residual-in_err-exponent.result (drawing_of c.args.text.now)
    by (Ok e) is = absurd (both_ways _ (ap is_ok c.in_err-exponent.was) (c.map_err.ensures.variant ∙ ap is_ok is))
    by (Err f) is =
        let gone : c.from_residual-in_err-exponent.result ≡ Err (Line 1 f) = search rules in
        let head : Err f ≡ head_line c.in_ok-head.head.now = sym is ∙ c.read_head.ensures.said in
        subst (λ r. Tells r (drawing_of c.args.text.now)) (sym gone)
        (sym (whole (goal.at.returns-in_err-exponent c).In_ok-head) ∙ ap (λ x. with_edges x (edges_from 2 (lines c.in_ok-head.rest.now))) (sym head))

    said : Tells c.from_residual-in_err-exponent.result (drawing_of c.args.text.now)
    said = by c.read_head.result refl

pub returns : goal.returns
returns c =
    let head : Ok c.in_ok-exponent.exponent ≡ head_line c.in_ok-head.head.now = search rules in
    let all = ap (λ x. with_edges x (edges_from 2 (lines c.in_ok-head.rest.now))) head ∙ whole (goal.at.returns c).In_ok-head in
    let said = subst (Tells c.read_edges.result) all c.read_edges.ensures in
    record { said = said; written = drawing_only c.args.text.now c.read_edges.result said }
