use Rattle.std.proofs.Common.{◌≡◌, ℕ, true, List, ◌∷◌, is_some, Some, None, Err, Option, sym, ap, ◌∙◌, subst, Bor}
use Rattle.drawing.specs.declared.number.NumberFault.TheVariants.{Form}
use Rattle.drawing.specs.Fields.{fields, Cuts}
use Rattle.drawing.specs.Lines.{two_points}
use Rattle.drawing.proofs.Lines.{points_more}
use Rattle.drawing.proofs.line.read_points.Goals as goal

fifth : (a b c d : List ℕ) (o : Option (Bor (List ℕ) × Bor (List ℕ))) → Cuts 9 d o → true ≡ is_some o → two_points (a ∷ b ∷ c ∷ fields 9 d) ≡ Err Form
fifth a b c d None cut some = cc
fifth a b c d (Some x) cut some = ap (λ l. two_points (a ∷ b ∷ c ∷ l)) cut.0 ∙ points_more a b c x.0.now x.1.now

pub returns-then-is_some : goal.returns-then-is_some
returns-then-is_some c =
    let px = c.in_ok-px.px.now in
    let py = c.in_ok-py.py.now in
    let qx = c.in_ok-qx.qx.now in
    let first = subst (Cuts 9 c.args.line.now) c.in_ok-px.ensures.ok_part c.cut_at.ensures in
    let second = subst (Cuts 9 c.in_ok-px.rest.now) c.in_ok-py.ensures.ok_part c.cut_at-2.ensures in
    let third = subst (Cuts 9 c.in_ok-py.rest.now) c.in_ok-qx.ensures.ok_part c.cut_at-3.ensures in
    sym (ap two_points (first.0 ∙ ap (λ l. px ∷ l) (second.0 ∙ ap (λ l. py ∷ l) third.0)) ∙ fifth px py qx c.in_ok-qx.qy.now _ c.cut_at-4.ensures c.if-is_some.ensures)
