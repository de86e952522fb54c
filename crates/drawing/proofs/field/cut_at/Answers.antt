use Rattle.std.proofs.Common.{◌≡◌, eqb, sym, ◌∙◌, arith, length-drop, subst, rules, tests}
use Rattle.std.specs.List.{position}
use Rattle.std.proofs.lemmas.List.{take_rest}
use Rattle.std.proofs.lemmas.Iterator.{YieldsList-from_slice}
use Rattle.std.proofs.lemmas.Iterator.Search.{position_from_yields_List}
use Rattle.drawing.specs.Fields.{Cuts}
use Rattle.drawing.proofs.Fields.{fields_found, fields_unfound}
use Rattle.drawing.proofs.field.cut_at.Goals as goal
use Rattle.drawing.proofs.field.cut_at.Goals.{After-position}

-- the place is the first that has the mark
place_of : (c : After-position) → c.position.result ≡ position (λ b. eqb b c.args.mark) c.args.text.now
place_of c = position_from_yields_List (λ b. eqb b c.args.mark) _ _ c.position.result c.position.ensures.ran (YieldsList-from_slice _ c.iter.ensures.rest) (λ x b q k. search (rules, tests))

pub returns-in_err-place : goal.returns-in_err-place
returns-in_err-place c =
    let none = fields_unfound c.args.mark c.args.text.now (sym (place_of (goal.at.returns-in_err-place c).After-position) ∙ c.in_err-place.was) in
    subst (Cuts c.args.mark c.args.text.now) (sym c.from_residual.ensures) none

pub returns : goal.returns
returns c =
    let found = fields_found c.args.mark c.args.text.now c.in_ok-place.place (sym (place_of (goal.at.returns c).After-position) ∙ c.in_ok-place.was) in
    (simp take_rest found.0, simp (take_rest, length-drop) (omega (arith, found.1)))
