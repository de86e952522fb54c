use Rattle.std.proofs.Common.{◌≡◌, ℕ, true, false, not, eqb, List, [], ◌∷◌, Err, refl, sym, ap, ◌∙◌, subst, rules}
use lib.Pointwise.{pointwise}
use Rattle.std.proofs.lemmas.Slice.Eq.{slice_eq-Decides}
use Rattle.std.proofs.lemmas.Bool.{not-true, not-false}
use Rattle.std.proofs.lemmas.Bool.Decides.{not_from_Decides, Decides-eqb}
use Rattle.drawing.specs.declared.reason.Reason.TheVariants.{HeadForm}
use Rattle.drawing.specs.Fields.{Cuts}
use Rattle.drawing.specs.Numbers.{unsigned_of}
use Rattle.drawing.specs.Lines.{exponent_of, head_of, head_line}
use Rattle.drawing.proofs.Lines.{head_letter, head_other}
use Rattle.drawing.proofs.Texts.{head_only}
use Rattle.drawing.proofs.line.read_head.Goals as goal

-- the letter was compared with one that stands in the code
other_letter : (letter p : List ℕ) → true ≡ not (pointwise eqb letter p) → p ≡ 80 ∷ [] → letter ≡ 80 ∷ [] → ⊥
other_letter letter p e is same =
    not_from_Decides (pointwise eqb letter p) (slice_eq-Decides Decides-eqb letter p _ refl) (not-true _ (sym e)) (same ∙ sym is)

same_letter : (letter p : List ℕ) → false ≡ not (pointwise eqb letter p) → p ≡ 80 ∷ [] → letter ≡ 80 ∷ []
same_letter letter p e is = (slice_eq-Decides Decides-eqb letter p _ refl).0 (not-false _ (sym e)) ∙ is

pub returns-in_err-exponent-clause-written : goal.returns-in_err-exponent-clause-written
returns-in_err-exponent-clause-written c = head_only c.args.line.now c.from_residual.result (search rules)

pub returns-then-ne : goal.returns-then-ne
returns-then-ne c =
    let first = subst (Cuts 9 c.args.line.now) c.in_ok-exponent.ensures.ok_part c.cut_at.ensures in
    let other = other_letter _ _ c.if-ne.ensures c.as_slice.ensures in
    let said = sym (ap head_of first.0 ∙ head_other c.in_ok-exponent.exponent.now c.in_ok-exponent.letter.now other) in
    record { said = said; written = head_only c.args.line.now (Err HeadForm) said }

pub returns : goal.returns
returns c =
    let first = subst (Cuts 9 c.args.line.now) c.in_ok-exponent.ensures.ok_part c.cut_at.ensures in
    let letter = same_letter _ _ c.if-ne.ensures c.as_slice.ensures in
    let whole : head_line c.args.line.now ≡ exponent_of (unsigned_of c.in_ok-exponent.exponent.now) = ap head_of first.0 ∙ head_letter c.in_ok-exponent.exponent.now c.in_ok-exponent.letter.now letter in
    let said : c.map_err.result ≡ head_line c.args.line.now = search rules in
    record { said = said; written = head_only c.args.line.now c.map_err.result said }
