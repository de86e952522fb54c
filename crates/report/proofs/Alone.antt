-- The crossing of an edge with itself.
use Rattle.std.proofs.Common.{◌≡◌, false, [], ◌++◌, ap, ◌∙◌}
use Rattle.std.proofs.lemmas.Bool.{and_left, and_right, or_from}
use Rattle.plane.specs.Edges.{Edge, smaller?, between?}
use Rattle.plane.specs.Rules.{Marking, listed, overlaid}
use Rattle.plane.proofs.Markings.{marking_aligned}
use Rattle.plane.proofs.MetMarks.{self_four, marked_straight}
use Rattle.drawing.proofs.Lines.{not_before_itself}
use Rattle.report.specs.Marks.{Alone}

not_smaller_itself : (e : Edge) → smaller? e e ≡ false
not_smaller_itself e = or_from _ _ (not_before_itself e.a) (and_right _ _ (not_before_itself e.b))

none_overlaid : (e : Edge) → (overlaid e e).target ≡ []
unfolding overlaid
none_overlaid e =
    let first : between? e e.a ≡ false = and_left _ _ (not_before_itself e.a) in
    let second : between? e e.b ≡ false = and_right _ _ (not_before_itself e.b) in
    λ k. listed (first k) e.a ++ listed (second k) e.b

exact_overlaid : (e : Edge) → (overlaid e e).rounded ≡ false
unfolding overlaid
exact_overlaid e = λ k. false

pub alone : Alone
alone s e =
    let on = marked_straight e e s (not_smaller_itself e) in
    let here = marking_aligned e e s (self_four e) in
    (on.0 ∙ ap (λ (m : Marking). m.target) here ∙ none_overlaid e, on.1 ∙ ap (λ (m : Marking). m.rounded) here ∙ exact_overlaid e)
