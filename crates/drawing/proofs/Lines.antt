-- Laws of what a line says.
use Rattle.std.proofs.Common.{◌≡◌, ℕ, true, false, List, [], ◌∷◌, is_ok, Ok, Err, Result, sym, refl, ap, ◌∙◌, ⊎_elim, arith}
use Rattle.std.specs.Str.{bytes_eq}
use Rattle.std.proofs.lemmas.Slice.Eq.{bytes_eq-Decides}
use Rattle.std.proofs.lemmas.Int.{ints}
use Rattle.std.proofs.lemmas.Bool.{and_from, and_left, and_right, and_parts, cases_Bool, cond-true, cond-false, le-leb, leb-true, or_left, or_right, or_from}
use Rattle.plane.specs.Points.{Point, Ranged, before?}
use Rattle.plane.specs.Edges.{Edge}
use Rattle.plane.specs.Models.{MadeEdge, edge_of, edge_between}
use Rattle.plane.specs.declared.fault.Fault.{Fault}
use Rattle.plane.specs.declared.x_segment.XSegment.{XSegment}
use Rattle.drawing.specs.declared.drawn_edge.DrawnEdge.{DrawnEdge}
use Rattle.drawing.specs.declared.number.NumberFault.TheVariants.{Form}
use Rattle.drawing.specs.declared.reason.Reason.TheVariants.{HeadForm, CoordinateOutside, EndsEqual}
use Rattle.drawing.specs.Numbers.{unsigned_of}
use Rattle.drawing.specs.Fields.{fields}
use Rattle.drawing.specs.Lines.{exponent_of, head_of, two_points, ranged?, apart?, drawn_as, edge_from}
use Rattle.drawing.proofs.Fields.{fields_some, rejoined, rejoined_fields}

-- the letter is the second and last field
pub head_letter : (a b : List ℕ) → b ≡ 80 ∷ [] → head_of (a ∷ fields 9 b) ≡ exponent_of (unsigned_of a)
head_letter a b is = ap (λ l. head_of (a ∷ fields 9 l)) is

pub head_other : (a b : List ℕ) → (b ≡ 80 ∷ [] → ⊥) → head_of (a ∷ fields 9 b) ≡ Err HeadForm
head_other a b other = by (fields 9 b) (rejoined_fields 9 b)
  where
    by : (fs : List (List ℕ)) → rejoined 9 fs ≡ b → head_of (a ∷ fs) ≡ Err HeadForm
    by [] e = refl
    by (f ∷ []) e =
        ⊎_elim (λ same. absurd (other (sym e ∙ (bytes_eq-Decides f (80 ∷ [])).0 same)))
        (λ none. cond-false _ _ _ none)
        (cases_Bool (bytes_eq f (80 ∷ [])))
    by (f ∷ g ∷ fs) e = refl

-- five fields are too many
pub points_more : (a b c d bs : List ℕ) → two_points (a ∷ b ∷ c ∷ d ∷ fields 9 bs) ≡ Err Form
points_more a b c d bs = ap (λ l. two_points (a ∷ b ∷ c ∷ d ∷ l)) (fields_some 9 bs).2

pub ranged_is : (p : Point) → Ranged p → ranged? p ≡ true
ranged_is p r = and_from _ _ (le-leb _ _ r.wide) (le-leb _ _ r.high)

ranged_not : (p : Point) → (Ranged p → ⊥) → ranged? p ≡ false
ranged_not p none =
    ⊎_elim
    (λ is.
    let parts = and_parts _ _ is in
    absurd (none (record { wide = leb-true _ _ parts.0; high = leb-true _ _ parts.1 })))
    (λ e. e)
    (cases_Bool (ranged? p))

pub first_outside : (p q : Point) → (Ranged p → ⊥) → edge_from p q ≡ Err CoordinateOutside
first_outside p q none = cond-false _ _ _ (and_left _ _ (ranged_not p none))

pub second_outside : (p q : Point) → (Ranged q → ⊥) → edge_from p q ≡ Err CoordinateOutside
second_outside p q none = cond-false _ _ _ (and_right _ _ (ranged_not q none))

pub not_before_itself : (p : Point) → before? p p ≡ false
not_before_itself p = grind (arith, ints)

pub ends_same : (p q : Point) (r : Result XSegment Fault) → is_ok r ≡ false → MadeEdge p q r → p ≡ q
ends_same p q (Ok s) none made = cc
ends_same p q (Err f) none made = made.1

pub ends_equal : (p q : Point) → Ranged p → Ranged q → p ≡ q → edge_from p q ≡ Err EndsEqual
ends_equal p q in_p in_q e =
    cond-true _ _ _ (and_from _ _ (ranged_is p in_p) (ranged_is q in_q))
    ∙ cond-false _ _ _ (ap (apart? p) (sym e) ∙ or_from _ _ (not_before_itself p) (not_before_itself p))

pub edge_made : (p q : Point) (d : DrawnEdge) → Ranged p → Ranged q → edge_of d.edge ≡ edge_between p q → d.is_turned ≡ before? q p → edge_from p q ≡ Ok (drawn_as d)
edge_made p q d in_p in_q e turned =
    cond-true _ _ _ (and_from _ _ (ranged_is p in_p) (ranged_is q in_q))
    ∙ cond-true _ _ _ apart
    ∙ sym (λ i. Ok (record { edge = e i; turned = turned i }))
  where
    apart : apart? p q ≡ true
    apart =
        ⊎_elim (λ is. or_right _ _ is)
        (λ none.
        let whole : edge_of d.edge ≡ record { a = p; b = q } = e ∙ cond-false _ _ _ none in
        or_left _ _ (ap (λ (x : Edge). before? x.a x.b) (sym whole) ∙ d.edge.ordered))
        (cases_Bool (before? q p))
