-- What is marked, by the way in which two edges meet.
use Rattle.std.proofs.Common.{◌≡◌, ℕ, ◌+◌, ◌<◌, ◌≤◌, min, Bool, true, false, cond, ◌&&◌, eqb, leb, List, ◌++◌, Option, ℤ, pos, sym, refl, ap, ◌∙◌, subst, arith}
use Rattle.algebra.proofs.Ring.{◌⊖◌, ◌⊗◌, ◌≐◌, k, ring₄}
use Rattle.plane.specs.Points.{Point, cross}
use Rattle.plane.specs.Edges.{Edge, direction, zero_of, same?, straight?, first, second, zeros, smaller?, between?}
use Rattle.plane.specs.Rounding.{taken, zero?, on_lines?, reach, gap, nearer}
use Rattle.plane.specs.Rules.{Marking, listed, nothing, on_both, on_target, on_other, overlaid, end_marked, snapped, inner_marked, marking, marked_on, rounded?}
use Rattle.std.specs.Bool.{then_some}
use Rattle.plane.specs.PointOf.{point_of}
use Rattle.plane.specs.Models.{point_if}
use Rattle.plane.specs.declared.int_point.IntPoint.{IntPoint}
use Rattle.plane.specs.Answers.{meeting, Tells, Answered}
use Rattle.plane.specs.declared.cross_solver.CrossType.{CrossType}
use Rattle.plane.specs.declared.cross_solver.CrossType.TheVariants as type
use Rattle.plane.specs.declared.meeting.Meeting.{Meeting}
use Rattle.plane.specs.declared.meeting.Meeting.TheVariants.{Aligned, Apart, OtherA, OtherB, TargetA, TargetB, Crossed}
use Rattle.plane.specs.declared.direction.Direction.{Direction}
use Rattle.plane.specs.declared.direction.Direction.TheVariants.{Straight}
use Rattle.plane.proofs.Turns.{zero_straight}
use Rattle.plane.proofs.Tests.{smaller_asym, not_smaller}
use Rattle.plane.proofs.Meetings.{Met, met}
use Rattle.plane.proofs.Markings.{marking_aligned, marking_off, marking_end, marking_inner}

-- ---- a rounded crossing, by the distances to the nearer ends
leb_yes : (m n : ℕ) → m ≤ n → leb m n ≡ true
leb_yes m n h = grind arith

leb_no : (m n : ℕ) → n < m → leb m n ≡ false
leb_no m n h = grind arith

by_gaps : (t o : Edge) (p : Point) (r g h m : ℕ) → g ≡ gap t p → h ≡ gap o p → m ≡ min g h
    → snapped t o p r ≡ cond (leb m r) (cond (leb g h) (on_other (nearer t p) true) (on_target (nearer o p) true)) (on_both p true)
unfolding snapped
by_gaps t o p r g h m i j e = rw (e, i, j)

pub snapped_free : (t o : Edge) (p : Point) (r g h m : ℕ) → g ≡ gap t p → h ≡ gap o p → m ≡ min g h → r < m → snapped t o p r ≡ on_both p true
snapped_free t o p r g h m i j e l = by_gaps t o p r g h m i j e ∙ rw (leb_no m r l)

pub snapped_target : (t o : Edge) (p q : Point) (r g h m : ℕ) → g ≡ gap t p → h ≡ gap o p → m ≡ min g h → m ≤ r → g ≤ h → q ≡ nearer t p → snapped t o p r ≡ on_other q true
snapped_target t o p q r g h m i j e l d n = by_gaps t o p r g h m i j e ∙ rw (leb_yes m r l, leb_yes g h d, n)

pub snapped_other : (t o : Edge) (p q : Point) (r g h m : ℕ) → g ≡ gap t p → h ≡ gap o p → m ≡ min g h → m ≤ r → h < g → q ≡ nearer o p → snapped t o p r ≡ on_target q true
snapped_other t o p q r g h m i j e l d n = by_gaps t o p r g h m i j e ∙ rw (leb_yes m r l, leb_no g h d, n)

-- ---- on both lines, by two directions
on_line : (e : Edge) (p : Point) (a : Bool) (d : Direction) → d ≡ direction (cross e.a e.b p) → a ≡ same? d Straight → zero? (cross e.a e.b p) ≡ a
on_line e p a d h g = zero_straight (cross e.a e.b p) ∙ ap straight? (sym h) ∙ sym g

pub on_lines_second : (t o : Edge) (p : Point) (a b : Bool) (c d : Direction) → c ≡ direction (cross t.a t.b p) → a ≡ same? c Straight → a ≡ true
    → d ≡ direction (cross o.a o.b p) → b ≡ same? d Straight → b ≡ on_lines? t o p
on_lines_second t o p a b c d ec ea h ed eb =
    sym (on_line o p b d ed eb) ∙ sym (ap (λ (z : Bool). z && zero? (cross o.a o.b p)) (on_line t p a c ec ea ∙ h))

pub on_lines_first : (t o : Edge) (p : Point) (a : Bool) (c : Direction) → c ≡ direction (cross t.a t.b p) → a ≡ same? c Straight → a ≡ false → a ≡ on_lines? t o p
on_lines_first t o p a c ec ea h = h ∙ sym (ap (λ (z : Bool). z && zero? (cross o.a o.b p)) (on_line t p a c ec ea ∙ h))

-- ---- an inner crossing, at the point taken
pub inner_exact : (t o : Edge) (s : ℕ) (p q : Point) → p ≡ q → on_lines? t o p ≡ true → inner_marked t o s q ≡ on_both p false
unfolding inner_marked
inner_exact t o s p q e h = subst (λ (z : Point). inner_marked t o s z ≡ on_both p false) e (ap (λ (b : Bool). cond b (on_both p false) (snapped t o p (reach s))) h)

pub inner_rounded : (t o : Edge) (s : ℕ) (p q : Point) → p ≡ q → on_lines? t o p ≡ false → inner_marked t o s q ≡ snapped t o p (reach s)
unfolding inner_marked
inner_rounded t o s p q e h = subst (λ (z : Point). inner_marked t o s z ≡ snapped t o p (reach s)) e (ap (λ (b : Bool). cond b (on_both p false) (snapped t o p (reach s))) h)

-- ---- by the way of meeting
abbrev pub MarksAt : Edge → Edge → ℕ → Meeting → Type 0
MarksAt t o s Aligned = (zeros t o ≡ 4) × (marking t o s ≡ overlaid t o)
MarksAt t o s Apart = (eqb (zeros t o) 4 ≡ false) × (marking t o s ≡ nothing)
MarksAt t o s OtherA = (eqb (zeros t o) 4 ≡ false) × (marking t o s ≡ on_target o.a false)
MarksAt t o s OtherB = (eqb (zeros t o) 4 ≡ false) × (marking t o s ≡ on_target o.b false)
MarksAt t o s TargetA = (eqb (zeros t o) 4 ≡ false) × (marking t o s ≡ on_other t.a false)
MarksAt t o s TargetB = (eqb (zeros t o) 4 ≡ false) × (marking t o s ≡ on_other t.b false)
MarksAt t o s Crossed = (eqb (zeros t o) 4 ≡ false) × (marking t o s ≡ inner_marked t o s (taken t o))

not_four : (n m : ℕ) → n ≡ m → eqb m 4 ≡ false → eqb n 4 ≡ false
not_four n m e h = ap (λ (z : ℕ). eqb z 4) e ∙ h

end_other_a : (t o : Edge) → zero? (first t o) ≡ true → end_marked t o ≡ on_target o.a false
unfolding end_marked
end_other_a t o h = rw h

end_other_b : (t o : Edge) → zero? (first t o) ≡ false → zero? (second t o) ≡ true → end_marked t o ≡ on_target o.b false
unfolding end_marked
end_other_b t o h i = rw (h, i)

end_target_a : (t o : Edge) → zero? (first t o) ≡ false → zero? (second t o) ≡ false → zero? (first o t) ≡ true → end_marked t o ≡ on_other t.a false
unfolding end_marked
end_target_a t o h i j = rw (h, i, j)

end_target_b : (t o : Edge) → zero? (first t o) ≡ false → zero? (second t o) ≡ false → zero? (first o t) ≡ false → end_marked t o ≡ on_other t.b false
unfolding end_marked
end_target_b t o h i j = rw (h, i, j)

marks_at : (t o : Edge) (s : ℕ) (m : Meeting) → Met t o m → MarksAt t o s m
marks_at t o s Aligned h = (h, marking_aligned t o s h)
marks_at t o s Apart h = (h.0, marking_off t o s h.0 h.1)
marks_at t o s OtherA h = (not_four _ 1 h.0.one refl, marking_end t o s h.0.one h.0.two_sided ∙ end_other_a t o h.1)
marks_at t o s OtherB h = (not_four _ 1 h.0.one refl, marking_end t o s h.0.one h.0.two_sided ∙ end_other_b t o h.1 h.2)
marks_at t o s TargetA h = (not_four _ 1 h.0.one refl, marking_end t o s h.0.one h.0.two_sided ∙ end_target_a t o h.1 h.2 h.3)
marks_at t o s TargetB h = (not_four _ 1 h.0.one refl, marking_end t o s h.0.one h.0.two_sided ∙ end_target_b t o h.1 h.2 h.3)
marks_at t o s Crossed h = (not_four _ 0 h.none refl, marking_inner t o s h)

pub met_marks : (t o : Edge) (s : ℕ) (m : Meeting) → m ≡ meeting t o → MarksAt t o s m
met_marks t o s m e = marks_at t o s m (subst (Met t o) (sym e) (met t o))

pub met_as : (t o : Edge) (m : Meeting) → m ≡ meeting t o → Met t o m
met_as t o m e = subst (Met t o) (sym e) (met t o)

-- the answer for an inner crossing
pub answered : (t o : Edge) (s : ℕ) (p : Point) (r : Bool) (c : CrossType) (m : Marking) → eqb (zeros t o) 4 ≡ false → marking t o s ≡ m → Tells p r c m → Answered t o s p r c
answered t o s p r type.Pure m z e h = (z, e ∙ h)
answered t o s p r type.TargetEnd m z e h = (z, e ∙ h)
answered t o s p r type.OtherEnd m z e h = (z, e ∙ h)
answered t o s p r type.Overlay m z e h = absurd h

-- the marks of edges on one line, by four tests
-- the points of a test each
pub listed_if : (l : List Point) (p q : Option IntPoint) (a b : Bool) (u v : IntPoint) → l ≡ point_if p ++ point_if q
    → p ≡ then_some a u → q ≡ then_some b v → l ≡ listed a (point_of u) ++ listed b (point_of v)
listed_if l p q a b u v e f g = e ∙ rw (f, g) (go a b)
  where
    go : (a b : Bool) → point_if (then_some a u) ++ point_if (then_some b v) ≡ listed a (point_of u) ++ listed b (point_of v)
    go true true = refl
    go true false = refl
    go false true = refl
    go false false = refl

pub overlay_marks : (t o : Edge) (s : ℕ) (on_t on_o : List Point) (r ta tb oa ob : Bool) → zeros t o ≡ 4 → r ≡ false
    → on_t ≡ listed oa o.a ++ listed ob o.b → on_o ≡ listed ta t.a ++ listed tb t.b
    → ta ≡ between? o t.a → tb ≡ between? o t.b → oa ≡ between? t o.a → ob ≡ between? t o.b
    → (on_t ≡ (marking t o s).target) × (on_o ≡ (marking t o s).other) × (r ≡ (marking t o s).rounded)
unfolding overlaid
overlay_marks t o s on_t on_o r ta tb oa ob z f et eo a b c d =
    let m = marking_aligned t o s z in (
      et ∙ both oa ob o.a o.b _ _ c d ∙ sym (ap (λ (k : Marking). k.target) m),
      eo ∙ both ta tb t.a t.b _ _ a b ∙ sym (ap (λ (k : Marking). k.other) m),
      f ∙ sym (ap (λ (k : Marking). k.rounded) m),
    )
  where
    both : (i j : Bool) (p q : Point) (i' j' : Bool) → i ≡ i' → j ≡ j' → listed i p ++ listed j q ≡ listed i' p ++ listed j' q
    both i j p q i' j' e g = rw (e, g)

-- ---- an edge and itself
self_first : (p q : Point) → cross p q p ≡ pos 0
self_first p q = ring₄ (λ px py qx qy. (qx ⊖ px) ⊗ (py ⊖ py) ⊖ (qy ⊖ py) ⊗ (px ⊖ px) ≐ k (pos 0)) tt p.x p.y q.x q.y

self_second : (p q : Point) → cross p q q ≡ pos 0
self_second p q = ring₄ (λ px py qx qy. (qx ⊖ px) ⊗ (qy ⊖ py) ⊖ (qy ⊖ py) ⊗ (qx ⊖ px) ≐ k (pos 0)) tt p.x p.y q.x q.y

pub self_four : (e : Edge) → zeros e e ≡ 4
self_four e = go (first e e) (second e e) (self_first e.a e.b) (self_second e.a e.b)
  where
    go : (x y : ℤ) → x ≡ pos 0 → y ≡ pos 0 → zero_of (direction x) + zero_of (direction y) + (zero_of (direction x) + zero_of (direction y)) ≡ 4
    go x y p q = rw (p, q)

pub self_marks : (e g : Edge) (s : ℕ) → e ≡ g → (marking e g s).other ≡ (marking g e s).target
unfolding overlaid
self_marks e g s q = subst (λ (z : Edge). (marking e z s).other ≡ (marking z e s).target) q (ap (λ (m : Marking). m.other) here ∙ sym (ap (λ (m : Marking). m.target) here))
  where
    here : marking e e s ≡ overlaid e e
    here = marking_aligned e e s (self_four e)

-- ---- the marks of a pair, the smaller edge being the target
pub marked_turned : (e g : Edge) (s : ℕ) → smaller? g e ≡ true → (marked_on e g s ≡ (marking g e s).other) × (rounded? e g s ≡ (marking g e s).rounded)
unfolding marked_on rounded?
marked_turned e g s h = (ap (λ (b : Bool). cond b (marking g e s).other (marking e g s).target) h, ap (λ (b : Bool). cond b (marking g e s).rounded (marking e g s).rounded) h)

pub marked_straight : (e g : Edge) (s : ℕ) → smaller? g e ≡ false → (marked_on e g s ≡ (marking e g s).target) × (rounded? e g s ≡ (marking e g s).rounded)
unfolding marked_on rounded?
marked_straight e g s h = (ap (λ (b : Bool). cond b (marking g e s).other (marking e g s).target) h, ap (λ (b : Bool). cond b (marking g e s).rounded (marking e g s).rounded) h)

-- what a target's marks are for the two edges as given
pub record Given (e g : Edge) (s : ℕ) (on_e on_g : List Point) (r : Bool) : Type 0 where
  pub on_first : on_e ≡ marked_on e g s
  pub on_second : on_g ≡ marked_on g e s
  pub flag : r ≡ rounded? e g s

pub given_turned : (e g : Edge) (s : ℕ) (on_g on_e : List Point) (r : Bool) → smaller? g e ≡ true
    → on_g ≡ (marking g e s).target → on_e ≡ (marking g e s).other → r ≡ (marking g e s).rounded → Given e g s on_e on_g r
given_turned e g s on_g on_e r h a b c = record {
  on_first = b ∙ sym (marked_turned e g s h).0;
  on_second = a ∙ sym (marked_straight g e s (smaller_asym g e h)).0;
  flag = c ∙ sym (marked_turned e g s h).1;
}

pub given_straight : (e g : Edge) (s : ℕ) (on_e on_g : List Point) (r : Bool) → smaller? g e ≡ false
    → on_e ≡ (marking e g s).target → on_g ≡ (marking e g s).other → r ≡ (marking e g s).rounded → Given e g s on_e on_g r
given_straight e g s on_e on_g r h a b c = record {
  on_first = a ∙ sym (marked_straight e g s h).0;
  on_second = b ∙ second (smaller? e g) refl;
  flag = c ∙ sym (marked_straight e g s h).1;
}
  where
    second : (t : Bool) → smaller? e g ≡ t → (marking e g s).other ≡ marked_on g e s
    second true i = sym (marked_turned g e s i).0
    second false i = self_marks e g s (not_smaller e g i h) ∙ sym (marked_straight g e s i).0
