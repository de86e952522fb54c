-- The laws of touching edges: touch is what the rules mark, in which way two edges touch, and where the marks lie.
use Rattle.std.proofs.Common.{◌≡◌, ℕ, ◌+◌, Bool, true, false, cond, ◌||◌, eqb, leb, ◌≢◌, ◌⊎◌, List, [], ◌∷◌, ◌++◌, ℤ, pos, ◌-ℤ◌, ◌*ℤ◌, ◌≤ℤ◌, ◌<ℤ◌, Some, None, sym, refl, ap, ◌∙◌, subst, inl, inr, arith}
use mathlib.Core.Logic.{∥∥₁_elim}
use mathlib.Core.Bool.{Bool-set}
use borrow.Author.Differences.{ints}
use Rattle.std.proofs.lemmas.Int.{by_lt_z}
use Rattle.algebra.proofs.Ring.{k, ◌⊖◌, ◌⊗◌, ◌≐◌, ring₂}
use Rattle.algebra.proofs.Order.{lt_of_mul_lt}
use Rattle.plane.specs.Points.{Point, ◌≺◌, by_x, by_y}
use Rattle.plane.specs.Edges.{Edge, Proper, by_first, first, second, zeros, one_sided?, smaller?, between?}
use Rattle.plane.specs.Fractions.{Frac, den, by, whole, Alike, Line, On, Within, IsEnd, TouchAt, Touch, Shared, crossing}
use Rattle.plane.specs.Rounding.{zero?}
use Rattle.plane.specs.Rules.{Marking, on_target, on_other, listed, ends_between, end_marked, some?, marked?, Inner, target_of, other_of, In}
use Rattle.plane.specs.Laws.{InnerPoint, TouchIsMarked, TargetSlants}
use Rattle.plane.specs.Models.{TouchesAs}
use Rattle.plane.specs.declared.touch_type.TouchType.TheVariants as kind
use Rattle.plane.proofs.Signs.{den_pos, lt_le, le_eq, gap, unmul_eq}
use Rattle.plane.proofs.Points.{apart, le_x, weaken}
use Rattle.plane.proofs.Tests.{clash, decides_between}
use Rattle.plane.proofs.Lines.{Aligned}
use Rattle.plane.proofs.Directions.{nil, nil_one, zero_yes, zero_no, four_aligned, Crossed, crossed_sym, crossed_by, inner_crossed}
use Rattle.plane.proofs.Overlays.{within_on, touch_in, touch_sym, Overlaps, overlaps_meets, touch_order, whole_within, first_on, second_on, is_whole, whole_alike, equal_touch, overlaps_touch, aligned_shared}
use Rattle.plane.proofs.Crossings.{crossed_once, crossed_only, crossed_touch, first_within, second_within, touch_cases}
use Rattle.plane.proofs.Markings.{decides_overlaps, Marks, in_line, across, aligned_not, not_off, decides_marked}
pub use Rattle.plane.proofs.Tests.{before_yes, before_true, smaller_yes, smaller_true, smaller_asym, not_smaller}
pub use Rattle.plane.proofs.Directions.{zeros_sym, one_sided_sym, inner_not_straight}
pub use Rattle.plane.proofs.Crossings.{crosses_at}

-- ---- inner crossings
pub one_point : (e g : Edge) (f h : Frac) → Proper e → Proper g → Line e f → Line g f → Line e h → Line g h → Inner e g → Alike f h
one_point e g f h pe pg he hg he' hg' c = crossed_once f h pe pg (inner_crossed c) he hg he' hg'

proper_of : (i : Bool) {e g : Edge} → Proper e → Proper g → Proper (cond i g e)
proper_of true pe pg = pg
proper_of false pe pg = pe

pub proper_target : (e g : Edge) → Proper e → Proper g → Proper (target_of e g)
proper_target e g pe pg = proper_of (smaller? g e) pe pg

pub proper_other : (e g : Edge) → Proper e → Proper g → Proper (other_of e g)
proper_other e g pe pg = proper_of (smaller? g e) pg pe

pub inner_point : (e g : Edge) → Proper e → Proper g → InnerPoint e g
inner_point e g pe pg c = crosses_at (target_of e g) (other_of e g) (proper_target e g pe pg) (proper_other e g pe pg) c

-- a vertical edge in an inner crossing: the other begins left of it, so the vertical one is not the smaller
pub vertical : (e g : Edge) → Proper e → Proper g → Inner e g → e.a.x ≡ e.b.x → g.a.x <ℤ e.a.x
vertical e g pe pg c h = let w = crosses_at e g pe pg c in go (crossing e g) w.only.here w.in_other.from
  where
    pinch : (a b x : ℤ) → a ≤ℤ x → x ≤ℤ b → a ≡ b → x ≡ a
    pinch a b x l r e = omega (arith, ints)

    level : g.a.x ≡ e.a.x → first e g ≡ pos 0
    level l =
        ap (λ z. z *ℤ (g.a.y -ℤ e.a.y) -ℤ (e.b.y -ℤ e.a.y) *ℤ (g.a.x -ℤ e.a.x)) (gap e.a.x e.b.x h)
        ∙ ap (λ z. pos 0 *ℤ (g.a.y -ℤ e.a.y) -ℤ (e.b.y -ℤ e.a.y) *ℤ z) (gap e.a.x g.a.x (sym l))
        ∙ ring₂ (λ a b. k (pos 0) ⊗ a ⊖ b ⊗ k (pos 0) ≐ k (pos 0)) tt (g.a.y -ℤ e.a.y) (e.b.y -ℤ e.a.y)

    go : (f : Frac) → On e f → by f g.a ≺ f.at → g.a.x <ℤ e.a.x
    go f o w = cases w
      where
        at : f.at.x ≡ den f *ℤ e.a.x
        at = pinch (by f e.a).x (by f e.b).x f.at.x (le_x o.from) (le_x o.to) (ap (λ z. den f *ℤ z) h)

        cases : by f g.a ≺ f.at → g.a.x <ℤ e.a.x
        cases (by_x l) = lt_of_mul_lt (den f) g.a.x e.a.x (lt_le (den_pos f.k)) (subst (λ z. (den f *ℤ g.a.x) <ℤ z) at l)
        cases (by_y l m) = absurd ((inner_not_straight e g c).0 (level (unmul_eq (den f) g.a.x e.a.x (den_pos f.k) (l ∙ at))))

slants : (t o : Edge) → Proper t → Proper o → Inner t o → smaller? o t ≡ false → t.a.x <ℤ t.b.x
slants t o pt po c s = by_lt_z t.a.x t.b.x (λ l. l)
    (λ l. absurd (clash (smaller_true o t (by_first (by_x (vertical t o pt po c (le_eq (le_x (weaken pt)) l))))) s))

pub target_slants : (e g : Edge) → Proper e → Proper g → TargetSlants e g
target_slants e g pe pg = go (smaller? g e) refl
  where
    go : (i : Bool) → smaller? g e ≡ i → Inner (cond i g e) (cond i e g) → (cond i g e).a.x <ℤ (cond i g e).b.x
    go true a c = slants g e pg pe c (smaller_asym g e a)
    go false a c = slants e g pe pg c a

-- ---- touch is what is marked
pub touch_marks : {e g : Edge} {f : Frac} → Proper e → Proper g → e ≢ g → TouchAt e g f → Marks e g
touch_marks {e} {g} pe pg d h = go (touch_cases pe pg h) (touch_order h)
  where
    go : Aligned e g ⊎ Crossed e g → (e ≡ g) ⊎ Overlaps e g → Marks e g
    go (inr c) o = across c
    go (inl z) (inl w) = absurd (d w)
    go (inl z) (inr w) = in_line z w

pub marks_touch : {e g : Edge} → Proper e → Proper g → Marks e g → (f : Frac) × TouchAt e g f
marks_touch pe pg (in_line z w) = overlaps_touch pe pg z w
marks_touch {e} {g} pe pg (across c) = (crossing e g, crossed_touch pe pg c)

pub touch_is_marked : (e g : Edge) (s : ℕ) → Proper e → Proper g → TouchIsMarked e g s
touch_is_marked e g s pe pg d = (
  λ t. ∥∥₁_elim t (Bool-set (marked? e g s) true) (λ w. (decides_marked e g s d).1 (touch_marks pe pg d w.1)),
  λ h. ∣ marks_touch pe pg ((decides_marked e g s d).0 h) ∣₁,
)

-- ---- the exact marks of edges on one line
in_listed : (i j : Bool) (p q r : Point) → In p (listed i q ++ listed j r) → ((i ≡ true) × (p ≡ q)) ⊎ ((j ≡ true) × (p ≡ r))
in_listed true j p q r (inl e) = inl (refl, e)
in_listed true true p q r (inr (inl e)) = inr (refl, e)
in_listed true true p q r (inr (inr n)) = absurd n
in_listed true false p q r (inr n) = absurd n
in_listed false true p q r (inl e) = inr (refl, e)
in_listed false true p q r (inr n) = absurd n
in_listed false false p q r n = absurd n

pub overlaid_exact : (e g : Edge) → Proper e → Proper g → zeros e g ≡ 4 → (p : Point) → In p (ends_between e g) → Within e (whole p) × On g (whole p)
overlaid_exact e g pe pg z p h = go (in_listed (between? e g.a) (between? e g.b) p g.a g.b h)
  where
    w : Aligned e g
    w = four_aligned e g z

    go : ((between? e g.a ≡ true) × (p ≡ g.a)) ⊎ ((between? e g.b ≡ true) × (p ≡ g.b)) → Within e (whole p) × On g (whole p)
    go (inl (b, i)) = subst (λ (q : Point). Within e (whole q) × On g (whole q)) (sym i) (whole_within e g.a w.ga ((decides_between e g.a).0 b), first_on g pg)
    go (inr (b, i)) = subst (λ (q : Point). Within e (whole q) × On g (whole q)) (sym i) (whole_within e g.b w.gb ((decides_between e g.b).0 b), second_on g pg)

-- ---- one zero: the end that has it is strictly inside its partner
pub data Ended (t o : Edge) (m : Marking) : Type 0 where
  in_target : (p : Point) → m ≡ on_target p false → Within t (whole p) → On o (whole p) → IsEnd o (whole p) → Ended t o m
  in_other : (p : Point) → m ≡ on_other p false → On t (whole p) → Within o (whole p) → IsEnd t (whole p) → Ended t o m

pub ended : (t o : Edge) → Proper t → Proper o → zeros t o ≡ 1 → one_sided? t o ≡ false → Ended t o (end_marked t o)
unfolding end_marked
ended t o pt po z b = go (zero? (first t o)) refl (zero? (second t o)) refl (zero? (first o t)) refl
  where
    c : Crossed t o
    c = crossed_by t o (omega (arith, z)) b

    last : (i j n m : ℕ) → i + j + (n + m) ≡ 1 → i ≡ 0 → j ≡ 0 → n ≡ 0 → m ≡ 1
    last i j n m e f g h = omega arith

    go : (i : Bool) → zero? (first t o) ≡ i → (j : Bool) → zero? (second t o) ≡ j → (n : Bool) → zero? (first o t) ≡ n
        → Ended t o (cond i (on_target o.a false) (cond j (on_target o.b false) (cond n (on_other t.a false) (on_other t.b false))))
    go true x j y n w = in_target o.a refl (first_within po pt (crossed_sym c) (zero_yes (first t o) x)) (first_on o po) (inl (is_whole o.a))
    go false x true y n w = in_target o.b refl (second_within po pt (crossed_sym c) (zero_yes (second t o) y)) (second_on o po) (inr (is_whole o.b))
    go false x false y true w = in_other t.a refl (first_on t pt) (first_within pt po c (zero_yes (first o t) w)) (inl (is_whole t.a))
    go false x false y false w =
        let l = last (nil (first t o)) (nil (second t o)) (nil (first o t)) (nil (second o t)) z (zero_no (first t o) x) (zero_no (second t o) y) (zero_no (first o t) w) in
        in_other t.b refl (second_on t pt) (second_within pt po c (nil_one (second o t) l)) (inr (is_whole t.b))

listed_one : (p q : Point) {l : List Point} → l ≡ q ∷ [] → In p l → p ≡ q
listed_one p q e h = elim (subst (λ (l : List Point). In p l) e h) [ inl i ↦ i | inr n ↦ absurd n ]

listed_none : (p : Point) {l : List Point} → l ≡ [] → ¬ In p l
listed_none p e h = subst (λ (l : List Point). In p l) e h

pub end_exact_target : (t o : Edge) → Proper t → Proper o → zeros t o ≡ 1 → one_sided? t o ≡ false → (p : Point) → In p (end_marked t o).target → Within t (whole p) × On o (whole p)
end_exact_target t o pt po z b p h = go (ended t o pt po z b)
  where
    go : Ended t o (end_marked t o) → Within t (whole p) × On o (whole p)
    go (in_target q e w l i) = subst (λ (q : Point). Within t (whole q) × On o (whole q)) (sym (listed_one p q (ap (λ (m : Marking). m.target) e) h)) (w, l)
    go (in_other q e l w i) = absurd (listed_none p (ap (λ (m : Marking). m.target) e) h)

pub end_exact_other : (t o : Edge) → Proper t → Proper o → zeros t o ≡ 1 → one_sided? t o ≡ false → (p : Point) → In p (end_marked t o).other → Within o (whole p) × On t (whole p)
end_exact_other t o pt po z b p h = go (ended t o pt po z b)
  where
    go : Ended t o (end_marked t o) → Within o (whole p) × On t (whole p)
    go (in_target q e w l i) = absurd (listed_none p (ap (λ (m : Marking). m.other) e) h)
    go (in_other q e l w i) = subst (λ (q : Point). Within o (whole q) × On t (whole q)) (sym (listed_one p q (ap (λ (m : Marking). m.other) e) h)) (w, l)

-- ---- in which way two edges touch
pub as_overlay : (e g : Edge) → Proper e → Proper g → zeros e g ≡ 4 → (some? (ends_between e g) || some? (ends_between g e)) ≡ true → TouchesAs e g (Some kind.Overlay)
as_overlay e g pe pg z h =
    let w = four_aligned e g z in
    let o = (decides_overlaps e g).0 h in
    (∣ overlaps_touch pe pg w o ∣₁, ∣ aligned_shared pe pg w (overlaps_meets pe pg o) ∣₁)

pub as_equal : (e g : Edge) → Proper e → e ≡ g → TouchesAs e g (Some kind.Overlay)
as_equal e g pe s = (∣ equal_touch pe s ∣₁, ∣ (whole e.a, whole e.b, subst (λ (z : Edge). Shared e z (whole e.a) (whole e.b)) s both) ∣₁)
  where
    both : Shared e e (whole e.a) (whole e.b)
    both = record { here = first_on e pe; there = first_on e pe; here_too = second_on e pe; there_too = second_on e pe; different = λ w. apart pe (whole_alike e.a e.b w) }

never_touch : {e g : Edge} → ((f : Frac) → ¬ TouchAt e g f) → ¬ Touch e g
never_touch n t = ∥∥₁_elim t (λ x. absurd x) (λ w. n w.0 w.1)

pub as_aligned_none : (e g : Edge) → Proper e → Proper g → zeros e g ≡ 4 → e ≢ g → (some? (ends_between e g) || some? (ends_between g e)) ≡ false → TouchesAs e g None
as_aligned_none e g pe pg z d h = never_touch (λ f t. elim (touch_order t) [ inl s ↦ d s | inr o ↦ clash ((decides_overlaps e g).1 o) h ])

pub as_none : (e g : Edge) → Proper e → Proper g → eqb (zeros e g) 4 ≡ false → (leb 2 (zeros e g) || one_sided? e g) ≡ true → TouchesAs e g None
as_none e g pe pg a b = never_touch (λ f t. elim (touch_cases pe pg t) [ inl z ↦ aligned_not e g z a | inr c ↦ clash b (not_off e g c) ])

pub as_end : (e g : Edge) → Proper e → Proper g → zeros e g ≡ 1 → one_sided? e g ≡ false → TouchesAs e g (Some kind.End)
as_end e g pe pg z b = go (ended e g pe pg z b)
  where
    c : Crossed e g
    c = crossed_by e g (omega (arith, z)) b

    go : Ended e g (end_marked e g) → TouchesAs e g (Some kind.End)
    go (in_target p m w l i) = (∣ (whole p, touch_in w l) ∣₁, ∣ (whole p, record { only = crossed_only pe pg c (within_on w) l; end = ∣ inr i ∣₁ }) ∣₁)
    go (in_other p m l w i) = (∣ (whole p, touch_sym (touch_in w l)) ∣₁, ∣ (whole p, record { only = crossed_only pe pg c l (within_on w); end = ∣ inl i ∣₁ }) ∣₁)

pub as_inner : (e g : Edge) → Proper e → Proper g → Inner e g → TouchesAs e g (Some kind.Inner)
as_inner e g pe pg c =
    let w = crosses_at e g pe pg c in (
      ∣ (crossing e g, touch_in w.in_target w.only.there) ∣₁,
      ∣ (crossing e g, record { only = w.only; here = w.in_target; there = w.in_other }) ∣₁,
    )
