-- What a crossing that is not rounded marks: ends on one line, else the one common point.
use Rattle.std.proofs.Common.{◌≡◌, ℕ, Bool, true, false, cond, ◌||◌, ◌⊎◌, List, sym, refl, ap, subst, inl, inr}
use mathlib.Core.Bool.{false≢true}
use Rattle.std.proofs.lemmas.Bool.{and_parts}
use Rattle.plane.specs.Points.{Point, cross}
use Rattle.plane.specs.Edges.{Edge, Proper, Between, smaller?, between?}
use Rattle.plane.specs.Fractions.{Frac, whole, Is, Line, On, Within}
use Rattle.plane.specs.Rounding.{taken, zero?}
use Rattle.plane.specs.Rules.{Marking, In, listed, ends_between, overlaid, end_marked, marking, marked_on, rounded?, some?}
use Rattle.plane.proofs.Tests.{clash, decides_between}
use Rattle.plane.proofs.Lines.{Aligned, aligned_sym}
use Rattle.plane.proofs.Directions.{zero_yes, four_aligned, aligned_four, Crossed, crossed_sym, crossed_not_aligned}
use Rattle.plane.proofs.Fractions.{alike_is, move_within}
use Rattle.plane.proofs.Overlays.{within_free, whole_line, touch_in}
use Rattle.plane.proofs.Crossings.{crossed_once, touch_cases}
use Rattle.plane.proofs.Markings.{marking_aligned, decides_marking, across}
use Rattle.plane.proofs.Touching.{Ended, in_target, in_other, ended}
use Rattle.plane.proofs.Snaps.{Outcome, overlay, none, end, exact, rounded, outcome}
use Rattle.finder.proofs.Members.{in_left, in_right, in_split}

-- ---- edges on one line
marked_aligned : (e g : Edge) (s : ℕ) → Aligned e g → marked_on e g s ≡ ends_between e g
unfolding marked_on overlaid
marked_aligned e g s z = go (smaller? g e)
  where
    go : (b : Bool) → cond b (marking g e s).other (marking e g s).target ≡ ends_between e g
    go true = ap (λ (m : Marking). m.other) (marking_aligned g e s (aligned_four g e (aligned_sym z)))
    go false = ap (λ (m : Marking). m.target) (marking_aligned e g s (aligned_four e g z))

listed_is : (i : Bool) (p q : Point) → In p (listed i q) → p ≡ q
listed_is true p q (inl e) = e
listed_is true p q (inr h) = absurd h
listed_is false p q h = absurd h

is_listed : (i : Bool) (q : Point) → i ≡ true → In q (listed i q)
is_listed true q h = inl refl
is_listed false q h = absurd (false≢true h)

-- a mark is an end of the other edge
pub aligned_mark : (e g : Edge) (s : ℕ) → Aligned e g → (p : Point) → In p (marked_on e g s) → (p ≡ g.a) ⊎ (p ≡ g.b)
aligned_mark e g s z p h = go (in_split p (listed (between? e g.a) g.a) _ (subst (λ (l : List Point). In p l) (marked_aligned e g s z) h))
  where
    go : In p (listed (between? e g.a) g.a) ⊎ In p (listed (between? e g.b) g.b) → (p ≡ g.a) ⊎ (p ≡ g.b)
    go (inl i) = inl (listed_is (between? e g.a) p g.a i)
    go (inr i) = inr (listed_is (between? e g.b) p g.b i)

-- and such an end, strictly between, is marked
pub aligned_marked : (e g : Edge) (s : ℕ) → Aligned e g → (p : Point) → (p ≡ g.a) ⊎ (p ≡ g.b) → Between e p → In p (marked_on e g s)
aligned_marked e g s z p d h = subst (λ (l : List Point). In p l) (sym (marked_aligned e g s z)) (go d)
  where
    yes : {q : Point} → p ≡ q → between? e q ≡ true
    yes {q} i = (decides_between e q).1 (subst (Between e) i h)

    go : (p ≡ g.a) ⊎ (p ≡ g.b) → In p (ends_between e g)
    go (inl i) = subst (λ (q : Point). In q (ends_between e g)) (sym i) (in_left g.a _ (listed (between? e g.b) g.b) (is_listed (between? e g.a) g.a (yes i)))
    go (inr i) = subst (λ (q : Point). In q (ends_between e g)) (sym i) (in_right g.b (listed (between? e g.a) g.a) _ (is_listed (between? e g.b) g.b (yes i)))

-- ---- edges that cross
-- a common point of both lines, marked on each edge that it is strictly inside
record CrossingMark (t o : Edge) (m : Marking) : Type 0 where
  at : Point
  here : Line t (whole at)
  there : Line o (whole at)
  on_target : Within t (whole at) → In at m.target
  on_other : Within o (whole at) → In at m.other

crossing_mark : (t o : Edge) (s : ℕ) → Proper t → Proper o → Crossed t o → (marking t o s).rounded ≡ false → CrossingMark t o (marking t o s)
crossing_mark t o s pt po c r = go (marking t o s) (outcome t o s) r ((decides_marking t o s).1 (across c))
  where
    at_end : (m : Marking) → Ended t o m → CrossingMark t o m
    at_end m (in_target p e w l i) = rw e (record { at = p; here = w.line; there = l.line; on_target = λ _. inl refl; on_other = λ h. absurd (within_free h i) })
    at_end m (in_other p e l w i) = rw e (record { at = p; here = l.line; there = w.line; on_target = λ h. absurd (within_free h i); on_other = λ _. inl refl })

    go : (m : Marking) → Outcome t o s m → m.rounded ≡ false → (some? m.target || some? m.other) ≡ true → CrossingMark t o m
    go m (overlay z e) r d = absurd (crossed_not_aligned c (four_aligned t o z))
    go m (none n e) r d = absurd (false≢true (rw e at d))
    go m (end z b e) r d = rw e (at_end (end_marked t o) (ended t o pt po z b))
    go m (exact i h e) r d =
        let w = and_parts (zero? (cross t.a t.b (taken t o))) (zero? (cross o.a o.b (taken t o))) h in
        rw e (record {
          at = taken t o;
          here = whole_line t (taken t o) (zero_yes _ w.0);
          there = whole_line o (taken t o) (zero_yes _ w.1);
          on_target = λ _. inl refl;
          on_other = λ _. inl refl;
        })
    go m (rounded i h w l) r d = absurd (clash l r)

-- a point strictly inside e and on g is whole and is marked on e
pub crossed_marked : (e g : Edge) (s : ℕ) → Proper e → Proper g → rounded? e g s ≡ false → ¬ Aligned e g → (f : Frac) → Within e f → On g f → (p : Point) × Is f p × In p (marked_on e g s)
unfolding marked_on rounded?
crossed_marked e g s pe pg r n f w o = go (smaller? g e) r (touch_cases pe pg (touch_in w o))
  where
    law : (l : List Point) → Crossed e g → (p : Point) → Line e (whole p) → Line g (whole p) → (Within e (whole p) → In p l) → (p : Point) × Is f p × In p l
    law l c p he hg marked =
        let same = crossed_once f (whole p) pe pg c w.line o.line he hg in
        (p, alike_is f p same, marked (move_within e f (whole p) same w))

    go : (b : Bool) → cond b (marking g e s).rounded (marking e g s).rounded ≡ false → Aligned e g ⊎ Crossed e g
        → (p : Point) × Is f p × In p (cond b (marking g e s).other (marking e g s).target)
    go b r (inl z) = absurd (n z)
    go true r (inr c) = let k = crossing_mark g e s pg pe (crossed_sym c) r in law _ c k.at k.there k.here k.on_other
    go false r (inr c) = let k = crossing_mark e g s pe pg c r in law _ c k.at k.here k.there k.on_target
