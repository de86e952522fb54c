-- The laws of a crossing: what is taken for its point, when it is rounded, and where its marks lie.
use Rattle.std.proofs.Common.{◌≡◌, ℕ, suc, ◌+◌, ◌<◌, Bool, true, false, cond, ◌&&◌, ◌≢◌, ◌↔◌, List, [], ◌∷◌, ◌++◌, ℤ, pos, ◌-ℤ◌, sym, refl, ap, ◌∙◌, subst, inl, inr, arith}
use mathlib.Core.Bool.{false≢true}
use mathlib.Core.HLevel.{⊥_prop}
use mathlib.Core.Logic.{∥∥₁_elim}
use Rattle.plane.specs.Points.{Point, Ranged, cross, squared, distance}
use Rattle.plane.specs.Edges.{Edge, Proper, InSheet, first, second, zeros, smaller?, between?}
use Rattle.plane.specs.Fractions.{Frac, whole, Is, Whole, Line, On, Within, IsEnd, crossing}
use Rattle.plane.specs.Rounding.{taken, zero?, on_lines?, reach}
use Rattle.plane.specs.Rules.{Marking, listed, ends_between, overlaid, end_marked, marking, marked_on, rounded?, Inner, target_of, other_of, In}
use Rattle.plane.specs.Laws.{NearestPoint, RoundedExactly, ExactMarks, Snaps, MarksInside, MarksRanged, NearerEnd, first_end, second_end, Far, Snapped, free, target_end, other_end}
use Rattle.plane.proofs.Signs.{gap}
use Rattle.plane.proofs.Lines.{at_first, at_second}
use Rattle.plane.proofs.Directions.{zero_yes}
use Rattle.plane.proofs.Overlays.{within_on, within_free, whole_line, line_whole, own}
use Rattle.plane.proofs.Touching.{crosses_at, one_point, zeros_sym, inner_not_straight, smaller_asym, not_smaller, overlaid_exact, Ended, in_target, in_other, ended, end_exact_target, end_exact_other}
use Rattle.plane.proofs.Fractions.{alike_is, is_alike, move_line, move_within}
use Rattle.plane.proofs.Tests.{clash}
use Rattle.plane.proofs.Rounds.{inner_denom, taken_ranged}
use Rattle.plane.proofs.Snaps.{stands_for, taken_whole, Outcome, overlay, none, end, exact, rounded, outcome}

pub nearest_point : (e g : Edge) → Proper e → Proper g → NearestPoint e g
nearest_point e g pe pg i = stands_for (target_of e g) (other_of e g) (inner_denom (target_of e g) (other_of e g) i).0

-- ---- whole points
line_at : (e : Edge) (f : Frac) (p : Point) → Is f p → Line e f → cross e.a e.b p ≡ pos 0
line_at e f p i h = line_whole e p (move_line e f (whole p) (is_alike f p i) h)

within_no_end : (e : Edge) (p : Point) → Within e (whole p) → (p ≢ e.a) × (p ≢ e.b)
within_no_end e p h = (λ z. within_free h (inl (z ∙ sym (own e.a p))), λ z. within_free h (inr (z ∙ sym (own e.b p))))

-- ---- the taken point is on both lines exactly if the exact point is whole
on_lines_yes : (t o : Edge) (p : Point) → on_lines? t o p ≡ true → (cross t.a t.b p ≡ pos 0) × (cross o.a o.b p ≡ pos 0)
on_lines_yes t o p h =
    let w = both (zero? (cross t.a t.b p)) (zero? (cross o.a o.b p)) h in
    (zero_yes (cross t.a t.b p) w.0, zero_yes (cross o.a o.b p) w.1)
  where
    both : (a b : Bool) → (a && b) ≡ true → (a ≡ true) × (b ≡ true)
    both true b e = (refl, e)
    both false b e = absurd (false≢true e)

on_lines_true : (t o : Edge) (p : Point) → cross t.a t.b p ≡ pos 0 → cross o.a o.b p ≡ pos 0 → on_lines? t o p ≡ true
on_lines_true t o p h l = go (zero? (cross t.a t.b p)) (zero? (cross o.a o.b p)) (ap zero? h) (ap zero? l)
  where
    go : (a b : Bool) → a ≡ true → b ≡ true → (a && b) ≡ true
    go a b i j = rw (i, j)

lines_whole : (t o : Edge) → Proper t → Proper o → Inner t o → on_lines? t o (taken t o) ≡ true → Is (crossing t o) (taken t o)
lines_whole t o pt po i h =
    let w = on_lines_yes t o (taken t o) h in
    let c = crosses_at t o pt po i in
    alike_is (crossing t o) (taken t o)
    (one_point t o (crossing t o) (whole (taken t o)) pt po c.in_target.line c.in_other.line (whole_line t (taken t o) w.0) (whole_line o (taken t o) w.1) i)

whole_lines : (t o : Edge) → Proper t → Proper o → Inner t o → (p : Point) → Is (crossing t o) p → on_lines? t o (taken t o) ≡ true
whole_lines t o pt po i p h =
    let c = crosses_at t o pt po i in
    ap (on_lines? t o) (taken_whole t o (inner_denom t o i).0 p h)
    ∙ on_lines_true t o p (line_at t (crossing t o) p h c.in_target.line) (line_at o (crossing t o) p h c.in_other.line)

-- ---- what a marking comes to
abbrev Exactly : Edge → Edge → Marking → Type 0
Exactly t o m =
    ((p : Point) → In p m.target → Within t (whole p) × On o (whole p))
    × ((p : Point) → In p m.other → Within o (whole p) × On t (whole p))

data Result (t o : Edge) (s : ℕ) (m : Marking) : Type 0 where
  exactly : m.rounded ≡ false → ¬ (Inner t o × ¬ Whole (crossing t o)) → Exactly t o m → Result t o s m
  rounds : m.rounded ≡ true → Inner t o → ¬ Whole (crossing t o) → Snapped t o (taken t o) (reach s) m.target m.other → Result t o s m

ended_exactly : {t o : Edge} {m : Marking} → Ended t o m → m.rounded ≡ false
ended_exactly (in_target p e w l i) = ap (λ (m : Marking). m.rounded) e
ended_exactly (in_other p e l w i) = ap (λ (m : Marking). m.rounded) e

only : (P : Point → Type 0) {p q : Point} → P q → In p (q ∷ []) → P p
only P h (inl e) = subst P (sym e) h
only P h (inr e) = absurd e

result : (t o : Edge) (s : ℕ) → Proper t → Proper o → Result t o s (marking t o s)
unfolding overlaid
result t o s pt po = go (marking t o s) (outcome t o s)
  where
    not_inner : (n : ℕ) → zeros t o ≡ suc n → ¬ (Inner t o × ¬ Whole (crossing t o))
    not_inner n z w = zero_not (zeros t o) z w.0.none
      where
        zero_not : (m : ℕ) → m ≡ suc n → m ≡ 0 → ⊥
        zero_not m e f = omega arith

    go : (m : Marking) → Outcome t o s m → Result t o s m
    go m (overlay z e) = rw e (exactly refl (not_inner 3 z) (overlaid_exact t o pt po z, overlaid_exact o t po pt (zeros_sym o t ∙ z)))
    go m (none n e) = rw e (exactly refl (λ w. n w.0) (λ p h. absurd h, λ p h. absurd h))
    go m (end z b e) = rw e (exactly (ended_exactly (ended t o pt po z b)) (not_inner 0 z) (end_exact_target t o pt po z b, end_exact_other t o pt po z b))
    go m (exact i l e) =
        let c = crosses_at t o pt po i in
        let f = crossing t o in
        let w = lines_whole t o pt po i l in
        let x = move_within t f (whole (taken t o)) (is_alike f (taken t o) w) c.in_target in
        let y = move_within o f (whole (taken t o)) (is_alike f (taken t o) w) c.in_other in
        rw e (exactly refl (λ h. h.1 ∣ (taken t o, w) ∣₁) (
          λ p h. only (λ (q : Point). Within t (whole q) × On o (whole q)) (x, within_on y) h,
          λ p h. only (λ (q : Point). Within o (whole q) × On t (whole q)) (y, within_on x) h,
        ))
    go m (rounded i l h r) = rounds r i (λ w. ∥∥₁_elim w ⊥_prop (λ z. clash (whole_lines t o pt po i z.0 z.1) l)) h

-- ---- no mark is an end of its own edge
abbrev NoEnd : Edge → List Point → Type 0
NoEnd e l = (p : Point) → In p l → (p ≢ e.a) × (p ≢ e.b)

no_distance : (p q : Point) → p ≡ q → distance p q ≡ 0
no_distance p q e = sum (squared (q.x -ℤ p.x)) (squared (q.y -ℤ p.y)) (none p.x q.x (ap (λ (z : Point). z.x) e)) (none p.y q.y (ap (λ (z : Point). z.y) e))
  where
    sum : (m n : ℕ) → m ≡ 0 → n ≡ 0 → m + n ≡ 0
    sum m n e f = omega arith

    none : (a b : ℤ) → a ≡ b → squared (b -ℤ a) ≡ 0
    none a b e = ap squared (gap a b e)

far_no_end : (e : Edge) (p : Point) (r : ℕ) → Far e p r → NoEnd e (p ∷ [])
far_no_end e p r h q (inl i) = (λ z. apart (distance p e.a) h.first (no_distance p e.a (sym i ∙ z)), λ z. apart (distance p e.b) h.second (no_distance p e.b (sym i ∙ z)))
  where
    apart : (d : ℕ) → r < d → d ≡ 0 → ⊥
    apart d l z = omega arith
far_no_end e p r h q (inr i) = absurd i

-- an end of the partner is not on the edge's line
end_no_end : (e g : Edge) (p q : Point) → first e g ≢ pos 0 → second e g ≢ pos 0 → NearerEnd g p q → NoEnd e (q ∷ [])
end_no_end e g p q f s n z (inr i) = absurd i
end_no_end e g p q f s n z (inl i) = go n
  where
    aside : (w : Point) → cross e.a e.b w ≢ pos 0 → q ≡ w → (z ≢ e.a) × (z ≢ e.b)
    aside w h j = (
      λ k. h (ap (cross e.a e.b) (sym j ∙ sym i ∙ k) ∙ at_first e.a e.b),
      λ k. h (ap (cross e.a e.b) (sym j ∙ sym i ∙ k) ∙ at_second e.a e.b),
    )

    go : NearerEnd g p q → (z ≢ e.a) × (z ≢ e.b)
    go (first_end j l) = aside g.a f j
    go (second_end j l) = aside g.b s j

no_ends : (t o : Edge) (s : ℕ) (m : Marking) → Result t o s m → NoEnd t m.target × NoEnd o m.other
no_ends t o s m (exactly r n h) = (λ p i. within_no_end t p (h.0 p i).0, λ p i. within_no_end o p (h.1 p i).0)
no_ends t o s m (rounds r i n h) = go m.target m.other h
  where
    go : (k l : List Point) → Snapped t o (taken t o) (reach s) k l → NoEnd t k × NoEnd o l
    go k l (free ft fo e f) = (rw e (far_no_end t (taken t o) (reach s) ft), rw f (far_no_end o (taken t o) (reach s) fo))
    go k l (target_end q n d r e f) = let w = inner_not_straight t o i in (rw e (λ p z. absurd z), rw f (end_no_end o t (taken t o) q w.2 w.3 n))
    go k l (other_end q n d r e f) = let w = inner_not_straight t o i in (rw e (end_no_end t o (taken t o) q w.0 w.1 n), rw f (λ p z. absurd z))

-- ---- every mark is in range
abbrev AllRanged : List Point → Type 0
AllRanged l = (p : Point) → In p l → Ranged p

one_ranged : {q : Point} → Ranged q → AllRanged (q ∷ [])
one_ranged h p i = only Ranged h i

between_ranged : (e g : Edge) → InSheet g → AllRanged (ends_between e g)
between_ranged e g h = go (between? e g.a) (between? e g.b)
  where
    go : (b c : Bool) → AllRanged (listed b g.a ++ listed c g.b)
    go true true p (inl e) = subst Ranged (sym e) h.first
    go true true p (inr e) = one_ranged h.second p e
    go true false p i = one_ranged h.first p i
    go false true p i = one_ranged h.second p i
    go false false p i = absurd i

nearer_ranged : {e : Edge} {p q : Point} → InSheet e → NearerEnd e p q → Ranged q
nearer_ranged h (first_end j l) = subst Ranged (sym j) h.first
nearer_ranged h (second_end j l) = subst Ranged (sym j) h.second

end_ranged : {e : Edge} {p : Point} → InSheet e → IsEnd e (whole p) → Ranged p
end_ranged {e} {p} h (inl i) = subst Ranged (sym (i ∙ own e.a p)) h.first
end_ranged {e} {p} h (inr i) = subst Ranged (sym (i ∙ own e.b p)) h.second

abbrev BothRanged : Marking → Type 0
BothRanged m = AllRanged m.target × AllRanged m.other

all_ranged : (t o : Edge) (s : ℕ) → InSheet t → InSheet o → BothRanged (marking t o s)
unfolding overlaid
all_ranged t o s ht ho = go (marking t o s) (outcome t o s)
  where
    snap : Inner t o → (k l : List Point) → Snapped t o (taken t o) (reach s) k l → AllRanged k × AllRanged l
    snap i k l (free ft fo e f) = let w = taken_ranged t o ht ho i in (rw e (one_ranged w), rw f (one_ranged w))
    snap i k l (target_end q n d r e f) = (rw e (λ p z. absurd z), rw f (one_ranged (nearer_ranged ht n)))
    snap i k l (other_end q n d r e f) = (rw e (one_ranged (nearer_ranged ho n)), rw f (λ p z. absurd z))

    ending : (m : Marking) → Ended t o m → BothRanged m
    ending m (in_target p e w l i) = rw e (one_ranged (end_ranged ho i), λ q z. absurd z)
    ending m (in_other p e l w i) = rw e (λ q z. absurd z, one_ranged (end_ranged ht i))

    go : (m : Marking) → Outcome t o s m → BothRanged m
    go m (overlay z e) = rw e (between_ranged t o ho, between_ranged o t ht)
    go m (none n e) = rw e (λ p z. absurd z, λ p z. absurd z)
    go m (end z b e) = rw e (ending (end_marked t o) (ended t o ht.proper ho.proper z b))
    go m (exact i l e) = let w = taken_ranged t o ht ho i in rw e (one_ranged w, one_ranged w)
    go m (rounded i l h r) = snap i m.target m.other h

-- ---- the laws
pub rounded_exactly : (e g : Edge) (s : ℕ) → Proper e → Proper g → RoundedExactly e g s
unfolding rounded?
rounded_exactly e g s pe pg = go (smaller? g e)
  where
    law : (t o : Edge) (m : Marking) → Result t o s m → (m.rounded ≡ true) ↔ (Inner t o × ¬ Whole (crossing t o))
    law t o m (exactly r n h) = (λ l. absurd (clash l r), λ l. absurd (n l))
    law t o m (rounds r i n h) = (λ l. (i, n), λ l. r)

    go : (b : Bool) → (cond b (marking g e s).rounded (marking e g s).rounded ≡ true) ↔ (Inner (cond b g e) (cond b e g) × ¬ Whole (crossing (cond b g e) (cond b e g)))
    go true = law g e (marking g e s) (result g e s pg pe)
    go false = law e g (marking e g s) (result e g s pe pg)

pub exact_marks : (e g : Edge) (s : ℕ) → Proper e → Proper g → ExactMarks e g s
unfolding rounded? marked_on
exact_marks e g s pe pg = go (smaller? g e)
  where
    law : (t o : Edge) (m : Marking) → Result t o s m → m.rounded ≡ false → Exactly t o m
    law t o m (exactly r n h) l = h
    law t o m (rounds r i n h) l = absurd (clash r l)

    go : (b : Bool) → cond b (marking g e s).rounded (marking e g s).rounded ≡ false
        → (p : Point) → In p (cond b (marking g e s).other (marking e g s).target) → Within e (whole p) × On g (whole p)
    go true h = (law g e (marking g e s) (result g e s pg pe) h).1
    go false h = (law e g (marking e g s) (result e g s pe pg) h).0

marked_target : (t o : Edge) (s : ℕ) → smaller? o t ≡ false → marked_on t o s ≡ (marking t o s).target
unfolding marked_on
marked_target t o s h = ap (λ (b : Bool). cond b (marking o t s).other (marking t o s).target) h

marked_other : (t o : Edge) (s : ℕ) → smaller? t o ≡ true → marked_on o t s ≡ (marking t o s).other
unfolding marked_on
marked_other t o s h = ap (λ (b : Bool). cond b (marking t o s).other (marking o t s).target) h

pub snaps : (e g : Edge) (s : ℕ) → Proper e → Proper g → Snaps e g s
unfolding rounded?
snaps e g s pe pg = go (smaller? g e) refl
  where
    law : (t o : Edge) → Proper t → Proper o → smaller? o t ≡ false → (Inner t o → smaller? t o ≡ true) → (marking t o s).rounded ≡ true
        → Snapped t o (taken t o) (reach s) (marked_on t o s) (marked_on o t s)
    law t o pt po h f l = at (result t o s pt po)
      where
        at : Result t o s (marking t o s) → Snapped t o (taken t o) (reach s) (marked_on t o s) (marked_on o t s)
        at (exactly r n w) = absurd (clash l r)
        at (rounds r i n w) = rw (marked_target t o s h, marked_other t o s (f i)) w

    apart : smaller? g e ≡ false → Inner e g → (b : Bool) → smaller? e g ≡ b → b ≡ true
    apart h i true k = refl
    apart h i false k =
        absurd ((inner_not_straight e g i).0 (ap (λ (z : Edge). cross e.a e.b z.a) (sym (not_smaller e g k h)) ∙ at_first e.a e.b))

    go : (b : Bool) → smaller? g e ≡ b → cond b (marking g e s).rounded (marking e g s).rounded ≡ true
        → Snapped (cond b g e) (cond b e g) (taken (cond b g e) (cond b e g)) (reach s) (marked_on (cond b g e) (cond b e g) s) (marked_on (cond b e g) (cond b g e) s)
    go true h l = law g e pg pe (smaller_asym g e h) (λ i. h) l
    go false h l = law e g pe pg h (λ i. apart h i (smaller? e g) refl) l

pub marks_inside : (e g : Edge) (s : ℕ) → Proper e → Proper g → MarksInside e g s
unfolding marked_on
marks_inside e g s pe pg = go (smaller? g e)
  where
    go : (b : Bool) → NoEnd e (cond b (marking g e s).other (marking e g s).target)
    go true = (no_ends g e s (marking g e s) (result g e s pg pe)).1
    go false = (no_ends e g s (marking e g s) (result e g s pe pg)).0

pub marks_ranged : (e g : Edge) (s : ℕ) → InSheet e → InSheet g → MarksRanged e g s
unfolding marked_on
marks_ranged e g s he hg = go (smaller? g e)
  where
    go : (b : Bool) → AllRanged (cond b (marking g e s).other (marking e g s).target)
    go true = (all_ranged g e s hg he).1
    go false = (all_ranged e g s he hg).0

pub rounded_sym : (e g : Edge) (s : ℕ) → rounded? e g s ≡ rounded? g e s
unfolding rounded?
rounded_sym e g s = go (smaller? g e) refl (smaller? e g) refl
  where
    go : (b : Bool) → smaller? g e ≡ b → (c : Bool) → smaller? e g ≡ c
        → cond b (marking g e s).rounded (marking e g s).rounded ≡ cond c (marking e g s).rounded (marking g e s).rounded
    go true h true l = absurd (clash l (smaller_asym g e h))
    go true h false l = refl
    go false h true l = refl
    go false h false l =
        let z = not_smaller e g l h in
        ap (λ (w : Edge). (marking e w s).rounded) (sym z) ∙ ap (λ (w : Edge). (marking w e s).rounded) z
