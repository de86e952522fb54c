-- The outcomes of the rules, each with what it marks; and the point that is taken for an exact crossing.
use Rattle.std.proofs.Common.{◌≡◌, ℕ, zero, suc, ◌<◌, ◌≤◌, min, Bool, true, false, cond, eqb, ltb, leb, ◌≢◌, ℤ, pos, negsuc, ◌+ℤ◌, ◌-ℤ◌, ◌*ℤ◌, neg_ℤ, nat_abs, ◌<ℤ◌, sym, refl, ap, ◌∙◌, subst, arith}
use borrow.Author.Differences.{ints}
use lib.IntN.{zero-*ℤ, +ℤ_idr}
use Rattle.std.proofs.lemmas.Bool.Decides.{nat_tests}
use Rattle.algebra.proofs.Laws.{mul_neg}
use Rattle.algebra.proofs.Ring.{◌⊖◌, ◌⊗◌, ◌≐◌, ring₃}
use Rattle.plane.specs.Points.{Point, distance}
use Rattle.plane.specs.Edges.{Edge, zeros, one_sided?}
use Rattle.plane.specs.Fractions.{Frac, den, Is, along, part, numer, denom, crossing}
use Rattle.plane.specs.Rounding.{nearest, cut, taken_at, taken, on_lines?, reach, gap, nearer, Nearest, Cut}
use Rattle.plane.specs.Rules.{Marking, nothing, on_both, on_target, on_other, overlaid, end_marked, snapped, inner_marked, marking, Inner}
use Rattle.plane.specs.Laws.{StandsFor, NearerEnd, first_end, second_end, Snapped, free, target_end, other_end}
use Rattle.plane.proofs.Signs as sign
use Rattle.plane.proofs.Signs.{den_pos, no_gap, by_sign, unmul_eq}
use Rattle.plane.proofs.Points.{point_ext}
use Rattle.plane.proofs.Tests.{clash}
use Rattle.plane.proofs.Directions.{inner_crossed}
use Rattle.plane.proofs.Markings.{Kind, aligned, off, ending, inner, kind, marking_aligned, marking_off, marking_end, marking_inner, not_off}
use Rattle.plane.proofs.Rounds.{nearest_is, cut_is, nearest_neg, cut_neg, alone, nearest_alone}

cond-true : {X : Type 0} {b : Bool} (x y : X) → b ≡ true → cond b x y ≡ x
cond-true x y e = ap (λ (t : Bool). cond t x y) e

cond-false : {X : Type 0} {b : Bool} (x y : X) → b ≡ false → cond b x y ≡ y
cond-false x y e = ap (λ (t : Bool). cond t x y) e

-- ---- the taken point
level_true : (a b : ℤ) → a ≡ b → eqb (nat_abs (b -ℤ a)) 0 ≡ true
level_true a b e = go (nat_abs (b -ℤ a)) (omega (arith, ints))
  where
    go : (n : ℕ) → n ≡ 0 → eqb n 0 ≡ true
    go n e = grind (arith, nat_tests)

level_false : (a b : ℤ) → a ≢ b → eqb (nat_abs (b -ℤ a)) 0 ≡ false
level_false a b f = go (nat_abs (b -ℤ a)) (λ z. f (same z))
  where
    same : nat_abs (b -ℤ a) ≡ 0 → a ≡ b
    same z = omega (arith, ints)

    go : (n : ℕ) → n ≢ 0 → eqb n 0 ≡ false
    go n e = grind (arith, nat_tests)

gone : (x y : ℤ) → (x +ℤ y) -ℤ x ≡ y
gone x y = omega (arith, ints)

no_way : (u n : ℤ) → u ≡ pos 0 → u *ℤ n ≡ pos 0
no_way u n e = ap (λ (z : ℤ). z *ℤ n) e ∙ zero-*ℤ n

flat : (w u n : ℤ) → u ≡ pos 0 → w +ℤ u *ℤ n ≡ w
flat w u n e = ap (λ (z : ℤ). w +ℤ z) (no_way u n e) ∙ +ℤ_idr w

cut_at : (a w D z r : ℤ) → Cut w D r → z ≡ r → Cut ((D *ℤ a +ℤ w) -ℤ D *ℤ a) D ((a +ℤ z) -ℤ a)
cut_at a w D z r h e = rw (gone (D *ℤ a) w, gone a z, e) h

near_at : (a w D z r : ℤ) → Nearest w D r → z ≡ r → Nearest ((D *ℤ a +ℤ w) -ℤ D *ℤ a) D ((a +ℤ z) -ℤ a)
near_at a w D z r h e = rw (gone (D *ℤ a) w, gone a z, e) h

-- n / d is p / (i + 1)
standing : (t : Edge) (n d p : ℤ) (i : ℕ) → ((u : ℤ) → Cut (u *ℤ p) (pos (suc i)) (cut (u *ℤ n) d)) → ((u : ℤ) → Nearest (u *ℤ p) (pos (suc i)) (nearest (u *ℤ n) d))
    → StandsFor t (along t i p) (taken_at t n d)
standing t n d p i c r = record {
  level = λ e. (
    cut_at t.a.x _ (pos (suc i)) _ _ (c (t.b.x -ℤ t.a.x)) (cond-true _ _ (level_true t.a.y t.b.y e)),
    ap (λ (z : ℤ). t.a.y +ℤ z) (none e) ∙ +ℤ_idr t.a.y,
  );
  slanted = λ e. (
    near_at t.a.x _ (pos (suc i)) _ _ (r (t.b.x -ℤ t.a.x)) (cond-false _ _ (level_false t.a.y t.b.y e)),
    near_at t.a.y _ (pos (suc i)) _ _ (r (t.b.y -ℤ t.a.y)) refl,
  );
}
  where
    none : t.a.y ≡ t.b.y → nearest ((t.b.y -ℤ t.a.y) *ℤ n) d ≡ pos 0
    none e = nearest_alone (pos 0) (omega arith) (r (t.b.y -ℤ t.a.y)) (zero-*ℤ (pos (suc i)) ∙ sym (no_way (t.b.y -ℤ t.a.y) p (sign.gap t.a.y t.b.y e)))

stands : (t : Edge) (n d : ℤ) → 0 < nat_abs d → StandsFor t (part t n d) (taken_at t n d)
stands t n (pos zero) h = absurd (omega arith)
stands t n (pos (suc i)) h = standing t n (pos (suc i)) n i (λ u. cut_is (u *ℤ n) (pos (suc i)) h) (λ u. nearest_is (u *ℤ n) (pos (suc i)) h)
stands t n (negsuc i) h =
    standing t n (negsuc i) (neg_ℤ n) i
    (λ u. rw (mul_neg u n) (cut_neg (cut_is (u *ℤ n) (negsuc i) h)))
    (λ u. rw (mul_neg u n) (nearest_neg (nearest_is (u *ℤ n) (negsuc i) h)))

pub stands_for : (t o : Edge) → 0 < nat_abs (denom t o) → StandsFor t (crossing t o) (taken t o)
unfolding taken
stands_for t o h = stands t (numer t o) (denom t o) h

-- the exact point of a level target is level with it
part_level : (t : Edge) (n d : ℤ) → 0 < nat_abs d → t.a.y ≡ t.b.y → (part t n d).at.y ≡ den (part t n d) *ℤ t.a.y
part_level t n (pos zero) h e = absurd (omega arith)
part_level t n (pos (suc i)) h e = flat (pos (suc i) *ℤ t.a.y) (t.b.y -ℤ t.a.y) n (sign.gap t.a.y t.b.y e)
part_level t n (negsuc i) h e = flat (pos (suc i) *ℤ t.a.y) (t.b.y -ℤ t.a.y) (neg_ℤ n) (sign.gap t.a.y t.b.y e)

-- a whole exact point is the one that is taken
stands_whole : (t : Edge) (f : Frac) (p q : Point) → StandsFor t f p → (t.a.y ≡ t.b.y → f.at.y ≡ den f *ℤ t.a.y) → Is f q → p ≡ q
stands_whole t f p q h l e =
    by_sign (t.b.y -ℤ t.a.y) (λ s. slants (less t.a.y t.b.y s)) (λ s. levels (no_gap t.a.y t.b.y s)) (λ s. slants (more t.a.y t.b.y s))
  where
    less : (a b : ℤ) → (b -ℤ a) <ℤ pos 0 → a ≢ b
    less a b s e = omega (arith, ints)

    more : (a b : ℤ) → pos 0 <ℤ (b -ℤ a) → a ≢ b
    more a b s e = omega (arith, ints)

    ex : f.at.x ≡ den f *ℤ q.x
    ex = ap (λ (z : Point). z.x) e

    ey : f.at.y ≡ den f *ℤ q.y
    ey = ap (λ (z : Point). z.y) e

    away : (w D a z : ℤ) → w ≡ D *ℤ z → (z -ℤ a) *ℤ D ≡ w -ℤ D *ℤ a
    away w D a z e = ring₃ (λ D a z. (z ⊖ a) ⊗ D ≐ D ⊗ z ⊖ D ⊗ a) tt D a z ∙ ap (λ (u : ℤ). u -ℤ D *ℤ a) (sym e)

    home : (p q a : ℤ) → p -ℤ a ≡ q -ℤ a → p ≡ q
    home p q a e = omega (arith, ints)

    levels : t.a.y ≡ t.b.y → p ≡ q
    levels s =
        let w = h.level s in
        point_ext (home p.x q.x t.a.x (alone _ _ _ _ w.0.near (away _ (den f) t.a.x q.x ex)))
        (w.1 ∙ unmul_eq (den f) t.a.y q.y (den_pos f.k) (sym (l s) ∙ ey))

    slants : t.a.y ≢ t.b.y → p ≡ q
    slants s =
        let w = h.slanted s in
        point_ext (home p.x q.x t.a.x (nearest_alone (q.x -ℤ t.a.x) (omega arith) w.0 (away _ (den f) t.a.x q.x ex)))
        (home p.y q.y t.a.y (nearest_alone (q.y -ℤ t.a.y) (omega arith) w.1 (away _ (den f) t.a.y q.y ey)))

pub taken_whole : (t o : Edge) → 0 < nat_abs (denom t o) → (q : Point) → Is (crossing t o) q → taken t o ≡ q
taken_whole t o h q e = stands_whole t (crossing t o) (taken t o) q (stands_for t o h) (part_level t (numer t o) (denom t o) h) e

-- ---- near ends
nearer_is : (e : Edge) (p : Point) → NearerEnd e p (nearer e p) × (distance p (nearer e p) ≡ gap e p)
nearer_is e p = go (ltb (distance p e.a) (distance p e.b)) refl
  where
    less : (m n : ℕ) → ltb m n ≡ true → (m < n) × (m ≡ min m n)
    less m n h = (grind (arith, nat_tests), omega (arith, lt h))
      where
        lt : ltb m n ≡ true → m < n
        lt h = grind (arith, nat_tests)

    more : (m n : ℕ) → ltb m n ≡ false → (n ≤ m) × (n ≡ min m n)
    more m n h = (le h, omega (arith, le h))
      where
        le : ltb m n ≡ false → n ≤ m
        le h = grind (arith, nat_tests)

    go : (b : Bool) → ltb (distance p e.a) (distance p e.b) ≡ b → NearerEnd e p (cond b e.a e.b) × (distance p (cond b e.a e.b) ≡ gap e p)
    go true h = let w = less (distance p e.a) (distance p e.b) h in (first_end refl w.0, w.1)
    go false h = let w = more (distance p e.a) (distance p e.b) h in (second_end refl w.0, w.1)

snapped_is : (t o : Edge) (p : Point) (r : ℕ) → Snapped t o p r (snapped t o p r).target (snapped t o p r).other × ((snapped t o p r).rounded ≡ true)
unfolding snapped
snapped_is t o p r = near (leb (min (gap t p) (gap o p)) r) refl
  where
    far : (a b c d r : ℕ) → leb (min (min a b) (min c d)) r ≡ false → (r < a) × (r < b) × (r < c) × (r < d)
    far a b c d r h = omega (arith, lt (min (min a b) (min c d)) h)
      where
        lt : (m : ℕ) → leb m r ≡ false → r < m
        lt m h = grind (arith, nat_tests)

    le : (m n : ℕ) → leb m n ≡ true → m ≤ n
    le m n h = grind (arith, nat_tests)

    gt : (m n : ℕ) → leb m n ≡ false → n < m
    gt m n h = grind (arith, nat_tests)

    least : (m g a b r : ℕ) → m ≡ g → g ≤ min a b → min g (min a b) ≤ r → (m ≤ a) × (m ≤ b) × (m ≤ r)
    least m g a b r e h l = omega arith

    most : (m g a b r : ℕ) → m ≡ g → g < min a b → min (min a b) g ≤ r → (m < a) × (m < b) × (m ≤ r)
    most m g a b r e h l = omega arith

    in_reach : leb (min (gap t p) (gap o p)) r ≡ true → (b : Bool) → leb (gap t p) (gap o p) ≡ b
        → let m = cond b (on_other (nearer t p) true) (on_target (nearer o p) true) in Snapped t o p r m.target m.other × (m.rounded ≡ true)
    in_reach l true h =
        let n = nearer_is t p in
        let w = least (distance p (nearer t p)) (gap t p) (distance p o.a) (distance p o.b) r n.1 (le (gap t p) (gap o p) h) (le (min (gap t p) (gap o p)) r l) in
        (target_end (nearer t p) n.0 (record { first = w.0; second = w.1 }) w.2 refl refl, refl)
    in_reach l false h =
        let n = nearer_is o p in
        let w = most (distance p (nearer o p)) (gap o p) (distance p t.a) (distance p t.b) r n.1 (gt (gap t p) (gap o p) h) (le (min (gap t p) (gap o p)) r l) in
        (other_end (nearer o p) n.0 (record { first = w.0; second = w.1 }) w.2 refl refl, refl)

    near : (b : Bool) → leb (min (gap t p) (gap o p)) r ≡ b
        → let m = cond b (cond (leb (gap t p) (gap o p)) (on_other (nearer t p) true) (on_target (nearer o p) true)) (on_both p true) in
        Snapped t o p r m.target m.other × (m.rounded ≡ true)
    near true h = in_reach h (leb (gap t p) (gap o p)) refl
    near false h =
        let w = far (distance p t.a) (distance p t.b) (distance p o.a) (distance p o.b) r h in
        (free (record { first = w.0; second = w.1 }) (record { first = w.2; second = w.3 }) refl refl, refl)

-- ---- the outcomes
pub data Outcome (t o : Edge) (s : ℕ) (m : Marking) : Type 0 where
  overlay : zeros t o ≡ 4 → m ≡ overlaid t o → Outcome t o s m
  none : ¬ Inner t o → m ≡ nothing → Outcome t o s m
  end : zeros t o ≡ 1 → one_sided? t o ≡ false → m ≡ end_marked t o → Outcome t o s m
  exact : Inner t o → on_lines? t o (taken t o) ≡ true → m ≡ on_both (taken t o) false → Outcome t o s m
  rounded : Inner t o → on_lines? t o (taken t o) ≡ false
      → Snapped t o (taken t o) (reach s) m.target m.other → m.rounded ≡ true → Outcome t o s m

pub outcome : (t o : Edge) (s : ℕ) → Outcome t o s (marking t o s)
unfolding inner_marked
outcome t o s = go (kind t o)
  where
    taking : Inner t o → (b : Bool) → on_lines? t o (taken t o) ≡ b → Outcome t o s (cond b (on_both (taken t o) false) (snapped t o (taken t o) (reach s)))
    taking i true h = exact i h refl
    taking i false h = let w = snapped_is t o (taken t o) (reach s) in rounded i h w.0 w.1

    go : Kind t o → Outcome t o s (marking t o s)
    go (aligned z) = overlay z (marking_aligned t o s z)
    go (off a b) = none (λ i. clash b (not_off t o (inner_crossed i))) (marking_off t o s a b)
    go (ending z b) = end z b (marking_end t o s z b)
    go (inner i) = subst (Outcome t o s) (sym (marking_inner t o s i)) (taking i (on_lines? t o (taken t o)) refl)
