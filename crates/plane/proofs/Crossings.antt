-- Edges of two lines: touching is told by the four directions.
use Rattle.std.proofs.Common.{◌≡◌, ℕ, zero, suc, ◌≢◌, ◌⊎◌, [], ◌∷◌, ℤ, pos, negsuc, ◌-ℤ◌, ◌*ℤ◌, neg_ℤ, ◌≤ℤ◌, ◌<ℤ◌, sym, refl, ap, ◌∙◌, inl, inr, arith}
use borrow.Author.Differences.{ints}
use lib.IntN.{*ℤ_comm}
use Rattle.algebra.proofs.Ring.{v, ◌⊕◌, ◌⊖◌, ◌⊗◌, ⊝, ◌≐◌, ring, ring₂, ring₆, ring₈}
use Rattle.plane.specs.Points.{◌≺◌, ◌≼◌}
use Rattle.plane.specs.Edges.{Edge, Proper, direction, first, second}
use Rattle.plane.specs.Fractions.{Frac, by, whole, Alike, Line, On, Within, IsEnd, TouchAt, Only, along, part, numer, denom, crossing}
use Rattle.plane.specs.Rules.{Inner}
use Rattle.plane.specs.Laws.{CrossesAt}
use Rattle.plane.proofs.Signs.{lt_le, eq_le, linked, over_zero, under_zero, neg_zero}
use Rattle.plane.proofs.Points.{weaken, same_le, never, apart, Side, over, equal, under}
use Rattle.plane.proofs.Lines.{turn, turn_is, Aligned, Sides, left, right, Signs, Signed, signed, turns_on, meet, one_line, once_or_aligned}
use Rattle.plane.proofs.Overlays.{within_on, whole_line, first_on, second_on}
use Rattle.plane.proofs.Directions.{opposed, unlike, few_zeros, not_few, inner_not_straight, Crossed, inner_crossed, crossed_not_aligned}

-- ---- the exact crossing is on both lines
pub along_line : (e : Edge) (n : ℕ) (p : ℤ) → Line e (along e n p)
along_line e n p = ring₆ (λ ax ay bx by d p.
    (bx ⊖ ax) ⊗ ((d ⊗ ay ⊕ (by ⊖ ay) ⊗ p) ⊖ d ⊗ ay) ≐ (by ⊖ ay) ⊗ ((d ⊗ ax ⊕ (bx ⊖ ax) ⊗ p) ⊖ d ⊗ ax)) tt
    e.a.x e.a.y e.b.x e.b.y (pos (suc n)) p

along_other : (e g : Edge) (n : ℕ) (p : ℤ) → pos (suc n) *ℤ first g e ≡ p *ℤ turn e g → Line g (along e n p)
along_other e g n p h = linked _ _ _ _
    (ring (e.a.x ∷ e.a.y ∷ e.b.x ∷ e.b.y ∷ g.a.x ∷ g.a.y ∷ g.b.x ∷ g.b.y ∷ pos (suc n) ∷ p ∷ [])
    ((v 6 ⊖ v 4) ⊗ ((v 8 ⊗ v 1 ⊕ (v 3 ⊖ v 1) ⊗ v 9) ⊖ v 8 ⊗ v 5) ⊖ (v 7 ⊖ v 5) ⊗ ((v 8 ⊗ v 0 ⊕ (v 2 ⊖ v 0) ⊗ v 9) ⊖ v 8 ⊗ v 4))
    (v 8 ⊗ ((v 6 ⊖ v 4) ⊗ (v 1 ⊖ v 5) ⊖ (v 7 ⊖ v 5) ⊗ (v 0 ⊖ v 4)) ⊖ v 9 ⊗ ((v 2 ⊖ v 0) ⊗ (v 7 ⊖ v 5) ⊖ (v 3 ⊖ v 1) ⊗ (v 6 ⊖ v 4))) tt)
    h

pub numer_is : (e g : Edge) → numer e g ≡ first g e
numer_is e g = ring₆ (λ ax ay cx cy dx dy. (cx ⊖ ax) ⊗ (dy ⊖ ay) ⊖ (cy ⊖ ay) ⊗ (dx ⊖ ax) ≐ (dx ⊖ cx) ⊗ (ay ⊖ cy) ⊖ (dy ⊖ cy) ⊗ (ax ⊖ cx)) tt
    e.a.x e.a.y g.a.x g.a.y g.b.x g.b.y

pub denom_is : (e g : Edge) → denom e g ≡ turn e g
denom_is e g = ring₈ (λ ax ay bx by cx cy dx dy.
    (by ⊖ ay) ⊗ ((cx ⊖ ax) ⊖ (dx ⊖ ax)) ⊖ (bx ⊖ ax) ⊗ ((cy ⊖ ay) ⊖ (dy ⊖ ay)) ≐ (bx ⊖ ax) ⊗ (dy ⊖ cy) ⊖ (by ⊖ ay) ⊗ (dx ⊖ cx)) tt
    e.a.x e.a.y e.b.x e.b.y g.a.x g.a.y g.b.x g.b.y

part_lines : (e g : Edge) (n d : ℤ) → n ≡ first g e → d ≡ turn e g → d ≢ pos 0 → Line e (part e n d) × Line g (part e n d)
part_lines e g n (pos zero) h w z = absurd (z refl)
part_lines e g n (pos (suc i)) h w z =
    (along_line e i n, along_other e g i n (ap (λ y. pos (suc i) *ℤ y) (sym h) ∙ *ℤ_comm (pos (suc i)) n ∙ ap (λ y. n *ℤ y) w))
part_lines e g n (negsuc i) h w z = (
  along_line e i (neg_ℤ n),
  along_other e g i (neg_ℤ n) (ap (λ y. pos (suc i) *ℤ y) (sym h) ∙ ring₂ (λ d n. ⊝ d ⊗ n ≐ ⊝ n ⊗ d) tt (negsuc i) n ∙ ap (λ y. neg_ℤ n *ℤ y) w),
)

pub crossing_lines : (e g : Edge) → turn e g ≢ pos 0 → Line e (crossing e g) × Line g (crossing e g)
crossing_lines e g z = part_lines e g (numer e g) (denom e g) (numer_is e g) (denom_is e g) (λ w. z (sym (denom_is e g) ∙ w))

-- ---- sides and signs
pub sides_on : {e : Edge} {f : Frac} {p q : ℤ} → Line e f → Sides e f p q → pos 0 ≤ℤ p → q ≤ℤ pos 0 → On e f
sides_on {e} {f} {p} {q} h w l r = record { line = h; from = lo w.from; to = hi w.to }
  where
    lo : Side p (by f e.a) f.at → by f e.a ≼ f.at
    lo (over i o) = weaken o
    lo (equal i o) = same_le o
    lo (under i o) = absurd (omega (arith, ints))

    hi : Side (neg_ℤ q) f.at (by f e.b) → f.at ≼ by f e.b
    hi (over i o) = weaken o
    hi (equal i o) = same_le o
    hi (under i o) = absurd (omega (arith, ints))

pub sides_within : {e : Edge} {f : Frac} {p q : ℤ} → Line e f → Sides e f p q → pos 0 <ℤ p → q <ℤ pos 0 → Within e f
sides_within {e} {f} {p} {q} h w l r = record { line = h; from = lo w.from; to = hi w.to }
  where
    lo : Side p (by f e.a) f.at → by f e.a ≺ f.at
    lo (over i o) = o
    lo (equal i o) = absurd (omega (arith, ints))
    lo (under i o) = absurd (omega (arith, ints))

    hi : Side (neg_ℤ q) f.at (by f e.b) → f.at ≺ by f e.b
    hi (over i o) = o
    hi (equal i o) = absurd (omega (arith, ints))
    hi (under i o) = absurd (omega (arith, ints))

pub on_signs : {e : Edge} {f : Frac} {p q : ℤ} → On e f → Sides e f p q → (pos 0 ≤ℤ p) × (q ≤ℤ pos 0)
on_signs {e} {f} {p} {q} h w = (lo w.from, hi w.to)
  where
    lo : Side p (by f e.a) f.at → pos 0 ≤ℤ p
    lo (over i o) = lt_le i
    lo (equal i o) = eq_le (sym i)
    lo (under i o) = absurd (never o h.from)

    down : (q : ℤ) → pos 0 <ℤ neg_ℤ q → q ≤ℤ pos 0
    down q i = omega (arith, ints)

    hi : Side (neg_ℤ q) f.at (by f e.b) → q ≤ℤ pos 0
    hi (over i o) = down q i
    hi (equal i o) = eq_le (neg_zero q i)
    hi (under i o) = absurd (never o h.to)

pub end_sign : {e : Edge} {f : Frac} {p q : ℤ} → Sides e f p q → IsEnd e f → (p ≡ pos 0) ⊎ (q ≡ pos 0)
end_sign {e} {f} {p} {q} w (inl s) = inl (go w.from)
  where
    go : Side p (by f e.a) f.at → p ≡ pos 0
    go (over i o) = absurd (apart o (sym s))
    go (equal i o) = i
    go (under i o) = absurd (apart o s)
end_sign {e} {f} {p} {q} w (inr s) = inr (go w.to)
  where
    go : Side (neg_ℤ q) f.at (by f e.b) → q ≡ pos 0
    go (over i o) = absurd (apart o s)
    go (equal i o) = neg_zero q i
    go (under i o) = absurd (apart o (sym s))

pub sign_end : {e : Edge} {f : Frac} {p q : ℤ} → Sides e f p q → (p ≡ pos 0) ⊎ (q ≡ pos 0) → IsEnd e f
sign_end {e} {f} {p} {q} w (inl z) = inl (go w.from)
  where
    go : Side p (by f e.a) f.at → f.at ≡ by f e.a
    go (over i o) = absurd (omega (arith, ints))
    go (equal i o) = sym o
    go (under i o) = absurd (omega (arith, ints))
sign_end {e} {f} {p} {q} w (inr z) = inr (go w.to)
  where
    go : Side (neg_ℤ q) f.at (by f e.b) → f.at ≡ by f e.b
    go (over i o) = absurd (omega (arith, ints))
    go (equal i o) = o
    go (under i o) = absurd (omega (arith, ints))

-- ---- what the four signs must be where edges touch
pub record Met (p q r s : ℤ) : Type 0 where
  pub p_is : pos 0 ≤ℤ p
  pub q_is : q ≤ℤ pos 0
  pub r_is : pos 0 ≤ℤ r
  pub s_is : s ≤ℤ pos 0
  pub free : ¬ (((p ≡ pos 0) ⊎ (q ≡ pos 0)) × ((r ≡ pos 0) ⊎ (s ≡ pos 0)))

pub touch_met : {e g : Edge} {f : Frac} {m p q r s : ℤ} → Signs e g m p q r s → Proper e → Proper g → TouchAt e g f → Met p q r s
touch_met {f = f} t pe pg h =
    let w = meet f t pe pg h.here.line h.there.line in
    let i = on_signs h.here w.0 in
    let j = on_signs h.there w.1 in
    record { p_is = i.0; q_is = i.1; r_is = j.0; s_is = j.1; free = λ z. h.free (sign_end w.0 z.0, sign_end w.1 z.1) }

pub met_touch : {e g : Edge} {m p q r s : ℤ} → Signs e g m p q r s → Proper e → Proper g → Met p q r s → TouchAt e g (crossing e g)
met_touch {e} {g} t pe pg h =
    let l = crossing_lines e g (turns_on t) in
    let w = meet (crossing e g) t pe pg l.0 l.1 in
    record {
      here = sides_on l.0 w.0 h.p_is h.q_is;
      there = sides_on l.1 w.1 h.r_is h.s_is;
      free = λ z. h.free (end_sign w.0 z.0, end_sign w.1 z.1);
    }

-- ---- and what directions that makes
-- p and q are x and y, or both turned
data Turned (x y p q : ℤ) : Type 0 where
  plain : p ≡ x → q ≡ y → Turned x y p q
  back : p ≡ neg_ℤ x → q ≡ neg_ℤ y → Turned x y p q

turned_e : {e g : Edge} {m p q r s : ℤ} → Signs e g m p q r s → Turned (first g e) (second g e) p q
turned_e t = elim t.which [ left w i j n l ↦ plain i j | right w i j n l ↦ back i j ]

turned_g : {e g : Edge} {m p q r s : ℤ} → Signs e g m p q r s → Turned (first e g) (second e g) r s
turned_g t = elim t.which [ left w i j n l ↦ back n l | right w i j n l ↦ plain n l ]

turned_opposed : (x y p q m : ℤ) → Turned x y p q → m ≡ p -ℤ q → pos 0 <ℤ m → direction x ≢ direction y → (pos 0 ≤ℤ p) × (q ≤ℤ pos 0)
turned_opposed x y p q m (plain i j) e l n = let l' : y <ℤ x = omega (arith, ints) in let o = opposed x y n l' in (omega (arith, ints), omega (arith, ints))
turned_opposed x y p q m (back i j) e l n = let l' : x <ℤ y = omega (arith, ints) in let o = opposed y x (λ z. n (sym z)) l' in (omega (arith, ints), omega (arith, ints))

turned_unlike : (x y p q m : ℤ) → Turned x y p q → m ≡ p -ℤ q → pos 0 <ℤ m → pos 0 ≤ℤ p → q ≤ℤ pos 0 → direction x ≢ direction y
turned_unlike x y p q m (plain i j) e l u w = unlike x y (omega (arith, ints)) (omega (arith, ints)) (omega (arith, ints))
turned_unlike x y p q m (back i j) e l u w = λ z. unlike y x (omega (arith, ints)) (omega (arith, ints)) (omega (arith, ints)) (sym z)

turned_apart : (x y p q m : ℤ) → Turned x y p q → m ≡ p -ℤ q → pos 0 <ℤ m → x ≢ y
turned_apart x y p q m (plain i j) e l = λ z. omega (arith, ints)
turned_apart x y p q m (back i j) e l = λ z. omega (arith, ints)

turned_zero : {x y p q : ℤ} → Turned x y p q → (p ≡ pos 0) ⊎ (q ≡ pos 0) → (x ≡ pos 0) ⊎ (y ≡ pos 0)
turned_zero (plain i j) (inl z) = inl (sym i ∙ z)
turned_zero (plain i j) (inr z) = inr (sym j ∙ z)
turned_zero {x} (back i j) (inl z) = inl (neg_zero x (sym i ∙ z))
turned_zero {x} {y} (back i j) (inr z) = inr (neg_zero y (sym j ∙ z))

zero_turned : {x y p q : ℤ} → Turned x y p q → (x ≡ pos 0) ⊎ (y ≡ pos 0) → (p ≡ pos 0) ⊎ (q ≡ pos 0)
zero_turned (plain i j) (inl z) = inl (i ∙ z)
zero_turned (plain i j) (inr z) = inr (j ∙ z)
zero_turned (back i j) (inl z) = inl (i ∙ ap neg_ℤ z)
zero_turned (back i j) (inr z) = inr (j ∙ ap neg_ℤ z)

pub crossed_met : {e g : Edge} {m p q r s : ℤ} → Signs e g m p q r s → Crossed e g → Met p q r s
crossed_met {e} {g} {m} {p} {q} {r} {s} t c =
    let i = turned_opposed _ _ p q m (turned_e t) t.this t.turns c.two in
    let j = turned_opposed _ _ r s m (turned_g t) t.that t.turns c.one in
    record {
      p_is = i.0;
      q_is = i.1;
      r_is = j.0;
      s_is = j.1;
      free = λ z. not_few (first e g) (second e g) (first g e) (second g e) c.few (turned_zero (turned_g t) z.1) (turned_zero (turned_e t) z.0);
    }

pub met_crossed : {e g : Edge} {m p q r s : ℤ} → Signs e g m p q r s → Met p q r s → Crossed e g
met_crossed {e} {g} {m} {p} {q} {r} {s} t h = record {
  few = few_zeros (first e g) (second e g) (first g e) (second g e)
      (turned_apart _ _ r s m (turned_g t) t.that t.turns) (turned_apart _ _ p q m (turned_e t) t.this t.turns)
      (λ z. h.free (zero_turned (turned_e t) z.1, zero_turned (turned_g t) z.0));
  one = turned_unlike _ _ r s m (turned_g t) t.that t.turns h.r_is h.s_is;
  two = turned_unlike _ _ p q m (turned_e t) t.this t.turns h.p_is h.q_is;
}

pub crossed_signed : {e g : Edge} → Crossed e g → Signed e g
crossed_signed {e} {g} c = elim (signed e g) [ inl z ↦ absurd (c.two (ap direction (alike (turn e g) (first g e) (second g e) (turn_is e g) z))) | inr t ↦ t ]
  where
    alike : (m x y : ℤ) → m ≡ x -ℤ y → m ≡ pos 0 → x ≡ y
    alike m x y e f = omega (arith, ints)

-- ---- edges that cross
pub crossed_once : {e g : Edge} (f h : Frac) → Proper e → Proper g → Crossed e g → Line e f → Line g f → Line e h → Line g h → Alike f h
crossed_once {e} {g} f h pe pg c he hg he' hg' = elim (once_or_aligned e g f h pe pg he hg he' hg') [ inl z ↦ absurd (crossed_not_aligned c z) | inr w ↦ w ]

pub crossed_only : {e g : Edge} {f : Frac} → Proper e → Proper g → Crossed e g → On e f → On g f → Only e g f
crossed_only {f = f} pe pg c h w = record { here = h; there = w; alone = λ f' h' w'. crossed_once f f' pe pg c h.line w.line h'.line w'.line }

pub only_sym : {e g : Edge} {f : Frac} → Only e g f → Only g e f
only_sym o = record { here = o.there; there = o.here; alone = λ h i j. o.alone h j i }

pub crossed_touch : {e g : Edge} → Proper e → Proper g → Crossed e g → TouchAt e g (crossing e g)
crossed_touch pe pg c = let (m, p, q, r, s, t) = crossed_signed c in met_touch t pe pg (crossed_met t c)

strict : (r s : ℤ) → pos 0 ≤ℤ r → s ≤ℤ pos 0 → ¬ ((r ≡ pos 0) ⊎ (s ≡ pos 0)) → (pos 0 <ℤ r) × (s <ℤ pos 0)
strict r s h l n = (over_zero r h (λ z. n (inl z)), under_zero s l (λ z. n (inr z)))

-- a point of e on g's line, where an end of e is on that line: strictly inside g
ends_in : {e g : Edge} {f : Frac} → Proper e → Proper g → Crossed e g → On e f → Line g f → (first g e ≡ pos 0) ⊎ (second g e ≡ pos 0) → Within g f
ends_in {f = f} pe pg c h w z =
    let (m, p, q, r, s, t) = crossed_signed c in
    let n = crossed_met t c in
    let x = meet f t pe pg h.line w in
    let y = strict r s n.r_is n.s_is (λ u. n.free (zero_turned (turned_e t) z, u)) in
    sides_within w x.1 y.0 y.1

pub first_within : {e g : Edge} → Proper e → Proper g → Crossed e g → first g e ≡ pos 0 → Within g (whole e.a)
first_within {e} {g} pe pg c z = ends_in pe pg c (first_on e pe) (whole_line g e.a z) (inl z)

pub second_within : {e g : Edge} → Proper e → Proper g → Crossed e g → second g e ≡ pos 0 → Within g (whole e.b)
second_within {e} {g} pe pg c z = ends_in pe pg c (second_on e pe) (whole_line g e.b z) (inr z)

-- no zero: the exact crossing is strictly inside both, and the only common point
pub crosses_at : (t o : Edge) → Proper t → Proper o → Inner t o → CrossesAt t o (crossing t o)
crosses_at e g pe pg c =
    let (m, p, q, r, s, t) = crossed_signed (inner_crossed c) in
    let n = crossed_met t (inner_crossed c) in
    let l = crossing_lines e g (turns_on t) in
    let x = meet (crossing e g) t pe pg l.0 l.1 in
    let y = strict p q n.p_is n.q_is (λ u. here (turned_zero (turned_e t) u)) in
    let w = strict r s n.r_is n.s_is (λ u. there (turned_zero (turned_g t) u)) in
    let i = sides_within l.0 x.0 y.0 y.1 in
    let j = sides_within l.1 x.1 w.0 w.1 in
    record { only = crossed_only pe pg (inner_crossed c) (within_on i) (within_on j); in_target = i; in_other = j }
  where
    here : (first g e ≡ pos 0) ⊎ (second g e ≡ pos 0) → ⊥
    here (inl z) = (inner_not_straight e g c).2 z
    here (inr z) = (inner_not_straight e g c).3 z

    there : (first e g ≡ pos 0) ⊎ (second e g ≡ pos 0) → ⊥
    there (inl z) = (inner_not_straight e g c).0 z
    there (inr z) = (inner_not_straight e g c).1 z

-- ---- edges that touch are aligned, or they cross
pub touch_cases : {e g : Edge} {f : Frac} → Proper e → Proper g → TouchAt e g f → Aligned e g ⊎ Crossed e g
touch_cases {e} {g} {f} pe pg h = go (signed e g)
  where
    go : (turn e g ≡ pos 0) ⊎ Signed e g → Aligned e g ⊎ Crossed e g
    go (inl z) = inl (one_line e g f pe pg h.here.line h.there.line z)
    go (inr (m, p, q, r, s, t)) = inr (met_crossed t (touch_met t pe pg h))
