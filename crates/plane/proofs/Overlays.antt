-- Points on an edge, and edges on one line.
use Rattle.std.proofs.Common.{◌≡◌, ◌⊎◌, ◌↔◌, ℤ, pos, ◌+ℤ◌, ◌*ℤ◌, ◌<ℤ◌, sym, refl, ◌∙◌, subst, inl, inr, arith}
use borrow.Author.Differences.{ints}
use Rattle.algebra.proofs.Ring.{k, ◌⊕◌, ◌⊖◌, ◌⊗◌, ◌≐◌, ring₄, ring₆}
use Rattle.algebra.proofs.Laws.{one_mul}
use Rattle.plane.specs.Points.{Point, ◌≺◌, by_x, by_y, ◌≼◌, cross}
use Rattle.plane.specs.Edges.{Edge, Proper, Between}
use Rattle.plane.specs.Fractions.{Frac, den, by, whole, Is, Alike, Line, On, Within, IsEnd, TouchAt, Shared}
use Rattle.plane.proofs.Signs.{den_pos, linked}
use Rattle.plane.proofs.Points.{point_ext, edge_ext, weaken, same_le, split, Order, before, same, after, compare, ≺-≼, ≼-≺, ≺-trans, apart, unscale}
use Rattle.plane.proofs.Lines.{Aligned, at_first, at_second}

pub within_on : {e : Edge} {f : Frac} → Within e f → On e f
within_on h = record { line = h.line; from = weaken h.from; to = weaken h.to }

pub within_free : {e : Edge} {f : Frac} → Within e f → ¬ IsEnd e f
within_free h (inl s) = apart h.from (sym s)
within_free h (inr s) = apart h.to s

pub within_or_end : {e : Edge} {f : Frac} → On e f → Within e f ⊎ IsEnd e f
within_or_end {e} {f} h = go (split h.from) (split h.to)
  where
    go : (by f e.a ≺ f.at) ⊎ (by f e.a ≡ f.at) → (f.at ≺ by f e.b) ⊎ (f.at ≡ by f e.b) → Within e f ⊎ IsEnd e f
    go (inl l) (inl r) = inl (record { line = h.line; from = l; to = r })
    go (inl l) (inr r) = inr (inr r)
    go (inr l) r = inr (inl (sym l))

pub touch_in : {e g : Edge} {f : Frac} → Within e f → On g f → TouchAt e g f
touch_in h w = record { here = within_on h; there = w; free = λ z. within_free h z.0 }

pub touch_sym : {e g : Edge} {f : Frac} → TouchAt e g f → TouchAt g e f
touch_sym t = record { here = t.there; there = t.here; free = λ z. t.free (z.1, z.0) }

-- ---- the order alone
-- some end is strictly between its partner's ends
pub data Overlaps (e g : Edge) : Type 0 where
  first_of_second : Between e g.a → Overlaps e g
  second_of_second : Between e g.b → Overlaps e g
  first_of_first : Between g e.a → Overlaps e g
  second_of_first : Between g e.b → Overlaps e g

pub overlaps_sym : {e g : Edge} → Overlaps e g → Overlaps g e
overlaps_sym (first_of_second h) = first_of_first h
overlaps_sym (second_of_second h) = second_of_first h
overlaps_sym (first_of_first h) = first_of_second h
overlaps_sym (second_of_first h) = second_of_second h

-- each edge begins before the other ends
pub record Meets (e g : Edge) : Type 0 where
  pub this : e.a ≺ g.b
  pub that : g.a ≺ e.b

meets_order : {e g : Edge} → Meets e g → (e ≡ g) ⊎ Overlaps e g
meets_order {e} {g} m = go (compare e.a g.a) (compare e.b g.b)
  where
    go : Order e.a g.a → Order e.b g.b → (e ≡ g) ⊎ Overlaps e g
    go (before l) r = inr (first_of_second (record { from = l; to = m.that }))
    go (after l) r = inr (first_of_first (record { from = l; to = m.this }))
    go (same l) (before r) = inr (second_of_first (record { from = m.that; to = r }))
    go (same l) (after r) = inr (second_of_second (record { from = m.this; to = r }))
    go (same l) (same r) = inl (edge_ext l r)

pub overlaps_meets : {e g : Edge} → Proper e → Proper g → Overlaps e g → Meets e g
overlaps_meets pe pg (first_of_second h) = record { this = ≺-trans h.from pg; that = h.to }
overlaps_meets pe pg (second_of_second h) = record { this = h.from; that = ≺-trans pg h.to }
overlaps_meets pe pg (first_of_first h) = record { this = h.to; that = ≺-trans h.from pe }
overlaps_meets pe pg (second_of_first h) = record { this = ≺-trans pe h.to; that = h.from }

meets_by : {e g : Edge} {f : Frac} → Within e f → On g f → Meets e g
meets_by {e} {g} {f} h w = record {
  this = unscale (den f) e.a g.b (den_pos f.k) (≺-≼ h.from w.to);
  that = unscale (den f) g.a e.b (den_pos f.k) (≼-≺ w.from h.to);
}

-- edges that touch are equal, or an end of one is between those of the other in the order of points
pub touch_order : {e g : Edge} {f : Frac} → TouchAt e g f → (e ≡ g) ⊎ Overlaps e g
touch_order {e} {g} {f} t = go (within_or_end t.here) (within_or_end t.there)
  where
    go : Within e f ⊎ IsEnd e f → Within g f ⊎ IsEnd g f → (e ≡ g) ⊎ Overlaps e g
    go (inl h) w = meets_order (meets_by h t.there)
    go (inr h) (inl w) = let m = meets_by w t.here in meets_order (record { this = m.that; that = m.this })
    go (inr h) (inr w) = absurd (t.free (h, w))

-- ---- whole points
pub whole_line : (e : Edge) (p : Point) → cross e.a e.b p ≡ pos 0 → Line e (whole p)
whole_line e p h = linked _ _ (cross e.a e.b p) (pos 0) (ring₆ (λ ax ay bx by px py.
    (bx ⊖ ax) ⊗ (py ⊖ k (pos 1) ⊗ ay) ⊖ (by ⊖ ay) ⊗ (px ⊖ k (pos 1) ⊗ ax) ≐ (bx ⊖ ax) ⊗ (py ⊖ ay) ⊖ (by ⊖ ay) ⊗ (px ⊖ ax) ⊖ k (pos 0)) tt
    e.a.x e.a.y e.b.x e.b.y p.x p.y) h

pub line_whole : (e : Edge) (p : Point) → Line e (whole p) → cross e.a e.b p ≡ pos 0
line_whole e p h = linked (cross e.a e.b p) (pos 0) _ _ (ring₆ (λ ax ay bx by px py.
    (bx ⊖ ax) ⊗ (py ⊖ ay) ⊖ (by ⊖ ay) ⊗ (px ⊖ ax) ⊖ k (pos 0) ≐ (bx ⊖ ax) ⊗ (py ⊖ k (pos 1) ⊗ ay) ⊖ (by ⊖ ay) ⊗ (px ⊖ k (pos 1) ⊗ ax)) tt
    e.a.x e.a.y e.b.x e.b.y p.x p.y) h

-- the measure of a whole point
pub own : (p q : Point) → by (whole q) p ≡ p
own p q = point_ext (one_mul p.x) (one_mul p.y)

pub whole_alike : (p q : Point) → Alike (whole p) (whole q) → p ≡ q
whole_alike p q h = sym (own p q) ∙ h ∙ own q p

pub whole_on : (e : Edge) (p : Point) → cross e.a e.b p ≡ pos 0 → e.a ≼ p → p ≼ e.b → On e (whole p)
whole_on e p z l r = record {
  line = whole_line e p z;
  from = subst (λ (q : Point). q ≼ p) (sym (own e.a p)) l;
  to = subst (λ (q : Point). p ≼ q) (sym (own e.b p)) r;
}

pub whole_within : (e : Edge) (p : Point) → cross e.a e.b p ≡ pos 0 → Between e p → Within e (whole p)
whole_within e p z h = record {
  line = whole_line e p z;
  from = subst (λ (q : Point). q ≺ p) (sym (own e.a p)) h.from;
  to = subst (λ (q : Point). p ≺ q) (sym (own e.b p)) h.to;
}

pub first_on : (e : Edge) → Proper e → On e (whole e.a)
first_on e h = whole_on e e.a (at_first e.a e.b) (same_le refl) (weaken h)

pub second_on : (e : Edge) → Proper e → On e (whole e.b)
second_on e h = whole_on e e.b (at_second e.a e.b) (weaken h) (same_le refl)

pub is_whole : (p : Point) → Is (whole p) p
is_whole p = sym (own p p)

-- ---- edges that share more than one point
-- halfway
half : Edge → Frac
half e = record { at = record { x = e.a.x +ℤ e.b.x; y = e.a.y +ℤ e.b.y }; k = 1 }

half_in : (e : Edge) → Proper e → Within e (half e)
unfolding half
half_in e h = record {
  line = ring₄ (λ ax ay bx by. (bx ⊖ ax) ⊗ ((ay ⊕ by) ⊖ k (pos 2) ⊗ ay) ≐ (by ⊖ ay) ⊗ ((ax ⊕ bx) ⊖ k (pos 2) ⊗ ax)) tt e.a.x e.a.y e.b.x e.b.y;
  from = from h;
  to = to h;
}
  where
    l : (a b : ℤ) → a <ℤ b → (pos 2 *ℤ a) <ℤ (a +ℤ b)
    l a b h = omega (arith, ints)

    r : (a b : ℤ) → a <ℤ b → (a +ℤ b) <ℤ (pos 2 *ℤ b)
    r a b h = omega (arith, ints)

    le : (a b : ℤ) → a ≡ b → pos 2 *ℤ a ≡ a +ℤ b
    le a b h = omega (arith, ints)

    re : (a b : ℤ) → a ≡ b → a +ℤ b ≡ pos 2 *ℤ b
    re a b h = omega (arith, ints)

    from : e.a ≺ e.b → by (half e) e.a ≺ (half e).at
    from (by_x h) = by_x (l e.a.x e.b.x h)
    from (by_y z h) = by_y (le e.a.x e.b.x z) (l e.a.y e.b.y h)

    to : e.a ≺ e.b → (half e).at ≺ by (half e) e.b
    to (by_x h) = by_x (r e.a.x e.b.x h)
    to (by_y z h) = by_y (re e.a.x e.b.x z) (r e.a.y e.b.y h)

pub equal_touch : {e g : Edge} → Proper e → e ≡ g → (f : Frac) × TouchAt e g f
equal_touch {e} {g} h s = (half e, touch_in (half_in e h) (subst (λ (z : Edge). On z (half e)) s (within_on (half_in e h))))

pub overlaps_touch : {e g : Edge} → Proper e → Proper g → Aligned e g → Overlaps e g → (f : Frac) × TouchAt e g f
overlaps_touch {e} {g} pe pg z (first_of_second h) = (whole g.a, touch_in (whole_within e g.a z.ga h) (first_on g pg))
overlaps_touch {e} {g} pe pg z (second_of_second h) = (whole g.b, touch_in (whole_within e g.b z.gb h) (second_on g pg))
overlaps_touch {e} {g} pe pg z (first_of_first h) = (whole e.a, touch_sym (touch_in (whole_within g e.a z.ea h) (first_on e pe)))
overlaps_touch {e} {g} pe pg z (second_of_first h) = (whole e.b, touch_sym (touch_in (whole_within g e.b z.eb h) (second_on e pe)))

-- edges of one line touch exactly if they are equal, or an end is strictly between its partner's
pub aligned_touch : {e g : Edge} → Proper e → Proper g → Aligned e g → ((f : Frac) × TouchAt e g f) ↔ ((e ≡ g) ⊎ Overlaps e g)
aligned_touch {e} {g} pe pg z = (λ t. touch_order t.1, back)
  where
    back : (e ≡ g) ⊎ Overlaps e g → (f : Frac) × TouchAt e g f
    back (inl h) = equal_touch pe h
    back (inr h) = overlaps_touch pe pg z h

-- a common point, at or after both first ends, before both second ends
record Low (e g : Edge) (p : Point) : Type 0 where
  on_e : cross e.a e.b p ≡ pos 0
  on_g : cross g.a g.b p ≡ pos 0
  from_e : e.a ≼ p
  from_g : g.a ≼ p
  to_e : p ≺ e.b
  to_g : p ≺ g.b

low : {e g : Edge} → Proper e → Proper g → Aligned e g → Meets e g → (p : Point) × Low e g p
low {e} {g} pe pg z m = go (compare e.a g.a)
  where
    at_g : e.a ≼ g.a → (p : Point) × Low e g p
    at_g l = (g.a, record { on_e = z.ga; on_g = at_first g.a g.b; from_e = l; from_g = same_le refl; to_e = m.that; to_g = pg })

    go : Order e.a g.a → (p : Point) × Low e g p
    go (before l) = at_g (weaken l)
    go (same l) = at_g (same_le l)
    go (after l) = (e.a, record { on_e = at_first e.a e.b; on_g = z.ea; from_e = same_le refl; from_g = weaken l; to_e = pe; to_g = m.this })

-- they share it and the first of the second ends
pub aligned_shared : {e g : Edge} → Proper e → Proper g → Aligned e g → Meets e g → (f : Frac) × (h : Frac) × Shared e g f h
aligned_shared {e} {g} pe pg z m = let (p, l) = low pe pg z m in go p l (compare e.b g.b)
  where
    go : (p : Point) → Low e g p → Order e.b g.b → (f : Frac) × (h : Frac) × Shared e g f h
    go p l o = cases o
      where
        at_e : e.b ≼ g.b → (f : Frac) × (h : Frac) × Shared e g f h
        at_e r = (
          whole p,
          whole e.b,
          record {
            here = whole_on e p l.on_e l.from_e (weaken l.to_e);
            there = whole_on g p l.on_g l.from_g (weaken l.to_g);
            here_too = second_on e pe;
            there_too = whole_on g e.b z.eb (weaken m.that) r;
            different = λ w. apart l.to_e (whole_alike p e.b w);
          },
        )

        cases : Order e.b g.b → (f : Frac) × (h : Frac) × Shared e g f h
        cases (before r) = at_e (weaken r)
        cases (same r) = at_e (same_le r)
        cases (after r) = (
          whole p,
          whole g.b,
          record {
            here = whole_on e p l.on_e l.from_e (weaken l.to_e);
            there = whole_on g p l.on_g l.from_g (weaken l.to_g);
            here_too = whole_on e g.b z.gb (weaken m.this) (weaken r);
            there_too = second_on g pg;
            different = λ w. apart l.to_g (whole_alike p g.b w);
          },
        )
