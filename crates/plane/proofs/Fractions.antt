-- The same point over other numbers: what holds of it over one holds over the other.
use Rattle.std.proofs.Common.{◌≡◌, ℤ, ◌-ℤ◌, ◌*ℤ◌, sym, ap, ◌∙◌, subst, inl, inr}
use Rattle.algebra.proofs.Ring.{◌⊖◌, ◌⊗◌, ◌≐◌, ring₃, ring₅}
use Rattle.plane.specs.Points.{Point, ◌≺◌}
use Rattle.plane.specs.Edges.{Edge}
use Rattle.plane.specs.Fractions.{Frac, den, by, whole, Is, Alike, Line, On, Within, IsEnd}
use Rattle.plane.proofs.Signs.{den_pos, unmul_eq}
use Rattle.plane.proofs.Points.{point_ext, weaken, same_le, split, scale, unscale, unscale_same}
use Rattle.plane.proofs.Overlays.{own}

-- a point in two measures
crosswise : (f h : Frac) (p : Point) → by h (by f p) ≡ by f (by h p)
crosswise f h p = point_ext (swap (den h) (den f) p.x) (swap (den h) (den f) p.y)
  where
    swap : (d d' a : ℤ) → d *ℤ (d' *ℤ a) ≡ d' *ℤ (d *ℤ a)
    swap = ring₃ (λ d d' a. d ⊗ (d' ⊗ a) ≐ d' ⊗ (d ⊗ a)) tt

pub alike_trans : (f g h : Frac) → Alike f g → Alike g h → Alike f h
alike_trans f g h i j = unscale_same (den g) _ _ (den_pos g.k)
    (crosswise h g f.at ∙ ap (λ (p : Point). by h p) i ∙ crosswise f h g.at ∙ ap (λ (p : Point). by f p) j ∙ crosswise g f h.at)

pub is_alike : (f : Frac) (p : Point) → Is f p → Alike f (whole p)
is_alike f p i = own f.at p ∙ i

pub alike_is : (f : Frac) (p : Point) → Alike f (whole p) → Is f p
alike_is f p i = sym (own f.at p) ∙ i

-- ---- from f to h
pub move_is : (f h : Frac) (p : Point) → Alike f h → Is f p → Is h p
move_is f h p s i = unscale_same (den f) h.at (by h p) (den_pos f.k) (sym s ∙ ap (λ (q : Point). by h q) i ∙ crosswise f h p)

pub move-≺ : (f h : Frac) (p : Point) → Alike f h → by f p ≺ f.at → by h p ≺ h.at
move-≺ f h p s l = unscale (den f) (by h p) h.at (den_pos f.k)
    (subst (λ (q : Point). q ≺ by f h.at) (crosswise f h p) (subst (λ (q : Point). by h (by f p) ≺ q) s (scale (den h) (den_pos h.k) l)))

pub move-≻ : (f h : Frac) (p : Point) → Alike f h → f.at ≺ by f p → h.at ≺ by h p
move-≻ f h p s l = unscale (den f) h.at (by h p) (den_pos f.k)
    (subst (λ (q : Point). by f h.at ≺ q) (crosswise f h p) (subst (λ (q : Point). q ≺ by h (by f p)) s (scale (den h) (den_pos h.k) l)))

pub move_line : (e : Edge) (f h : Frac) → Alike f h → Line e f → Line e h
move_line e f h s l = unmul_eq (den f) _ _ (den_pos f.k)
    (go (e.b.x -ℤ e.a.x) e.a.y (den f) (den h) f.at.y h.at.y (ap (λ (p : Point). p.y) s)
    ∙ ap (λ z. den h *ℤ z) l
    ∙ sym (go (e.b.y -ℤ e.a.y) e.a.x (den f) (den h) f.at.x h.at.x (ap (λ (p : Point). p.x) s)))
  where
    go : (u a d d' y y' : ℤ) → d' *ℤ y ≡ d *ℤ y' → d *ℤ (u *ℤ (y' -ℤ d' *ℤ a)) ≡ d' *ℤ (u *ℤ (y -ℤ d *ℤ a))
    go u a d d' y y' e =
        ring₅ (λ u a d d' y. d ⊗ (u ⊗ (y ⊖ d' ⊗ a)) ≐ u ⊗ (d ⊗ y ⊖ d ⊗ (d' ⊗ a))) tt u a d d' y'
        ∙ ap (λ z. u *ℤ (z -ℤ d *ℤ (d' *ℤ a))) (sym e)
        ∙ ring₅ (λ u a d d' y. u ⊗ (d' ⊗ y ⊖ d ⊗ (d' ⊗ a)) ≐ d' ⊗ (u ⊗ (y ⊖ d ⊗ a))) tt u a d d' y

pub move_within : (e : Edge) (f h : Frac) → Alike f h → Within e f → Within e h
move_within e f h s w = record { line = move_line e f h s w.line; from = move-≺ f h e.a s w.from; to = move-≻ f h e.b s w.to }

pub move_on : (e : Edge) (f h : Frac) → Alike f h → On e f → On e h
move_on e f h s w = record {
  line = move_line e f h s w.line;
  from = elim (split w.from) [ inl l ↦ weaken (move-≺ f h e.a s l) | inr i ↦ same_le (sym (move_is f h e.a s (sym i))) ];
  to = elim (split w.to) [ inl l ↦ weaken (move-≻ f h e.b s l) | inr i ↦ same_le (move_is f h e.b s i) ];
}

pub move_end : (e : Edge) (f h : Frac) → Alike f h → IsEnd e f → IsEnd e h
move_end e f h s (inl i) = inl (move_is f h e.a s i)
move_end e f h s (inr i) = inr (move_is f h e.b s i)
