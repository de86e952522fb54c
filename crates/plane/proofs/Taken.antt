-- The point taken for a crossing, from the numbers that the code computes.
use Rattle.std.proofs.Common.{◌≡◌, ◌<◌, true, false, cond, eqb, ℤ, pos, negsuc, ◌+ℤ◌, ◌-ℤ◌, ◌*ℤ◌, nat_abs, sym, ap, ◌∙◌, subst, arith, w64, SFits, of_z}
use borrow.Author.Differences.{ints}
use Rattle.plane.specs.Points.{Point, Ranged}
use Rattle.plane.specs.Edges.{Edge, InSheet}
use Rattle.plane.specs.Fractions.{numer, denom}
use Rattle.plane.specs.Rounding.{nearest, cut, taken}
use Rattle.plane.specs.Rules.{Inner}
use Rattle.plane.proofs.Points.{point_ext}
use Rattle.plane.proofs.Crossings.{denom_is}
use Rattle.plane.proofs.Rounds.{inner_denom, taken_ranged}

-- a number is 0 exactly where its bits are
pub zero_bits : (y : ℤ) → of_z w64 y ≡ 0 → SFits w64 y → eqb (nat_abs y) 0 ≡ true
zero_bits (pos n) e f = grind arith
zero_bits (negsuc n) e f = absurd (omega (arith, ints))

pub some_bits : (y : ℤ) → (of_z w64 y ≡ 0 → ⊥) → eqb (nat_abs y) 0 ≡ false
some_bits (pos n) e = grind arith
some_bits (negsuc n) e = grind arith

-- the denominator, from offsets to both ends of either edge
pub denom_by : (t o : Edge) (ux uy vx vy d : ℤ) → d ≡ ux *ℤ vy -ℤ uy *ℤ vx → ux ≡ t.b.x -ℤ t.a.x → uy ≡ t.b.y -ℤ t.a.y → vx ≡ o.b.x -ℤ o.a.x → vy ≡ o.b.y -ℤ o.a.y → d ≡ denom t o
denom_by t o ux uy vx vy d e a b c f = this ∙ sym (denom_is t o)
  where
    this : d ≡ (t.b.x -ℤ t.a.x) *ℤ (o.b.y -ℤ o.a.y) -ℤ (t.b.y -ℤ t.a.y) *ℤ (o.b.x -ℤ o.a.x)
    this = cc

pub numer_by : (t o : Edge) (bx by cx cy n : ℤ) → n ≡ bx *ℤ cy -ℤ by *ℤ cx → bx ≡ o.a.x -ℤ t.a.x → by ≡ o.a.y -ℤ t.a.y → cx ≡ o.b.x -ℤ t.a.x → cy ≡ o.b.y -ℤ t.a.y → n ≡ numer t o
numer_by t o bx by cx cy n e a b c d = cc

pub denom_some : (t o : Edge) (d : ℤ) → d ≡ denom t o → Inner t o → 0 < nat_abs d
denom_some t o d e i = subst (λ (z : ℤ). 0 < nat_abs z) (sym e) (inner_denom t o i).0

pub taken_by : (t o : Edge) (ux uy n d x y : ℤ) → ux ≡ t.b.x -ℤ t.a.x → uy ≡ t.b.y -ℤ t.a.y → n ≡ numer t o → d ≡ denom t o
    → x ≡ cond (eqb (nat_abs uy) 0) (cut (ux *ℤ n) d) (nearest (ux *ℤ n) d) → y ≡ nearest (uy *ℤ n) d
    → ◌≡◌ {A = Point} (record { x = t.a.x +ℤ x; y = t.a.y +ℤ y }) (taken t o)
unfolding taken
taken_by t o ux uy n d x y eu ev en ed ex ey =
    point_ext (ap (λ (z : ℤ). t.a.x +ℤ z) (ex ∙ in_x)) (ap (λ (z : ℤ). t.a.y +ℤ z) (ey ∙ in_y))
  where
    in_y : nearest (uy *ℤ n) d ≡ nearest ((t.b.y -ℤ t.a.y) *ℤ numer t o) (denom t o)
    in_y = ap (λ (z : ℤ). nearest (z *ℤ n) d) ev ∙ ap (λ (z : ℤ). nearest ((t.b.y -ℤ t.a.y) *ℤ z) d) en ∙ ap (λ (z : ℤ). nearest ((t.b.y -ℤ t.a.y) *ℤ numer t o) z) ed

    in_x : cond (eqb (nat_abs uy) 0) (cut (ux *ℤ n) d) (nearest (ux *ℤ n) d)
        ≡ cond (eqb (nat_abs (t.b.y -ℤ t.a.y)) 0) (cut ((t.b.x -ℤ t.a.x) *ℤ numer t o) (denom t o)) (nearest ((t.b.x -ℤ t.a.x) *ℤ numer t o) (denom t o))
    in_x =
        ap (λ (z : ℤ). cond (eqb (nat_abs z) 0) (cut (ux *ℤ n) d) (nearest (ux *ℤ n) d)) ev
        ∙ ap (λ (z : ℤ). cond (eqb (nat_abs (t.b.y -ℤ t.a.y)) 0) (cut (z *ℤ n) d) (nearest (z *ℤ n) d)) eu
        ∙ ap (λ (z : ℤ). cond (eqb (nat_abs (t.b.y -ℤ t.a.y)) 0) (cut ((t.b.x -ℤ t.a.x) *ℤ z) d) (nearest ((t.b.x -ℤ t.a.x) *ℤ z) d)) en
        ∙ ap (λ (z : ℤ). cond (eqb (nat_abs (t.b.y -ℤ t.a.y)) 0) (cut ((t.b.x -ℤ t.a.x) *ℤ numer t o) z) (nearest ((t.b.x -ℤ t.a.x) *ℤ numer t o) z)) ed

-- so the point that the code makes is within range
pub moved_ranged : (t o : Edge) (p : Point) → InSheet t → InSheet o → Inner t o → p ≡ taken t o → Ranged p
moved_ranged t o p st so i e = subst Ranged (sym e) (taken_ranged t o st so i)
