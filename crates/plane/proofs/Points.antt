-- The order of points, and how a positive factor keeps it.
use Rattle.std.proofs.Common.{◌≡◌, ◌≢◌, ◌⊎◌, ℤ, pos, ◌-ℤ◌, ◌*ℤ◌, neg_ℤ, ◌≤ℤ◌, ◌<ℤ◌, sym, ap, ◌∙◌, inl, inr, arith}
use borrow.Author.Differences.{ints}
use lib.IntN.{*ℤ-zero}
use Rattle.std.proofs.lemmas.Int.{by_lt_z}
use Rattle.algebra.proofs.Order.{mul_pos, mul_lt, lt_of_mul_lt}
use Rattle.plane.specs.Points.{Point, ◌≺◌, by_x, by_y, ◌≼◌, at_x, at_y}
use Rattle.plane.specs.Edges.{Edge}
use Rattle.plane.specs.Fractions.{scaled}
use Rattle.plane.proofs.Signs.{lt_le, eq_le, le_eq, gap, no_gap, gap_pos, pos_gap, gap_neg, neg_zero, by_sign, mul_below, unmul_eq, Ahead, ahead_x, ahead_y, multiple_pos, multiple_zero, multiple_neg}

pub point_ext : {p q : Point} → p.x ≡ q.x → p.y ≡ q.y → p ≡ q
point_ext {p} {q} ex ey = go p.x p.y q.x q.y ex ey
  where
    go : (x y x' y' : ℤ) → x ≡ x' → y ≡ y' → ◌≡◌ {A = Point} (record { x = x; y = y }) (record { x = x'; y = y' })
    go x y x' y' ex ey = rw (ex, ey)

pub edge_ext : {e g : Edge} → e.a ≡ g.a → e.b ≡ g.b → e ≡ g
edge_ext {e} {g} p q = go e.a e.b g.a g.b p q
  where
    go : (a b a' b' : Point) → a ≡ a' → b ≡ b' → ◌≡◌ {A = Edge} (record { a = a; b = b }) (record { a = a'; b = b' })
    go a b a' b' p q = rw (p, q)

pub weaken : {p q : Point} → p ≺ q → p ≼ q
weaken (by_x h) = at_x h
weaken (by_y e h) = at_y e (lt_le h)

pub same_le : {p q : Point} → p ≡ q → p ≼ q
same_le {p} {q} e = at_y (ap (λ (z : Point). z.x) e) (eq_le (ap (λ (z : Point). z.y) e))

pub split : {p q : Point} → p ≼ q → (p ≺ q) ⊎ (p ≡ q)
split (at_x h) = inl (by_x h)
split {p} {q} (at_y e h) = by_lt_z p.y q.y (λ l. inl (by_y e l)) (λ l. inr (point_ext e (le_eq h l)))

pub data Order (p q : Point) : Type 0 where
  before : p ≺ q → Order p q
  same : p ≡ q → Order p q
  after : q ≺ p → Order p q

pub compare : (p q : Point) → Order p q
compare p q =
    by_lt_z p.x q.x (λ l. before (by_x l)) (λ l.
    by_lt_z q.x p.x (λ m. after (by_x m)) (λ m.
    by_lt_z p.y q.y (λ n. before (by_y (le_eq m l) n)) (λ n.
    by_lt_z q.y p.y (λ o. after (by_y (le_eq l m) o)) (λ o. same (point_ext (le_eq m l) (le_eq o n))))))

pub ≺-≼ : {p q r : Point} → p ≺ q → q ≼ r → p ≺ r
≺-≼ (by_x h) (at_x l) = by_x (omega (arith, ints))
≺-≼ (by_x h) (at_y e l) = by_x (omega (arith, ints))
≺-≼ (by_y e h) (at_x l) = by_x (omega (arith, ints))
≺-≼ (by_y e h) (at_y f l) = by_y (e ∙ f) (omega (arith, ints))

pub ≼-≺ : {p q r : Point} → p ≼ q → q ≺ r → p ≺ r
≼-≺ (at_x h) (by_x l) = by_x (omega (arith, ints))
≼-≺ (at_x h) (by_y e l) = by_x (omega (arith, ints))
≼-≺ (at_y e h) (by_x l) = by_x (omega (arith, ints))
≼-≺ (at_y e h) (by_y f l) = by_y (e ∙ f) (omega (arith, ints))

pub ≺-trans : {p q r : Point} → p ≺ q → q ≺ r → p ≺ r
≺-trans h l = ≺-≼ h (weaken l)

pub never : {p q : Point} → p ≺ q → q ≼ p → ⊥
never (by_x h) (at_x l) = omega (arith, ints)
never (by_x h) (at_y e l) = omega (arith, ints)
never (by_y e h) (at_x l) = omega (arith, ints)
never (by_y e h) (at_y f l) = omega (arith, ints)

pub apart : {p q : Point} → p ≺ q → p ≢ q
apart h e = never h (same_le (sym e))

pub le_x : {p q : Point} → p ≼ q → p.x ≤ℤ q.x
le_x (at_x h) = lt_le h
le_x (at_y e h) = eq_le e

pub le_y : {p q : Point} → q.x ≤ℤ p.x → p ≼ q → p.y ≤ℤ q.y
le_y l (at_x h) = omega (arith, ints)
le_y l (at_y e h) = h

-- ---- a positive factor
pub scale : (d : ℤ) {p q : Point} → pos 0 <ℤ d → p ≺ q → scaled d p ≺ scaled d q
scale d {p} {q} h (by_x l) = by_x (mul_lt d p.x q.x h l)
scale d {p} {q} h (by_y e l) = by_y (ap (λ z. d *ℤ z) e) (mul_lt d p.y q.y h l)

pub unscale : (d : ℤ) (p q : Point) → pos 0 <ℤ d → scaled d p ≺ scaled d q → p ≺ q
unscale d p q h (by_x l) = by_x (lt_of_mul_lt d p.x q.x (lt_le h) l)
unscale d p q h (by_y e l) = by_y (unmul_eq d p.x q.x h e) (lt_of_mul_lt d p.y q.y (lt_le h) l)

pub unscale_same : (d : ℤ) (p q : Point) → pos 0 <ℤ d → scaled d p ≡ scaled d q → p ≡ q
unscale_same d p q h e = point_ext (unmul_eq d p.x q.x h (ap (λ (z : Point). z.x) e)) (unmul_eq d p.y q.y h (ap (λ (z : Point). z.y) e))

-- ---- the vector from p to q
pub →ahead : {p q : Point} → p ≺ q → Ahead (q.x -ℤ p.x) (q.y -ℤ p.y)
→ahead {p} {q} (by_x h) = ahead_x (gap_pos p.x q.x h)
→ahead {p} {q} (by_y e h) = ahead_y (gap p.x q.x e) (gap_pos p.y q.y h)

ahead→ : (p q : Point) → Ahead (q.x -ℤ p.x) (q.y -ℤ p.y) → p ≺ q
ahead→ p q (ahead_x h) = by_x (pos_gap p.x q.x h)
ahead→ p q (ahead_y e h) = by_y (no_gap p.x q.x e) (pos_gap p.y q.y h)

behind→ : (p q : Point) → Ahead (neg_ℤ (q.x -ℤ p.x)) (neg_ℤ (q.y -ℤ p.y)) → q ≺ p
behind→ p q (ahead_x h) = by_x (gap_neg p.x q.x h)
behind→ p q (ahead_y e h) = by_y (sym (no_gap p.x q.x (neg_zero (q.x -ℤ p.x) e))) (gap_neg p.y q.y h)

-- how p and q stand, told by the sign of s
pub data Side (s : ℤ) (p q : Point) : Type 0 where
  over : pos 0 <ℤ s → p ≺ q → Side s p q
  equal : s ≡ pos 0 → p ≡ q → Side s p q
  under : s <ℤ pos 0 → q ≺ p → Side s p q

-- m (q - p) = (d s) u, with u ahead: the sign of s tells how p and q stand
pub side : (d m s ux uy : ℤ) (p q : Point) → pos 0 <ℤ d → pos 0 <ℤ m → Ahead ux uy → m *ℤ (q.x -ℤ p.x) ≡ (d *ℤ s) *ℤ ux → m *ℤ (q.y -ℤ p.y) ≡ (d *ℤ s) *ℤ uy → Side s p q
side d m s ux uy p q hd hm u ex ey =
    by_sign s
    (λ l. under l (behind→ p q (multiple_neg m (d *ℤ s) ux uy (q.x -ℤ p.x) (q.y -ℤ p.y) hm ex ey u (mul_below d s hd l))))
    (λ z. equal z (point_ext
    (no_gap p.x q.x (multiple_zero m (d *ℤ s) ux (q.x -ℤ p.x) hm ex (nought z)))
    (no_gap p.y q.y (multiple_zero m (d *ℤ s) uy (q.y -ℤ p.y) hm ey (nought z)))))
    (λ l. over l (ahead→ p q (multiple_pos m (d *ℤ s) ux uy (q.x -ℤ p.x) (q.y -ℤ p.y) hm ex ey u (mul_pos d s hd l))))
  where
    nought : s ≡ pos 0 → d *ℤ s ≡ pos 0
    nought z = ap (λ w. d *ℤ w) z ∙ *ℤ-zero d
