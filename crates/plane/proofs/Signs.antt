-- Signs: of products, of sums that vanish, and of a vector that is a multiple of another.
use Rattle.std.proofs.Common.{◌≡◌, ℕ, suc, ◌≢◌, ℤ, pos, ◌+ℤ◌, ◌-ℤ◌, ◌*ℤ◌, neg_ℤ, ◌≤ℤ◌, ◌<ℤ◌, sym, ap, ◌∙◌, arith}
use borrow.Author.Differences.{ints}
use lib.IntN.{*ℤ-zero, zero-*ℤ}
use Rattle.std.proofs.lemmas.Int.{by_lt_z}
use Rattle.algebra.proofs.Ring.{◌⊖◌, ◌⊗◌, ◌≐◌, ring₃}
use Rattle.algebra.proofs.Order.{mul_pos, mul_lt, mul_nonneg, lt_of_mul_lt, le_of_mul_le}
use Rattle.algebra.proofs.Laws.{mul_neg, neg_mul}

pub den_pos : (n : ℕ) → pos 0 <ℤ pos (suc n)
den_pos n = omega (arith, ints)

pub lt_le : {a b : ℤ} → a <ℤ b → a ≤ℤ b
lt_le {a} {b} h = omega (arith, ints)

pub eq_le : {a b : ℤ} → a ≡ b → a ≤ℤ b
eq_le {a} {b} h = omega (arith, ints)

pub le_eq : {a b : ℤ} → a ≤ℤ b → b ≤ℤ a → a ≡ b
le_eq {a} {b} h l = omega (arith, ints)

pub neg_pos : (f : ℤ) → f <ℤ pos 0 → pos 0 <ℤ neg_ℤ f
neg_pos f l = omega (arith, ints)

pub neg_zero : (f : ℤ) → neg_ℤ f ≡ pos 0 → f ≡ pos 0
neg_zero f e = omega (arith, ints)

-- a difference and what it says
pub gap : (a b : ℤ) → a ≡ b → b -ℤ a ≡ pos 0
gap a b h = omega (arith, ints)

pub no_gap : (a b : ℤ) → b -ℤ a ≡ pos 0 → a ≡ b
no_gap a b h = omega (arith, ints)

pub gap_pos : (a b : ℤ) → a <ℤ b → pos 0 <ℤ (b -ℤ a)
gap_pos a b h = omega (arith, ints)

pub pos_gap : (a b : ℤ) → pos 0 <ℤ (b -ℤ a) → a <ℤ b
pos_gap a b h = omega (arith, ints)

pub gap_neg : (a b : ℤ) → pos 0 <ℤ neg_ℤ (b -ℤ a) → b <ℤ a
gap_neg a b h = omega (arith, ints)

pub by_sign : {P : Type 0} (z : ℤ) → (z <ℤ pos 0 → P) → (z ≡ pos 0 → P) → (pos 0 <ℤ z → P) → P
by_sign z f g h = by_lt_z z (pos 0) f (λ l. by_lt_z (pos 0) z h (λ m. g (omega (arith, ints))))

-- not zero, with one sign ruled out
pub over_zero : (r : ℤ) → pos 0 ≤ℤ r → r ≢ pos 0 → pos 0 <ℤ r
over_zero r h n = by_sign r (λ l. omega (arith, ints)) (λ z. absurd (n z)) (λ l. l)

pub under_zero : (s : ℤ) → s ≤ℤ pos 0 → s ≢ pos 0 → s <ℤ pos 0
under_zero s h n = by_sign s (λ l. l) (λ z. absurd (n z)) (λ l. omega (arith, ints))

pub pos_of_mul : (m f w : ℤ) → pos 0 <ℤ m → m *ℤ f ≡ w → pos 0 <ℤ w → pos 0 <ℤ f
pos_of_mul m f w h e l = lt_of_mul_lt m (pos 0) f (lt_le h) (go (m *ℤ pos 0) (m *ℤ f) (*ℤ-zero m) e)
  where
    go : (a b : ℤ) → a ≡ pos 0 → b ≡ w → a <ℤ b
    go a b p q = omega (arith, ints)

pub nonneg_of_mul : (m f c d : ℤ) → pos 0 <ℤ m → m *ℤ f ≡ c *ℤ d → pos 0 ≤ℤ c → pos 0 ≤ℤ d → pos 0 ≤ℤ f
nonneg_of_mul m f c d h e i j = le_of_mul_le m (pos 0) f h (go (m *ℤ pos 0) (m *ℤ f) (c *ℤ d) (*ℤ-zero m) e (mul_nonneg c d i j))
  where
    go : (a b w : ℤ) → a ≡ pos 0 → b ≡ w → pos 0 ≤ℤ w → a ≤ℤ b
    go a b w e f h = omega (arith, ints)

pub mul_below : (d s : ℤ) → pos 0 <ℤ d → s <ℤ pos 0 → (d *ℤ s) <ℤ pos 0
mul_below d s h l = go (d *ℤ s) (d *ℤ pos 0) (mul_lt d s (pos 0) h l) (*ℤ-zero d)
  where
    go : (a b : ℤ) → a <ℤ b → b ≡ pos 0 → a <ℤ pos 0
    go a b l e = omega (arith, ints)

pub zero_of_mul : (m f : ℤ) → pos 0 <ℤ m → m *ℤ f ≡ pos 0 → f ≡ pos 0
zero_of_mul m f h e =
    by_sign f (λ l. absurd (under (m *ℤ f) (mul_below m f h l) e)) (λ z. z) (λ l. absurd (over (m *ℤ f) (mul_pos m f h l) e))
  where
    under : (a : ℤ) → a <ℤ pos 0 → a ≡ pos 0 → ⊥
    under a l e = omega (arith, ints)

    over : (a : ℤ) → pos 0 <ℤ a → a ≡ pos 0 → ⊥
    over a l e = omega (arith, ints)

pub unmul_eq : (d a b : ℤ) → pos 0 <ℤ d → d *ℤ a ≡ d *ℤ b → a ≡ b
unmul_eq d a b h e = no_gap a b (zero_of_mul d (b -ℤ a) h (ring₃ (λ d a b. d ⊗ (b ⊖ a) ≐ d ⊗ b ⊖ d ⊗ a) tt d a b ∙ gap (d *ℤ a) (d *ℤ b) e))

-- an equation from combinations of others
pub linked : (l r w x : ℤ) → l -ℤ r ≡ w -ℤ x → w ≡ x → l ≡ r
linked l r w x e f = omega (arith, ints)

-- p - q is i (l - r) - j (m - s)
pub linked_two : (p q i j l r m s : ℤ) → p -ℤ q ≡ i *ℤ (l -ℤ r) -ℤ j *ℤ (m -ℤ s) → l ≡ r → m ≡ s → p ≡ q
linked_two p q i j l r m s e f g =
    linear p q (i *ℤ (l -ℤ r)) (j *ℤ (m -ℤ s)) e (ap (λ z. i *ℤ z) (gap r l (sym f)) ∙ *ℤ-zero i) (ap (λ z. j *ℤ z) (gap s m (sym g)) ∙ *ℤ-zero j)
  where
    linear : (p q a b : ℤ) → p -ℤ q ≡ a -ℤ b → a ≡ pos 0 → b ≡ pos 0 → p ≡ q
    linear p q a b e f g = omega (arith, ints)

-- w is i (l - r) + j x + h y
pub zero_of_three : (w l r i x j y h : ℤ) → w ≡ i *ℤ (l -ℤ r) +ℤ j *ℤ x +ℤ h *ℤ y → l ≡ r → x ≡ pos 0 → y ≡ pos 0 → w ≡ pos 0
zero_of_three w l r i x j y h e p q s =
    linear w (i *ℤ (l -ℤ r)) (j *ℤ x) (h *ℤ y) e (ap (λ z. i *ℤ z) (gap r l (sym p)) ∙ *ℤ-zero i) (ap (λ z. j *ℤ z) q ∙ *ℤ-zero j) (ap (λ z. h *ℤ z) s ∙ *ℤ-zero h)
  where
    linear : (w a b c : ℤ) → w ≡ a +ℤ b +ℤ c → a ≡ pos 0 → b ≡ pos 0 → c ≡ pos 0 → w ≡ pos 0
    linear w a b c e f g h = omega (arith, ints)

-- a vector after 0 in the order of points
pub data Ahead (x y : ℤ) : Type 0 where
  ahead_x : pos 0 <ℤ x → Ahead x y
  ahead_y : x ≡ pos 0 → pos 0 <ℤ y → Ahead x y

-- m f is c u
pub multiple_pos : (m c ux uy fx fy : ℤ) → pos 0 <ℤ m → m *ℤ fx ≡ c *ℤ ux → m *ℤ fy ≡ c *ℤ uy → Ahead ux uy → pos 0 <ℤ c → Ahead fx fy
multiple_pos m c ux uy fx fy h ex ey (ahead_x u) l = ahead_x (pos_of_mul m fx (c *ℤ ux) h ex (mul_pos c ux l u))
multiple_pos m c ux uy fx fy h ex ey (ahead_y z u) l =
    ahead_y (zero_of_mul m fx h (ex ∙ ap (λ w. c *ℤ w) z ∙ *ℤ-zero c)) (pos_of_mul m fy (c *ℤ uy) h ey (mul_pos c uy l u))

pub multiple_zero : (m c u f : ℤ) → pos 0 <ℤ m → m *ℤ f ≡ c *ℤ u → c ≡ pos 0 → f ≡ pos 0
multiple_zero m c u f h e z = zero_of_mul m f h (e ∙ ap (λ w. w *ℤ u) z ∙ zero-*ℤ u)

pub multiple_neg : (m c ux uy fx fy : ℤ) → pos 0 <ℤ m → m *ℤ fx ≡ c *ℤ ux → m *ℤ fy ≡ c *ℤ uy → Ahead ux uy → c <ℤ pos 0 → Ahead (neg_ℤ fx) (neg_ℤ fy)
multiple_neg m c ux uy fx fy h ex ey u l =
    multiple_pos m (neg_ℤ c) ux uy (neg_ℤ fx) (neg_ℤ fy) h (both ux fx ex) (both uy fy ey) u (neg_pos c l)
  where
    both : (u f : ℤ) → m *ℤ f ≡ c *ℤ u → m *ℤ neg_ℤ f ≡ neg_ℤ c *ℤ u
    both u f e = mul_neg m f ∙ ap neg_ℤ e ∙ sym (neg_mul c u)
