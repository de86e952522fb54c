-- Directions: what their kinds and their number of zeros say of the four cross products.
use Rattle.std.proofs.Common.{◌≡◌, ℕ, zero, suc, ◌+◌, ◌<◌, ◌≤◌, true, false, eqb, ◌≢◌, ◌⊎◌, ℤ, pos, negsuc, ◌≤ℤ◌, ◌<ℤ◌, sym, refl, ap, ◌∙◌, subst, inl, inr, add_comm, arith}
use mathlib.Core.Bool.{or_comm, false≢true}
use borrow.Author.Differences.{ints}
use Rattle.plane.specs.Edges.{Edge, direction, first, second, same?, zero_of, zeros, one_sided?}
use Rattle.plane.specs.Rounding.{zero?}
use Rattle.plane.specs.Rules.{Inner}
use Rattle.plane.specs.declared.direction.Direction.{Direction}
use Rattle.plane.specs.declared.direction.Direction.TheVariants.{Left, Straight, Right}
use Rattle.plane.proofs.Tests.{neither, both_false}
use Rattle.plane.proofs.Lines.{Aligned}

-- unlike directions, the first greater
pub opposed : (x y : ℤ) → direction x ≢ direction y → y <ℤ x → (pos 0 ≤ℤ x) × (y ≤ℤ pos 0)
opposed (pos zero) (pos zero) n l = absurd (n refl)
opposed (pos zero) (pos (suc m)) n l = omega (arith, ints)
opposed (pos zero) (negsuc m) n l = (omega (arith, ints), omega (arith, ints))
opposed (pos (suc i)) (pos zero) n l = (omega (arith, ints), omega (arith, ints))
opposed (pos (suc i)) (pos (suc m)) n l = absurd (n refl)
opposed (pos (suc i)) (negsuc m) n l = (omega (arith, ints), omega (arith, ints))
opposed (negsuc i) (pos zero) n l = omega (arith, ints)
opposed (negsuc i) (pos (suc m)) n l = omega (arith, ints)
opposed (negsuc i) (negsuc m) n l = absurd (n refl)

same_self : (a : Direction) → same? a a ≡ true
same_self Left = refl
same_self Straight = refl
same_self Right = refl

pub differ : (a b : Direction) → same? a b ≡ false → a ≢ b
differ a b e z = false≢true (sym e ∙ ap (same? a) (sym z) ∙ same_self a)

pub differ_true : (a b : Direction) → a ≢ b → same? a b ≡ false
differ_true Left Left n = absurd (n refl)
differ_true Left Straight n = refl
differ_true Left Right n = refl
differ_true Straight Left n = refl
differ_true Straight Straight n = absurd (n refl)
differ_true Straight Right n = refl
differ_true Right Left n = refl
differ_true Right Straight n = refl
differ_true Right Right n = absurd (n refl)

pub unlike : (x y : ℤ) → pos 0 ≤ℤ x → y ≤ℤ pos 0 → y <ℤ x → direction x ≢ direction y
unlike (pos zero) (pos zero) g h l = omega (arith, ints)
unlike (pos zero) (pos (suc m)) g h l = omega (arith, ints)
unlike (pos zero) (negsuc m) g h l = differ Straight Right refl
unlike (pos (suc i)) (pos zero) g h l = differ Left Straight refl
unlike (pos (suc i)) (pos (suc m)) g h l = omega (arith, ints)
unlike (pos (suc i)) (negsuc m) g h l = differ Left Right refl
unlike (negsuc i) y g h l = omega (arith, ints)

-- ---- counting zeros
abbrev pub nil : ℤ → ℕ
nil x = zero_of (direction x)

pub nil_le : (x : ℤ) → nil x ≤ 1
nil_le (pos zero) = omega arith
nil_le (pos (suc n)) = omega arith
nil_le (negsuc n) = omega arith

pub nil_one : (x : ℤ) → nil x ≡ 1 → x ≡ pos 0
nil_one (pos zero) e = refl
nil_one (pos (suc n)) e = absurd (omega arith)
nil_one (negsuc n) e = absurd (omega arith)

pub zero_yes : (z : ℤ) → zero? z ≡ true → z ≡ pos 0
zero_yes (pos n) e = ap pos (go n e)
  where
    go : (n : ℕ) → eqb n 0 ≡ true → n ≡ 0
    go n h = grind arith
zero_yes (negsuc n) e = absurd (go n e)
  where
    go : (n : ℕ) → eqb (suc n) 0 ≡ true → ⊥
    go n h = grind arith

pub zero_no : (z : ℤ) → zero? z ≡ false → nil z ≡ 0
zero_no (pos zero) e = absurd (go e)
  where
    go : eqb 0 0 ≡ false → ⊥
    go h = grind arith
zero_no (pos (suc n)) e = refl
zero_no (negsuc n) e = refl

-- of two numbers one is zero, or none is
pub some_zero : (x y : ℤ) → ((x ≡ pos 0) ⊎ (y ≡ pos 0)) ⊎ (nil x + nil y ≡ 0)
some_zero (pos zero) y = inl (inl refl)
some_zero (pos (suc i)) (pos zero) = inl (inr refl)
some_zero (pos (suc i)) (pos (suc m)) = inr refl
some_zero (pos (suc i)) (negsuc m) = inr refl
some_zero (negsuc i) (pos zero) = inl (inr refl)
some_zero (negsuc i) (pos (suc m)) = inr refl
some_zero (negsuc i) (negsuc m) = inr refl

-- of two different numbers at most one is zero
pub one_zero : (x y : ℤ) → x ≢ y → nil x + nil y ≤ 1
one_zero (pos zero) (pos zero) n = absurd (n refl)
one_zero (pos zero) (pos (suc m)) n = omega arith
one_zero (pos zero) (negsuc m) n = omega arith
one_zero (pos (suc i)) y n = omega (arith, nil_le y)
one_zero (negsuc i) y n = omega (arith, nil_le y)

pub few_zeros : (w x y z : ℤ) → w ≢ x → y ≢ z → ¬ (((w ≡ pos 0) ⊎ (x ≡ pos 0)) × ((y ≡ pos 0) ⊎ (z ≡ pos 0))) → nil w + nil x + (nil y + nil z) < 2
few_zeros w x y z d d' n = go (some_zero w x) (some_zero y z)
  where
    sum : (i j : ℕ) → i ≤ 1 → j ≤ 1 → (i ≡ 0) ⊎ (j ≡ 0) → i + j < 2
    sum i j h l (inl e) = omega arith
    sum i j h l (inr e) = omega arith

    go : ((w ≡ pos 0) ⊎ (x ≡ pos 0)) ⊎ (nil w + nil x ≡ 0) → ((y ≡ pos 0) ⊎ (z ≡ pos 0)) ⊎ (nil y + nil z ≡ 0) → nil w + nil x + (nil y + nil z) < 2
    go (inr h) l = sum (nil w + nil x) (nil y + nil z) (one_zero w x d) (one_zero y z d') (inl h)
    go (inl h) (inr l) = sum (nil w + nil x) (nil y + nil z) (one_zero w x d) (one_zero y z d') (inr l)
    go (inl h) (inl l) = absurd (n (h, l))

pub not_few : (w x y z : ℤ) → nil w + nil x + (nil y + nil z) < 2 → (w ≡ pos 0) ⊎ (x ≡ pos 0) → (y ≡ pos 0) ⊎ (z ≡ pos 0) → ⊥
not_few w x y z h p q = clash (nil w) (nil x) (nil y) (nil z) h (at w x p) (at y z q)
  where
    at : (w x : ℤ) → (w ≡ pos 0) ⊎ (x ≡ pos 0) → (nil w ≡ 1) ⊎ (nil x ≡ 1)
    at w x (inl e) = inl (ap nil e)
    at w x (inr e) = inr (ap nil e)

    clash : (a b c d : ℕ) → a + b + (c + d) < 2 → (a ≡ 1) ⊎ (b ≡ 1) → (c ≡ 1) ⊎ (d ≡ 1) → ⊥
    clash a b c d h (inl p) (inl q) = omega arith
    clash a b c d h (inl p) (inr q) = omega arith
    clash a b c d h (inr p) (inl q) = omega arith
    clash a b c d h (inr p) (inr q) = omega arith

-- ---- the four directions of two edges
pub zeros_sym : (e g : Edge) → zeros e g ≡ zeros g e
zeros_sym e g = add_comm (nil (first e g) + nil (second e g)) (nil (first g e) + nil (second g e))

pub one_sided_sym : (e g : Edge) → one_sided? e g ≡ one_sided? g e
one_sided_sym e g = or_comm (same? (direction (first e g)) (direction (second e g))) (same? (direction (first g e)) (direction (second g e)))

pub four_aligned : (e g : Edge) → zeros e g ≡ 4 → Aligned e g
four_aligned e g z =
    let w = go (nil (first e g)) (nil (second e g)) (nil (first g e)) (nil (second g e)) (nil_le (first e g)) (nil_le (second e g)) (nil_le (first g e)) (nil_le (second g e)) z in
    record { ga = nil_one (first e g) w.0; gb = nil_one (second e g) w.1; ea = nil_one (first g e) w.2; eb = nil_one (second g e) w.3 }
  where
    go : (a b c d : ℕ) → a ≤ 1 → b ≤ 1 → c ≤ 1 → d ≤ 1 → a + b + (c + d) ≡ 4 → (a ≡ 1) × (b ≡ 1) × (c ≡ 1) × (d ≡ 1)
    go a b c d i j k l e = omega arith

pub aligned_four : (e g : Edge) → Aligned e g → zeros e g ≡ 4
aligned_four e g z = go (nil (first e g)) (nil (second e g)) (nil (first g e)) (nil (second g e)) (ap nil z.ga) (ap nil z.gb) (ap nil z.ea) (ap nil z.eb)
  where
    go : (a b c d : ℕ) → a ≡ 1 → b ≡ 1 → c ≡ 1 → d ≡ 1 → a + b + (c + d) ≡ 4
    go a b c d i j k l = omega arith

pub inner_not_straight : (e g : Edge) → Inner e g → (first e g ≢ pos 0) × (second e g ≢ pos 0) × (first g e ≢ pos 0) × (second g e ≢ pos 0)
inner_not_straight e g h =
    let w = go (nil (first e g)) (nil (second e g)) (nil (first g e)) (nil (second g e)) h.none in
    (λ z. w.0 (ap nil z), λ z. w.1 (ap nil z), λ z. w.2 (ap nil z), λ z. w.3 (ap nil z))
  where
    go : (a b c d : ℕ) → a + b + (c + d) ≡ 0 → (a ≢ 1) × (b ≢ 1) × (c ≢ 1) × (d ≢ 1)
    go a b c d e = (λ z. omega arith, λ z. omega arith, λ z. omega arith, λ z. omega arith)

-- at most one zero, and the ends of either edge have unlike directions
pub record Crossed (e g : Edge) : Type 0 where
  pub few : zeros e g < 2
  pub one : direction (first e g) ≢ direction (second e g)
  pub two : direction (first g e) ≢ direction (second g e)

pub crossed_sym : {e g : Edge} → Crossed e g → Crossed g e
crossed_sym {e} {g} c = record { few = subst (λ (n : ℕ). n < 2) (zeros_sym e g) c.few; one = c.two; two = c.one }

pub crossed_by : (e g : Edge) → zeros e g < 2 → one_sided? e g ≡ false → Crossed e g
crossed_by e g f h =
    let w = neither (same? (direction (first e g)) (direction (second e g))) (same? (direction (first g e)) (direction (second g e))) h in
    record { few = f; one = differ _ _ w.0; two = differ _ _ w.1 }

pub crossed_sides : (e g : Edge) → Crossed e g → one_sided? e g ≡ false
crossed_sides e g c = both_false _ _ (differ_true _ _ c.one) (differ_true _ _ c.two)

pub inner_crossed : {e g : Edge} → Inner e g → Crossed e g
inner_crossed {e} {g} h = crossed_by e g (omega (arith, h.none)) h.two_sided

-- crossing directions are not all zero
pub crossed_not_aligned : {e g : Edge} → Crossed e g → ¬ Aligned e g
crossed_not_aligned c z = c.one (ap direction (z.ga ∙ sym z.gb))
