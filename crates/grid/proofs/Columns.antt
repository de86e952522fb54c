-- Columns and borders: c is at most the column of x exactly if border c is at most x. And no box has more than 128 columns.
use Rattle.std.proofs.Common.{◌≡◌, ℕ, suc, ◌+◌, ◌-◌, ◌*◌, ◌/◌, ◌^◌, ◌<◌, ◌≤◌, max, true, false, eqb, ℤ, pos, ◌+ℤ◌, ◌-ℤ◌, nat_abs, ◌≤ℤ◌, ◌<ℤ◌, ap, ◌∙◌, inl, inr, le_trans, mul-le-mul_right, suc-mul, mul-le-mul, zero-mul, div-mul-le_self, arith, pow_pos, pow_mono, pow-add}
use borrow.Author.Differences.{ints}
use lib.Signed.{lt_z}
use Rattle.std.proofs.lemmas.Nat.{le-div, div_below}
use Rattle.std.proofs.lemmas.Int.{by_lt_z}
use Rattle.std.proofs.lemmas.Bool.{cond_both, cond-true, cond-false, or_parts, eqb-false, cases_lt}
use Rattle.finder.specs.Finders.{Box}
use Rattle.grid.specs.Layouts.{ilog2, width, single?, power_of, Layout, layout, column, border, most_columns}
use Rattle.grid.proofs.Logs.{ilog2_lt, ilog2_below}

module _ (l : Layout) where
  pub border_zero : border l 0 ≡ l.left
  unfolding border
  border_zero = ap (λ (k : ℕ). l.left +ℤ pos k) (zero-mul (2 ^ l.power)) ∙ go l.left
    where
      go : (z : ℤ) → z +ℤ pos 0 ≡ z
      go z = omega (arith, ints)

  pub border_step : (c : ℕ) → border l c <ℤ border l (suc c)
  unfolding border
  border_step c = go l.left (c * 2 ^ l.power) (suc c * 2 ^ l.power) (omega (arith, suc-mul c (2 ^ l.power), pow_pos l.power))
    where
      go : (z : ℤ) (m n : ℕ) → m < n → (z +ℤ pos m) <ℤ (z +ℤ pos n)
      go z m n h = omega (arith, ints)

  pub le_column : (x : ℤ) (c : ℕ) → border l c ≤ℤ x → c ≤ column l x
  unfolding border column
  le_column x c h = le-div c (nat_abs (x -ℤ l.left)) (2 ^ l.power) (pow_pos l.power) (go x l.left (c * 2 ^ l.power) h)
    where
      go : (x z : ℤ) (k : ℕ) → (z +ℤ pos k) ≤ℤ x → k ≤ nat_abs (x -ℤ z)
      go x z k h = omega (arith, ints)

  pub border_le : (x : ℤ) (c : ℕ) → l.left ≤ℤ x → c ≤ column l x → border l c ≤ℤ x
  unfolding border column
  border_le x c i h =
      go x l.left (c * 2 ^ l.power) i (le_trans (mul-le-mul_right (2 ^ l.power) h) (div-mul-le_self (nat_abs (x -ℤ l.left)) (2 ^ l.power)))
    where
      go : (x z : ℤ) (k : ℕ) → z ≤ℤ x → k ≤ nat_abs (x -ℤ z) → (z +ℤ pos k) ≤ℤ x
      go x z k i h = omega (arith, ints)

  pub column_mono : (x y : ℤ) → l.left ≤ℤ x → x ≤ℤ y → column l x ≤ column l y
  column_mono x y i h = le_column y (column l x) (go (border_le x (column l x) i (omega arith)))
    where
      go : border l (column l x) ≤ℤ x → border l (column l x) ≤ℤ y
      go k = omega (arith, ints)

  pub lt_border : (x : ℤ) (c : ℕ) → column l x < c → x <ℤ border l c
  lt_border x c h = by_lt_z x (border l c) (λ k. k) (λ k. absurd (go (le_column x c k)))
    where
      go : c ≤ column l x → ⊥
      go k = omega arith

  pub column_lt : (x : ℤ) (c : ℕ) → l.left ≤ℤ x → x <ℤ border l c → column l x < c
  column_lt x c i h = elim (cases_lt (column l x) c) [ inl k ↦ k | inr k ↦ absurd (go (border_le x c i k)) ]
    where
      go : border l c ≤ℤ x → ⊥
      go k = omega (arith, ints)

-- ---- how many columns there are
few : (n p q : ℕ) → n < 2 ^ q → q ≤ 7 + p → n / 2 ^ p < most_columns
few n p q h k = div_below n (2 ^ p) 128 (pow_pos p) (omega (arith, pow_mono k, pow-add 2 7 p))

widest : (b : Box) (n : ℕ) → n ≤ 4096 → width b <ℤ pos (2 ^ 32) → pos 0 ≤ℤ width b → nat_abs (width b) / 2 ^ power_of b n < most_columns
unfolding power_of
widest b n h w i = cond_both (single? b n) 32 (max 1 (ilog2 (nat_abs (width b)) - ilog2 n / 2)) (λ p. nat_abs (width b) / 2 ^ p < most_columns)
    (λ e. few (nat_abs (width b)) 32 32 (small (width b) w i) (omega arith))
    (λ e. few (nat_abs (width b)) (max 1 (ilog2 (nat_abs (width b)) - ilog2 n / 2)) (suc (ilog2 (nat_abs (width b))))
    (ilog2_lt (nat_abs (width b)) (omega (arith, small (width b) w i)))
    (count (ilog2 (nat_abs (width b))) (ilog2 n) (ilog2_below n 13 (some (or_parts (lt_z (width b) (pos 4)) (eqb n 0) e).1) (omega arith))))
  where
    small : (z : ℤ) → z <ℤ pos (2 ^ 32) → pos 0 ≤ℤ z → nat_abs z < 2 ^ 32
    small z w i = omega (arith, ints)

    some : eqb n 0 ≡ false → 0 < n
    some e = omega (arith, eqb-false n 0 e)

    count : (i j : ℕ) → j < 13 → suc i ≤ 7 + max 1 (i - j / 2)
    count i j h = omega arith

last_few : (b : Box) (n : ℕ) → n ≤ 4096 → width b <ℤ pos (2 ^ 32) → pos 0 ≤ℤ width b → column (layout b n) b.right < most_columns
unfolding column
last_few b n h w i = widest b n h w i

pub column_few : (b : Box) (n : ℕ) → n ≤ 4096 → width b <ℤ pos (2 ^ 32) → (x : ℤ) → b.left ≤ℤ x → x ≤ℤ b.right → column (layout b n) x < most_columns
column_few b n h w x i j = go (column_mono (layout b n) x b.right i j) (last_few b n h w (wide b.left b.right i j))
  where
    wide : (a z : ℤ) → a ≤ℤ x → x ≤ℤ z → pos 0 ≤ℤ (z -ℤ a)
    wide a z i j = omega (arith, ints)

    go : {m k : ℕ} → m ≤ k → k < most_columns → m < most_columns
    go h l = omega arith

-- ---- sizes
-- how far a border is from the left
pub border_fits : (i p : ℕ) → i ≤ 128 → p ≤ 32 → i * 2 ^ p ≤ 2 ^ 39
border_fits i p h k = le_trans (mul-le-mul h (pow_mono k)) (omega arith)

-- ---- the layout
pub power_single : (b : Box) (n : ℕ) → single? b n ≡ true → power_of b n ≡ 32
unfolding power_of
power_single b n e = cond-true (single? b n) _ _ e

pub power_many : (b : Box) (n : ℕ) → single? b n ≡ false → power_of b n ≡ max 1 (ilog2 (nat_abs (width b)) - ilog2 n / 2)
unfolding power_of
power_many b n e = cond-false (single? b n) _ _ e

pub layout_ext : {x y : ℤ} {p q : ℕ} → x ≡ y → p ≡ q → ◌≡◌ {A = Layout} (record { left = x; power = p }) (record { left = y; power = q })
layout_ext e f = rw (e, f)
