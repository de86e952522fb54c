-- A border that an edge crosses is between its ends, and heights there are at most its own.
use Rattle.std.proofs.Common.{◌≡◌, ℕ, suc, ◌+◌, ◌-◌, ◌*◌, ◌/◌, ◌%◌, ◌^◌, ◌<◌, ◌≤◌, min, true, false, cond, eqb, ℤ, pos, ◌+ℤ◌, ◌-ℤ◌, nat_abs, ◌≤ℤ◌, ◌<ℤ◌, sym, ap, ◌∙◌, subst, le_trans, suc-mul, mul-le-mul, mul-le-mul_left, arith, w32, w64, SFits, to_z, of_z}
use borrow.Author.Differences.{ints}
use lib.Signed.{le_z, mag}
use Rattle.std.proofs.lemmas.Grind.{div_ceil_times}
use Rattle.std.proofs.lemmas.Nat.{div_below, le-div}
use Rattle.std.proofs.lemmas.Bool.{cond-true, cond-false}
use Rattle.std.proofs.lemmas.Int.{to_z-of_z}
use Rattle.plane.specs.Points.{◌≺◌, by_x, by_y, InRange}
use Rattle.plane.specs.Edges.{Edge, Proper}
use Rattle.plane.specs.Models.{edge_of}
use Rattle.plane.specs.declared.x_segment.XSegment.{XSegment}
use Rattle.plane.proofs.Tests.{before_yes}
use Rattle.finder.specs.Finders.{Box}
use Rattle.grid.specs.Layouts.{Layout, border}
use Rattle.grid.specs.Rectangles.{run, rise, first_column, last_column, climb, low, high, spanned, rect}
use Rattle.grid.specs.declared.laid_edge.LaidEdge.{LaidEdge}
use Rattle.grid.specs.Models.{layout_of}
use Rattle.grid.proofs.Columns.{lt_border, border_le}
use Rattle.grid.proofs.Holds.{upright_column, slanted_column}

pub segment_proper : (s : XSegment) → Proper (edge_of s)
segment_proper s = before_yes (edge_of s).a (edge_of s).b s.ordered

-- a difference of 32 bits, by way of its bits
abbrev pub by_bits : ℤ → ℤ → ℤ
by_bits a b = to_z w64 (of_z w64 (to_z w64 (of_z w64 (to_z w32 (of_z w32 b))) -ℤ to_z w64 (of_z w64 (to_z w32 (of_z w32 a)))))

pub difference_is : (a b : ℤ) → SFits w32 a → SFits w32 b → by_bits a b ≡ b -ℤ a
difference_is a b h k = omega (arith, ints)

-- a box of 32 bits
pub box_narrow : (a b : ℤ) → SFits w32 a → SFits w32 b → (b -ℤ a) <ℤ pos (2 ^ 32)
box_narrow a b h k = omega (arith, ints)

-- coordinates fit 32 bits, and so does what is between two
pub coordinate_fits : (a : ℤ) → InRange a → SFits w32 a
coordinate_fits a h = omega (arith, ints)

pub between_fits : (a b z : ℤ) → InRange a → InRange b → a <ℤ z → z <ℤ b → SFits w32 z
between_fits a b z h k i j = omega (arith, ints)

pub narrowed : (z : ℤ) → SFits w32 z → to_z w32 (of_z w32 (to_z w64 (of_z w64 z))) ≡ z
narrowed z h = omega (arith, ints)

pub narrow : (z : ℤ) → SFits w32 z → SFits w32 (to_z w64 (of_z w64 z))
narrow z h = omega (arith, ints)

-- differences of coordinates
pub apart_le : (a b : ℤ) → InRange a → InRange b → nat_abs (b -ℤ a) ≤ 2 ^ 20
apart_le a b h k = omega (arith, ints)

pub run_le : (s : XSegment) → run (edge_of s) ≤ 2 ^ 20
run_le s = apart_le s.a.x s.b.x s.a.wide s.b.wide

pub rise_le : (s : XSegment) → rise (edge_of s) ≤ 2 ^ 20
rise_le s = apart_le s.a.y s.b.y s.a.high s.b.high

pub record Crossing (l : Layout) (e : Edge) (i : ℕ) : Type 0 where
  pub from : e.a.x <ℤ border l i
  pub to : border l i <ℤ e.b.x
  pub wide : 0 < run e
  pub near : nat_abs (border l i -ℤ e.a.x) ≤ run e

crosses : (l : Layout) (e : Edge) (i : ℕ) → Proper e → l.left ≤ℤ e.a.x → first_column l e < i → i ≤ last_column l e → Crossing l e i
crosses l e i pe begins after until = go pe
  where
    go : e.a ≺ e.b → Crossing l e i
    go (by_y z u) = absurd (same (upright_column l e z) after until)
      where
        same : {m n : ℕ} → n ≡ m → m < i → i ≤ n → ⊥
        same e h k = omega arith
    go (by_x u) = record { from = from; to = to; wide = wide e.a.x e.b.x u; near = near e.a.x e.b.x (border l i) from to }
      where
        from : e.a.x <ℤ border l i
        from = lt_border l e.a.x i after

        less : (a z b : ℤ) → z ≤ℤ a → a <ℤ b → z ≤ℤ (b -ℤ pos 1)
        less a z b h k = omega (arith, ints)

        under : (z b : ℤ) → z ≤ℤ (b -ℤ pos 1) → z <ℤ b
        under z b h = omega (arith, ints)

        to : border l i <ℤ e.b.x
        to = under (border l i) e.b.x (border_le l (e.b.x -ℤ pos 1) i (less e.a.x l.left e.b.x begins u) (subst (λ (k : ℕ). i ≤ k) (slanted_column l e u) until))

        wide : (a b : ℤ) → a <ℤ b → 0 < nat_abs (b -ℤ a)
        wide a b h = omega (arith, ints)

        near : (a b z : ℤ) → a <ℤ z → z <ℤ b → nat_abs (z -ℤ a) ≤ nat_abs (b -ℤ a)
        near a b z h k = omega (arith, ints)

pub crossing : (t : LaidEdge) (i : ℕ) → t.first < i → i ≤ t.last → Crossing (layout_of t.layout) (edge_of t.s) i
crossing t i h k = crosses (layout_of t.layout) (edge_of t.s) i (segment_proper t.s) t.begins (omega (arith, t.starts)) (omega (arith, t.ends))

lt_suc : {m n : ℕ} → m < suc n → m ≤ n
lt_suc h = omega arith

pub high_le : (l : Layout) (e : Edge) (i : ℕ) → Crossing l e i → high l e i ≤ rise e
unfolding high
high_le l e i w = go (rise e) (nat_abs (border l i -ℤ e.a.x)) (run e) w.wide w.near
  where
    go : (h w b : ℕ) → 0 < b → w ≤ b → (h * w + (b - 1)) / b ≤ h
    go h w b i k = lt_suc (div_below (h * w + (b - 1)) b (suc h) i (omega (arith, suc-mul h b, mul-le-mul_left h k)))

pub low_le : (l : Layout) (e : Edge) (i : ℕ) → Crossing l e i → low l e i ≤ rise e
unfolding low
low_le l e i w = go (rise e) (nat_abs (border l i -ℤ e.a.x)) (run e) w.wide w.near
  where
    go : (h w b : ℕ) → 0 < b → w ≤ b → h * w / b ≤ h
    go h w b i k = lt_suc (div_below (h * w) b (suc h) i (omega (arith, suc-mul h b, mul-le-mul_left h k)))

pub climb_le : (l : Layout) (s : XSegment) (i : ℕ) → Crossing l (edge_of s) i → climb l (edge_of s) i ≤ 2 ^ 40
climb_le l s i w = le_trans (mul-le-mul (rise_le s) (le_trans w.near (run_le s))) (omega arith)

-- the distance from the first end to a border that is held in 32 bits
pub away_is : (l : Layout) (s : XSegment) (i : ℕ) (z : ℤ) → mag z < 2 ^ 31 → z ≡ border l i → by_bits s.a.x z ≡ border l i -ℤ s.a.x
away_is l s i z h e = difference_is s.a.x z (coordinate_fits s.a.x s.a.wide) (record { sfits = h }) ∙ ap (λ (z : ℤ). z -ℤ s.a.x) e

-- rounded up, as the code reckons it
pub ceil_is : (n b : ℕ) → 0 < b → n / b + min 1 (n % b) ≡ (n + (b - 1)) / b
ceil_is n b h =
    let q = n / b + min 1 (n % b) in
    let t = div_ceil_times n b h in
    let low : q ≤ (n + (b - 1)) / b = le-div q (n + (b - 1)) b h (omega arith) in
    let high : (n + (b - 1)) / b < suc q = div_below (n + (b - 1)) b (suc q) h (omega (arith, suc-mul q b)) in
    omega arith

-- ---- rectangles
box_ext : {x x' y y' u u' v v' : ℤ} → x ≡ x' → y ≡ y' → u ≡ u' → v ≡ v'
    → ◌≡◌ {A = Box} (record { left = x; right = y; bottom = u; top = v }) (record { left = x'; right = y'; bottom = u'; top = v' })
box_ext e f g h = rw (e, f, g, h)

pub raised : (y : ℤ) (h : ℕ) → InRange y → h ≤ 2 ^ 20 → to_z w32 (of_z w32 (to_z w64 (of_z w64 (to_z w64 (of_z w64 (to_z w32 (of_z w32 y))) +ℤ to_z w64 h)))) ≡ y +ℤ pos h
raised y h i j = omega (arith, ints)

pub lowered : (y : ℤ) (h : ℕ) → InRange y → h ≤ 2 ^ 20 → to_z w32 (of_z w32 (to_z w64 (of_z w64 (to_z w64 (of_z w64 (to_z w32 (of_z w32 y))) -ℤ to_z w64 h)))) ≡ y -ℤ pos h
lowered y h i j = omega (arith, ints)

pub spanned_up : (e : Edge) {x x' u v : ℤ} (y y' : ℤ) (h h' : ℕ) → le_z e.a.y e.b.y ≡ true → x ≡ y → x' ≡ y' → u ≡ e.a.y +ℤ pos h → v ≡ e.a.y +ℤ pos h'
    → record { left = x; right = x'; bottom = u; top = v } ≡ spanned e y y' h h'
unfolding spanned
spanned_up e y y' h h' t i j k m = box_ext i j k m ∙ sym (cond-true (le_z e.a.y e.b.y) _ _ t)

pub spanned_down : (e : Edge) {x x' u v : ℤ} (y y' : ℤ) (h h' : ℕ) → le_z e.a.y e.b.y ≡ false → x ≡ y → x' ≡ y' → u ≡ e.a.y -ℤ pos h' → v ≡ e.a.y -ℤ pos h
    → record { left = x; right = x'; bottom = u; top = v } ≡ spanned e y y' h h'
unfolding spanned
spanned_down e y y' h h' t i j k m = box_ext i j k m ∙ sym (cond-false (le_z e.a.y e.b.y) _ _ t)

pub rect_is : (l : Layout) (c : ℕ) (e : Edge) (i j : ℕ) (x x' : ℤ) (h h' : ℕ) → i ≡ first_column l e → j ≡ last_column l e
    → x ≡ cond (eqb c i) e.a.x (border l c) → x' ≡ cond (eqb c j) e.b.x (border l (suc c))
    → h ≡ cond (eqb c i) 0 (low l e c) → h' ≡ cond (eqb c j) (rise e) (high l e (suc c)) → spanned e x x' h h' ≡ rect l c e
unfolding rect
rect_is l c e i j x x' h h' m n p q r s = rw (p, q, r, s, m, n)

-- ---- heights at a border, as the code reckons them from the climb and the width
pub record Height (s : XSegment) (n h : ℕ) : Type 0 where
  pub value : n ≡ h
  pub size : n ≤ rise (edge_of s)
  pub few : n ≤ 2 ^ 20

height : (s : XSegment) (n h : ℕ) → n ≡ h → h ≤ rise (edge_of s) → Height s n h
height s n h e k = record { value = e; size = omega arith; few = omega (arith, rise_le s) }

pub low_is : (t : LaidEdge) (i n b : ℕ) → t.first < i → i ≤ t.last → n ≡ climb (layout_of t.layout) (edge_of t.s) i → b ≡ run (edge_of t.s) → Height t.s (n / b) (low (layout_of t.layout) (edge_of t.s) i)
unfolding low
low_is t i n b h k e f = height t.s (n / b) (low (layout_of t.layout) (edge_of t.s) i) (rw (e, f)) (low_le (layout_of t.layout) (edge_of t.s) i (crossing t i h k))

pub high_is : (t : LaidEdge) (i n b : ℕ) → t.first < i → i ≤ t.last → n ≡ climb (layout_of t.layout) (edge_of t.s) i → b ≡ run (edge_of t.s)
    → Height t.s (n / b + min 1 (n % b)) (high (layout_of t.layout) (edge_of t.s) i)
unfolding high
high_is t i n b h k e f =
    let w = crossing t i h k in
    height t.s _ (high (layout_of t.layout) (edge_of t.s) i) (ceil_is n b (omega (arith, w.wide)) ∙ rw (e, f)) (high_le (layout_of t.layout) (edge_of t.s) i w)

pub width_is : (s : XSegment) (n : ℕ) → n ≡ nat_abs (to_z w32 (of_z w32 s.b.x) -ℤ to_z w32 (of_z w32 s.a.x)) → n ≡ run (edge_of s)
width_is s n h =
    let fa = coordinate_fits s.a.x s.a.wide in
    let fb = coordinate_fits s.b.x s.b.wide in
    simp to_z-of_z at h
