-- The rectangle of a fragment holds every point of its edge in its column.
use Rattle.std.proofs.Common.{◌≡◌, ℕ, suc, ◌+◌, ◌-◌, ◌*◌, ◌/◌, ◌<◌, ◌≤◌, Bool, true, false, ◌&&◌, eqb, leb, ℤ, pos, ◌+ℤ◌, ◌-ℤ◌, ◌*ℤ◌, nat_abs, ◌≤ℤ◌, ◌<ℤ◌, sym, refl, ap, ◌∙◌, subst, div-mul-le_self, arith}
use native.Mathlib.Nat.{lt-div-mul-add}
use borrow.Author.Differences.{ints}
use lib.IntN.{*ℤ-zero}
use lib.Signed.{le_z}
use Rattle.std.proofs.lemmas.Bool.{cond_both, cond-true, cond-false, and_from, and_parts, leb-true, eqb-false, eq-eqb, ne_eqb}
use Rattle.algebra.proofs.Ring.{◌⊖◌, ◌⊗◌, ◌≐◌, ring₃, ring₆}
use Rattle.algebra.proofs.Laws.{mul_add}
use Rattle.algebra.proofs.Order.{mul-le, le_of_mul_le}
use Rattle.plane.specs.Points.{◌≺◌, by_x, by_y}
use Rattle.plane.specs.Edges.{Edge, Proper}
use Rattle.plane.specs.Fractions.{Frac, den, On}
use Rattle.plane.proofs.Signs.{den_pos, lt_le, linked}
use Rattle.plane.proofs.Points.{weaken, le_x}
use Rattle.plane.proofs.Cuts.{Boxed, boxed}
use Rattle.finder.specs.Finders.{Box}
use Rattle.grid.specs.Layouts.{Layout, column, border}
use Rattle.grid.specs.Rectangles.{run, rise, vertical?, first_column, last_column, in_column?, climb, low, high, spanned, rect}
use Rattle.grid.specs.Grid.{share?}
use Rattle.grid.proofs.Columns.{lt_border}

pub record Holds (r : Box) (f : Frac) : Type 0 where
  pub left : (den f *ℤ r.left) ≤ℤ f.at.x
  pub right : f.at.x ≤ℤ (den f *ℤ r.right)
  pub bottom : (den f *ℤ r.bottom) ≤ℤ f.at.y
  pub top : f.at.y ≤ℤ (den f *ℤ r.top)

le_yes : (a b : ℤ) → a ≤ℤ b → le_z a b ≡ true
le_yes a b h = grind (arith, ints)

le_true : (a b : ℤ) → le_z a b ≡ true → a ≤ℤ b
le_true a b h = grind (arith, ints)

le_false : (a b : ℤ) → le_z a b ≡ false → b ≤ℤ a
le_false a b h = grind (arith, ints)

-- rectangles that hold one point share it
pub holds_share : (r s : Box) (f : Frac) → Holds r f → Holds s f → share? r s ≡ true
holds_share r s f h k =
    and_from (le_z r.left s.right && le_z s.left r.right) (le_z r.bottom s.top && le_z s.bottom r.top)
    (and_from (le_z r.left s.right) (le_z s.left r.right) (across r.left s.right f.at.x h.left k.right) (across s.left r.right f.at.x k.left h.right))
    (and_from (le_z r.bottom s.top) (le_z s.bottom r.top) (across r.bottom s.top f.at.y h.bottom k.top) (across s.bottom r.top f.at.y k.bottom h.top))
  where
    across : (a b z : ℤ) → (den f *ℤ a) ≤ℤ z → z ≤ℤ (den f *ℤ b) → le_z a b ≡ true
    across a b z i j = le_yes a b (le_of_mul_le (den f) a b (den_pos f.k) (trans (den f *ℤ a) z (den f *ℤ b) i j))
      where
        trans : (a b c : ℤ) → a ≤ℤ b → b ≤ℤ c → a ≤ℤ c
        trans a b c h l = omega (arith, ints)

mul_sub : (d a h : ℤ) → d *ℤ (a -ℤ h) ≡ d *ℤ a -ℤ d *ℤ h
mul_sub = ring₃ (λ d a h. d ⊗ (a ⊖ h) ≐ d ⊗ a ⊖ d ⊗ h) tt

-- a natural that is a difference
up_is : (a b : ℤ) → a ≤ℤ b → pos (nat_abs (b -ℤ a)) ≡ b -ℤ a
up_is a b h = omega (arith, ints)

down_is : (a b : ℤ) → b ≤ℤ a → pos (nat_abs (b -ℤ a)) ≡ a -ℤ b
down_is a b h = omega (arith, ints)

-- v is the height of f in its measure, counted from the first end of e towards its second
record Height (e : Edge) (f : Frac) (v : ℤ) : Type 0 where
  from : pos 0 ≤ℤ v
  to : v ≤ℤ (den f *ℤ pos (rise e))
  line : pos (run e) *ℤ v ≡ pos (rise e) *ℤ (f.at.x -ℤ den f *ℤ e.a.x)
  holds : (x x' : ℤ) (h h' : ℕ) → (den f *ℤ x) ≤ℤ f.at.x → f.at.x ≤ℤ (den f *ℤ x')
      → (den f *ℤ pos h) ≤ℤ v → v ≤ℤ (den f *ℤ pos h') → Holds (spanned e x x' h h') f

height : (e : Edge) (f : Frac) → Proper e → On e f → (v : ℤ) × Height e f v
unfolding spanned
height e f pe o = go (le_z ay bY) refl
  where
    ay : ℤ
    ay = e.a.y

    bY : ℤ
    bY = e.b.y

    y : ℤ
    y = f.at.y

    d : ℤ
    d = den f

    u : ℤ
    u = f.at.x -ℤ d *ℤ e.a.x

    box : Boxed e f
    box = boxed e f pe o

    run_is : pos (run e) ≡ e.b.x -ℤ e.a.x
    run_is = up_is e.a.x e.b.x (le_x (weaken pe))

    wide : (a b : ℤ) → a ≤ℤ b → pos 0 ≤ℤ (b -ℤ a)
    wide a b h = omega (arith, ints)

    from_below : (s p q : ℤ) → s ≡ p +ℤ q → q ≤ℤ (y -ℤ p) → s ≤ℤ y
    from_below s p q e h = omega (arith, ints)

    to_above : (s p q : ℤ) → s ≡ p +ℤ q → (y -ℤ p) ≤ℤ q → y ≤ℤ s
    to_above s p q e h = omega (arith, ints)

    from_above : (s p q : ℤ) → s ≡ p -ℤ q → q ≤ℤ (p -ℤ y) → y ≤ℤ s
    from_above s p q e h = omega (arith, ints)

    to_below : (s p q : ℤ) → s ≡ p -ℤ q → (p -ℤ y) ≤ℤ q → s ≤ℤ y
    to_below s p q e h = omega (arith, ints)

    go : (up : Bool) → le_z ay bY ≡ up → (v : ℤ) × Height e f v
    go true s = (
      y -ℤ d *ℤ ay,
      record {
        from = wide (d *ℤ ay) y (box.rising l).0;
        to = less (d *ℤ ay) (d *ℤ bY) (d *ℤ pos (rise e)) (ap (λ z. d *ℤ z) climbs ∙ mul_sub d bY ay) (box.rising l).1;
        line = ap (λ z. z *ℤ (y -ℤ d *ℤ ay)) run_is ∙ o.line ∙ ap (λ z. z *ℤ u) (sym climbs);
        holds = λ x x' h h' i j k m. subst (λ (r : Box). Holds r f) (sym (cond-true (le_z ay bY) _ _ s)) (record {
          left = i;
          right = j;
          bottom = from_below (d *ℤ (ay +ℤ pos h)) (d *ℤ ay) (d *ℤ pos h) (mul_add d ay (pos h)) k;
          top = to_above (d *ℤ (ay +ℤ pos h')) (d *ℤ ay) (d *ℤ pos h') (mul_add d ay (pos h')) m;
        });
      },
    )
      where
        l : ay ≤ℤ bY
        l = le_true ay bY s

        climbs : pos (rise e) ≡ bY -ℤ ay
        climbs = up_is ay bY l

        less : (p q r : ℤ) → r ≡ q -ℤ p → y ≤ℤ q → (y -ℤ p) ≤ℤ r
        less p q r e h = omega (arith, ints)
    go false s = (
      d *ℤ ay -ℤ y,
      record {
        from = wide y (d *ℤ ay) (box.falling l).1;
        to = more (d *ℤ ay) (d *ℤ bY) (d *ℤ pos (rise e)) (ap (λ z. d *ℤ z) falls ∙ mul_sub d ay bY) (box.falling l).0;
        line =
            ap (λ z. z *ℤ (d *ℤ ay -ℤ y)) run_is
            ∙ linked ((e.b.x -ℤ e.a.x) *ℤ (d *ℤ ay -ℤ y)) ((ay -ℤ bY) *ℤ u) ((bY -ℤ ay) *ℤ u) ((e.b.x -ℤ e.a.x) *ℤ (y -ℤ d *ℤ ay))
            (ring₆ (λ w p q a b t. w ⊗ (p ⊖ q) ⊖ (a ⊖ b) ⊗ t ≐ (b ⊖ a) ⊗ t ⊖ w ⊗ (q ⊖ p)) tt (e.b.x -ℤ e.a.x) (d *ℤ ay) y ay bY u) (sym o.line)
            ∙ ap (λ z. z *ℤ u) (sym falls);
        holds = λ x x' h h' i j k m. subst (λ (r : Box). Holds r f) (sym (cond-false (le_z ay bY) _ _ s)) (record {
          left = i;
          right = j;
          bottom = to_below (d *ℤ (ay -ℤ pos h')) (d *ℤ ay) (d *ℤ pos h') (mul_sub d ay (pos h')) m;
          top = from_above (d *ℤ (ay -ℤ pos h)) (d *ℤ ay) (d *ℤ pos h) (mul_sub d ay (pos h)) k;
        });
      },
    )
      where
        l : bY ≤ℤ ay
        l = le_false ay bY s

        falls : pos (rise e) ≡ ay -ℤ bY
        falls = down_is ay bY l

        more : (p q r : ℤ) → r ≡ p -ℤ q → q ≤ℤ y → (p -ℤ y) ≤ℤ r
        more p q r e h = omega (arith, ints)

-- ---- rounded heights at a border that is w from the first end: b is the width, h the height of the edge, v that of a point u from the first end
positive : (n : ℕ) → 0 < n → pos 0 <ℤ pos n
positive n h = omega (arith, ints)

natural : (n : ℕ) → pos 0 ≤ℤ pos n
natural n = omega (arith, ints)

lift : {m n : ℕ} → m ≤ n → pos m ≤ℤ pos n
lift h = omega (arith, ints)

shift : (b d q : ℤ) → b *ℤ (d *ℤ q) ≡ d *ℤ (q *ℤ b)
shift = ring₃ (λ b d q. b ⊗ (d ⊗ q) ≐ d ⊗ (q ⊗ b)) tt

turn : (d h w : ℤ) → d *ℤ (h *ℤ w) ≡ h *ℤ (d *ℤ w)
turn = ring₃ (λ d h w. d ⊗ (h ⊗ w) ≐ h ⊗ (d ⊗ w)) tt

chain : {p q r s t z : ℤ} → p ≡ q → q ≤ℤ r → r ≡ s → s ≤ℤ t → z ≡ t → p ≤ℤ z
chain {p} {q} {r} {s} {t} {z} a b c d e = omega (arith, ints)

under : (b h w q : ℕ) (d u v : ℤ) → 0 < b → pos 0 ≤ℤ d → pos b *ℤ v ≡ pos h *ℤ u → (d *ℤ pos w) ≤ℤ u → q * b ≤ h * w → (d *ℤ pos q) ≤ℤ v
under b h w q d u v i j e k l =
    le_of_mul_le (pos b) (d *ℤ pos q) v (positive b i)
    (chain (shift (pos b) d (pos q)) (mul-le d (pos (q * b)) (pos (h * w)) j (lift l)) (turn d (pos h) (pos w)) (mul-le (pos h) (d *ℤ pos w) u (natural h) k) e)

over : (b h w q : ℕ) (d u v : ℤ) → 0 < b → pos 0 ≤ℤ d → pos b *ℤ v ≡ pos h *ℤ u → u ≤ℤ (d *ℤ pos w) → h * w ≤ q * b → v ≤ℤ (d *ℤ pos q)
over b h w q d u v i j e k l =
    le_of_mul_le (pos b) v (d *ℤ pos q) (positive b i)
    (chain e (mul-le (pos h) u (d *ℤ pos w) (natural h) k) (sym (turn d (pos h) (pos w))) (mul-le d (pos (h * w)) (pos (q * b)) j (lift l)) (shift (pos b) d (pos q)))

-- ---- the columns of an edge
slanted : (e : Edge) → e.a.x <ℤ e.b.x → 0 < run e
slanted e h = go e.a.x e.b.x h
  where
    go : (a b : ℤ) → a <ℤ b → 0 < nat_abs (b -ℤ a)
    go a b h = omega (arith, ints)

pub upright_column : (l : Layout) (e : Edge) → e.a.x ≡ e.b.x → last_column l e ≡ first_column l e
unfolding last_column
upright_column l e h = cond-true (vertical? e) _ _ (eq-eqb (run e) 0 (go e.a.x e.b.x h))
  where
    go : (a b : ℤ) → a ≡ b → nat_abs (b -ℤ a) ≡ 0
    go a b h = omega (arith, ints)

pub slanted_column : (l : Layout) (e : Edge) → e.a.x <ℤ e.b.x → last_column l e ≡ column l (e.b.x -ℤ pos 1)
unfolding last_column
slanted_column l e h = cond-false (vertical? e) _ _ (ne_eqb (run e) 0 (λ z. go z (slanted e h)))
  where
    go : {n : ℕ} → n ≡ 0 → 0 < n → ⊥
    go z h = omega arith

pub in_column_parts : (l : Layout) (c : ℕ) (e : Edge) → in_column? l c e ≡ true → (first_column l e ≤ c) × (c ≤ last_column l e)
unfolding in_column?
in_column_parts l c e h = let w = and_parts (leb (first_column l e) c) (leb c (last_column l e)) h in (leb-true _ _ w.0, leb-true _ _ w.1)

-- f is in column c or on a border of it
pub record Beside (l : Layout) (c : ℕ) (f : Frac) : Type 0 where
  pub from : (den f *ℤ border l c) ≤ℤ f.at.x
  pub to : f.at.x ≤ℤ (den f *ℤ border l (suc c))

pub rect_holds : (l : Layout) (c : ℕ) (e : Edge) (f : Frac) → Proper e → On e f → in_column? l c e ≡ true → Beside l c f → Holds (rect l c e) f
unfolding rect low high
rect_holds l c e f pe o n s = let (v, w) = height e f pe o in go v w
  where
    box : Boxed e f
    box = boxed e f pe o

    columns : (first_column l e ≤ c) × (c ≤ last_column l e)
    columns = in_column_parts l c e n

    -- more than one column: the edge is no vertical
    wide : first_column l e < last_column l e → 0 < run e
    wide h = go pe
      where
        go : e.a ≺ e.b → 0 < run e
        go (by_x u) = slanted e u
        go (by_y z u) = absurd (same (upright_column l e z))
          where
            same : last_column l e ≡ first_column l e → ⊥
            same i = omega arith

    -- how far a border right of the first end is from it
    ahead : (i : ℕ) → first_column l e < i → den f *ℤ pos (nat_abs (border l i -ℤ e.a.x)) ≡ den f *ℤ border l i -ℤ den f *ℤ e.a.x
    ahead i h = ap (λ z. den f *ℤ z) (up_is e.a.x (border l i) (lt_le (lt_border l e.a.x i h))) ∙ mul_sub (den f) (border l i) e.a.x

    past : (i : ℕ) → first_column l e < i → (den f *ℤ border l i) ≤ℤ f.at.x → (den f *ℤ pos (nat_abs (border l i -ℤ e.a.x))) ≤ℤ (f.at.x -ℤ den f *ℤ e.a.x)
    past i h k = go (den f *ℤ e.a.x) (den f *ℤ border l i) (den f *ℤ pos (nat_abs (border l i -ℤ e.a.x))) f.at.x (ahead i h) k
      where
        go : (p q r x : ℤ) → r ≡ q -ℤ p → q ≤ℤ x → r ≤ℤ (x -ℤ p)
        go p q r x e h = omega (arith, ints)

    short : (i : ℕ) → first_column l e < i → f.at.x ≤ℤ (den f *ℤ border l i) → (f.at.x -ℤ den f *ℤ e.a.x) ≤ℤ (den f *ℤ pos (nat_abs (border l i -ℤ e.a.x)))
    short i h k = go (den f *ℤ e.a.x) (den f *ℤ border l i) (den f *ℤ pos (nat_abs (border l i -ℤ e.a.x))) f.at.x (ahead i h) k
      where
        go : (p q r x : ℤ) → r ≡ q -ℤ p → x ≤ℤ q → (x -ℤ p) ≤ℤ r
        go p q r x e h = omega (arith, ints)

    d : pos 0 ≤ℤ den f
    d = lt_le (den_pos f.k)

    go : (v : ℤ) → Height e f v → Holds (rect l c e) f
    go v w = w.holds _ _ _ _
        (cond_both (eqb c (first_column l e)) e.a.x (border l c) (λ z. (den f *ℤ z) ≤ℤ f.at.x) (λ i. box.left) (λ i. s.from))
        (cond_both (eqb c (last_column l e)) e.b.x (border l (suc c)) (λ z. f.at.x ≤ℤ (den f *ℤ z)) (λ i. box.right) (λ i. s.to))
        (cond_both (eqb c (first_column l e)) 0 (low l e c) (λ h. (den f *ℤ pos h) ≤ℤ v) (λ i. nought) (λ i. lower (later (eqb-false c (first_column l e) i))))
        (cond_both (eqb c (last_column l e)) (rise e) (high l e (suc c)) (λ h. v ≤ℤ (den f *ℤ pos h)) (λ i. w.to) (λ i. upper (sooner (eqb-false c (last_column l e) i))))
      where
        nought : (den f *ℤ pos 0) ≤ℤ v
        nought = zero (den f *ℤ pos 0) (*ℤ-zero (den f)) w.from
          where
            zero : (z : ℤ) → z ≡ pos 0 → pos 0 ≤ℤ v → z ≤ℤ v
            zero z e h = omega (arith, ints)

        later : (c ≡ first_column l e → ⊥) → first_column l e < c
        later i = omega (arith, columns.0)

        sooner : (c ≡ last_column l e → ⊥) → c < last_column l e
        sooner i = omega (arith, columns.1)

        lower : first_column l e < c → (den f *ℤ pos (low l e c)) ≤ℤ v
        lower h = under (run e) (rise e) (nat_abs (border l c -ℤ e.a.x)) (low l e c) (den f) (f.at.x -ℤ den f *ℤ e.a.x) v (wide (omega (arith, columns.1))) d w.line
            (past c h s.from) (div-mul-le_self (climb l e c) (run e))

        upper : c < last_column l e → v ≤ℤ (den f *ℤ pos (high l e (suc c)))
        upper h = over (run e) (rise e) (nat_abs (border l (suc c) -ℤ e.a.x)) (high l e (suc c)) (den f) (f.at.x -ℤ den f *ℤ e.a.x) v b d w.line
            (short (suc c) (omega (arith, columns.0)) s.to) (rounded (climb l e (suc c)) (run e) b)
          where
            b : 0 < run e
            b = wide (omega (arith, columns.0))

            rounded : (m n : ℕ) → 0 < n → m ≤ (m + (n - 1)) / n * n
            rounded m n h = omega (arith, lt-div-mul-add {a = m + (n - 1)} h)
