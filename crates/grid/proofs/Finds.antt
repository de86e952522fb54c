-- How the grid finds two edges that touch: in a column where both have fragments, or at a border where one ends inside the other.
use Rattle.std.proofs.Common.{◌≡◌, ℕ, zero, suc, ◌<◌, ◌≤◌, Bool, true, false, ◌&&◌, leb, ◌⊎◌, ℤ, pos, ◌-ℤ◌, ◌*ℤ◌, nat_abs, ◌≤ℤ◌, ◌<ℤ◌, sym, ap, ◌∙◌, subst, inl, inr, arith}
use mathlib.Core.Bool.{false≢true}
use borrow.Author.Differences.{ints}
use lib.IntN.{*ℤ-zero}
use lib.Signed.{le_z, clash_ℤ}
use Rattle.std.proofs.lemmas.Int.{by_lt_z}
use Rattle.std.proofs.lemmas.Bool.{and_from, le-leb, eq-eqb}
use Rattle.algebra.proofs.Ring.{◌⊖◌, ◌⊗◌, ◌≐◌, ring₇}
use Rattle.plane.specs.Points.{Point, ◌≺◌, by_x, by_y}
use Rattle.plane.specs.Edges.{Edge, Proper, between?}
use Rattle.plane.specs.Fractions.{Frac, den, by, Is, On, Within, IsEnd, TouchAt}
use Rattle.plane.proofs.Signs.{den_pos, lt_le, eq_le, le_eq, gap_pos, zero_of_mul}
use Rattle.plane.proofs.Points.{point_ext, le_x, unscale}
use Rattle.plane.proofs.Overlays.{within_or_end, touch_sym}
use Rattle.plane.proofs.Tests.{decides_between}
use Rattle.finder.specs.Finders.{Box}
use Rattle.grid.specs.Layouts.{Layout, column, border, most_columns}
use Rattle.grid.specs.Rectangles.{run, stands_at?, first_column, last_column, in_column?, rect}
use Rattle.grid.specs.Grid.{share?}
use Rattle.grid.proofs.Columns.{border_zero, border_step, le_column, border_le, lt_border, column_lt}
use Rattle.grid.proofs.Floors.{floor, whole_le, le_whole, at_floor, over_floor}
use Rattle.grid.proofs.Holds.{holds_share, upright_column, slanted_column, Beside, rect_holds}

-- e lies in the columns that begin at left
pub record From (left : ℤ) (e : Edge) : Type 0 where
  pub proper : Proper e
  pub begins : left ≤ℤ e.a.x

pub data Found (l : Layout) (e g : Edge) : Type 0 where
  -- both have fragments in column c, and their rectangles share a point
  in_column : (c : ℕ) → c < most_columns → in_column? l c e ≡ true → in_column? l c g ≡ true → share? (rect l c e) (rect l c g) ≡ true → Found l e g
  -- e ends inside the vertical g on a border
  ends_in : (c : ℕ) → suc c < most_columns → in_column? l c e ≡ true → in_column? l (suc c) g ≡ true
      → stands_at? (border l (suc c)) g ≡ true → between? g e.b ≡ true → Found l e g
  -- g ends inside the vertical e on a border
  holds_end : (c : ℕ) → suc c < most_columns → in_column? l c g ≡ true → in_column? l (suc c) e ≡ true
      → stands_at? (border l (suc c)) e ≡ true → between? e g.b ≡ true → Found l e g

within : (l : Layout) (c : ℕ) (e : Edge) → first_column l e ≤ c → c ≤ last_column l e → in_column? l c e ≡ true
unfolding in_column?
within l c e h k = and_from (leb (first_column l e) c) (leb c (last_column l e)) (le-leb _ _ h) (le-leb _ _ k)

-- ---- the ends of an edge that is no vertical are its only points there
no_gap : {y z : ℤ} → y -ℤ z ≡ pos 0 → y ≡ z
no_gap {y} {z} e = omega (arith, ints)

nought : (w : ℤ) {x z : ℤ} → x ≡ z → w *ℤ (x -ℤ z) ≡ pos 0
nought w {x} {z} i = ap (λ u. w *ℤ u) (none i) ∙ *ℤ-zero w
  where
    none : x ≡ z → x -ℤ z ≡ pos 0
    none i = omega (arith, ints)

at_second_x : (e : Edge) (f : Frac) → e.a.x <ℤ e.b.x → On e f → f.at.x ≡ den f *ℤ e.b.x → Is f e.b
at_second_x e f h o i = point_ext i (no_gap (zero_of_mul (e.b.x -ℤ e.a.x) (f.at.y -ℤ den f *ℤ e.b.y) (gap_pos _ _ h)
    (sum _ _ _ _ (ring₇ (λ ax ay bx by d x y. (bx ⊖ ax) ⊗ (y ⊖ d ⊗ by) ≐ ((bx ⊖ ax) ⊗ (y ⊖ d ⊗ ay) ⊖ (by ⊖ ay) ⊗ (x ⊖ d ⊗ ax)) ⊖ (ay ⊖ by) ⊗ (x ⊖ d ⊗ bx)) tt
    e.a.x e.a.y e.b.x e.b.y (den f) f.at.x f.at.y) o.line (nought (e.a.y -ℤ e.b.y) i))))
  where
    sum : (p q r s : ℤ) → p ≡ (q -ℤ r) -ℤ s → q ≡ r → s ≡ pos 0 → p ≡ pos 0
    sum p q r s e i j = omega (arith, ints)

at_first_x : (e : Edge) (f : Frac) → e.a.x <ℤ e.b.x → On e f → f.at.x ≡ den f *ℤ e.a.x → Is f e.a
at_first_x e f h o i =
    point_ext i (no_gap (zero_of_mul (e.b.x -ℤ e.a.x) (f.at.y -ℤ den f *ℤ e.a.y) (gap_pos _ _ h) (o.line ∙ nought (e.b.y -ℤ e.a.y) i)))

-- ---- f is in column c, perhaps on the border where it begins
record Place (l : Layout) (f : Frac) (c : ℕ) : Type 0 where
  few : c < most_columns
  from : border l c ≤ℤ floor f
  to : floor f <ℤ border l (suc c)

-- e ends on the border where column c begins, and f is there
record Ends (l : Layout) (f : Frac) (c : ℕ) (e : Edge) : Type 0 where
  slants : e.a.x <ℤ e.b.x
  there : e.b.x ≡ border l c
  here : f.at.x ≡ den f *ℤ e.b.x

le_trans : {a b c : ℤ} → a ≤ℤ b → b ≤ℤ c → a ≤ℤ c
le_trans {a} {b} {c} h k = omega (arith, ints)

le_lt : {a b c : ℤ} → a ≤ℤ b → b <ℤ c → a <ℤ c
le_lt {a} {b} {c} h k = omega (arith, ints)

lt_pred : {a b : ℤ} → a <ℤ b → a ≤ℤ (b -ℤ pos 1)
lt_pred {a} {b} h = omega (arith, ints)

lt_suc : {m n : ℕ} → m < suc n → m ≤ n
lt_suc h = omega arith

module _ (l : Layout) (f : Frac) where
  begins_le : (e : Edge) → On e f → e.a.x ≤ℤ floor f
  begins_le e o = whole_le f e.a.x (le_x o.from)

  ends_ge : (e : Edge) → On e f → floor f ≤ℤ e.b.x
  ends_ge e o = le_whole f e.b.x (le_x o.to)

  -- an edge through f has a fragment in the column of f, or ends where that begins
  in_or_ends : (c : ℕ) (e : Edge) → Place l f c → From l.left e → On e f → (in_column? l c e ≡ true) ⊎ Ends l f c e
  in_or_ends c e w s o = cases s.proper
    where
      first : first_column l e ≤ c
      first = lt_suc (column_lt l e.a.x (suc c) s.begins (le_lt (begins_le e o) w.to))

      cases : e.a ≺ e.b → (in_column? l c e ≡ true) ⊎ Ends l f c e
      cases (by_y z u) =
          inl (within l c e first (subst (λ (k : ℕ). c ≤ k) (sym (upright_column l e z)) (le_column l e.a.x c (le_trans w.from (le_trans (ends_ge e o) (eq_le (sym z)))))))
      cases (by_x u) =
          by_lt_z (border l c) e.b.x
          (λ k. inl (within l c e first (subst (λ (k : ℕ). c ≤ k) (sym (slanted_column l e u)) (le_column l (e.b.x -ℤ pos 1) c (lt_pred k)))))
          (λ k. inr (record {
            slants = u;
            there = le_eq k (le_trans w.from (ends_ge e o));
            here = le_eq (le_x o.to) (at_floor f e.b.x (le_trans k w.from));
          }))

  -- an edge that begins left of a border and reaches it has a fragment left of it
  left_of : (c : ℕ) (e : Edge) → l.left ≤ℤ e.a.x → e.a.x <ℤ e.b.x → e.a.x <ℤ border l (suc c) → border l (suc c) ≤ℤ e.b.x → in_column? l c e ≡ true
  left_of c e s u h k =
      within l c e (lt_suc (column_lt l e.a.x (suc c) s h))
      (subst (λ (k : ℕ). c ≤ k) (sym (slanted_column l e u)) (le_column l (e.b.x -ℤ pos 1) c (lt_pred (lt_le_trans (border_step l c) k))))
    where
      lt_le_trans : {a b c : ℤ} → a <ℤ b → b ≤ℤ c → a <ℤ c
      lt_le_trans {a} {b} {c} h k = omega (arith, ints)

  ends_left_of : (c : ℕ) (e : Edge) → From l.left e → Ends l f (suc c) e → in_column? l c e ≡ true
  ends_left_of c e s n = left_of c e s.begins n.slants (subst (λ z. e.a.x <ℤ z) n.there n.slants) (eq_le (sym n.there))

  -- nothing ends where the first column begins
  none_ends : (e : Edge) → From l.left e → ¬ Ends l f 0 e
  none_ends e s n = clash_ℤ n.slants (le_trans (eq_le (n.there ∙ border_zero l)) s.begins)

  here : (c : ℕ) → Place l f c → Beside l c f
  here c w = record { from = at_floor f (border l c) w.from; to = over_floor f (border l (suc c)) w.to }

  -- on the border where column c + 1 begins, f is beside column c as well
  left_beside : (c : ℕ) (e : Edge) → Place l f (suc c) → Ends l f (suc c) e → Beside l c f
  left_beside c e w n = record {
    from = at_floor f (border l c) (le_trans (lt_le (border_step l c)) w.from);
    to = eq_le (n.here ∙ ap (λ z. den f *ℤ z) n.there);
  }

  in_both : (c : ℕ) (e g : Edge) → c < most_columns → From l.left e → From l.left g → On e f → On g f → Beside l c f → in_column? l c e ≡ true → in_column? l c g ≡ true → Found l e g
  in_both c e g h s t o p k i j =
      in_column c h i j (holds_share (rect l c e) (rect l c g) f (rect_holds l c e f s.proper o i k) (rect_holds l c g f t.proper p j k))

  -- e ends on a border, and g has a fragment right of it
  at_border : (c : ℕ) (e g : Edge) → Place l f c → From l.left e → From l.left g → TouchAt e g f → Ends l f c e → in_column? l c g ≡ true → Found l e g
  at_border zero e g w s t o n k = absurd (none_ends e s n)
  at_border (suc c) e g w s t o n k = cases t.proper
    where
      few : c < most_columns
      few = omega (arith, w.few)

      second : Is f e.b
      second = at_second_x e f n.slants o.here n.here

      on_border : g.a.x ≡ g.b.x → g.a.x ≡ border l (suc c)
      on_border z = le_eq
          (le_trans (begins_le g o.there) (le_trans (ends_ge e o.here) (eq_le n.there)))
          (le_trans w.from (le_trans (ends_ge g o.there) (eq_le (sym z))))

      stands : g.a.x ≡ g.b.x → stands_at? (border l (suc c)) g ≡ true
      stands z = and_from _ _ (eq-eqb (run g) 0 (none g.b.x g.a.x (sym z))) (eq-eqb (nat_abs (g.a.x -ℤ border l (suc c))) 0 (none g.a.x (border l (suc c)) (on_border z)))
        where
          none : (a b : ℤ) → a ≡ b → nat_abs (a -ℤ b) ≡ 0
          none a b e = omega (arith, ints)

      inside : Within g f ⊎ IsEnd g f → between? g e.b ≡ true
      inside (inr i) = absurd (o.free (inr second, i))
      inside (inl i) = (decides_between g e.b).1 (record {
        from = unscale (den f) g.a e.b (den_pos f.k) (subst (λ (p : Point). by f g.a ≺ p) second i.from);
        to = unscale (den f) e.b g.b (den_pos f.k) (subst (λ (p : Point). p ≺ by f g.b) second i.to);
      })

      cases : g.a ≺ g.b → Found l e g
      cases (by_y z u) = ends_in c w.few (ends_left_of c e s n) k (stands z) (inside (within_or_end o.there))
      cases (by_x u) =
          by_lt_z g.a.x (border l (suc c))
          (λ h. in_both c e g few s t o.here o.there (left_beside c e w n) (ends_left_of c e s n)
          (left_of c g t.begins u h (le_trans w.from (ends_ge g o.there))))
          (λ h. absurd (o.free (inr second, inl (at_first_x g f u o.there (n.here ∙ ap (λ z. den f *ℤ z) (level h))))))
        where
          level : border l (suc c) ≤ℤ g.a.x → e.b.x ≡ g.a.x
          level h = le_eq (le_trans (eq_le n.there) h) (le_trans (begins_le g o.there) (ends_ge e o.here))

  found_sym : {e g : Edge} → Found l e g → Found l g e
  found_sym {e} {g} (in_column c h i j k) = in_column c h j i (turned (rect l c e) (rect l c g) k)
    where
      turned : (r s : Box) → share? r s ≡ true → share? s r ≡ true
      turned r s k =
          swap (le_z r.left s.right) (le_z s.left r.right) (le_z r.bottom s.top) (le_z s.bottom r.top) k
        where
          swap : (i j m n : Bool) → ((i && j) && (m && n)) ≡ true → ((j && i) && (n && m)) ≡ true
          swap true true true true k = k
          swap true true true false k = k
          swap true true false n k = absurd (false≢true k)
          swap true false m n k = absurd (false≢true k)
          swap false j m n k = absurd (false≢true k)
  found_sym (ends_in c h i j k m) = holds_end c h i j k m
  found_sym (holds_end c h i j k m) = ends_in c h i j k m

  pub touch_found : (e g : Edge) → column l (floor f) < most_columns → From l.left e → From l.left g → TouchAt e g f → Found l e g
  touch_found e g h s t o = go (in_or_ends c e w s o.here) (in_or_ends c g w t o.there)
    where
      c : ℕ
      c = column l (floor f)

      w : Place l f c
      w = record {
        few = h;
        from = border_le l (floor f) c (le_trans s.begins (begins_le e o.here)) (omega arith);
        to = lt_border l (floor f) (suc c) (omega arith);
      }

      both : (c : ℕ) → Place l f c → Ends l f c e → Ends l f c g → Found l e g
      both zero w i j = absurd (none_ends e s i)
      both (suc c) w i j =
          in_both c e g (omega (arith, w.few)) s t o.here o.there (left_beside c e w i) (ends_left_of c e s i) (ends_left_of c g t j)

      go : (in_column? l c e ≡ true) ⊎ Ends l f c e → (in_column? l c g ≡ true) ⊎ Ends l f c g → Found l e g
      go (inl i) (inl j) = in_both c e g h s t o.here o.there (here c w) i j
      go (inl i) (inr j) = found_sym (at_border c g e w t s (touch_sym o) j i)
      go (inr i) (inl j) = at_border c e g w s t o i j
      go (inr i) (inr j) = both c w i j
