-- An edge that lies in the box has columns of the grid.
use Rattle.std.proofs.Common.{◌≡◌, ℕ, ◌^◌, ◌<◌, ◌≤◌, true, ◌&&◌, ℤ, pos, ◌-ℤ◌, ◌≤ℤ◌, ◌<ℤ◌, sym, subst, arith}
use borrow.Author.Differences.{ints}
use lib.Signed.{le_z}
use Rattle.std.proofs.lemmas.Bool.{and_parts}
use Rattle.plane.specs.Points.{◌≺◌, by_x, by_y, before?}
use Rattle.plane.specs.Edges.{Edge, Proper}
use Rattle.plane.proofs.Points.{weaken, le_x}
use Rattle.plane.proofs.Tests.{before_yes}
use Rattle.finder.specs.Finders.{Box, in_box?}
use Rattle.grid.specs.Layouts.{Layout, layout, width, most_columns}
use Rattle.grid.specs.Rectangles.{first_column, last_column}
use Rattle.grid.specs.Tables.{Lies}
use Rattle.grid.proofs.Columns.{column_mono, column_few}
use Rattle.grid.proofs.Holds.{upright_column, slanted_column}

le_trans : (a b c : ℤ) → a ≤ℤ b → b ≤ℤ c → a ≤ℤ c
le_trans a b c h k = omega (arith, ints)

lt_pred : (a b : ℤ) → a <ℤ b → a ≤ℤ (b -ℤ pos 1)
lt_pred a b h = omega (arith, ints)

pred_le : (a b : ℤ) → a ≤ℤ b → (a -ℤ pos 1) ≤ℤ b
pred_le a b h = omega (arith, ints)

pub columns_ordered : (l : Layout) (e : Edge) → Proper e → l.left ≤ℤ e.a.x → first_column l e ≤ last_column l e
columns_ordered l e pe h = go pe
  where
    go : e.a ≺ e.b → first_column l e ≤ last_column l e
    go (by_y z u) = omega (arith, upright_column l e z)
    go (by_x u) = subst (λ (n : ℕ). first_column l e ≤ n) (sym (slanted_column l e u)) (column_mono l e.a.x (e.b.x -ℤ pos 1) h (lt_pred e.a.x e.b.x u))

pub last_few : (b : Box) (n : ℕ) (e : Edge) → n ≤ 4096 → width b <ℤ pos (2 ^ 32) → Lies b e → last_column (layout b n) e < most_columns
last_few b n e few wide w = go w.proper
  where
    go : e.a ≺ e.b → last_column (layout b n) e < most_columns
    go (by_y z u) =
        subst (λ (n : ℕ). n < most_columns) (sym (upright_column (layout b n) e z))
        (column_few b n few wide e.a.x w.begins (le_trans e.a.x e.b.x b.right (le_x (weaken w.proper)) w.ends))
    go (by_x u) =
        subst (λ (n : ℕ). n < most_columns) (sym (slanted_column (layout b n) e u))
        (column_few b n few wide (e.b.x -ℤ pos 1) (le_trans b.left e.a.x (e.b.x -ℤ pos 1) w.begins (lt_pred e.a.x e.b.x u)) (pred_le e.b.x b.right w.ends))

-- the tests that an edge passes before it is taken
pub lies_by : (b : Box) (e : Edge) → before? e.a e.b ≡ true → (in_box? b e.a && in_box? b e.b) ≡ true → Lies b e
lies_by b e o i =
    let w = and_parts (in_box? b e.a) (in_box? b e.b) i in
    let p = (and_parts (le_z b.left e.a.x && le_z e.a.x b.right) (le_z b.bottom e.a.y && le_z e.a.y b.top) w.0).0 in
    let q = (and_parts (le_z b.left e.b.x && le_z e.b.x b.right) (le_z b.bottom e.b.y && le_z e.b.y b.top) w.1).0 in
    record {
      proper = before_yes e.a e.b o;
      begins = yes b.left e.a.x (and_parts (le_z b.left e.a.x) (le_z e.a.x b.right) p).0;
      ends = yes e.b.x b.right (and_parts (le_z b.left e.b.x) (le_z e.b.x b.right) q).1;
    }
  where
    yes : (a b : ℤ) → le_z a b ≡ true → a ≤ℤ b
    yes a b h = grind (arith, ints)
