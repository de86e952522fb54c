-- The pairs of the grid are a walk: few, numbered, and with every pair that touches.
use Rattle.std.proofs.Common.{ℕ, suc, ◌-◌, ◌*◌, ◌^◌, ◌<◌, ◌≤◌, ◌⊎◌, List, length, ℤ, pos, ◌≤ℤ◌, ◌<ℤ◌, inl, inr, mul-le-mul, arith, length-append}
use mathlib.Core.Logic.{∥∥₁_map}
use borrow.Author.Differences.{ints}
use Rattle.std.specs.List.{range_with_len, flat_map, AllByRecursion}
use Rattle.std.proofs.ByRecursion.{All-get_or}
use Rattle.plane.specs.Edges.{Edge}
use Rattle.plane.specs.Fractions.{Frac, Touch, TouchAt}
use Rattle.plane.specs.Rules.{In}
use Rattle.plane.proofs.Points.{le_x}
use Rattle.finder.specs.Finders.{Pair, Box, Walk, blank_edge, edge_at}
use Rattle.grid.specs.Layouts.{layout, width, column, most_columns}
use Rattle.grid.specs.Grid.{column_pairs, border_pairs, grid_pairs}
use Rattle.grid.specs.Tables.{Lies}
use Rattle.grid.proofs.Columns.{column_few}
use Rattle.grid.proofs.Floors.{floor, whole_le, le_whole}
use Rattle.grid.proofs.Finds.{From, Found, in_column, ends_in, holds_end, touch_found}
use Rattle.finder.proofs.Members.{in_left, in_right, in_split}
use Rattle.grid.proofs.Members.{in_joined, joined_in, length_joined, in_counting}
use Rattle.grid.proofs.Pairs.{column_has, column_numbered, column_short, border_has_first, border_has_second, border_numbered, border_short}

module _ (b : Box) (n : ℕ) (es : List Edge) where
  columns : List Pair
  columns = flat_map (column_pairs (layout b n) es) (range_with_len 0 most_columns)

  borders : List Pair
  borders = flat_map (border_pairs (layout b n) es) (range_with_len 0 (most_columns - 1))

  grid_short : length es ≤ 4096 → length (grid_pairs b n es) ≤ 2 ^ 40
  unfolding grid_pairs columns borders
  grid_short h = omega (
    arith,
    length-append columns borders,
    length_joined (column_pairs (layout b n) es) (length es * length es) (λ c. column_short (layout b n) es c) (range_with_len 0 most_columns),
    length_joined (border_pairs (layout b n) es) (length es * length es) (λ c. border_short (layout b n) es c) (range_with_len 0 (most_columns - 1)),
    mul-le-mul h h,
  )

  grid_numbered : (x : Pair) → In x (grid_pairs b n es) → (x.0 < x.1) × (x.1 < length es)
  unfolding grid_pairs columns borders
  grid_numbered x h = go (in_split x columns borders h)
    where
      go : In x columns ⊎ In x borders → (x.0 < x.1) × (x.1 < length es)
      go (inl k) = let w = joined_in (column_pairs (layout b n) es) x (range_with_len 0 most_columns) k in column_numbered (layout b n) es w.0 x w.2
      go (inr k) = let w = joined_in (border_pairs (layout b n) es) x (range_with_len 0 (most_columns - 1)) k in border_numbered (layout b n) es w.0 x w.2

  in_column_pairs : (c : ℕ) (x : Pair) → c < most_columns → In x (column_pairs (layout b n) es c) → In x (grid_pairs b n es)
  unfolding grid_pairs columns borders
  in_column_pairs c x h k = in_left x columns borders (in_joined (column_pairs (layout b n) es) c x (range_with_len 0 most_columns) (in_counting 0 most_columns c (omega arith) (omega arith)) k)

  in_border_pairs : (c : ℕ) (x : Pair) → suc c < most_columns → In x (border_pairs (layout b n) es c) → In x (grid_pairs b n es)
  unfolding grid_pairs columns borders
  in_border_pairs c x h k = in_right x columns borders (in_joined (border_pairs (layout b n) es) c x (range_with_len 0 (most_columns - 1)) (in_counting 0 (most_columns - 1) c (omega arith) (omega arith)) k)

  found_in : (i j : ℕ) → i < j → j < length es → Found (layout b n) (edge_at es i) (edge_at es j) → In (i, j) (grid_pairs b n es)
  found_in i j h k (in_column c few s t u) = in_column_pairs c (i, j) few (column_has (layout b n) es c i j h k s t u)
  found_in i j h k (ends_in c few s t u w) = in_border_pairs c (i, j) few (border_has_first (layout b n) es c i j h k s t u w)
  found_in i j h k (holds_end c few s t u w) = in_border_pairs c (i, j) few (border_has_second (layout b n) es c i j h k s t u w)

  grid_complete : n ≤ 4096 → width b <ℤ pos (2 ^ 32) → AllByRecursion (Lies b) es → (i j : ℕ) → i < j → j < length es → Touch (edge_at es i) (edge_at es j) → ∥ In (i, j) (grid_pairs b n es) ∥₁
  grid_complete few wide all i j h k t = ∥∥₁_map t (λ w. found_in i j h k (touch_found (layout b n) w.0 (edge_at es i) (edge_at es j) (placed w.0 w.1) (from i (lies i (omega arith))) (from j (lies j k)) w.1))
    where
      lies : (i : ℕ) → i < length es → Lies b (edge_at es i)
      lies i h = All-get_or (Lies b) es i blank_edge h all

      from : (i : ℕ) → Lies b (edge_at es i) → From b.left (edge_at es i)
      from i w = record { proper = w.proper; begins = w.begins }

      trans : {x y z : ℤ} → x ≤ℤ y → y ≤ℤ z → x ≤ℤ z
      trans {x} {y} {z} h k = omega (arith, ints)

      placed : (f : Frac) → TouchAt (edge_at es i) (edge_at es j) f → column (layout b n) (floor f) < most_columns
      placed f t = column_few b n few wide (floor f)
          (trans (lies j k).begins (whole_le f (edge_at es j).a.x (le_x t.there.from)))
          (trans (le_whole f (edge_at es j).b.x (le_x t.there.to)) (lies j k).ends)

  pub grid_walk : n ≤ 4096 → length es ≤ n → width b <ℤ pos (2 ^ 32) → AllByRecursion (Lies b) es → Walk es (grid_pairs b n es)
  grid_walk few short wide all = record { few = grid_short (omega arith); numbered = grid_numbered; complete = grid_complete few wide all }
