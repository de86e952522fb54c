-- The column grid: how many fragments it needs, and which pairs it gives.
use Rattle.std.specs.Prelude.{ℕ, suc, ◌-◌, min, max, Bool, cond, ◌&&◌, List, [], ◌∷◌, ◌++◌, ℤ, sum_by, filter, int_le}
use Rattle.std.specs.List.{range_with_len, flat_map}
use Rattle.plane.specs.Edges.{Edge, between?}
use Rattle.finder.specs.Finders.{Pair, Box, Needs}
use Rattle.grid.specs.Layouts.{Layout, layout, border, most_columns}
use Rattle.grid.specs.Rectangles.{stands_at?, in_column?, fragments, rect}

-- as many fragments as the edges shown have
unfoldable pub grid_need : Needs
grid_need b n es = sum_by (λ e. fragments (layout b n) e) es

-- an edge in a column: its number, the edge, and the rectangle of its fragment
pub record Part : Type 0 where
  pub number : ℕ
  pub edge : Edge
  pub rectangle : Box

abbrev pub part : Layout → ℕ → ℕ → Edge → Part
part l c i e = record { number = i; edge = e; rectangle = rect l c e }

-- the parts of column c in the order shown; the edges have the numbers from i on
abbrev pub parts_from : Layout → ℕ → ℕ → List Edge → List Part
parts_from l c i [] = []
parts_from l c i (e ∷ es) = cond (in_column? l c e) (part l c i e ∷ parts_from l c (suc i) es) (parts_from l c (suc i) es)

abbrev pub parts : Layout → List Edge → ℕ → List Part
parts l es c = parts_from l c 0 es

-- two rectangles share a point, borders included
abbrev pub share? : Box → Box → Bool
share? r s = (int_le r.left s.right && int_le s.left r.right) && (int_le r.bottom s.top && int_le s.bottom r.top)

abbrev pub shares? : Part → Part → Bool
shares? p q = share? p.rectangle q.rectangle

-- a vertical on the border at x
abbrev pub on_border? : ℤ → Part → Bool
on_border? x p = stands_at? x p.edge

-- the second end of q is strictly inside the vertical p
abbrev pub ends_inside? : Part → Part → Bool
ends_inside? p q = between? p.edge q.edge.b

-- the smaller number stands first
abbrev pub in_order : ℕ → ℕ → Pair
in_order i j = (min i j, max i j)

-- p with each part that passes a test
abbrev pub pairs_with : (Part → Part → Bool) → Part → List Part → List Pair
pairs_with test p [] = []
pairs_with test p (q ∷ qs) = cond (test p q) (in_order p.number q.number ∷ pairs_with test p qs) (pairs_with test p qs)

-- each part with those after it whose rectangles share a point with its own
abbrev pub pairs_among : List Part → List Pair
pairs_among [] = []
pairs_among (p ∷ ps) = pairs_with shares? p ps ++ pairs_among ps

-- column c
unfoldable pub column_pairs : Layout → List Edge → ℕ → List Pair
column_pairs l es c = pairs_among (parts l es c)

-- the border between the columns c and c + 1: each vertical on it with the edges of column c whose second end is strictly inside it
unfoldable pub border_pairs : Layout → List Edge → ℕ → List Pair
border_pairs l es c = flat_map (λ v. pairs_with ends_inside? v (parts l es c)) (filter (on_border? (border l (suc c))) (parts l es (suc c)))

-- the columns in turn, then the borders between them in turn
unfoldable pub grid_pairs : Box → ℕ → List Edge → List Pair
grid_pairs b n es =
    flat_map (column_pairs (layout b n) es) (range_with_len 0 most_columns) ++ flat_map (border_pairs (layout b n) es) (range_with_len 0 (most_columns - 1))
