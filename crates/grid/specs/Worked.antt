-- Two grids worked out by hand.
use Rattle.std.specs.Prelude.{◌≡◌, ℕ, List, [], ◌∷◌, pos}
use Rattle.plane.specs.Edges.{Edge}
use Rattle.plane.specs.Worked.{point, rising}
use Rattle.finder.specs.Finders.{Box}
use Rattle.grid.specs.Layouts.{layout}
use Rattle.grid.specs.Rectangles.{rect}
use Rattle.grid.specs.Grid.{grid_pairs}

abbrev pub box : ℕ → ℕ → ℕ → ℕ → Box
box left right bottom top = record { left = pos left; right = pos right; bottom = pos bottom; top = pos top }

abbrev pub edge : ℕ → ℕ → ℕ → ℕ → Edge
edge x y x' y' = record { a = point x y; b = point x' y' }

-- an edge ends inside a vertical that stands on a border, and another passes above it
abbrev pub ending : List Edge
ending = edge 0 0 8 3 ∷ edge 0 9 8 9 ∷ edge 8 0 8 6 ∷ []

pub record WorkedGrids : Type 0 where
  -- from (0,0) to (10,3), four edges announced: columns of 4, and y from 0 to 2, from 1 to 3 and from 2 to 3
  pub slanted : (rect (layout (box 0 10 0 3) 4) 0 rising ≡ box 0 4 0 2)
      × (rect (layout (box 0 10 0 3) 4) 1 rising ≡ box 4 8 1 3)
      × (rect (layout (box 0 10 0 3) 4) 2 rising ≡ box 8 10 2 3)
  pub at_border : grid_pairs (box 0 8 0 9) 3 ending ≡ (0, 2) ∷ []
