-- How many fragments edges need at most.
use Rattle.std.proofs.Common.{ℕ, ◌*◌, ◌^◌, ◌≤◌, List, [], ◌∷◌, length, pos, ◌<ℤ◌, arith}
use Rattle.std.specs.List.{AllByRecursion}
use Rattle.std.proofs.lemmas.List.Sums.{sum_by-cons}
use Rattle.plane.specs.Edges.{Edge}
use Rattle.finder.specs.Finders.{Box}
use Rattle.grid.specs.Layouts.{layout, width, most_columns}
use Rattle.grid.specs.Rectangles.{fragments}
use Rattle.grid.specs.Grid.{grid_need}
use Rattle.grid.specs.Tables.{Lies}
use Rattle.grid.proofs.Placing.{last_few}

-- one for each column
pub need_le : (b : Box) (n : ℕ) (es : List Edge) → n ≤ 4096 → width b <ℤ pos (2 ^ 32) → AllByRecursion (Lies b) es → grid_need b n es ≤ most_columns * length es
unfolding grid_need
need_le b n [] few wide lies = omega arith
need_le b n (e ∷ es) few wide (here, lies) =
    omega (arith, sum_by-cons (λ e. fragments (layout b n) e) e es, last_few b n e few wide here, need_le b n es few wide lies)
