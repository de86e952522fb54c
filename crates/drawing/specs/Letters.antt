-- The letters of finders.
use Rattle.std.specs.Prelude.{ℕ, cond, Some, None, Option, ◌==◌}
use Rattle.drawing.specs.declared.finder_kind.FinderKind.{FinderKind}
use Rattle.drawing.specs.declared.finder_kind.FinderKind.TheVariants.{Grid, Pairs}

-- `G` and `P`
abbrev pub letter : FinderKind → ℕ
letter Grid = 71
letter Pairs = 80

-- the finder that a letter names
abbrev pub kind_of : ℕ → Option FinderKind
kind_of c = cond (c == letter Grid) (Some Grid) (cond (c == letter Pairs) (Some Pairs) None)
