-- The worked grids compute.
use Rattle.std.proofs.Common.{refl}
use Rattle.grid.specs.Layouts.{log_to, ilog2, power_of, column, border}
use Rattle.grid.specs.Rectangles.{last_column, in_column?, low, high, spanned, rect}
use Rattle.grid.specs.Grid.{column_pairs, border_pairs, grid_pairs}
use Rattle.grid.specs.Worked.{WorkedGrids}

pub worked : WorkedGrids
unfolding log_to ilog2 power_of column border last_column in_column? low high spanned rect column_pairs border_pairs grid_pairs
worked = record { slanted = (refl, refl, refl); at_border = refl }
