-- What the values of the code mean.
use Rattle.grid.specs.Layouts.{Layout}
use Rattle.grid.specs.declared.grid_layout.GridLayout.{GridLayout}

abbrev pub layout_of : GridLayout → Layout
layout_of g = record { left = g.min_x; power = g.power }
