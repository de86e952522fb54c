use Rattle.std.proofs.Common.{◌≡◌, ◌≤◌, Some}
use Rattle.grid.specs.Models.{layout_of}
use Rattle.grid.specs.Tables.{contents, rest_pairs, Placed, steps_left}
use Rattle.grid.proofs.linked_table.LinkedTable.find.Given as goal

abbrev pub invariant-loop-at : goal.invariant-loop-at
invariant-loop-at l = record {
  placed : Placed l.stage (contents l.self.table.now) l.at;
  same : rest_pairs (layout_of l.self.layout) l.stage (contents l.self.table.now) l.at ≡ rest_pairs (layout_of l.self.layout) l.stage (contents l.self.table.now) l.initial.at;
}

abbrev pub decreases-loop-at : goal.decreases-loop-at
decreases-loop-at l = steps_left l.at

abbrev pub invariant-loop-at-2 : goal.invariant-loop-at-2
invariant-loop-at-2 l = record {
  placed : Placed l.stage (contents l.self.table.now) l.at;
  same : rest_pairs (layout_of l.self.layout) l.stage (contents l.self.table.now) l.at ≡ rest_pairs (layout_of l.self.layout) l.stage (contents l.self.table.now) l.initial.at;
  here : l.at.first ≡ Some l.first;
  fewer : steps_left l.at ≤ steps_left l.initial.at;
}

abbrev pub decreases-loop-at-2 : goal.decreases-loop-at-2
decreases-loop-at-2 l = steps_left l.at
