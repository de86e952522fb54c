-- What the loop keeps: the marks before `from` are placed, and placing those behind gives the rest.
use Rattle.std.proofs.Common.{◌-◌, length}
use Rattle.cutting.proofs.PlacingLoops.{Placing}
use Rattle.cutting.proofs.placing.place_marks.Given as goal

abbrev pub invariant-loop-from : goal.invariant-loop-from
invariant-loop-from l = Placing l.initial.before l.b.y l.initial.marks l.marks l.from l.before

abbrev pub decreases-loop-from : goal.decreases-loop-from
decreases-loop-from l = length l.initial.marks - l.from
