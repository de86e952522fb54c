use Rattle.std.proofs.Common.{◌-◌, ◌<◌}
use Rattle.report.proofs.marking.mark_drawing.Given as goal

abbrev pub invariant-loop-room : goal.invariant-loop-room
invariant-loop-room l = 0 < l.room

abbrev pub decreases-loop-room : goal.decreases-loop-room
decreases-loop-room l = 33554433 - l.room
