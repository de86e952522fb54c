use Rattle.std.proofs.Common.{◌≤◌}
use Rattle.report.proofs.teller.tell_row.Given as goal

abbrev pub invariant-loop-place : goal.invariant-loop-place
invariant-loop-place g l = l.touches ≤ l.place
