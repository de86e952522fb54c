use Rattle.std.proofs.Common.{◌*◌, ◌≤◌}
use Rattle.report.proofs.teller.tell_touches.Given as goal

abbrev pub invariant-loop-first : goal.invariant-loop-first
invariant-loop-first g l = l.touches ≤ 4096 * l.first
