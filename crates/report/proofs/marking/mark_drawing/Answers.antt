use Rattle.std.proofs.Common.{rules}
use Rattle.report.proofs.Alone.{alone}
use Rattle.report.proofs.marking.mark_drawing.Goals as goal

pub returns-in-Some : goal.returns-in-Some
returns-in-Some c = (search rules, alone)
