use Rattle.std.proofs.Common.{rules}
use Rattle.drawing.proofs.Readings.{unsigned_exact}
use Rattle.drawing.proofs.number.read_unsigned.Goals as goal

pub returns-in_err-capped_value-clause-written : goal.returns-in_err-capped_value-clause-written
returns-in_err-capped_value-clause-written c = unsigned_exact c.args.text.now c.from_residual.result (search rules)

pub returns-clause-written : goal.returns-clause-written
returns-clause-written c = unsigned_exact c.args.text.now c.map_err.result (search rules)
