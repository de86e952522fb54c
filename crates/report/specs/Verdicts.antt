-- Whether a text is a drawing.
use Rattle.std.specs.Prelude.{Ok, Err, Result}
use Rattle.report.specs.declared.teller.Verdict.{Verdict}
use Rattle.report.specs.declared.teller.Verdict.TheVariants.{Told, Refused}

abbrev pub verdict_of : {X Y : Type 0} → Result X Y → Verdict
verdict_of (Ok said) = Told
verdict_of (Err why) = Refused
