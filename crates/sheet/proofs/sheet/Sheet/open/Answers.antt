-- The laws that an opened sheet brings.
use Rattle.history.proofs.Given.{history_laws}
use Rattle.sheet.proofs.Worked.{worked_sheets}
use Rattle.sheet.proofs.sheet.Sheet.open.Goals as goal

pub returns-clause-laws : goal.returns-clause-laws
returns-clause-laws g c = history_laws g.C.WindingCount.kind

pub returns-clause-worked : goal.returns-clause-worked
returns-clause-worked g c = worked_sheets
