use Rattle.grid.specs.Models.{layout_of}
use Rattle.grid.proofs.Steps.{border_some, border_none}
use Rattle.grid.proofs.linked_table.LinkedTable.at_borders.Goals as goal

pub returns-in-Some : goal.returns-in-Some
returns-in-Some c = border_some c.args.self.now.table.now (layout_of c.args.self.now.layout) c.args.at c.in-Some.found c.in-Some.ensures

pub returns-in-None : goal.returns-in-None
returns-in-None c = border_none c.args.self.now.table.now (layout_of c.args.self.now.layout) c.args.at c.in-None.ensures
