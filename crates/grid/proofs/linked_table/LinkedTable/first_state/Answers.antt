use Rattle.grid.specs.Models.{layout_of}
use Rattle.grid.proofs.Steps.{started}
use Rattle.grid.proofs.linked_table.LinkedTable.first_state.Goals as goal

pub returns : goal.returns
returns c = let t = c.args.self.now in started t.table.now t.heads.now (layout_of t.layout) t.linked c.begin.result c.begin.ensures
