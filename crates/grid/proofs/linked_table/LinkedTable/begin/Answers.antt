use Rattle.std.proofs.Common.{ℕ, Option, subst}
use Rattle.grid.specs.Models.{layout_of}
use Rattle.grid.specs.Tables.{contents, Names, first_of}
use Rattle.grid.proofs.Cursors.{begun_some, begun_none}
use Rattle.grid.proofs.linked_table.LinkedTable.begin.Goals as goal

pub returns-in-Some : goal.returns-in-Some
returns-in-Some c =
    let ms = contents c.args.self.now.table.now in
    rw c.in-Some.is
    (begun_some (layout_of c.args.self.now.layout) c.args.stage ms c.args.column c.in-Some.first c.partners-second.result c.requires.few
    (subst (λ (i : Option ℕ). Names ms (first_of c.args.stage c.args.column) i) c.in-Some.is c.requires.named) c.partners-second.ensures)

pub returns-in-None : goal.returns-in-None
returns-in-None c = rw c.in-None.is (begun_none (layout_of c.args.self.now.layout) c.args.stage (contents c.args.self.now.table.now) c.args.column c.requires.few)
