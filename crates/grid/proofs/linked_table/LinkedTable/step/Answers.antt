use Rattle.std.proofs.Common.{sym, ap, ◌∙◌, inl, inr}
use mathlib.Core.Bool.{false≢true}
use Rattle.grid.specs.Models.{layout_of}
use Rattle.grid.specs.Tables.{walking?}
use Rattle.grid.proofs.Steps.{column_some, column_none, over}
use Rattle.grid.proofs.linked_table.LinkedTable.step.Goals as goal

pub returns-in-Some : goal.returns-in-Some
returns-in-Some c =
    let t = c.args.self.now in
    rw c.in-Column.is (column_some t.table.now t.heads.now (layout_of t.layout) t.linked c.in-Column.at c.in-Some.found c.in-Some.ensures)

pub returns-in-None : goal.returns-in-None
returns-in-None c =
    let t = c.args.self.now in
    rw c.in-Column.is (column_none t.table.now t.heads.now (layout_of t.layout) t.linked c.in-Column.at c.begin.result c.at_borders.result c.in-None.ensures c.begin.ensures c.at_borders.ensures)

pub returns-in-Filling : goal.returns-in-Filling
returns-in-Filling c =
    elim c.in-Filling.is [
      | inl e ↦ absurd (false≢true (sym (ap walking? e) ∙ c.requires.walks))
      | inr e ↦ rw e (over c.args.self.now.table.now (layout_of c.args.self.now.layout))
    ]
