use Rattle.std.proofs.Common.{ℕ, suc, ◌+◌, ◌<◌, get_or, None, subst, add-one, arith}
use Rattle.grid.specs.Models.{layout_of}
use Rattle.grid.specs.Tables.{contents, first_of, limit, Begun}
use Rattle.grid.proofs.Cursors.{advanced_first, advanced_column, advanced_none}
use Rattle.grid.proofs.linked_table.LinkedTable.advance.Goals as goal

pub returns-in-Some : goal.returns-in-Some
returns-in-Some c =
    let t = c.args.self.now in
    let qs = t.table.now in
    advanced_first qs t.heads.now t.linked (layout_of t.layout) c.args.stage c.args.at c.begin.result c.in-Some.first c.index-self-first.result c.requires.placed c.in-Some.is c.requires.met c.begin.ensures

pub returns-then-column-limit_of : goal.returns-then-column-limit_of
returns-then-column-limit_of c =
    let t = c.args.self.now in
    let hs = t.heads.now in
    let l = layout_of t.layout in
    let k : suc c.args.at.column < limit c.args.stage = omega (arith, c.if-column-limit_of.true, c.limit_of.ensures) in
    let b : Begun l c.args.stage (contents t.table.now) (c.args.at.column + 1) (get_or hs (first_of c.args.stage (c.args.at.column + 1)) None) c.begin-then-column-limit_of.result =
    subst (λ (n : ℕ). Begun l c.args.stage (contents t.table.now) (c.args.at.column + 1) (get_or hs n None) c.begin-then-column-limit_of.result) c.first_column.ensures c.begin-then-column-limit_of.ensures in
    advanced_column t.table.now hs t.linked l c.args.stage c.args.at c.begin-then-column-limit_of.result c.in_default.is k
    (subst (λ (n : ℕ). Begun l c.args.stage (contents t.table.now) n (get_or hs (first_of c.args.stage n) None) c.begin-then-column-limit_of.result) (add-one c.args.at.column) b)

pub returns : goal.returns
returns c =
    advanced_none (layout_of c.args.self.now.layout) c.args.stage (contents c.args.self.now.table.now) c.args.at c.in_default.is
    (omega (arith, c.if-column-limit_of.false, c.limit_of.ensures))
