use Rattle.std.proofs.Common.{arith, w32, SFits, rules}
use borrow.Author.Differences.{ints}
use Rattle.grid.specs.Layouts.{border}
use Rattle.grid.proofs.Columns.{border_fits}
use Rattle.grid.proofs.grid_layout.GridLayout.pos.Goals as goal

pub overflow_add-result : goal.overflow_add-result
overflow_add-result c =
    let m : SFits w32 c.args.self.min_x = search rules in
    let h = border_fits c.args.index c.args.self.power c.requires c.args.self.narrow in
    omega (arith, ints)

pub returns : goal.returns
unfolding border
returns c =
    let m : SFits w32 c.args.self.min_x = search rules in
    let h = border_fits c.args.index c.args.self.power c.requires c.args.self.narrow in
    omega (arith, ints)
