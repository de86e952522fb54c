use Rattle.std.proofs.Common.{ℕ, ◌/◌, ◌^◌, ap, arith, w32, SFits, rules}
use borrow.Author.Differences.{ints}
use Rattle.grid.specs.Layouts.{column}
use Rattle.grid.proofs.grid_layout.GridLayout.index.Goals as goal

pub returns : goal.returns
unfolding column
returns c =
    let m : SFits w32 c.args.self.min_x = search rules in
    ap (λ (n : ℕ). n / 2 ^ c.args.self.power) (omega (arith, ints, c.from.ensures, c.abs_diff.ensures))
