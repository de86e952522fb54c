use Rattle.std.proofs.Common.{le_trans, w32}
use Rattle.std.proofs.lemmas.Int.{to_z-of_z}
use Rattle.plane.specs.Models.{edge_of}
use Rattle.grid.proofs.Sizes.{coordinate_fits, rise_le, raised, lowered, spanned_up, spanned_down}
use Rattle.grid.proofs.rectangle.span.Goals as goal

pub returns-then-s : goal.returns-then-s
returns-then-s c =
    let fa = coordinate_fits c.args.s.a.y c.args.s.a.high in
    let fb = coordinate_fits c.args.s.b.y c.args.s.b.high in
    spanned_up (edge_of c.args.s) c.args.min_x c.args.max_x c.args.from c.args.to (simp to_z-of_z at c.if-s.true)
    (to_z-of_z w32 c.args.min_x c.ranges.min_x) (to_z-of_z w32 c.args.max_x c.ranges.max_x)
    (raised c.args.s.a.y c.args.from c.args.s.a.high (le_trans c.requires.from_bound (rise_le c.args.s)))
    (raised c.args.s.a.y c.args.to c.args.s.a.high (le_trans c.requires.to_bound (rise_le c.args.s)))

pub returns : goal.returns
returns c =
    let fa = coordinate_fits c.args.s.a.y c.args.s.a.high in
    let fb = coordinate_fits c.args.s.b.y c.args.s.b.high in
    spanned_down (edge_of c.args.s) c.args.min_x c.args.max_x c.args.from c.args.to (simp to_z-of_z at c.if-s.false)
    (to_z-of_z w32 c.args.min_x c.ranges.min_x) (to_z-of_z w32 c.args.max_x c.ranges.max_x)
    (lowered c.args.s.a.y c.args.to c.args.s.a.high (le_trans c.requires.to_bound (rise_le c.args.s)))
    (lowered c.args.s.a.y c.args.from c.args.s.a.high (le_trans c.requires.from_bound (rise_le c.args.s)))
