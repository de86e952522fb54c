use Rattle.std.proofs.Common.{arith}
use Rattle.plane.specs.Models.{edge_of}
use Rattle.grid.specs.Rectangles.{high}
use Rattle.grid.specs.Models.{layout_of}
use Rattle.grid.proofs.Sizes.{Height, crossing, high_is, width_is}
use Rattle.grid.proofs.laid_edge.LaidEdge.high.Goals as goal

pub div_ceil-requires : goal.div_ceil-requires
div_ceil-requires c = omega (arith, (crossing c.args.self c.args.i c.requires.after c.requires.until).wide, width_is c.args.self.s c.gap.result c.gap.ensures)

known : (c : goal.After-div_ceil) → Height c.args.self.s c.div_ceil.result (high (layout_of c.args.self.layout) (edge_of c.args.self.s) c.args.i)
known c =
    rw c.div_ceil.ensures
    (high_is c.args.self c.args.i c.climb.result c.gap.result c.requires.after c.requires.until c.climb.ensures (width_is c.args.self.s c.gap.result c.gap.ensures))

pub overflow_cast-result : goal.overflow_cast-result
overflow_cast-result c = record { fits = omega (arith, (known c).few) }

pub returns : goal.returns
returns c = let w = known c in record { value = w.value; size = w.size }
