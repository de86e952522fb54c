use Rattle.std.proofs.Common.{◌/◌, arith}
use Rattle.plane.specs.Models.{edge_of}
use Rattle.grid.specs.Rectangles.{low}
use Rattle.grid.specs.Models.{layout_of}
use Rattle.grid.proofs.Sizes.{Height, crossing, low_is, width_is}
use Rattle.grid.proofs.laid_edge.LaidEdge.low.Goals as goal

known : (c : goal.After-gap) → Height c.args.self.s (c.climb.result / c.gap.result) (low (layout_of c.args.self.layout) (edge_of c.args.self.s) c.args.i)
known c = low_is c.args.self c.args.i c.climb.result c.gap.result c.requires.after c.requires.until c.climb.ensures (width_is c.args.self.s c.gap.result c.gap.ensures)

pub nonzero_div-result : goal.nonzero_div-result
nonzero_div-result c = omega (arith, (crossing c.args.self c.args.i c.requires.after c.requires.until).wide, width_is c.args.self.s c.gap.result c.gap.ensures)

pub overflow_cast-result : goal.overflow_cast-result
overflow_cast-result c = record { fits = omega (arith, (known c).few) }

pub returns : goal.returns
returns c = let w = known c in record { value = w.value; size = w.size }
