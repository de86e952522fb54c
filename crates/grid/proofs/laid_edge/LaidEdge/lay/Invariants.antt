use Rattle.std.proofs.Common.{◌≡◌, map, take}
use Rattle.std.specs.List.{range_with_len}
use Rattle.plane.specs.Models.{edge_of}
use Rattle.grid.specs.Models.{layout_of}
use Rattle.grid.specs.Tables.{contents, laid_in}
use Rattle.grid.proofs.laid_edge.LaidEdge.lay.Given as goal

abbrev pub invariant-loop-k : goal.invariant-loop-k
invariant-loop-k l = contents (take l.k l.places) ≡ map (laid_in (layout_of l.self.layout) l.index (edge_of l.self.s)) (range_with_len l.self.first l.k)
