use Rattle.std.proofs.Common.{length, vec_items}
use Rattle.drawing.proofs.Drawings.{Sofar}
use Rattle.drawing.proofs.reader.read_edges.Given as goal

abbrev pub invariant-loop-line : goal.invariant-loop-line
invariant-loop-line l = Sofar l.text (vec_items l.edges) l.rest

abbrev pub decreases-loop-line : goal.decreases-loop-line
decreases-loop-line l = length l.rest
