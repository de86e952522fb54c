-- What the answer of the comparison tells of the ends.
use Rattle.segm.specs.OrderLaws.{edges_ranked}
use Rattle.segm.specs.Segments.{ends_of}
use Rattle.segm.proofs.keys.SegmentKeyed.compare.Goals as goal

pub returns-clause-tells : goal.returns-clause-tells
returns-clause-tells g c = rw c.cmp.ensures (edges_ranked (ends_of c.args.self) (ends_of c.args.other))
