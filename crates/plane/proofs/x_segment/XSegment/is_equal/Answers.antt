use Rattle.std.proofs.Common.{◌∙◌}
use Rattle.plane.specs.Models.{edge_of}
use Rattle.plane.specs.contracts.x_segment.XSegmentOrd.TheImpl.Laws.{matches_eq-law}
use Rattle.plane.proofs.Orders.{equal_edge}
use Rattle.plane.proofs.x_segment.XSegment.is_equal.Goals as goal

pub returns : goal.returns
returns c =
    c.eq.ensures ∙ matches_eq-law c.args.self.now c.args.other.now ∙ equal_edge (edge_of c.args.self.now) (edge_of c.args.other.now)
