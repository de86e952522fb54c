use Rattle.std.proofs.Common.{ap, ◌∙◌}
use Rattle.std.specs.Ordering.{is_some_and, is_lt}
use Rattle.plane.specs.Models.{edge_of}
use Rattle.plane.specs.contracts.x_segment.XSegmentOrd.TheImpl.Laws.{matches_partial_cmp-law}
use Rattle.plane.proofs.Orders.{less_edge}
use Rattle.plane.proofs.x_segment.XSegment.is_smaller.Goals as goal

pub returns : goal.returns
returns c =
    c.lt.ensures ∙ ap (is_some_and is_lt) (matches_partial_cmp-law c.args.self.now c.args.other.now)
    ∙ less_edge (edge_of c.args.self.now) (edge_of c.args.other.now)
