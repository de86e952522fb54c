use Rattle.std.proofs.Common.{rules}
use Rattle.plane.specs.PointOf.{point_of}
use Rattle.plane.specs.Models.{edge_of}
use Rattle.plane.proofs.MetMarks.{snapped_free, snapped_target, snapped_other}
use Rattle.plane.proofs.pair.Pair.snap.Goals as goal

pub returns-then-min-near : goal.returns-then-min-near
returns-then-min-near c =
    snapped_free (edge_of c.args.self.target.now) (edge_of c.args.self.other.now) (point_of c.args.point) _ _ _ _
    c.nearer_end-target_gap.ensures.far c.nearer_end-other_gap.ensures.far c.min.ensures c.if-min-near.true

pub returns-then-target_gap-other_gap : goal.returns-then-target_gap-other_gap
returns-then-target_gap-other_gap c =
    snapped_target (edge_of c.args.self.target.now) (edge_of c.args.self.other.now) (point_of c.args.point) _ _ _ _ _
    c.nearer_end-target_gap.ensures.far c.nearer_end-other_gap.ensures.far c.min.ensures c.if-min-near.false c.if-target_gap-other_gap.true (search rules)

pub returns-else-target_gap-other_gap : goal.returns-else-target_gap-other_gap
returns-else-target_gap-other_gap c =
    snapped_other (edge_of c.args.self.target.now) (edge_of c.args.self.other.now) (point_of c.args.point) _ _ _ _ _
    c.nearer_end-target_gap.ensures.far c.nearer_end-other_gap.ensures.far c.min.ensures c.if-min-near.false c.if-target_gap-other_gap.false c.nearer_end-other_gap.ensures.end
