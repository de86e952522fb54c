use Rattle.std.proofs.Common.{◌∙◌}
use Rattle.plane.specs.PointOf.{point_of}
use Rattle.plane.specs.Models.{edge_of}
use Rattle.plane.proofs.MetMarks.{on_lines_first, on_lines_second}
use Rattle.plane.proofs.Turns.{straight_eq}
use Rattle.plane.proofs.pair.Pair.on_lines.Goals as goal

pub returns-then-eq : goal.returns-then-eq
returns-then-eq c =
    on_lines_second (edge_of c.args.self.target.now) (edge_of c.args.self.other.now) (point_of c.args.point) _ _ _ _
    c.of.ensures (c.eq.ensures ∙ straight_eq _) c.if-eq.true c.of-then-eq.ensures (c.eq-then-eq.ensures ∙ straight_eq _)

pub returns-else-eq : goal.returns-else-eq
returns-else-eq c =
    on_lines_first (edge_of c.args.self.target.now) (edge_of c.args.self.other.now) (point_of c.args.point) _ _ c.of.ensures (c.eq.ensures ∙ straight_eq _) c.if-eq.false
