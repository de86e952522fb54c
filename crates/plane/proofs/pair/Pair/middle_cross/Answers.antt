use Rattle.std.proofs.Common.{ℕ, sym, ◌∙◌, subst}
use Rattle.plane.specs.PointOf.{point_of}
use Rattle.plane.specs.Models.{edge_of}
use Rattle.plane.specs.Rules.{Marking, snapped}
use Rattle.plane.specs.Answers.{Shows}
use Rattle.plane.proofs.MetMarks.{inner_exact, inner_rounded}
use Rattle.plane.proofs.pair.Pair.middle_cross.Goals as goal

pub returns-then-on_lines : goal.returns-then-on_lines
returns-then-on_lines c =
    inner_exact (edge_of c.args.self.target.now) (edge_of c.args.self.other.now) c.args.radius.current (point_of c.cross_point-point.result) _ c.cross_point-point.ensures
    (sym c.on_lines.ensures ∙ c.if-on_lines.true)

pub returns : goal.returns
returns c =
    subst (λ (m : Marking). Shows c.snap.result m)
    (sym (inner_rounded (edge_of c.args.self.target.now) (edge_of c.args.self.other.now) c.args.radius.current (point_of c.cross_point-point.result) _ c.cross_point-point.ensures
    (sym c.on_lines.ensures ∙ c.if-on_lines.false)))
    (subst (λ (r : ℕ). Shows c.snap.result (snapped (edge_of c.args.self.target.now) (edge_of c.args.self.other.now) (point_of c.cross_point-point.result) r)) c.radius_squared.ensures c.snap.ensures)
