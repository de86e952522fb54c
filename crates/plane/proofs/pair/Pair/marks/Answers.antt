use Rattle.std.proofs.Common.{subst}
use Rattle.plane.specs.PointOf.{point_of}
use Rattle.plane.specs.Models.{edge_of}
use Rattle.plane.specs.Answers.{Answered}
use Rattle.plane.specs.declared.cross_solver.CrossType.{CrossType}
use Rattle.plane.proofs.MetMarks.{listed_if, overlay_marks}
use Rattle.plane.proofs.pair.Pair.marks.Goals as goal

pub returns-in-Overlay : goal.returns-in-Overlay
returns-in-Overlay c =
    let h = subst (λ (k : CrossType). Answered (edge_of c.args.self.target.now) (edge_of c.args.self.other.now) c.args.radius.current (point_of c.in-Some.cross.point) c.in-Some.cross.is_round k)
    c.in-Overlay.is c.in-Some.ensures in
    let w = overlay_marks (edge_of c.args.self.target.now) (edge_of c.args.self.other.now) c.args.radius.current _ _ _ _ _ _ _ h.0 h.2
    (listed_if _ _ _ _ _ _ _ c.of.ensures c.then_some.ensures c.then_some-in-Overlay.ensures)
    (listed_if _ _ _ _ _ _ _ c.of-in-Overlay.ensures c.then_some-in-Overlay-2.ensures c.then_some-in-Overlay-3.ensures)
    c.collinear-mask.ensures.target_a c.collinear-mask.ensures.target_b c.collinear-mask.ensures.other_a c.collinear-mask.ensures.other_b in
    record { target = w.0; other = w.1; flag = w.2 }
