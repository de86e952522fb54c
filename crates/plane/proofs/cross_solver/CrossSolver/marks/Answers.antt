use Rattle.std.proofs.Common.{sym, ◌∙◌}
use Rattle.plane.specs.Models.{edge_of}
use Rattle.plane.proofs.MetMarks.{given_turned, given_straight}
use Rattle.plane.proofs.PairLaws.{pair_laws}
use Rattle.plane.proofs.Worked.{worked}
use Rattle.plane.proofs.cross_solver.CrossSolver.marks.Goals as goal

pub returns-then-is_smaller : goal.returns-then-is_smaller
returns-then-is_smaller c =
    let w = given_turned (edge_of c.args.first.now) (edge_of c.args.second.now) c.args.radius.current _ _ _ (sym c.is_smaller.ensures ∙ c.if-is_smaller.true)
    c.marks-turned.ensures.target c.marks-turned.ensures.other c.marks-turned.ensures.flag in
    let l = pair_laws c.args.first.now c.args.second.now c.args.radius.current in
    record {
      on_first = w.on_first;
      on_second = w.on_second;
      flag = w.flag;
      touch_is_marked = l.touch_is_marked;
      inner_point = l.inner_point;
      nearest_point = l.nearest_point;
      rounded_exactly = l.rounded_exactly;
      exact_marks = l.exact_marks;
      snaps = l.snaps;
      marks_inside = l.marks_inside;
      marks_ranged = l.marks_ranged;
      target_slants = l.target_slants;
      worked = worked;
    }

pub returns : goal.returns
returns c =
    let w = given_straight (edge_of c.args.first.now) (edge_of c.args.second.now) c.args.radius.current _ _ _ (sym c.is_smaller.ensures ∙ c.if-is_smaller.false)
    c.marks.ensures.target c.marks.ensures.other c.marks.ensures.flag in
    let l = pair_laws c.args.first.now c.args.second.now c.args.radius.current in
    record {
      on_first = w.on_first;
      on_second = w.on_second;
      flag = w.flag;
      touch_is_marked = l.touch_is_marked;
      inner_point = l.inner_point;
      nearest_point = l.nearest_point;
      rounded_exactly = l.rounded_exactly;
      exact_marks = l.exact_marks;
      snaps = l.snaps;
      marks_inside = l.marks_inside;
      marks_ranged = l.marks_ranged;
      target_slants = l.target_slants;
      worked = worked;
    }
