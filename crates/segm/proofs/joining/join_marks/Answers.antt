-- What the joining of one mark after another says of the points of a crossing.
use Rattle.std.proofs.lemmas.Result.{MatchResult-weaker, on_ok_weaker}
use Rattle.table.specs.Tables.{content_of, records_of}
use Rattle.segm.specs.declared.line_mark.LineMark.{LineMark}
use Rattle.segm.proofs.Coming.{at_mark, come_one, come_then, crowded_one, crowded_more, crowded_then, on_any_err}
use Rattle.segm.proofs.joining.join_marks.Goals as goal

pub returns-in-One-clause-marked : goal.returns-in-One-clause-marked
returns-in-One-clause-marked c =
    let m : LineMark = record { index = c.args.index; point = c.in-One.point } in
    rw c.in-One.is (on_ok_weaker _ (come_one m (records_of c.args.marks.now) (records_of c.join_mark.new.marks)) c.join_mark.ensures.marked)

pub returns-in-One-clause-refused : goal.returns-in-One-clause-refused
returns-in-One-clause-refused c =
    let m : LineMark = record { index = c.args.index; point = c.in-One.point } in
    rw c.in-One.is (
    MatchResult-weaker c.join_mark.result c.join_mark.ensures.answer (λ _ _. tt)
    (λ _ w. crowded_one m (content_of c.args.marks.now) (content_of c.join_mark.new.marks) c.args.marks.now.sound w)
    )

pub returns-in_err-join_mark-in-Two-clause-refused : goal.returns-in_err-join_mark-in-Two-clause-refused
returns-in_err-join_mark-in-Two-clause-refused c =
    let m : LineMark = record { index = c.args.index; point = c.in-Two.first } in
    let n : LineMark = record { index = c.args.index; point = c.in-Two.second } in
    rw c.in-Two.is (
    on_any_err c.from_residual.result
    (crowded_more (at_mark m) (at_mark n) (records_of c.args.marks.now) c.args.marks.now.room
    (crowded_one m (content_of c.args.marks.now) (content_of c.join_mark-in-Two.new.marks) c.args.marks.now.sound c.in_err-join_mark-in-Two.ensures.answer))
    )

pub returns-in_ok-join_mark-in-Two-clause-marked : goal.returns-in_ok-join_mark-in-Two-clause-marked
returns-in_ok-join_mark-in-Two-clause-marked c =
    let m : LineMark = record { index = c.args.index; point = c.in-Two.first } in
    let n : LineMark = record { index = c.args.index; point = c.in-Two.second } in
    let k = records_of c.args.marks.now in
    let l = records_of c.join_mark-in-Two.new.marks in
    let all = records_of c.join_mark-in-Two-2.new.marks in
    rw c.in-Two.is (
    on_ok_weaker c.join_mark-in-Two-2.result
    (λ joined. come_then (at_mark m) (at_mark n) k l all (come_one m k l c.in_ok-join_mark-in-Two.ensures.marked) (come_one n l all joined))
    c.join_mark-in-Two-2.ensures.marked
    )

pub returns-in_ok-join_mark-in-Two-clause-refused : goal.returns-in_ok-join_mark-in-Two-clause-refused
returns-in_ok-join_mark-in-Two-clause-refused c =
    let m : LineMark = record { index = c.args.index; point = c.in-Two.first } in
    let n : LineMark = record { index = c.args.index; point = c.in-Two.second } in
    let k = records_of c.args.marks.now in
    let middle = c.join_mark-in-Two.new.marks in
    let l = records_of middle in
    rw c.in-Two.is (
    MatchResult-weaker c.join_mark-in-Two-2.result c.join_mark-in-Two-2.ensures.answer (λ _ _. tt)
    (λ _ w. crowded_then (at_mark m) (at_mark n) k l c.args.marks.now.room middle.room c.in_ok-join_mark-in-Two.ensures.answer.room
    (come_one m k l c.in_ok-join_mark-in-Two.ensures.marked)
    (crowded_one n (content_of middle) (content_of c.join_mark-in-Two-2.new.marks) middle.sound w))
    )
