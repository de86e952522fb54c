use Rattle.std.proofs.Common.{◌++◌, Ok, subst}
use Rattle.std.proofs.lemmas.Result.{MatchResult-at_err, MatchResult-at_ok}
use Rattle.plane.specs.Models.{points_of}
use Rattle.segm.specs.Spots.{spots}
use Rattle.segm.proofs.Coming.{come_then, crowded_more, crowded_then}
use Rattle.table.specs.Tables.{content_of, records_of}
use Rattle.table.specs.declared.ordered_table.NoRoom.{NoRoom}
use Rattle.marking.specs.Gathering.{Notes}
use Rattle.marking.proofs.Noting.{notes_refused}
use Rattle.marking.proofs.PairSpots.{left_out, pair_marked}
use Rattle.marking.proofs.gathering.mark_pair.Goals as goal

pub returns-in_default-clause-notes : goal.returns-in_default-clause-notes
returns-in_default-clause-notes g c proper =
    absurd (left_out c.args.edges.now c.args.j c.index-edges-j.result c.requires.second c.index-edges-j.is c.in_default.ensures proper)

pub returns-in_default-clause-flag : goal.returns-in_default-clause-flag
returns-in_default-clause-flag g c proper =
    absurd (left_out c.args.edges.now c.args.j c.index-edges-j.result c.requires.second c.index-edges-j.is c.in_default.ensures proper)

pub returns-in_default-2-clause-notes : goal.returns-in_default-2-clause-notes
returns-in_default-2-clause-notes g c proper =
    absurd (left_out c.args.edges.now c.args.i c.index-edges-i.result c.requires.first c.index-edges-i.is (MatchResult-at_err _ _ c.in_default.field-0-0 c.in_default.is-0 c.try_from.ensures) proper)

pub returns-in_default-2-clause-flag : goal.returns-in_default-2-clause-flag
returns-in_default-2-clause-flag g c proper =
    absurd (left_out c.args.edges.now c.args.i c.index-edges-i.result c.requires.first c.index-edges-i.is (MatchResult-at_err _ _ c.in_default.field-0-0 c.in_default.is-0 c.try_from.ensures) proper)

pub returns-in_err-join_marks-clause-notes : goal.returns-in_err-join_marks-clause-notes
returns-in_err-join_marks-clause-notes g c proper =
    let one = spots c.args.i (points_of c.marks-crossed.result.first) in
    let other = spots c.args.j (points_of c.marks-crossed.result.second) in
    let before = content_of c.args.marks.now in
    let same = pair_marked c.args.radius.current c.args.edges.now c.args.i c.args.j c.index-edges-i.result c.index-edges-j.result
    c.requires.first c.index-edges-i.is c.requires.second c.index-edges-j.is c.in-Ok-Ok.first c.in-Ok-Ok.second
    (MatchResult-at_ok _ _ c.in-Ok-Ok.first c.in-Ok-Ok.is-0 c.try_from.ensures) c.in-Ok-Ok.ensures
    c.marks-crossed.result c.marks-crossed.ensures.on_first c.marks-crossed.ensures.on_second in
    let r = c.from_residual.result in
    subst (λ ts. Notes ts before (content_of c.join_marks.new.marks) r) same
    (notes_refused (one ++ other) before (content_of c.join_marks.new.marks) r c.in_err-join_marks.field-0.0 c.from_residual.ensures.1
    (crowded_more one other (records_of c.args.marks.now) before.room c.in_err-join_marks.ensures.refused))

pub returns-in_err-join_marks-2-clause-notes : goal.returns-in_err-join_marks-2-clause-notes
returns-in_err-join_marks-2-clause-notes g c proper =
    let one = spots c.args.i (points_of c.marks-crossed.result.first) in
    let other = spots c.args.j (points_of c.marks-crossed.result.second) in
    let before = content_of c.args.marks.now in
    let same = pair_marked c.args.radius.current c.args.edges.now c.args.i c.args.j c.index-edges-i.result c.index-edges-j.result
    c.requires.first c.index-edges-i.is c.requires.second c.index-edges-j.is c.in-Ok-Ok.first c.in-Ok-Ok.second
    (MatchResult-at_ok _ _ c.in-Ok-Ok.first c.in-Ok-Ok.is-0 c.try_from.ensures) c.in-Ok-Ok.ensures
    c.marks-crossed.result c.marks-crossed.ensures.on_first c.marks-crossed.ensures.on_second in
    let middle = content_of c.join_marks.new.marks in
    let after = content_of c.join_marks-2.new.marks in
    let r = c.from_residual-in_err-join_marks-2.result in
    let f = c.in_err-join_marks-2.field-0.0 in
    subst (λ ts. Notes ts before after r) same
    (notes_refused (one ++ other) before after r f c.from_residual-in_err-join_marks-2.ensures.1
    (crowded_then one other (records_of c.args.marks.now) (records_of c.join_marks.new.marks) before.room middle.room c.join_marks.ensures.size.room
    c.in_ok-join_marks.ensures.marked c.in_err-join_marks-2.ensures.refused))

pub returns-clause-notes : goal.returns-clause-notes
returns-clause-notes g c proper =
    let one = spots c.args.i (points_of c.marks-crossed.result.first) in
    let other = spots c.args.j (points_of c.marks-crossed.result.second) in
    let before = content_of c.args.marks.now in
    let same = pair_marked c.args.radius.current c.args.edges.now c.args.i c.args.j c.index-edges-i.result c.index-edges-j.result
    c.requires.first c.index-edges-i.is c.requires.second c.index-edges-j.is c.in-Ok-Ok.first c.in-Ok-Ok.second
    (MatchResult-at_ok _ _ c.in-Ok-Ok.first c.in-Ok-Ok.is-0 c.try_from.ensures) c.in-Ok-Ok.ensures
    c.marks-crossed.result c.marks-crossed.ensures.on_first c.marks-crossed.ensures.on_second in
    let after = content_of c.join_marks-2.new.marks in
    subst (λ ts. Notes {T = Unit {0}} {E = NoRoom} ts before after (Ok tt)) same
    (come_then one other (records_of c.args.marks.now) (records_of c.join_marks.new.marks) (records_of c.join_marks-2.new.marks)
    c.in_ok-join_marks.ensures.marked c.in_ok-join_marks-2.ensures.marked)
