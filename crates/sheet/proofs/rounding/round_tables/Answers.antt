-- What each way through a round leaves and answers.
use Rattle.std.proofs.Common.{◌≡◌, ◌+◌, ◌≤◌, [], length, take, sym, refl, ap, ◌∙◌, arith}
use Rattle.std.proofs.lemmas.Result.{err_from_is_err_and}
use Rattle.std.proofs.lemmas.Bool.{leb-true}
use Rattle.table.specs.Contents.{records}
use Rattle.table.specs.Listings.{Ordered}
use Rattle.table.specs.Tables.{content_of}
use Rattle.segm.specs.MarkKind.{mark_kind}
use Rattle.rounds.specs.Pieces.{cut_from}
use Rattle.history.specs.Sheets.{mark_places}
use Rattle.marking.specs.Gathering.{Gathered, use_of}
use Rattle.sheet.proofs.RoundTables.{not_gathered, too_many, left_whole, left_cut, never_crowded, never_refused, pieced_none, blank_unused, blank_used}
use Rattle.sheet.proofs.Variants.{taken, broken}
use Rattle.sheet.proofs.rounding.round_tables.Goals as goal

pub returns-in_err-answer-clause-round : goal.returns-in_err-answer-clause-round
returns-in_err-answer-clause-round g c = λ s lies.
    let p = err_from_is_err_and c.from_residual.result c.from_residual.ensures.1 in
    let K = g.C.WindingCount.kind in let F = g.F.Finder in
    let u = use_of F.need (F.meaning c.args.finder.now) in
    let E = content_of c.args.edges.now in let S = content_of c.args.spare.now in
    let usable = c.split_at_mut-usable.result.0.now in
    let long : length usable ≡ mark_places s.lengths = let f = c.split_at_mut-usable.ensures.front_len in let m = lies.mark_length in let l = c.min.ensures in omega arith in
    rw (p.1, p.2) (not_gathered K F.walks u s E S c.args.marks.now c.args.radius.current lies _ (c.in_err-answer.ensures.marks s lies.sound (lies.listed ∙ sym c.records.ensures) (sym lies.exponent) long), refl, refl)

pub returns-then-not-has_room_for-clause-round : goal.returns-then-not-has_room_for-clause-round
returns-then-not-has_room_for-clause-round g c = λ s lies.
    let K = g.C.WindingCount.kind in let F = g.F.Finder in
    let u = use_of F.need (F.meaning c.args.finder.now) in
    let E = content_of c.args.edges.now in let S = content_of c.args.spare.now in
    let usable = c.split_at_mut-usable.result.0.now in
    let long : length usable ≡ mark_places s.lengths = let f = c.split_at_mut-usable.ensures.front_len in let m = lies.mark_length in let l = c.min.ensures in omega arith in
    let a = c.in_ok-answer.answer in
    let known = c.in_ok-answer.ensures in
    let ns = take a.marks c.gather.new.marks in
    let found : Gathered F.walks u s ns a = known.marks s lies.sound (lies.listed ∙ sym c.records.ensures) (sym lies.exponent) long in
    let within : a.marks ≤ mark_places s.lengths = let w = known.within in omega arith in
    (too_many K F.walks u s E S c.args.marks.now c.args.radius.current lies ns a found within c.if-not-has_room_for.ensures, refl, refl)

pub returns-in_err-cut_at_first-clause-round : goal.returns-in_err-cut_at_first-clause-round
returns-in_err-cut_at_first-clause-round g c = λ s lies.
    let K = g.C.WindingCount.kind in let F = g.F.Finder in
    let u = use_of F.need (F.meaning c.args.finder.now) in
    let E = content_of c.args.edges.now in let S = content_of c.args.spare.now in
    let usable = c.split_at_mut-usable.result.0.now in
    let long : length usable ≡ mark_places s.lengths = let f = c.split_at_mut-usable.ensures.front_len in let m = lies.mark_length in let l = c.min.ensures in omega arith in
    let a = c.in_ok-answer.answer in
    let known = c.in_ok-answer.ensures in
    let ns = take a.marks c.gather.new.marks in
    let found : Gathered F.walks u s ns a = known.marks s lies.sound (lies.listed ∙ sym c.records.ensures) (sym lies.exponent) long in
    let within : a.marks ≤ mark_places s.lengths = let w = known.within in omega arith in
    let ordered : Ordered mark_kind ns = found.marked.ordered in
    let ps = cut_from K 0 ns c.records-2.result.now in
    let same : ps ≡ cut_from K 0 ns s.edges = ap (λ l. cut_from K 0 ns l) (c.records-2.ensures ∙ sym lies.listed) in
    let start = pieced_none K S lies.emptied in
    let fits = leb-true (length (records E) + a.marks) c.args.edges.now.room (sym c.if-not-has_room_for.ensures) in
    absurd (never_crowded K F.walks u s E S c.args.marks.now c.args.radius.current lies ns a found within fits ps same (c.in_err-cut_at_first.ensures.pieces ordered [] start).1)

pub returns-in_err-map_err-clause-round : goal.returns-in_err-map_err-clause-round
returns-in_err-map_err-clause-round g c = λ s lies.
    let K = g.C.WindingCount.kind in let F = g.F.Finder in
    let u = use_of F.need (F.meaning c.args.finder.now) in
    let E = content_of c.args.edges.now in let S = content_of c.args.spare.now in
    let usable = c.split_at_mut-usable.result.0.now in
    let long : length usable ≡ mark_places s.lengths = let f = c.split_at_mut-usable.ensures.front_len in let m = lies.mark_length in let l = c.min.ensures in omega arith in
    let a = c.in_ok-answer.answer in
    let known = c.in_ok-answer.ensures in
    let ns = take a.marks c.gather.new.marks in
    let found : Gathered F.walks u s ns a = known.marks s lies.sound (lies.listed ∙ sym c.records.ensures) (sym lies.exponent) long in
    let within : a.marks ≤ mark_places s.lengths = let w = known.within in omega arith in
    let fits = leb-true (length (records E) + a.marks) c.args.edges.now.room (sym c.if-not-has_room_for.ensures) in
    let t = c.cut_at_first.new.list in
    absurd (never_refused K F.walks u s E S c.args.marks.now c.args.radius.current lies ns a found within fits (content_of t) t.sound c.in_ok-cut_at_first.ensures.kept.room (broken _ _ c.take_over.result c.in_err-map_err.ensures.variant c.take_over.ensures).0)

pub returns-then-answer-eq0-clause-round : goal.returns-then-answer-eq0-clause-round
returns-then-answer-eq0-clause-round g c = λ s lies.
    let K = g.C.WindingCount.kind in let F = g.F.Finder in
    let u = use_of F.need (F.meaning c.args.finder.now) in
    let E = content_of c.args.edges.now in let S = content_of c.args.spare.now in
    let usable = c.split_at_mut-usable.result.0.now in
    let long : length usable ≡ mark_places s.lengths = let f = c.split_at_mut-usable.ensures.front_len in let m = lies.mark_length in let l = c.min.ensures in omega arith in
    let a = c.in_ok-answer.answer in
    let known = c.in_ok-answer.ensures in
    let ns = take a.marks c.gather.new.marks in
    let found : Gathered F.walks u s ns a = known.marks s lies.sound (lies.listed ∙ sym c.records.ensures) (sym lies.exponent) long in
    let within : a.marks ≤ mark_places s.lengths = let w = known.within in omega arith in
    let fits = leb-true (length (records E) + a.marks) c.args.edges.now.room (sym c.if-not-has_room_for.ensures) in
    let left = left_whole K F.walks u s E S c.args.marks.now c.args.radius.current lies ns a found within fits c.if-answer-eq0.true in
    (left.done, left.lies_again, left.came)

pub returns-clause-round : goal.returns-clause-round
returns-clause-round g c = λ s lies.
    let K = g.C.WindingCount.kind in let F = g.F.Finder in
    let u = use_of F.need (F.meaning c.args.finder.now) in
    let E = content_of c.args.edges.now in let S = content_of c.args.spare.now in
    let usable = c.split_at_mut-usable.result.0.now in
    let long : length usable ≡ mark_places s.lengths = let f = c.split_at_mut-usable.ensures.front_len in let m = lies.mark_length in let l = c.min.ensures in omega arith in
    let a = c.in_ok-answer.answer in
    let known = c.in_ok-answer.ensures in
    let ns = take a.marks c.gather.new.marks in
    let found : Gathered F.walks u s ns a = known.marks s lies.sound (lies.listed ∙ sym c.records.ensures) (sym lies.exponent) long in
    let within : a.marks ≤ mark_places s.lengths = let w = known.within in omega arith in
    let ordered : Ordered mark_kind ns = found.marked.ordered in
    let ps = cut_from K 0 ns c.records-2.result.now in
    let same : ps ≡ cut_from K 0 ns s.edges = ap (λ l. cut_from K 0 ns l) (c.records-2.ensures ∙ sym lies.listed) in
    let start = pieced_none K S lies.emptied in
    let fits = leb-true (length (records E) + a.marks) c.args.edges.now.room (sym c.if-not-has_room_for.ensures) in
    let joined = c.in_ok-cut_at_first.ensures.pieces ordered [] start in
    let left = left_cut K F.walks u s E S c.args.marks.now c.args.radius.current lies ns a found within fits (content_of c.cut_at_first.new.list) (content_of c.take_over.new.self) (content_of c.take_over.new.other) ps same joined.0 joined.1 joined.2 (taken _ _ c.take_over.result c.in_ok-map_err.ensures.variant c.take_over.ensures) in
    (left.done, left.lies_again, left.came)

pub returns-in_err-answer-clause-marks : goal.returns-in_err-answer-clause-marks
returns-in_err-answer-clause-marks g c =
    let s = c.split_at_mut-usable.ensures in
    blank_unused c.args.marks.now c.split_at_mut-usable.result.1.now c.min.result c.requires s.back_len s.back c.drop-guard.new.self.0 c.gather.new.marks _ c.in_err-answer.ensures.blank s.front_len (c.drop-guard.ensures (omega arith))

pub returns-then-not-has_room_for-clause-marks : goal.returns-then-not-has_room_for-clause-marks
returns-then-not-has_room_for-clause-marks g c =
    let s = c.split_at_mut-usable.ensures in
    let known = c.in_ok-answer.ensures in
    let a = c.in_ok-answer.answer.marks in
    let few : a ≤ length c.gather.new.marks = let w = known.within in let n = c.gather.auto.marks in omega arith in
    blank_used c.args.marks.now c.split_at_mut-usable.result.1.now c.min.result c.requires s.back_len s.back c.drop-guard-then-not-has_room_for.new.self.0 c.gather.new.marks c.gather.new.marks
    a _ s.front_len known.within refl known.blank (c.drop-guard-then-not-has_room_for.ensures few)

pub returns-then-answer-eq0-clause-marks : goal.returns-then-answer-eq0-clause-marks
returns-then-answer-eq0-clause-marks g c =
    let s = c.split_at_mut-usable.ensures in
    let known = c.in_ok-answer.ensures in
    let a = c.in_ok-answer.answer.marks in
    let few : a ≤ length c.gather.new.marks = let w = known.within in let n = c.gather.auto.marks in omega arith in
    blank_used c.args.marks.now c.split_at_mut-usable.result.1.now c.min.result c.requires s.back_len s.back c.drop-guard-then-answer-eq0.new.self.0 c.gather.new.marks c.gather.new.marks
    a _ s.front_len known.within refl known.blank (c.drop-guard-then-answer-eq0.ensures few)

pub returns-in_err-cut_at_first-clause-marks : goal.returns-in_err-cut_at_first-clause-marks
returns-in_err-cut_at_first-clause-marks g c =
    let s = c.split_at_mut-usable.ensures in
    let known = c.in_ok-answer.ensures in
    let a = c.in_ok-answer.answer.marks in
    let few : a ≤ length c.cut_at_first.new.marks = let w = known.within in let n = c.gather.auto.marks in let r = c.cut_at_first.auto.marks in omega arith in
    blank_used c.args.marks.now c.split_at_mut-usable.result.1.now c.min.result c.requires s.back_len s.back c.drop-guard-in_err-cut_at_first.new.self.0 c.cut_at_first.new.marks c.gather.new.marks
    a _ s.front_len known.within c.in_err-cut_at_first.ensures.rest known.blank (c.drop-guard-in_err-cut_at_first.ensures few)

pub returns-in_err-map_err-clause-marks : goal.returns-in_err-map_err-clause-marks
returns-in_err-map_err-clause-marks g c =
    let s = c.split_at_mut-usable.ensures in
    let known = c.in_ok-answer.ensures in
    let a = c.in_ok-answer.answer.marks in
    let few : a ≤ length c.cut_at_first.new.marks = let w = known.within in let n = c.gather.auto.marks in let r = c.cut_at_first.auto.marks in omega arith in
    blank_used c.args.marks.now c.split_at_mut-usable.result.1.now c.min.result c.requires s.back_len s.back c.drop-guard-in_err-map_err.new.self.0 c.cut_at_first.new.marks c.gather.new.marks
    a _ s.front_len known.within c.in_ok-cut_at_first.ensures.rest known.blank (c.drop-guard-in_err-map_err.ensures few)

pub returns-clause-marks : goal.returns-clause-marks
returns-clause-marks g c =
    let s = c.split_at_mut-usable.ensures in
    let known = c.in_ok-answer.ensures in
    let a = c.in_ok-answer.answer.marks in
    let few : a ≤ length c.cut_at_first.new.marks = let w = known.within in let n = c.gather.auto.marks in let r = c.cut_at_first.auto.marks in omega arith in
    blank_used c.args.marks.now c.split_at_mut-usable.result.1.now c.min.result c.requires s.back_len s.back c.drop-guard-2.new.self.0 c.cut_at_first.new.marks c.gather.new.marks
    a _ s.front_len known.within c.in_ok-cut_at_first.ensures.rest known.blank (c.drop-guard-2.ensures few)
