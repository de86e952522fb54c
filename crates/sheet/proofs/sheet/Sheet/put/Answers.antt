-- What a put leaves and answers.
use Rattle.std.proofs.Common.{rules, ◌≡◌, ℕ, min, length, Ok, sym, refl, ap, ◌∙◌}
use Rattle.std.proofs.lemmas.Result.{err_from_is_err_and, MatchResult-weaker}
use Rattle.table.specs.Contents.{Content, records}
use Rattle.table.specs.Tables.{content_of}
use Rattle.plane.specs.Models.{plain_point}
use Rattle.plane.specs.declared.fault.Fault.TheVariants.{SheetFull}
use Rattle.segm.specs.declared.segment.Segment.{Segment}
use Rattle.history.specs.Sheets.{changed}
use Rattle.history.specs.declared.sheet_state.SheetState.TheVariants.{Raw}
use Rattle.history.proofs.Given.{facts}
use Rattle.history.proofs.Sound.{put_sound}
use Rattle.sheet.specs.Models.{page_in, page_of}
use Rattle.sheet.proofs.Fields.{held_of, proper_all}
use Rattle.sheet.proofs.Putting.{Begun, put_ended, put_refused, put_early}
use Rattle.sheet.proofs.Variants.{taken, broken, turned}
use Rattle.sheet.proofs.sheet.Sheet.put.Goals as goal

pub returns-in_err-segment : goal.returns-in_err-segment
returns-in_err-segment g c = λ u.
    let p = err_from_is_err_and c.from_residual.result c.from_residual.ensures.1 in
    let K = g.C.WindingCount.kind in
    let s = c.args.self.now in
    (held_of K s s.edges.sound s.spare.sound, rw (p.1, p.2) (put_early K (plain_point c.args.a) (plain_point c.args.b) c.args.count (page_of s) _ c.in_err-segment.ensures, refl))

pub returns-in_err-map_err : goal.returns-in_err-map_err
returns-in_err-map_err g c = λ u.
    let e = err_from_is_err_and c.from_residual-in_err-map_err.result c.from_residual-in_err-map_err.ensures.1 in
    let K = g.C.WindingCount.kind in
    let s = c.args.self.now in
    let d = c.in_ok-segment.ensures in
    let E = content_of s.edges in let E' = content_of c.insert.new.self in
    let p = plain_point c.args.a in let q = plain_point c.args.b in
    let x = c.in_ok-segment.segment in
    let begun : Begun K p q c.args.count x (page_of s) E E' =
    record { sound = (held_of K s s.edges.sound s.spare.sound).sound; listed = refl; room = s.edge_room; table_sound = s.edges.sound; passed = d.0; ends = d.1; counts_as = d.2 } in
    let refused = broken _ _ c.insert.result c.in_err-map_err.ensures.variant c.insert.ensures.answer in
    let f = c.in_err-map_err.field-0.0 in
    let full : f ≡ SheetFull = turned f SheetFull c.insert.result (MatchResult-weaker c.insert.result c.in_err-map_err.ensures.cases (λ x w. w) (λ e w. search rules)) in
    let same = ap (λ (t : Content (Segment g.row.C.Denot)). page_in t (content_of s.spare) s.marks.now s.state s.radius.current s.start s.radius.step) refused.same in
    (held_of K _ c.insert.new.self.sound s.spare.sound, rw (e.1, e.2) (put_refused K p q c.args.count x (page_of s) E E' _ f begun refused full same))

pub invariant_of-self-2 : goal.invariant_of-self-2
invariant_of-self-2 g c =
    let K = g.C.WindingCount.kind in
    let s = c.args.self.now in
    let d = c.in_ok-segment.ensures in
    let E = content_of s.edges in let E' = content_of c.insert.new.self in
    let p = plain_point c.args.a in let q = plain_point c.args.b in
    let x = c.in_ok-segment.segment in
    let begun : Begun K p q c.args.count x (page_of s) E E' =
    record { sound = (held_of K s s.edges.sound s.spare.sound).sound; listed = refl; room = s.edge_room; table_sound = s.edges.sound; passed = d.0; ends = d.1; counts_as = d.2 } in
    let came = taken _ _ c.insert.result c.in_ok-map_err.ensures.variant c.insert.ensures.answer in
    let after = changed (page_of s) (records E') Raw s.start in
    let sound = put_sound K (facts K) p q c.args.count (page_of s) after (Ok tt) begun.sound (put_ended K p q c.args.count x (page_of s) E E' after begun came refl) in
    record {
      proper = proper_all (records E') sound.proper;
      emptied = s.emptied;
      edge_room = came.room ∙ s.edge_room ∙ ap (λ (n : ℕ). min (min n (length s.spare.places.now)) 4096) (sym came.long);
      spare_room = s.spare_room ∙ sym came.room;
      unmarked = s.unmarked;
    }

pub returns : goal.returns
returns g c = λ u.
    let K = g.C.WindingCount.kind in
    let s = c.args.self.now in
    let d = c.in_ok-segment.ensures in
    let E = content_of s.edges in let E' = content_of c.insert.new.self in
    let p = plain_point c.args.a in let q = plain_point c.args.b in
    let x = c.in_ok-segment.segment in
    let begun : Begun K p q c.args.count x (page_of s) E E' =
    record { sound = (held_of K s s.edges.sound s.spare.sound).sound; listed = refl; room = s.edge_room; table_sound = s.edges.sound; passed = d.0; ends = d.1; counts_as = d.2 } in
    let came = taken _ _ c.insert.result c.in_ok-map_err.ensures.variant c.insert.ensures.answer in
    let is : page_in E' (content_of s.spare) s.marks.now Raw s.start s.start s.radius.step ≡ changed (page_of s) (records E') Raw s.start = λ i. record {
      edges = records E';
      state = Raw;
      exponent = s.start;
      start = s.start;
      step = s.radius.step;
      lengths = record { edges = came.long i; spare = length s.spare.places.now; marks = length s.marks.now };
    } in
    (held_of K _ c.insert.new.self.sound s.spare.sound, put_ended K p q c.args.count x (page_of s) E E' _ begun came is)
