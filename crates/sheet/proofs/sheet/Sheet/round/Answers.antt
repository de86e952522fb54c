-- What a round leaves and answers.
use Rattle.std.proofs.Common.{◌≡◌, length, sym, ap, ◌∙◌, subst}
use Rattle.std.proofs.lemmas.List.{length-replicate}
use Rattle.std.proofs.lemmas.Result.{err_from_is_err_and}
use Rattle.table.specs.Contents.{records}
use Rattle.table.specs.Tables.{content_of}
use Rattle.segm.specs.Marks.{blank_mark}
use Rattle.history.specs.Rounds.{RoundDone}
use Rattle.history.specs.Sheets.{Page}
use Rattle.marking.specs.Gathering.{use_of}
use Rattle.sheet.specs.Models.{page_in, page_of}
use Rattle.sheet.specs.Rounding.{page_after}
use Rattle.sheet.proofs.Fields.{fields_of, fields_kept, fields_after, held_of, page_lies}
use Rattle.sheet.proofs.sheet.Sheet.round.Goals as goal

pub invariant_of-self : goal.invariant_of-self
invariant_of-self g c =
    let K = g.C.WindingCount.kind in let F = g.F.Finder in
    let u = use_of F.need (F.meaning c.args.finder.now) in
    let s = c.args.self.now in
    let E = content_of s.edges in let S = content_of s.spare in let M = s.marks.now in
    let E' = content_of c.round_tables.new.edges in let S' = content_of c.round_tables.new.spare in
    let fields = fields_of K s s.edges.sound s.spare.sound in
    let lies = page_lies K E S M s.state s.radius.current s.start s.radius.step fields in
    let r = c.in_err-answer.ensures.round (page_of s) lies in
    let f = fields_kept K E S E' S' M c.round_tables.new.marks fields c.round_tables.new.edges.sound c.round_tables.new.spare.sound r.1 r.2 c.in_err-answer.ensures.marks in
    record { proper = f.proper; emptied = f.emptied; edge_room = f.edge_room; spare_room = f.spare_room; unmarked = f.unmarked }

pub returns-in_err-answer-clause-leaves : goal.returns-in_err-answer-clause-leaves
returns-in_err-answer-clause-leaves g c =
    let p = err_from_is_err_and c.from_residual.result c.from_residual.ensures.1 in
    let K = g.C.WindingCount.kind in let F = g.F.Finder in
    let u = use_of F.need (F.meaning c.args.finder.now) in
    let s = c.args.self.now in
    let E = content_of s.edges in let S = content_of s.spare in let M = s.marks.now in
    let E' = content_of c.round_tables.new.edges in let S' = content_of c.round_tables.new.spare in
    let fields = fields_of K s s.edges.sound s.spare.sound in
    let lies = page_lies K E S M s.state s.radius.current s.start s.radius.step fields in
    let r = c.in_err-answer.ensures.round (page_of s) lies in
    let blank : c.round_tables.new.marks ≡ M = c.in_err-answer.ensures.marks ∙ sym fields.unmarked in
    let same : page_in E' S' c.round_tables.new.marks s.state s.radius.current s.start s.radius.step ≡ page_of s = λ i. page_in (r.1 i) (r.2 i) (blank i) s.state s.radius.current s.start s.radius.step in
    (held_of K _ c.round_tables.new.edges.sound c.round_tables.new.spare.sound, rw (p.1, p.2) (same, r.0))

pub invariant_of-self-2 : goal.invariant_of-self-2
invariant_of-self-2 g c =
    let K = g.C.WindingCount.kind in let F = g.F.Finder in
    let u = use_of F.need (F.meaning c.args.finder.now) in
    let s = c.args.self.now in
    let E = content_of s.edges in let S = content_of s.spare in let M = s.marks.now in
    let E' = content_of c.round_tables.new.edges in let S' = content_of c.round_tables.new.spare in
    let fields = fields_of K s s.edges.sound s.spare.sound in
    let lies = page_lies K E S M s.state s.radius.current s.start s.radius.step fields in
    let a = c.in_ok-answer.answer in
    let r = c.in_ok-answer.ensures.round (page_of s) lies in
    let f = fields_after K (page_after (page_of s) (records E') a) E' S' M c.round_tables.new.marks _ r.1 c.round_tables.new.edges.sound c.round_tables.new.spare.sound c.in_ok-answer.ensures.marks in
    record { proper = f.proper; emptied = f.emptied; edge_room = f.edge_room; spare_room = f.spare_room; unmarked = f.unmarked }

pub returns-clause-leaves : goal.returns-clause-leaves
returns-clause-leaves g c =
    let K = g.C.WindingCount.kind in let F = g.F.Finder in
    let u = use_of F.need (F.meaning c.args.finder.now) in
    let s = c.args.self.now in
    let E = content_of s.edges in let S = content_of s.spare in let M = s.marks.now in
    let E' = content_of c.round_tables.new.edges in let S' = content_of c.round_tables.new.spare in
    let fields = fields_of K s s.edges.sound s.spare.sound in
    let lies = page_lies K E S M s.state s.radius.current s.start s.radius.step fields in
    let a = c.in_ok-answer.answer in
    let r = c.in_ok-answer.ensures.round (page_of s) lies in
    let long : length c.round_tables.new.marks ≡ length M = ap length c.in_ok-answer.ensures.marks ∙ length-replicate (length M) blank_mark in
    let is : page_in E' S' c.round_tables.new.marks c.state_after-self.result c.radius_after-self.result.current s.start c.radius_after-self.result.step ≡ page_after (page_of s) (records E') a = λ i. record {
      edges = records E';
      state = c.state_after-self.ensures i;
      exponent = c.radius_after-self.ensures.current i;
      start = s.start;
      step = c.radius_after-self.ensures.step i;
      lengths = record { edges = r.1.edge_length i; spare = r.1.spare_length i; marks = long i };
    } in
    (held_of K _ c.round_tables.new.edges.sound c.round_tables.new.spare.sound, subst (λ (t : Page g.row.C.Denot). RoundDone K u (page_of s) t a) (sym is) r.0)

pub returns-clause-pairs : goal.returns-clause-pairs
returns-clause-pairs g c =
    let K = g.C.WindingCount.kind in let F = g.F.Finder in
    let u = use_of F.need (F.meaning c.args.finder.now) in
    let s = c.args.self.now in
    let E = content_of s.edges in let S = content_of s.spare in let M = s.marks.now in
    let E' = content_of c.round_tables.new.edges in let S' = content_of c.round_tables.new.spare in
    let fields = fields_of K s s.edges.sound s.spare.sound in
    let lies = page_lies K E S M s.state s.radius.current s.start s.radius.step fields in
    (c.in_ok-answer.ensures.round (page_of s) lies).2
