-- What a run leaves and answers.
use Rattle.std.proofs.Common.{rules, ◌≢◌, ℕ, ◌||◌, ltb, sym, refl, ◌∙◌, subst, inl, inr, arith}
use Rattle.std.proofs.lemmas.Result.{err_from_is_err_and, MatchResult-weaker}
use Rattle.history.specs.Rounds.{Use, Rounds, RoundDone, RoundRefused, RunBroke, broke, outside}
use Rattle.history.specs.declared.sheet_state.SheetState.TheVariants.{Clean}
use Rattle.history.specs.Sheets.{Page}
use Rattle.marking.specs.Gathering.{use_of}
use Rattle.sheet.specs.Models.{page_of}
use Rattle.sheet.proofs.Fields.{held_of}
use Rattle.sheet.proofs.Running.{same_use, rounds_none, rounds_more, broke_at, done_at}
use Rattle.sheet.proofs.sheet.Sheet.run.Goals as goal
use Rattle.sheet.proofs.sheet.Sheet.run.Goals.{then-loop-rounds-test+else-ne, else-loop-rounds-test}

pub loop-rounds-init : goal.loop-rounds-init
loop-rounds-init g c =
    let K = g.C.WindingCount.kind in let F = g.F.Finder in
    (rounds_none K (use_of F.need (F.meaning c.args.finder.now)) (page_of c.args.self.now), refl, omega arith)

pub loop-rounds-preserved : goal.loop-rounds-preserved
loop-rounds-preserved g c =
    let K = g.C.WindingCount.kind in let F = g.F.Finder in
    let v = c.loop-rounds.invariant in
    let s = c.loop-rounds.self in
    let u = use_of F.need (F.meaning c.args.finder.now) in
    let same = same_use F.need (F.meaning c.args.finder.now) (F.meaning c.loop-rounds.finder) v.1 in
    let own = use_of F.need (F.meaning c.loop-rounds.finder) in
    let unclean : s.state ≢ Clean = search rules in
    let a = c.in_ok-answer.answer in
    let done = done_at K own (page_of s) (page_of c.round.new.self) c.round.result a _ c.round.ensures.leaves.1 c.in_ok-answer.ensures.variant c.in_ok-answer.ensures.cases in (
      rounds_more K u c.loop-rounds.rounds c.loop-rounds.has_marks (c.loop-rounds.has_marks || ltb 0 a.marks) (page_of c.args.self.now) (page_of s) (page_of c.round.new.self) a
          v.0 unclean (subst (λ (x : Use). RoundDone K x (page_of s) (page_of c.round.new.self) a) same done) refl,
      c.round.ensures.capacity ∙ v.1,
      omega arith,
    )

pub returns-then-budget-eq0-clause-leaves : goal.returns-then-budget-eq0-clause-leaves
returns-then-budget-eq0-clause-leaves g c =
    let s = c.args.self.now in
    (held_of g.C.WindingCount.kind s s.edges.sound s.spare.sound, search (rules, outside))

pub returns-in_err-answer-clause-leaves : goal.returns-in_err-answer-clause-leaves
returns-in_err-answer-clause-leaves g c =
    let p = err_from_is_err_and c.from_residual.result c.from_residual.ensures.1 in
    let K = g.C.WindingCount.kind in let F = g.F.Finder in
    let v = c.loop-rounds.invariant in
    let s = c.loop-rounds.self in
    let u = use_of F.need (F.meaning c.args.finder.now) in
    let same = same_use F.need (F.meaning c.args.finder.now) (F.meaning c.loop-rounds.finder) v.1 in
    let own = use_of F.need (F.meaning c.loop-rounds.finder) in
    let unclean : s.state ≢ Clean = search rules in
    let f = c.in_err-answer.field-0.0 in
    let n = c.loop-rounds.rounds in
    let broken = broke_at K own (page_of s) (page_of c.round.new.self) n c.round.result f c.round.ensures.leaves.1 (MatchResult-weaker c.round.result c.in_err-answer.ensures.cases (λ x w. w) (λ e w. search rules)) in
    let spent = c.loop-rounds-test.true in
    let stopped : RunBroke K u c.args.budget (page_of c.args.self.now) (page_of c.round.new.self) f =
    subst (λ (x : Page g.row.C.Denot). RunBroke K u c.args.budget (page_of c.args.self.now) x f) (sym broken.0) (record {
      marked = c.loop-rounds.has_marks;
      rounds = subst (λ (k : ℕ). Rounds K u k c.loop-rounds.has_marks (page_of c.args.self.now) (page_of s)) (sym broken.2) v.0;
      spent = let z = broken.2 in omega arith;
      unclean = unclean;
      refused = subst (λ (x : Use). RoundRefused x (page_of s) f.fault) same broken.1;
    }) in
    (c.round.ensures.leaves.0, rw (p.1, p.2) (broke (record { least = omega arith; most = omega arith }) stopped))

pub returns-clause-leaves : goal.returns-clause-leaves
returns-clause-leaves g c =
    let v = c.loop-rounds.invariant in
    let s = c.loop-rounds.self in (
      held_of g.C.WindingCount.kind s s.edges.sound s.spare.sound,
      (
        record { least = omega arith; most = omega arith },
        record {
          rounds = v.0;
          spent = v.2;
          ends = elim c.loop-rounds-test.branch [ then-loop-rounds-test+else-ne w ↦ ∣ inl (search rules) ∣₁ | else-loop-rounds-test w ↦ ∣ inr (let past = w.loop-rounds-test.false in omega arith) ∣₁ ];
          state = refl;
        },
      ),
    )
