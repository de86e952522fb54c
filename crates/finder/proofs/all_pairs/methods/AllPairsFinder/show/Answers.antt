use Rattle.std.proofs.Common.{◌≡◌, ◌+◌, ◌<◌, Bool, false, map, length, take, set, Err, Option, is_some, sym, ap, ◌∙◌, ap₂, arith, length-append, length-set}
use Rattle.std.proofs.lemmas.List.{take_more_set, map_push}
use Rattle.std.proofs.lemmas.Result.{err_from_is_err_and}
use Rattle.plane.specs.Edges.{Edge}
use Rattle.plane.specs.Models.{plain_point}
use Rattle.plane.specs.declared.fault.Fault.{Fault}
use Rattle.plane.specs.declared.fault.Fault.TheVariants.{FinderFull}
use Rattle.finder.specs.declared.all_pairs.AllPairs.{AllPairs}
use Rattle.finder.specs.declared.plain_edge.PlainEdge.{PlainEdge}
use Rattle.finder.specs.Finders.{Meaning, box_of, show_answer, show_after, with_shown}
use Rattle.finder.specs.Checks.{early_refusal}
use Rattle.finder.specs.Pairs.{pairs_meaning, pairs_need, coming_from, plain_edge}
use Rattle.finder.proofs.Refusals.{refusal_early, refusal_full, refusal_none, early_passed}
use Rattle.finder.proofs.Shown.{shown_size, none_coming}
use Rattle.finder.proofs.all_pairs.methods.AllPairsFinder.show.Goals as goal

-- the checks see whether it walks, and the number of edges shown
at_shown : (s : AllPairs) (w : Bool) (e : Edge) (o : Option Fault) → w ≡ is_some s.ahead → early_refusal w s.intake.announced s.intake.shown (box_of s.intake.extent) e ≡ o
    → early_refusal (is_some s.ahead) s.intake.announced (length (pairs_meaning s).shown) (box_of s.intake.extent) e ≡ o
at_shown s w e o is h = ap₂ (λ v n. early_refusal v s.intake.announced n (box_of s.intake.extent) e) (sym is) (shown_size s) ∙ h

pub returns-in_err-check : goal.returns-in_err-check
returns-in_err-check c =
    let s = c.args.self.now in
    let e : Edge = record { a = plain_point c.args.a; b = plain_point c.args.b } in
    let p = err_from_is_err_and c.from_residual.result c.from_residual.ensures.1 in
    let r = refusal_early pairs_need (pairs_meaning s) e _ (at_shown s _ e _ c.is_some.ensures c.in_err-check.ensures) in
    record { answers = p.1 ∙ ap Err p.2 ∙ sym (ap show_answer r); leaves = sym (ap (λ x. show_after x e (pairs_meaning s)) r) }

pub returns-then-self-place : goal.returns-then-self-place
returns-then-self-place c =
    let s = c.args.self.now in
    let e : Edge = record { a = plain_point c.args.a; b = plain_point c.args.b } in
    let n = shown_size s in
    let r = refusal_full pairs_need (pairs_meaning s) e (at_shown s _ e _ c.is_some.ensures c.in_ok-check.ensures.0) (simp length-append (omega (arith, n, c.if-self-place.true))) in
    record { answers = sym (ap show_answer r ∙ ap (λ k. Err (FinderFull k)) n); leaves = sym (ap (λ x. show_after x e (pairs_meaning s)) r) }

-- one more edge is shown, and none comes before a walk
after : (s : AllPairs) (e : PlainEdge) → s.intake.shown < length s.table.now → is_some s.ahead ≡ false → ◌≡◌ {A = Meaning}
    (record {
      box = box_of s.intake.extent;
      announced = s.intake.announced;
      shown = map plain_edge (take (s.intake.shown + 1) (set s.table.now s.intake.shown e));
      coming = coming_from (s.intake.shown + 1) s.ahead;
      walking = is_some s.ahead;
      capacity = length (set s.table.now s.intake.shown e);
    })
    (with_shown (plain_edge e) (pairs_meaning s))
after s e h w = λ i. record {
  box = box_of s.intake.extent;
  announced = s.intake.announced;
  shown = (ap (map plain_edge) (take_more_set s.table.now s.intake.shown e h) ∙ map_push plain_edge (take s.intake.shown s.table.now) e) i;
  coming = (none_coming (s.intake.shown + 1) s.ahead w ∙ sym (none_coming s.intake.shown s.ahead w)) i;
  walking = is_some s.ahead;
  capacity = length-set s.table.now s.intake.shown e i;
}

pub returns : goal.returns
returns c =
    let s = c.args.self.now in
    let e : Edge = record { a = plain_point c.args.a; b = plain_point c.args.b } in
    let n = shown_size s in
    let none = at_shown s _ e _ c.is_some.ensures c.in_ok-check.ensures.0 in
    let filling = (early_passed (is_some s.ahead) s.intake.announced (length (pairs_meaning s).shown) (box_of s.intake.extent) e none).filling in
    let r = refusal_none pairs_need (pairs_meaning s) e none (simp length-append (omega (arith, n, c.if-self-place.false))) in
    record {
      answers = sym (ap show_answer r);
      leaves = after s (record { a = c.args.a; b = c.args.b }) c.if-self-place.false filling ∙ sym (ap (λ x. show_after x e (pairs_meaning s)) r);
    }
