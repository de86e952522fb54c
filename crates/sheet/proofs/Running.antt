-- One round more of a run.
use Rattle.std.proofs.Common.{◌≡◌, ℕ, ◌+◌, Bool, true, false, ◌||◌, Result, Ok, Err, MatchResult, IsErrAnd, ltb, ◌≢◌, sym, refl, ap, subst, add-one}
use Rattle.finder.specs.Finders.{Needs, Meaning}
use Rattle.segm.specs.Counts.{CountKind}
use Rattle.std.specs.Result.{is_ok}
use Rattle.plane.specs.declared.fault.Fault.{Fault}
use Rattle.history.specs.Rounds.{Use, Round, Rounds, RoundDone, RoundRefused}
use Rattle.history.specs.declared.answers.RunFault.{RunFault}
use Rattle.history.specs.Sheets.{Page}
use Rattle.history.specs.declared.answers.RoundAnswer.{RoundAnswer}
use Rattle.history.specs.declared.sheet_state.SheetState.TheVariants.{Clean}
use Rattle.marking.specs.Gathering.{use_of}

-- the same finder, later
pub same_use : (need : Needs) (m m' : Meaning) → m'.capacity ≡ m.capacity → use_of need m' ≡ use_of need m
same_use need m m' e = λ i. record { need = need; capacity = e i }

module _ {C : Type 0} (K : CountKind C) (u : Use) where
  pub rounds_none : (s : Page C) → Rounds K u 0 false s s
  rounds_none s = (refl, refl)

  pub rounds_more : (n : ℕ) (b b' : Bool) (s t after : Page C) (a : RoundAnswer) → Rounds K u n b s t → t.state ≢ Clean → RoundDone K u t after a
      → b' ≡ (b || ltb 0 a.marks) → Rounds K u (n + 1) b' s after
  rounds_more n b b' s t after a r c d e = subst (λ (k : ℕ). Rounds K u k b' s after) (sym (add-one n)) (t, b, a, r, c, d, e)

  -- a round by what it answers, and what its refusal was turned into
  pub broke_at : (s after : Page C) (n : ℕ) (r : Result RoundAnswer Fault) (f : RunFault) → Round K u s after r
      → MatchResult r (λ x. ◌≡◌ {A = Result RoundAnswer RunFault} (Err f) (Ok x)) (λ e. IsErrAnd {T = RoundAnswer} (Err f) (λ d. d ≡ record { fault = e; rounds = n })) → (after ≡ s) × RoundRefused u s f.fault × (f.rounds ≡ n)
  broke_at s after n (Ok x) f w h = cc
  broke_at s after n (Err e) f w h = (w.0, subst (λ (x : RunFault). RoundRefused u s x.fault) (sym h) w.1, ap (λ (x : RunFault). x.rounds) h)

  pub done_at : (s after : Page C) (r : Result RoundAnswer Fault) (a : RoundAnswer) (Q : Fault → Type 0) → Round K u s after r → true ≡ is_ok r
      → MatchResult r (λ x. ◌≡◌ {A = Result RoundAnswer RunFault} (Ok a) (Ok x)) Q → RoundDone K u s after a
  done_at s after (Ok x) a Q w v h = let e : x ≡ a = cc in subst (λ (y : RoundAnswer). RoundDone K u s after y) e w
  done_at s after (Err e) a Q w v h = cc
