-- Runs on one sheet leave and answer the same, whatever the finders, if none was full.
use Rattle.std.proofs.Common.{◌≡◌, ℕ, ◌<◌, ◌≤◌, Bool, ◌⊎◌, sym, ap, ◌∙◌, subst, inl, inr, arith}
use mathlib.Core.HLevel.{⊥_prop}
use mathlib.Core.Logic.{∥∥₁_elim}
use Rattle.std.proofs.lemmas.Bool.{cases_order}
use Rattle.plane.specs.declared.fault.Fault.{Fault}
use Rattle.segm.specs.Counts.{CountKind}
use Rattle.history.specs.Sheets.{Page}
use Rattle.history.specs.Rounds.{Use, RoundRefused, Rounds, RunDone, RunBroke}
use Rattle.history.specs.declared.sheet_state.SheetState.TheVariants.{Clean}
use Rattle.history.specs.declared.answers.RunAnswer.{RunAnswer}
use Rattle.history.specs.declared.answers.RunFault.{RunFault}
use Rattle.history.proofs.Facts.{Facts}
use Rattle.history.proofs.SameRounds.{RoomyFault, done_not_refused, refused_same, rounds_same, GoingOn, going_on}

module _ {C : Type 0} (K : CountKind C) (facts : Facts K) where
  -- why a run does no more rounds: it ended, or a round was refused
  abbrev Halts : Use → ℕ → ℕ → Page C → Type 0
  Halts u budget n x = ∥ ((x.state ≡ Clean) ⊎ (n ≡ budget)) ∥₁ ⊎ ((f : Fault) × RoundRefused u x f × RoomyFault f)

  not_further : (u v : Use) (budget n m : ℕ) (b c : Bool) (s x y : Page C) → Rounds K u n b s x → Rounds K v m c s y → m ≤ budget → Halts u budget n x → n < m → ⊥
  not_further u v budget n m b c s x y r q le h lt = go h
    where
      more : GoingOn K facts v n s
      more = going_on K facts v n m c s y lt q

      same : x ≡ more.at
      same = (rounds_same K facts u v n b more.marked s x more.at r more.rounds).0

      ended : (x.state ≡ Clean) ⊎ (n ≡ budget) → ⊥
      ended (inl e) = more.unclean (sym (ap (λ (t : Page C). t.state) same) ∙ e)
      ended (inr e) = omega arith

      go : Halts u budget n x → ⊥
      go (inl e) = ∥∥₁_elim e ⊥_prop ended
      go (inr w) = done_not_refused K facts v u more.at more.next more.answer w.0 more.done (subst (λ (t : Page C). RoundRefused u t w.0) same w.1) w.2

  runs_same : (u v : Use) (budget n m : ℕ) (b c : Bool) (s x y : Page C) → Rounds K u n b s x → Rounds K v m c s y → n ≤ budget → m ≤ budget → Halts u budget n x → Halts v budget m y
      → (n ≡ m) × (x ≡ y) × (b ≡ c)
  runs_same u v budget n m b c s x y r q ln lm h k = go (cases_order n m)
    where
      go : (n ≡ m) ⊎ ((n < m) ⊎ (m < n)) → (n ≡ m) × (x ≡ y) × (b ≡ c)
      go (inl e) = let w = rounds_same K facts u v m b c s x y (subst (λ i. Rounds K u i b s x) e r) q in (e, w.0, w.1)
      go (inr (inl l)) = absurd (not_further u v budget n m b c s x y r q lm h l)
      go (inr (inr l)) = absurd (not_further v u budget m n c b s y x q r ln k l)

  pub done_same : (u v : Use) (budget : ℕ) (s x y : Page C) (a b : RunAnswer) → RunDone K u budget s x a → RunDone K v budget s y b → (x ≡ y) × (a ≡ b)
  done_same u v budget s x y a b d e =
      let w = runs_same u v budget a.rounds b.rounds a.has_marks b.has_marks s x y d.rounds e.rounds d.spent e.spent (inl d.ends) (inl e.ends) in
      let state = d.state ∙ ap (λ (t : Page C). t.state) w.1 ∙ sym e.state in
      (w.1, λ i. record { rounds = w.0 i; has_marks = w.2 i; state = state i })

  pub broke_same : (u v : Use) (budget : ℕ) (s x y : Page C) (f g : RunFault) → RunBroke K u budget s x f → RunBroke K v budget s y g → RoomyFault f.fault → RoomyFault g.fault → (x ≡ y) × (f ≡ g)
  broke_same u v budget s x y f g d e rf rg =
      let w = runs_same u v budget f.rounds g.rounds d.marked e.marked s x y d.rounds e.rounds (omega (arith, d.spent)) (omega (arith, e.spent)) (inr (f.fault, d.refused, rf)) (inr (g.fault, e.refused, rg)) in
      let fault = refused_same K facts u v y f.fault g.fault (subst (λ (t : Page C). RoundRefused u t f.fault) w.1 d.refused) e.refused rf rg in
      (w.1, λ i. record { fault = fault i; rounds = w.0 i })

  pub done_not_broke : (u v : Use) (budget : ℕ) (s x y : Page C) (a : RunAnswer) (f : RunFault) → RunDone K u budget s x a → RunBroke K v budget s y f → RoomyFault f.fault → ⊥
  done_not_broke u v budget s x y a f d e roomy = ∥∥₁_elim d.ends ⊥_prop go
    where
      w : (a.rounds ≡ f.rounds) × (x ≡ y) × (a.has_marks ≡ e.marked)
      w = runs_same u v budget a.rounds f.rounds a.has_marks e.marked s x y d.rounds e.rounds d.spent (omega (arith, e.spent)) (inl d.ends) (inr (f.fault, e.refused, roomy))

      go : (x.state ≡ Clean) ⊎ (a.rounds ≡ budget) → ⊥
      go (inl c) = e.unclean (sym (ap (λ (t : Page C). t.state) w.1) ∙ c)
      go (inr c) = omega (arith, w.0, e.spent)
