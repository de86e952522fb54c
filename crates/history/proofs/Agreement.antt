-- Two histories of the same calls leave the same sheet and answer the same, whatever the finders, if none was full.
use Rattle.std.proofs.Common.{◌≡◌, ℕ, List, Some, Ok, Err, Option, Result, sym, refl, ap, ◌∙◌, subst, arith}
use Rattle.std.proofs.lemmas.List.{get_or_default}
use Rattle.table.proofs.Orders.{never_none}
use Rattle.plane.specs.Points.{Point}
use Rattle.plane.specs.declared.fault.Fault.{Fault}
use Rattle.segm.specs.Counts.{CountKind}
use Rattle.segm.specs.Balance.{count_at}
use Rattle.segm.specs.declared.segment.Segment.{Segment}
use Rattle.history.specs.Sheets.{Lengths, Page, changed, put_counts, Put}
use Rattle.history.specs.Rounds.{Use, Run, outside, broke}
use Rattle.history.specs.Histories.{Call, Answer, Entry, EdgeRead, Leaves, History, opened, called}
use Rattle.history.specs.Histories.Call.{put, round, run, read_number, read_edge, read_state}
use Rattle.history.specs.Laws.{RoomyAnswer, Roomy, SameAnswer, SameAnswers, none, more}
use Rattle.history.specs.declared.sheet_state.SheetState.TheVariants.{Raw}
use Rattle.history.specs.declared.answers.RunAnswer.{RunAnswer}
use Rattle.history.specs.declared.answers.RunFault.{RunFault}
use Rattle.history.proofs.Facts.{Facts}
use Rattle.history.proofs.SameRounds.{round_same, done_not_refused, refused_same}
use Rattle.history.proofs.SameRuns.{done_same, broke_same, done_not_broke}

some_same : {X : Type 0} {x y : X} {o : Option X} → o ≡ Some x → o ≡ Some y → x ≡ y
some_same p q = cc

module _ {C : Type 0} (K : CountKind C) (facts : Facts K) where
  put_same : (p q : Point) (c : C) (s x y : Page C) (a b : Result (Unit {0}) Fault) → Put K p q c s x a → Put K p q c s y b → (x ≡ y) × (a ≡ b)
  put_same p q c s x y (Ok a) (Ok b) l m =
      let list = facts.counts_determine (λ e. K.sum (count_at K e s.edges) (put_counts K p q c e)) l.1.list m.1.list l.1.counting m.1.counting in
      (l.1.leaves ∙ ap (λ z. changed s z Raw s.start) list ∙ sym m.1.leaves, refl)
  put_same p q c s x y (Ok a) (Err g) l m = absurd (never_none m.0 l.0)
  put_same p q c s x y (Err f) (Ok b) l m = absurd (never_none l.0 m.0)
  put_same p q c s x y (Err f) (Err g) l m = (l.1 ∙ sym m.1, ap Err (some_same l.0 m.0))

  read_same : (i : ℕ) (s : Page C) (a b : Result (Segment C) Fault) → EdgeRead i s a → EdgeRead i s b → a ≡ b
  read_same i s (Ok e) (Ok g) h k = ap Ok (h.1 ∙ get_or_default s.edges i e g h.0 ∙ sym k.1)
  read_same i s (Ok e) (Err g) h k = absurd (omega (arith, h.0, k.1))
  read_same i s (Err f) (Ok g) h k = absurd (omega (arith, h.1, k.0))
  read_same i s (Err f) (Err g) h k = ap Err (h.0 ∙ sym k.0)

  run_same : (u v : Use) (n : ℕ) (s x y : Page C) (a b : Result RunAnswer RunFault) → RoomyAnswer {C = C} (run n) a → RoomyAnswer {C = C} (run n) b → Run K u n s x a → Run K v n s y b → (x ≡ y) × (a ≡ b)
  run_same u v n s x y (Ok a) (Ok b) ra rb l m = let w = done_same K facts u v n s x y a b l.1 m.1 in (w.0, ap Ok w.1)
  run_same u v n s x y (Ok a) (Err g) ra rb l (outside no_budget _ _ _) = absurd (no_budget l.0)
  run_same u v n s x y (Ok a) (Err g) ra rb l (broke _ m) = absurd (done_not_broke K facts u v n s x y a g l.1 m (λ k. rb k g refl))
  run_same u v n s x y (Err f) (Ok b) ra rb (outside no_budget _ _ _) m = absurd (no_budget m.0)
  run_same u v n s x y (Err f) (Ok b) ra rb (broke _ l) m = absurd (done_not_broke K facts v u n s y x b f m.1 l (λ k. ra k f refl))
  run_same u v n s x y (Err f) (Err g) ra rb (outside _ e i k) (outside _ e' i' k') =
      (e ∙ sym e', λ j. Err (record { fault = (i ∙ sym i') j; rounds = (k ∙ sym k') j }))
  run_same u v n s x y (Err f) (Err g) ra rb (outside no_budget _ _ _) (broke budget m) = absurd (no_budget budget)
  run_same u v n s x y (Err f) (Err g) ra rb (broke budget l) (outside no_budget _ _ _) = absurd (no_budget budget)
  run_same u v n s x y (Err f) (Err g) ra rb (broke _ l) (broke _ m) =
      let w = broke_same K facts u v n s x y f g l m (λ k. ra k f refl) (λ k. rb k g refl) in (w.0, ap Err w.1)

  step_same : (w : Call C) (u v : Use) (s x y : Page C) (a b : Answer w) → RoomyAnswer w a → RoomyAnswer w b → Leaves K w u s x a → Leaves K w v s y b → (x ≡ y) × SameAnswer w a b
  step_same (put p q c) u v s x y a b ra rb l m = put_same p q c s x y a b l m
  step_same round u v s x y (Ok a) (Ok b) ra rb l m = let w = round_same K facts u v s x y a b l m in (w.0, λ i. Ok (w.1 i, w.2 i))
  step_same round u v s x y (Ok a) (Err g) ra rb l m = absurd (done_not_refused K facts u v s x a g l m.1 (λ k e. rb k (ap Err e)))
  step_same round u v s x y (Err f) (Ok b) ra rb l m = absurd (done_not_refused K facts v u s y b f m l.1 (λ k e. ra k (ap Err e)))
  step_same round u v s x y (Err f) (Err g) ra rb l m =
      (l.0 ∙ sym m.0, ap Err (refused_same K facts u v s f g l.1 m.1 (λ k e. ra k (ap Err e)) (λ k e. rb k (ap Err e))))
  step_same (run n) u v s x y a b ra rb l m = run_same u v n s x y a b ra rb l m
  step_same read_number u v s x y a b ra rb l m = (l.0 ∙ sym m.0, l.1 ∙ sym m.1)
  step_same (read_edge i) u v s x y a b ra rb l m = (l.0 ∙ sym m.0, read_same i s a b l.1 m.1)
  step_same read_state u v s x y a b ra rb l m = (l.0 ∙ sym m.0, l.1 ∙ sym m.1)

  pub histories_agree : {n : Lengths} {start step : ℕ} {ws : List (Call C)} {es fs : List (Entry C)} {s t : Page C}
      → History K n start step ws es s → History K n start step ws fs t → Roomy es → Roomy fs → (s ≡ t) × SameAnswers es fs
  histories_agree opened opened re rf = (refl, none)
  histories_agree (called {es} {s} h w' u a x l) (called {es = fs} {s = t} k w v b y m) re rf =
      let below = histories_agree h k re.1 rf.1 in
      let here = step_same w u v s x y a b re.0 rf.0 l (subst (λ (z : Page C). Leaves K w v z y b) (sym below.0) m) in
      (here.0, more here.1 below.1)
