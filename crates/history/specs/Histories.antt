-- Histories: one sheet is opened, and calls work on it in any order, refused ones too, each round or run with any finder.
use Rattle.std.specs.Prelude.{◌≡◌, ℕ, ◌<◌, ◌≤◌, List, [], ◌∷◌, length, Result, MatchResult, slice_index_or}
use Rattle.plane.specs.Points.{Point}
use Rattle.plane.specs.declared.fault.Fault.{Fault}
use Rattle.plane.specs.declared.fault.Fault.TheVariants.{NoSuchEdge}
use Rattle.segm.specs.Counts.{CountKind}
use Rattle.segm.specs.declared.segment.Segment.{Segment}
use Rattle.history.specs.Sheets.{Lengths, Page, opening, Put}
use Rattle.history.specs.Rounds.{Use, Round, Run}
use Rattle.history.specs.declared.sheet_state.SheetState.{SheetState}
use Rattle.history.specs.declared.answers.RoundAnswer.{RoundAnswer}
use Rattle.history.specs.declared.answers.RunAnswer.{RunAnswer}
use Rattle.history.specs.declared.answers.RunFault.{RunFault}

-- a call with its arguments but for the finder
pub data Call (C : Type 0) : Type 0 where
  put : Point → Point → C → Call C
  round : Call C
  run : ℕ → Call C
  read_number : Call C
  read_edge : ℕ → Call C
  read_state : Call C

abbrev pub Answer : {C : Type 0} → Call C → Type 0
Answer (put p q c) = Result (Unit {0}) Fault
Answer round = Result RoundAnswer Fault
Answer (run budget) = Result RunAnswer RunFault
Answer read_number = ℕ
Answer {C} (read_edge i) = Result (Segment C) Fault
Answer read_state = SheetState

-- the edge of a number, or the refusal where there is none
abbrev pub EdgeRead : {C : Type 0} → ℕ → Page C → Result (Segment C) Fault → Type 0
EdgeRead i s a = MatchResult a (λ e. (i < length s.edges) × (e ≡ slice_index_or s.edges i e)) (λ f. (f ≡ NoSuchEdge) × (length s.edges ≤ i))

-- what a call on the sheet s leaves and answers
abbrev pub Leaves : {C : Type 0} → CountKind C → (w : Call C) → Use → Page C → Page C → Answer w → Type 0
Leaves K (put p q c) u s after a = Put K p q c s after a
Leaves K round u s after a = Round K u s after a
Leaves K (run budget) u s after a = Run K u budget s after a
Leaves K read_number u s after a = (after ≡ s) × (a ≡ length s.edges)
Leaves K (read_edge i) u s after a = (after ≡ s) × EdgeRead i s a
Leaves K read_state u s after a = (after ≡ s) × (a ≡ s.state)

-- a call and what it answered
abbrev pub Entry : Type 0 → Type 0
Entry C = (w : Call C) × Answer w

-- a history over tables of the lengths n: its calls, the newest first, what they answered, and the sheet they leave. The finders are free at each call
pub data History {C : Type 0} (K : CountKind C) (n : Lengths) (start step : ℕ) : List (Call C) → List (Entry C) → Page C → Type 0 where
  opened : History K n start step [] [] (opening n start step)
  called : {ws : List (Call C)} {es : List (Entry C)} {s : Page C} → History K n start step ws es s
      → (w : Call C) (u : Use) (a : Answer w) (after : Page C) → Leaves K w u s after a
      → History K n start step (w ∷ ws) ((w, a) ∷ es) after
