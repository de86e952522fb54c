-- What rounds and runs leave and answer.
use Rattle.std.specs.Prelude.{◌≡◌, ℕ, zero, suc, ◌+◌, ◌-◌, ◌^◌, ◌<◌, ◌≤◌, min, Bool, true, false, cond, ◌||◌, ◌≢◌, ◌⊎◌, ◌↔◌, List, length, Ok, Err, Result, ◌==◌, nat_lt}
use Rattle.plane.specs.declared.fault.Fault.{Fault}
use Rattle.plane.specs.declared.fault.Fault.TheVariants.{BudgetOutside, FinderFull, MarksFull, PiecesFull}
use Rattle.finder.specs.Finders.{Needs, Pair, Walk}
use Rattle.finder.specs.Boxes.{edges_box}
use Rattle.finder.specs.Filling.{FitsBelow, FullAt}
use Rattle.segm.specs.Counts.{CountKind}
use Rattle.segm.specs.declared.line_mark.LineMark.{LineMark}
use Rattle.segm.specs.declared.segment.Segment.{Segment}
use Rattle.rounds.specs.Marks.{MarksOf, MoreMarks, SomeRounded}
use Rattle.rounds.specs.Pieces.{CutList}
use Rattle.history.specs.Sheets.{Page, ends, changed, edge_places, mark_places}
use Rattle.history.specs.declared.sheet_state.SheetState.{SheetState}
use Rattle.history.specs.declared.sheet_state.SheetState.TheVariants.{Rounded, Clean}
use Rattle.history.specs.declared.answers.RoundAnswer.{RoundAnswer}
use Rattle.history.specs.declared.answers.RunAnswer.{RunAnswer}
use Rattle.history.specs.declared.answers.RunFault.{RunFault}

-- what is fixed of the finder that a round or a run gets: how its need follows from what it is shown, and its capacity
pub record Use : Type 0 where
  pub need : Needs
  pub capacity : ℕ

-- a budget runs from 1 to 64
pub record Budget (n : ℕ) : Type 0 where
  pub least : 1 ≤ n
  pub most : n ≤ 64

-- without marks, or without a rounded crossing, the sheet is clean
abbrev pub state_after : ℕ → Bool → SheetState
state_after marks rounded = cond (marks == 0) Clean (cond rounded Rounded Clean)

-- with marks the exponent grows by the step, up to the largest number of 32 bits
abbrev pub exponent_after : ℕ → ℕ → ℕ → ℕ
exponent_after marks e step = cond (marks == 0) e (min (e + step) (2 ^ 32 - 1))

module _ {C : Type 0} where
  -- the finder has room for every edge of the sheet
  abbrev pub Shown : Use → Page C → Type 0
  Shown u s = FitsBelow u.need u.capacity (edges_box (ends s)) (ends s) (length s.edges)

  -- why a round is refused, the first that holds: the finder's need exceeds its capacity at edge k; there are more distinct marks than places; edges and distinct marks exceed the places for edges
  pub data RoundRefused (u : Use) (s : Page C) : Fault → Type 0 where
    finder_full : (k : ℕ) → FullAt u.need u.capacity (edges_box (ends s)) (ends s) k → RoundRefused u s (FinderFull k)
    marks_full : Shown u s → MoreMarks s.exponent (ends s) (mark_places s.lengths) → RoundRefused u s MarksFull
    pieces_full : Shown u s → (ms : List LineMark) → MarksOf s.exponent (ends s) ms → length ms ≤ mark_places s.lengths
        → edge_places s.lengths < length s.edges + length ms → RoundRefused u s PiecesFull

module _ {C : Type 0} (K : CountKind C) where
  -- an accepted round. The pairs are some walk of the finder's; all else does not mention it
  pub record RoundDone (u : Use) (s after : Page C) (a : RoundAnswer) : Type 0 where
    pub shown : Shown u s
    pub pairs : List Pair
    pub walk : Walk (ends s) pairs
    pub taken : a.pairs ≡ length pairs
    pub marks : List LineMark
    pub marked : MarksOf s.exponent (ends s) marks
    pub marks_fit : length marks ≤ mark_places s.lengths
    pub pieces_fit : length s.edges + length marks ≤ edge_places s.lengths
    pub number : a.marks ≡ length marks
    pub flag : (a.is_rounded ≡ true) ↔ SomeRounded s.exponent (ends s)
    pub list : List (Segment C)
    pub cut : CutList K marks s.edges list
    pub leaves : after ≡ changed s list (state_after (length marks) a.is_rounded) (exponent_after (length marks) s.exponent s.step)

  abbrev pub Round : Use → Page C → Page C → Result RoundAnswer Fault → Type 0
  Round u s after (Ok a) = RoundDone u s after a
  Round u s after (Err f) = (after ≡ s) × RoundRefused u s f

  -- n rounds one after the other, each on a sheet that is not clean; `marked` tells whether any had marks
  abbrev pub Rounds : Use → ℕ → Bool → Page C → Page C → Type 0
  Rounds u zero marked s after = (marked ≡ false) × (after ≡ s)
  Rounds u (suc n) marked s after =
      (t : Page C) × (b : Bool) × (a : RoundAnswer)
      × Rounds u n b s t × (t.state ≢ Clean) × RoundDone u t after a × (marked ≡ (b || nat_lt 0 a.marks))

  -- a run that ended clean or with its budget used
  pub record RunDone (u : Use) (budget : ℕ) (s after : Page C) (a : RunAnswer) : Type 0 where
    pub rounds : Rounds u a.rounds a.has_marks s after
    pub spent : a.rounds ≤ budget
    pub ends : ∥ ((after.state ≡ Clean) ⊎ (a.rounds ≡ budget)) ∥₁
    pub state : a.state ≡ after.state

  -- a run that a refused round ended
  pub record RunBroke (u : Use) (budget : ℕ) (s after : Page C) (f : RunFault) : Type 0 where
    pub marked : Bool
    pub rounds : Rounds u f.rounds marked s after
    pub spent : f.rounds < budget
    pub unclean : after.state ≢ Clean
    pub refused : RoundRefused u after f.fault

  pub data RunRefused (u : Use) (budget : ℕ) (s after : Page C) (f : RunFault) : Type 0 where
    outside : ¬ Budget budget → after ≡ s → f.fault ≡ BudgetOutside → f.rounds ≡ 0 → RunRefused u budget s after f
    broke : Budget budget → RunBroke u budget s after f → RunRefused u budget s after f

  abbrev pub Run : Use → ℕ → Page C → Page C → Result RunAnswer RunFault → Type 0
  Run u budget s after (Ok a) = Budget budget × RunDone u budget s after a
  Run u budget s after (Err f) = RunRefused u budget s after f
