-- The laws over every history, for a kind of counts.
use Rattle.std.specs.Prelude.{◌≡◌, ℕ, ◌<◌, Bool, ◌≢◌, List, [], ◌∷◌, length, Ok, Err, Result}
use Rattle.plane.specs.Points.{Point}
use Rattle.plane.specs.Edges.{Edge}
use Rattle.plane.specs.Fractions.{Touch}
use Rattle.plane.specs.declared.fault.Fault.{Fault}
use Rattle.plane.specs.declared.fault.Fault.TheVariants.{FinderFull}
use Rattle.finder.specs.Finders.{edge_at}
use Rattle.segm.specs.Counts.{CountKind}
use Rattle.segm.specs.Balance.{balance}
use Rattle.history.specs.Sheets.{Lengths, Page, ends, put_brings, Sound}
use Rattle.history.specs.Histories.{Call, Answer, Entry, History}
use Rattle.history.specs.Histories.Call.{put, round, run, read_number, read_edge, read_state}
use Rattle.history.specs.declared.sheet_state.SheetState.TheVariants.{Clean}
use Rattle.history.specs.declared.answers.RoundAnswer.{RoundAnswer}
use Rattle.history.specs.declared.answers.RunFault.{RunFault}

-- no two edges of the list touch
abbrev pub Apart : List Edge → Type 0
Apart es = (i j : ℕ) → i < j → j < length es → ¬ Touch (edge_at es i) (edge_at es j)

-- an answer that is not the refusal for want of room in the finder
abbrev pub RoomyAnswer : {C : Type 0} → (w : Call C) → Answer w → Type 0
RoomyAnswer (put p q c) a = Unit {0}
RoomyAnswer round a = (k : ℕ) → a ≢ Err (FinderFull k)
RoomyAnswer (run budget) a = (k : ℕ) (f : RunFault) → a ≡ Err f → f.fault ≢ FinderFull k
RoomyAnswer read_number a = Unit {0}
RoomyAnswer (read_edge i) a = Unit {0}
RoomyAnswer read_state a = Unit {0}

abbrev pub Roomy : {C : Type 0} → List (Entry C) → Type 0
Roomy [] = Unit {0}
Roomy (e ∷ es) = RoomyAnswer e.0 e.1 × Roomy es

-- what a round answers but for the number of pairs
abbrev pub without_pairs : Result RoundAnswer Fault → Result (ℕ × Bool) Fault
without_pairs (Ok a) = Ok (a.marks, a.is_rounded)
without_pairs (Err f) = Err f

abbrev pub SameAnswer : {C : Type 0} → (w : Call C) → Answer w → Answer w → Type 0
SameAnswer (put p q c) a b = a ≡ b
SameAnswer round a b = without_pairs a ≡ without_pairs b
SameAnswer (run budget) a b = a ≡ b
SameAnswer read_number a b = a ≡ b
SameAnswer (read_edge i) a b = a ≡ b
SameAnswer read_state a b = a ≡ b

-- the answers of two histories of the same calls
pub data SameAnswers {C : Type 0} : List (Entry C) → List (Entry C) → Type 0 where
  none : SameAnswers [] []
  more : {w : Call C} {a b : Answer w} {es fs : List (Entry C)} → SameAnswer w a b → SameAnswers es fs → SameAnswers ((w, a) ∷ es) ((w, b) ∷ fs)

module _ {C : Type 0} (K : CountKind C) where
  -- what an answered call brought to the point z: an accepted put as it was handed in, nothing else
  abbrev pub brought : Point → (w : Call C) → Answer w → C
  brought z (put p q c) (Ok done) = put_brings K p q c z
  brought z (put p q c) (Err f) = K.neutral
  brought z round a = K.neutral
  brought z (run budget) a = K.neutral
  brought z read_number a = K.neutral
  brought z (read_edge i) a = K.neutral
  brought z read_state a = K.neutral

  -- the balance of all accepted puts
  abbrev pub put_balance : Point → List (Entry C) → C
  put_balance z [] = K.neutral
  put_balance z (e ∷ es) = K.sum (put_balance z es) (brought z e.0 e.1)

  -- every sheet that a history leaves is in order, and within its places
  abbrev pub StaysSound : Type 0
  StaysSound = (n : Lengths) (start step : ℕ) (ws : List (Call C)) (es : List (Entry C)) (s : Page C) → History K n start step ws es s → Sound K s

  -- at every point the balance of the edges is that of all accepted puts
  abbrev pub BalanceKept : Type 0
  BalanceKept = (n : Lengths) (start step : ℕ) (ws : List (Call C)) (es : List (Entry C)) (s : Page C) → History K n start step ws es s
      → (z : Point) → balance K z s.edges ≡ put_balance z es

  -- a clean sheet has no two edges that touch
  abbrev pub CleanIsApart : Type 0
  CleanIsApart = (n : Lengths) (start step : ℕ) (ws : List (Call C)) (es : List (Entry C)) (s : Page C) → History K n start step ws es s
      → s.state ≡ Clean → Apart (ends s)

  -- two histories of the same calls, the finder full in neither, leave the same sheet and answer the same but for the number of pairs
  abbrev pub FindersAgree : Type 0
  FindersAgree = (n : Lengths) (start step : ℕ) (ws : List (Call C)) (es fs : List (Entry C)) (s t : Page C)
      → History K n start step ws es s → History K n start step ws fs t → Roomy es → Roomy fs → (s ≡ t) × SameAnswers es fs

  pub record HistoryLaws : Type 0 where
    pub sound : StaysSound
    pub balance : BalanceKept
    pub clean : CleanIsApart
    pub agreement : FindersAgree
