-- A table that marks come to, and the marks of the pairs that a finder gives.
use Rattle.std.specs.Prelude.{◌≡◌, ℕ, Bool, true, ◌||◌, ◌↔◌, List, [], length, Result, MatchResult}
use Rattle.table.specs.Contents.{Content, records}
use Rattle.plane.specs.Edges.{Edge, Proper}
use Rattle.plane.specs.Rules.{In}
use Rattle.plane.specs.declared.fault.Fault.{Fault}
use Rattle.plane.specs.declared.fault.Fault.TheVariants.{FinderFull, MarksFull}
use Rattle.finder.specs.Finders.{Pair, Meaning, Needs, Walks, MayCome, walking_on, Walk}
use Rattle.finder.specs.Boxes.{edges_box}
use Rattle.finder.specs.Filling.{FullAt}
use Rattle.segm.specs.Marked.{Marked}
use Rattle.segm.specs.Segments.{ends_of}
use Rattle.segm.specs.Spots.{Spot, at_one?, Overflow}
use Rattle.segm.specs.declared.segment.Segment.{Segment}
use Rattle.segm.specs.declared.line_mark.LineMark.{LineMark}
use Rattle.rounds.specs.Marks.{MarksOf, MoreMarks, SomeRounded}
use Rattle.rounds.specs.Spots.{all_spots, any_rounded?}
use Rattle.history.specs.Rounds.{Use, Shown}
use Rattle.history.specs.Sheets.{Page, ends, mark_places}
use Rattle.history.specs.declared.answers.RoundAnswer.{RoundAnswer}

-- a table lists the marks that P tells
abbrev pub Noted : (LineMark → Bool) → Content LineMark → Type 0
Noted P table = Marked P (records table)

-- the marks at the spots came to a table; it is refused only where there are then more than it has room for
abbrev pub Notes : {T E : Type 0} → List Spot → Content LineMark → Content LineMark → Result T E → Type 0
Notes ts before after r = (P : LineMark → Bool) → Noted P before
    → MatchResult r (λ _. Noted (λ x. P x || at_one? ts x) after) (λ _. Overflow (λ x. P x || at_one? ts x) before.room)

-- all pairs that a finder gave were marked, and it has none left
pub record PairsMarked (walks : Walks) (before after : Meaning) (s : ℕ) (es : List Edge) (marks : List LineMark) (a : RoundAnswer) : Type 0 where
  pub pairs : List Pair
  pub allowed : MayCome walks before pairs
  pub left : after ≡ walking_on [] before
  pub number : a.pairs ≡ length pairs
  pub noted : Marked (at_one? (all_spots s es pairs)) marks
  pub many : a.marks ≡ length marks
  pub flag : a.is_rounded ≡ any_rounded? s es pairs

-- every edge has its first end before its second
abbrev pub AllProper : {C : Type 0} → List (Segment C) → Type 0
AllProper {C} l = (e : Segment C) → In e l → Proper (ends_of e)

-- the marks of a sheet were gathered by the pairs of some walk of the finder's
pub record Gathered {C : Type 0} (walks : Walks) (u : Use) (s : Page C) (marks : List LineMark) (a : RoundAnswer) : Type 0 where
  pub shown : Shown u s
  pub pairs : List Pair
  pub came : walks (edges_box (ends s)) (length s.edges) (ends s) pairs
  pub walk : Walk (ends s) pairs
  pub taken : a.pairs ≡ length pairs
  pub marked : MarksOf s.exponent (ends s) marks
  pub number : a.marks ≡ length marks
  pub flag : (a.is_rounded ≡ true) ↔ SomeRounded s.exponent (ends s)

-- why gathering is refused: for want of room in the finder, or of places for marks
pub data Unpieced {C : Type 0} (u : Use) (s : Page C) : Fault → Type 0 where
  finder_full : (k : ℕ) → FullAt u.need u.capacity (edges_box (ends s)) (ends s) k → Unpieced u s (FinderFull k)
  marks_full : Shown u s → MoreMarks s.exponent (ends s) (mark_places s.lengths) → Unpieced u s MarksFull

-- what is fixed of a finder
abbrev pub use_of : Needs → Meaning → Use
use_of need m = record { need = need; capacity = m.capacity }
