-- Eight sheets worked out by hand.
use Rattle.std.specs.Prelude.{◌≡◌, ℕ, min, Bool, true, false, List, [], ◌∷◌, pos, negsuc, Ok, Err}
use Rattle.std.proofs.Math.Nat.{min-le_right}
use Rattle.std.proofs.Common.{lit<}
use Rattle.plane.specs.declared.fault.Fault.TheVariants.{MarksFull, PiecesFull}
use Rattle.plane.specs.declared.int_point.IntPoint.{IntPoint}
use Rattle.finder.specs.Boxes.{edges_box}
use Rattle.finder.specs.Pairs.{pairs_need}
use Rattle.grid.specs.Grid.{grid_need, grid_pairs}
use Rattle.grid.specs.Worked.{WorkedGrids}
use Rattle.segm.specs.BooleanKind.{boolean_kind}
use Rattle.segm.specs.declared.boolean.ShapeCountBoolean.{ShapeCountBoolean}
use Rattle.segm.specs.declared.line_mark.LineMark.{LineMark}
use Rattle.segm.specs.declared.segment.Segment.{Segment}
use Rattle.rounds.specs.Marks.{MarksOf}
use Rattle.history.specs.Rounds.{Use, Round}
use Rattle.history.specs.Sheets.{Lengths, Page, ends, changed}
use Rattle.history.specs.declared.answers.RoundAnswer.{RoundAnswer}
use Rattle.history.specs.declared.sheet_state.SheetState.{SheetState}
use Rattle.history.specs.declared.sheet_state.SheetState.TheVariants.{Raw, Rounded, Clean}

-- the point (x, y), for coordinates up to 524288
abbrev pub at : ℕ → ℕ → IntPoint
at x y = record { x = pos (min x 524288); y = pos (min y 524288); wide = min-le_right x 524288; high = min-le_right y 524288 }

-- one for the subject, and the same the other way
abbrev pub once : ShapeCountBoolean
once = record { subj = pos 1; clip = pos 0; subj_fits = lit< tt; clip_fits = lit< tt }

abbrev pub back : ShapeCountBoolean
back = record { subj = negsuc 0; clip = pos 0; subj_fits = lit< tt; clip_fits = lit< tt }

-- the edge from (x, y) to (x', y') with the count c, and with one for the subject
abbrev pub segment : ShapeCountBoolean → ℕ → ℕ → ℕ → ℕ → Segment ShapeCountBoolean
segment c x y x' y' = record { a = at x y; b = at x' y'; count = c }

abbrev pub edge : ℕ → ℕ → ℕ → ℕ → Segment ShapeCountBoolean
edge x y x' y' = segment once x y x' y'

abbrev pub mark : ℕ → ℕ → ℕ → LineMark
mark i x y = record { index = i; point = at x y }

-- tables for so many edges and marks
abbrev pub places : ℕ → ℕ → Lengths
places edges marks = record { edges = edges; spare = edges; marks = marks }

-- a sheet that edges were put on, with the snap start e and the step 1
abbrev pub raw : ℕ → Lengths → List (Segment ShapeCountBoolean) → Page ShapeCountBoolean
raw e n l = record { edges = l; state = Raw; exponent = e; start = e; step = 1; lengths = n }

-- finders with room for 4096
abbrev pub pairs_use : Use
pairs_use = record { need = pairs_need; capacity = 4096 }

abbrev pub grid_use : Use
grid_use = record { need = grid_need; capacity = 4096 }

abbrev pub answer : ℕ → ℕ → Bool → RoundAnswer
answer pairs marks rounded = record { marks = marks; is_rounded = rounded; pairs = pairs }

-- the marks of the sheet s are ms, and a round answers a and leaves the edges l in that state, at the exponent e
pub record Cuts (u : Use) (s : Page ShapeCountBoolean) (ms : List LineMark) (a : RoundAnswer)
    (l : List (Segment ShapeCountBoolean)) (state : SheetState) (e : ℕ) : Type 0 where
  pub marked : MarksOf s.exponent (ends s) ms
  pub round : Round boolean_kind u s (changed s l state e) (Ok a)

-- two diagonals, which cross at (4,4)
abbrev pub diagonals : Lengths → Page ShapeCountBoolean
diagonals n = raw 0 n (edge 0 0 8 8 ∷ edge 0 8 8 0 ∷ [])

abbrev pub DiagonalsCut : Lengths → Type 0
DiagonalsCut n = Cuts pairs_use (diagonals n) (mark 0 4 4 ∷ mark 1 4 4 ∷ []) (answer 1 2 false)
    (edge 0 0 4 4 ∷ edge 0 8 4 4 ∷ edge 4 4 8 0 ∷ edge 4 4 8 8 ∷ []) Clean 1

-- two edges that cross at (5, 1.5), and one above them
abbrev pub sloping : ℕ → Page ShapeCountBoolean
sloping e = raw e (places 16 16) (edge 0 0 10 3 ∷ edge 0 2 10 1 ∷ edge 0 9 10 9 ∷ [])

-- a level edge, and one that crosses it at (2.8, 3)
abbrev pub levelled : Page ShapeCountBoolean
levelled = raw 0 (places 16 16) (edge 0 3 10 3 ∷ edge 1 0 4 5 ∷ [])

-- an edge ends inside a vertical, and another passes above it
abbrev pub ending : Page ShapeCountBoolean
ending = raw 0 (places 16 16) (edge 0 0 8 3 ∷ edge 0 9 8 9 ∷ edge 8 0 8 6 ∷ [])

-- two edges that overlap, and count against each other
abbrev pub opposed : Page ShapeCountBoolean
opposed = raw 0 (places 16 16) (edge 0 0 6 0 ∷ segment back 2 0 9 0 ∷ [])

pub record WorkedSheets : Type 0 where
  -- a whole crossing: four pieces, and nothing is rounded
  pub crossed : DiagonalsCut (places 16 16)
  -- with the exponent 0 no end is near: (5,2) on both, rounded
  pub far : Cuts pairs_use (sloping 0) (mark 0 5 2 ∷ mark 1 5 2 ∷ []) (answer 3 2 true)
      (edge 0 0 5 2 ∷ edge 0 2 5 2 ∷ edge 0 9 10 9 ∷ edge 5 2 10 1 ∷ edge 5 2 10 3 ∷ []) Rounded 1
  -- with the exponent 5 the end (0,2) is near: it on the first edge alone
  pub near : Cuts pairs_use (sloping 5) (mark 0 0 2 ∷ []) (answer 3 1 true)
      (edge 0 0 0 2 ∷ edge 0 2 10 1 ∷ edge 0 2 10 3 ∷ edge 0 9 10 9 ∷ []) Rounded 6
  -- on a level target x is cut towards the first end
  pub cut_off : Cuts pairs_use levelled (mark 0 2 3 ∷ mark 1 2 3 ∷ []) (answer 1 2 true)
      (edge 0 3 2 3 ∷ edge 1 0 2 3 ∷ edge 2 3 4 5 ∷ edge 2 3 10 3 ∷ []) Rounded 1
  -- the grid gives one pair, and the end is marked on the vertical
  pub at_border : (grid_pairs (edges_box (ends ending)) 3 (ends ending) ≡ (0, 2) ∷ [])
      × Cuts grid_use ending (mark 2 8 3 ∷ []) (answer 1 1 false)
      (edge 0 0 8 3 ∷ edge 0 9 8 9 ∷ edge 8 0 8 3 ∷ edge 8 3 8 6 ∷ []) Clean 1
  -- where both edges pass, their counts leave nothing
  pub vanished : Cuts pairs_use opposed (mark 0 2 0 ∷ mark 1 6 0 ∷ []) (answer 1 2 false)
      (edge 0 0 2 0 ∷ segment back 6 0 9 0 ∷ []) Clean 1
  -- the rectangles of a sloping edge in three columns
  pub grids : WorkedGrids
  -- places for four edges and two marks are enough for the diagonals; with one edge or one mark less a round is refused
  pub rooms : DiagonalsCut (places 4 2)
      × Round boolean_kind pairs_use (diagonals (places 3 2)) (diagonals (places 3 2)) (Err PiecesFull)
      × Round boolean_kind pairs_use (diagonals (places 4 1)) (diagonals (places 4 1)) (Err MarksFull)
