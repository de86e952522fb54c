-- The pieces of edges that are cut at marks, and the list that they make.
use Rattle.std.specs.Prelude.{ℕ, suc, cond, List, [], ◌∷◌, ◌++◌, ◌==◌}
use Rattle.plane.specs.declared.int_point.IntPoint.{IntPoint}
use Rattle.segm.specs.Counts.{CountKind}
use Rattle.segm.specs.Segments.{directed}
use Rattle.segm.specs.Balance.{Counting, count_at}
use Rattle.segm.specs.declared.line_mark.LineMark.{LineMark}
use Rattle.segm.specs.declared.segment.Segment.{Segment}
use Rattle.rounds.specs.Placing.{placed}

-- the points that are marked on edge i
abbrev pub points_on : ℕ → List LineMark → List IntPoint
points_on i [] = []
points_on i (m ∷ ms) = cond (m.index == i) (m.point ∷ points_on i ms) (points_on i ms)

module _ {C : Type 0} (K : CountKind C) where
  -- from point to point, each piece turned where its second end comes before its first
  abbrev pub pieces : C → IntPoint → List IntPoint → List (Segment C)
  pieces c p [] = []
  pieces c p (q ∷ l) = directed K (record { a = p; b = q; count = c }) ∷ pieces c q l

  -- the pieces of one edge
  abbrev pub cut : Segment C → List IntPoint → List (Segment C)
  cut s ps = pieces s.count s.a (placed s.a s.b ps ++ (s.b ∷ []))

  -- the pieces of edges that are numbered from i
  abbrev pub cut_from : ℕ → List LineMark → List (Segment C) → List (Segment C)
  cut_from i ms [] = []
  cut_from i ms (s ∷ l) = cut s (points_on i ms) ++ cut_from (suc i) ms l

  -- the list that all pieces make: in strict order, at each edge the sum of their counts, none empty
  abbrev pub CutList : List LineMark → List (Segment C) → List (Segment C) → Type 0
  CutList ms l after = Counting K (λ e. count_at K e (cut_from 0 ms l)) after
