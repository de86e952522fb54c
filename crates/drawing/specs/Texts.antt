-- The texts of drawings, by std's words for what is written of a number. A reading is exact: it gives what was written, and refuses all else.
use Rattle.std.specs.Prelude.{◌≡◌, ℕ, ◌^◌, ◌<◌, ◌≤◌, ◌≢◌, List, [], ◌∷◌, ◌++◌, map, length, Ok, Err, decimal, Result}
use Rattle.std.specs.Fmt.{signed_decimal}
use Rattle.std.specs.List.{flat_map, AllByRecursion}
use Rattle.plane.specs.Points.{Point, Ranged}
use Rattle.drawing.specs.declared.drawing.Drawing.{Drawing}
use Rattle.drawing.specs.declared.drawn_edge.DrawnEdge.{DrawnEdge}
use Rattle.drawing.specs.declared.fault.DrawingFault.{DrawingFault}
use Rattle.drawing.specs.declared.fault.DrawingFault.TheVariants.{Line, Memory}
use Rattle.drawing.specs.declared.reason.Reason.{Reason}
use Rattle.drawing.specs.Lines.{Drawn, drawn_between, drawn_as}
use Rattle.drawing.specs.Drawings.{drawn_in}

-- the exponent, a tab and the letter `P`
abbrev pub head_text : ℕ → List ℕ
head_text e = decimal e ++ (9 ∷ 80 ∷ [])

-- the two ends of an edge, as they are given
pub record Ends : Type 0 where
  pub p : Point
  pub q : Point

-- different points within range
pub record Sound (c : Ends) : Type 0 where
  pub first : Ranged c.p
  pub second : Ranged c.q
  pub different : c.p ≢ c.q

-- four numbers, parted by tabs
abbrev pub edge_text : Ends → List ℕ
edge_text c = signed_decimal c.p.x ++ (9 ∷ (signed_decimal c.p.y ++ (9 ∷ (signed_decimal c.q.x ++ (9 ∷ signed_decimal c.q.y)))))

-- the edge from p to q
abbrev pub drawn_with_ends : Ends → Drawn
drawn_with_ends c = drawn_between c.p c.q

-- a line for the exponent and one for each edge, each ended by LF
abbrev pub drawing_text : ℕ → List Ends → List ℕ
drawing_text e cs = (head_text e ++ (10 ∷ [])) ++ flat_map (λ c. edge_text c ++ (10 ∷ [])) cs

abbrev pub OnlyHead : List ℕ → Result ℕ Reason → Type 0
OnlyHead line (Ok e) = line ≡ head_text e
OnlyHead line (Err f) = (e : ℕ) → e < 2 ^ 32 → line ≢ head_text e

-- e is what the line of two points draws
pub record EdgeWritten (line : List ℕ) (e : Drawn) : Type 0 where
  pub ends : Ends
  pub sound : Sound ends
  pub text : line ≡ edge_text ends
  pub edge : e ≡ drawn_with_ends ends

abbrev pub OnlyEdge : List ℕ → Result DrawnEdge Reason → Type 0
OnlyEdge line (Ok d) = EdgeWritten line (drawn_as d)
OnlyEdge line (Err f) = (c : Ends) → Sound c → line ≢ edge_text c

-- the k-th edge is that of the k-th line after the first
pub record DrawingWritten (text : List ℕ) (e : ℕ) (es : List Drawn) : Type 0 where
  pub ends : List Ends
  pub sound : AllByRecursion Sound ends
  pub few : length ends ≤ 4096
  pub whole : text ≡ drawing_text e ends
  pub edges : es ≡ map drawn_with_ends ends

abbrev pub OnlyDrawing : List ℕ → Result Drawing DrawingFault → Type 0
OnlyDrawing text (Ok d) = DrawingWritten text d.exponent (drawn_in d)
OnlyDrawing text (Err (Line n f)) = (e : ℕ) (cs : List Ends) → e < 2 ^ 32 → AllByRecursion Sound cs → length cs ≤ 4096 → text ≢ drawing_text e cs
OnlyDrawing text (Err Memory) = Unit {0}
