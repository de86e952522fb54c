-- What a text says: a drawing, or the first line that is refused and why.
use Rattle.std.specs.Prelude.{◌≡◌, ℕ, suc, cond, List, [], ◌∷◌, map, Ok, Err, vec_items, Result, nat_le}
use Rattle.drawing.specs.declared.fault.DrawingFault.{DrawingFault}
use Rattle.drawing.specs.declared.fault.DrawingFault.TheVariants.{Line, Memory}
use Rattle.drawing.specs.declared.drawing.Drawing.{Drawing}
use Rattle.drawing.specs.declared.drawn_edge.DrawnEdge.{DrawnEdge}
use Rattle.drawing.specs.declared.reason.Reason.{Reason}
use Rattle.drawing.specs.declared.reason.Reason.TheVariants.{HeadForm, EdgeForm, TooManyEdges}
use Rattle.drawing.specs.Fields.{fields}
use Rattle.drawing.specs.Lines.{head_line, edge_line, Drawn, drawn_as}

-- the lines of a text, each ended by LF, and last what follows the last LF
abbrev pub lines : List ℕ → List (List ℕ)
lines text = fields 10 text

-- the number of the line that is refused, and why
abbrev pub Bad : Type 0
Bad = ℕ × Reason

-- an edge before others
abbrev pub before : Drawn → Result (List Drawn) Bad → Result (List Drawn) Bad
before e (Ok es) = Ok (e ∷ es)
before e (Err f) = Err f

-- what line n says, before what the lines after it say; lines 2 to 4097 have room for an edge
abbrev pub edge_then : ℕ → Result Drawn Reason → Result (List Drawn) Bad → Result (List Drawn) Bad
edge_then n (Ok e) rest = cond (nat_le n 4097) (before e rest) (Err (n, TooManyEdges))
edge_then n (Err f) rest = Err (n, f)

-- nothing follows the last LF
abbrev pub last_line : ℕ → List ℕ → Result (List Drawn) Bad
last_line n [] = Ok []
last_line n (b ∷ bs) = Err (n, EdgeForm)

-- the edges of the lines from number n on
abbrev pub edges_from : ℕ → List (List ℕ) → Result (List Drawn) Bad
edges_from n [] = Ok []
edges_from n (l ∷ []) = last_line n l
edges_from n (l ∷ m ∷ ls) = edge_then n (edge_line l) (edges_from (suc n) (m ∷ ls))

abbrev pub with_edges : Result ℕ Reason → Result (List Drawn) Bad → Result (ℕ × List Drawn) Bad
with_edges (Ok e) (Ok es) = Ok (e, es)
with_edges (Ok e) (Err f) = Err f
with_edges (Err f) rest = Err (1, f)

-- a first line, and the lines of the edges
abbrev pub drawing_from : List (List ℕ) → Result (ℕ × List Drawn) Bad
drawing_from [] = Err (1, HeadForm)
drawing_from (l ∷ []) = Err (1, HeadForm)
drawing_from (l ∷ m ∷ ls) = with_edges (head_line l) (edges_from 2 (m ∷ ls))

abbrev pub drawing_of : List ℕ → Result (ℕ × List Drawn) Bad
drawing_of text = drawing_from (lines text)

-- edges as their lines draw them
abbrev pub drawn : List DrawnEdge → List Drawn
drawn es = map drawn_as es

abbrev pub drawn_in : Drawing → List Drawn
drawn_in d = drawn (vec_items d.edges)

-- r is what the text says, unless memory ran out
abbrev pub Tells : Result Drawing DrawingFault → Result (ℕ × List Drawn) Bad → Type 0
Tells (Ok d) said = said ≡ Ok (d.exponent, drawn_in d)
Tells (Err (Line n f)) said = said ≡ Err (n, f)
Tells (Err Memory) said = Unit {0}
