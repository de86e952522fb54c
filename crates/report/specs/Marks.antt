-- The marks of a list of edges at the snap exponent s: on each edge, those of its crossings with all edges.
use Rattle.std.specs.Prelude.{◌≡◌, ℕ, suc, Bool, false, ◌||◌, List, [], ◌∷◌, ◌++◌, map}
use Rattle.plane.specs.Edges.{Edge}
use Rattle.plane.specs.Models.{edge_of}
use Rattle.plane.specs.Rules.{marked_on, rounded?}
use Rattle.drawing.specs.declared.drawn_edge.DrawnEdge.{DrawnEdge}
use Rattle.segm.specs.Marked as listing
use Rattle.segm.specs.Spots.{Spot, spots, at_one?}
use Rattle.segm.specs.declared.line_mark.LineMark.{LineMark}

-- the edge that a line draws
abbrev pub edge_in : DrawnEdge → Edge
edge_in d = edge_of d.edge

abbrev pub edges_of : List DrawnEdge → List Edge
edges_of ds = map edge_in ds

-- what the crossings of e, which is edge i, with some edges mark on it
abbrev pub marks_on : ℕ → ℕ → Edge → List Edge → List Spot
marks_on s i e [] = []
marks_on s i e (g ∷ gs) = spots i (marked_on e g s) ++ marks_on s i e gs

-- one of them is rounded
abbrev pub rounded_on? : ℕ → Edge → List Edge → Bool
rounded_on? s e [] = false
rounded_on? s e (g ∷ gs) = rounded? e g s || rounded_on? s e gs

-- the crossings of edges that are numbered from i with the edges gs
abbrev pub all_marks : ℕ → List Edge → ℕ → List Edge → List Spot
all_marks s gs i [] = []
all_marks s gs i (e ∷ es) = marks_on s i e gs ++ all_marks s gs (suc i) es

abbrev pub any_rounded? : ℕ → List Edge → List Edge → Bool
any_rounded? s gs [] = false
any_rounded? s gs (e ∷ es) = rounded_on? s e gs || any_rounded? s gs es

-- the crossing of an edge with itself marks nothing, and is not rounded
abbrev pub Alone : Type 0
Alone = (s : ℕ) (e : Edge) → (marked_on e e s ≡ []) × (rounded? e e s ≡ false)

-- ms lists just the marks of all crossings, in strict order, and the flag tells whether one is rounded
pub record Marked (s : ℕ) (es : List Edge) (ms : List LineMark) (rounded : Bool) : Type 0 where
  pub marks : listing.Marked (at_one? (all_marks s es 0 es)) ms
  pub flag : rounded ≡ any_rounded? s es es
