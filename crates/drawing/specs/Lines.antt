-- What a line of a drawing says, or why it is refused.
use Rattle.std.specs.Prelude.{ℕ, Bool, cond, ◌&&◌, ◌||◌, List, [], ◌∷◌, ℤ, Ok, Err, Result, nat_le, unsigned_abs}
use Rattle.std.specs.Str.{bytes_eq}
use Rattle.plane.specs.Points.{Point, before?}
use Rattle.plane.specs.Edges.{Edge}
use Rattle.plane.specs.Models.{edge_of, edge_between}
use Rattle.drawing.specs.declared.drawn_edge.DrawnEdge.{DrawnEdge}
use Rattle.drawing.specs.declared.number.NumberFault.{NumberFault}
use Rattle.drawing.specs.declared.number.NumberFault.TheVariants.{Form, TooLarge}
use Rattle.drawing.specs.declared.reason.Reason.{Reason}
use Rattle.drawing.specs.declared.reason.Reason.TheVariants.{HeadForm, EdgeForm, NumberTooLarge, CoordinateOutside, EndsEqual}
use Rattle.drawing.specs.Numbers.{unsigned_of, signed_of}
use Rattle.drawing.specs.Fields.{fields}

-- tabs part the fields of a line
abbrev pub parts : List ℕ → List (List ℕ)
parts line = fields 9 line

abbrev pub reason_of : NumberFault → Reason → Reason
reason_of Form form = form
reason_of TooLarge form = NumberTooLarge

-- a number as the exponent
abbrev pub exponent_of : Result ℕ NumberFault → Result ℕ Reason
exponent_of (Ok e) = Ok e
exponent_of (Err f) = Err (reason_of f HeadForm)

-- two fields: the exponent and the letter `P`
abbrev pub head_of : List (List ℕ) → Result ℕ Reason
head_of [] = Err HeadForm
head_of (a ∷ []) = Err HeadForm
head_of (a ∷ b ∷ []) = cond (bytes_eq b (80 ∷ [])) (exponent_of (unsigned_of a)) (Err HeadForm)
head_of (a ∷ b ∷ c ∷ fs) = Err HeadForm

abbrev pub head_line : List ℕ → Result ℕ Reason
head_line line = head_of (parts line)

-- two readings as one; a wrong form is told before a number that is too large
abbrev pub together : {X Y : Type 0} → Result X NumberFault → Result Y NumberFault → Result (X × Y) NumberFault
together (Ok a) (Ok b) = Ok (a, b)
together (Ok a) (Err f) = Err f
together (Err f) (Ok b) = Err f
together (Err Form) (Err g) = Err Form
together (Err TooLarge) (Err g) = Err g

-- four fields: the coordinates of two points
abbrev pub two_points : List (List ℕ) → Result ((ℤ × ℤ) × (ℤ × ℤ)) NumberFault
two_points [] = Err Form
two_points (a ∷ []) = Err Form
two_points (a ∷ b ∷ []) = Err Form
two_points (a ∷ b ∷ c ∷ []) = Err Form
two_points (a ∷ b ∷ c ∷ d ∷ []) = together (together (signed_of a) (signed_of b)) (together (signed_of c) (signed_of d))
two_points (a ∷ b ∷ c ∷ d ∷ e ∷ fs) = Err Form

abbrev pub ranged? : Point → Bool
ranged? p = nat_le (unsigned_abs p.x) 524288 && nat_le (unsigned_abs p.y) 524288

-- different points: one comes before the other
abbrev pub apart? : Point → Point → Bool
apart? p q = before? p q || before? q p

-- an edge, and whether it is turned: its line gives the second end first
pub record Drawn : Type 0 where
  pub edge : Edge
  pub turned : Bool

-- from p to q, the ends put in order
abbrev pub drawn_between : Point → Point → Drawn
drawn_between p q = record { edge = edge_between p q; turned = before? q p }

-- what two points draw
abbrev pub edge_from : Point → Point → Result Drawn Reason
edge_from p q =
    cond (ranged? p && ranged? q)
    (cond (apart? p q) (Ok (drawn_between p q)) (Err EndsEqual))
    (Err CoordinateOutside)

abbrev pub point : ℤ × ℤ → Point
point c = record { x = c.0; y = c.1 }

abbrev pub edge_with : Result ((ℤ × ℤ) × (ℤ × ℤ)) NumberFault → Result Drawn Reason
edge_with (Ok c) = edge_from (point c.0) (point c.1)
edge_with (Err f) = Err (reason_of f EdgeForm)

abbrev pub edge_line : List ℕ → Result Drawn Reason
edge_line line = edge_with (two_points (parts line))

abbrev pub drawn_as : DrawnEdge → Drawn
drawn_as d = record { edge = edge_of d.edge; turned = d.is_turned }

abbrev pub read_as : Result DrawnEdge Reason → Result Drawn Reason
read_as (Ok d) = Ok (drawn_as d)
read_as (Err f) = Err f
