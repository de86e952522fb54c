-- The words of a refusal.
use Rattle.std.specs.Prelude.{ℕ, List, ◌++◌, codes, decimal}
use Rattle.drawing.specs.declared.fault.DrawingFault.{DrawingFault}
use Rattle.drawing.specs.declared.fault.DrawingFault.TheVariants.{Line, Memory}
use Rattle.drawing.specs.declared.reason.Reason.{Reason}
use Rattle.drawing.specs.declared.reason.Reason.TheVariants.{HeadForm, EdgeForm, NumberTooLarge, CoordinateOutside, EndsEqual, TooManyEdges}

abbrev pub words : Reason → List ℕ
words HeadForm = codes "not an exponent and a finder letter"
words EdgeForm = codes "not four numbers parted by tabs"
words NumberTooLarge = codes "a number is beyond 32 bits"
words CoordinateOutside = codes "a coordinate is outside -524288 to 524288"
words EndsEqual = codes "the ends are equal"
words TooManyEdges = codes "more than 4096 edges"

abbrev pub fault_words : DrawingFault → List ℕ
fault_words (Line n reason) = codes "line " ++ (decimal n ++ (codes ": " ++ words reason))
fault_words Memory = codes "memory ran out"
