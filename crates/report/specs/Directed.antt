-- The edges of a drawing as segments: each, as its line directs it, counts one for the subject.
use Rattle.std.specs.Prelude.{Bool, true, false, List, map, pos, negsuc}
use Rattle.std.proofs.Common.{lit<}
use Rattle.drawing.specs.declared.drawn_edge.DrawnEdge.{DrawnEdge}
use Rattle.segm.specs.declared.boolean.ShapeCountBoolean.{ShapeCountBoolean}
use Rattle.segm.specs.declared.segment.Segment.{Segment}

-- one for the subject; a turned edge is passed the other way
abbrev pub subject_count : Bool → ShapeCountBoolean
subject_count false = record { subj = pos 1; clip = pos 0; subj_fits = lit< tt; clip_fits = lit< tt }
subject_count true = record { subj = negsuc 0; clip = pos 0; subj_fits = lit< tt; clip_fits = lit< tt }

abbrev pub directed_edge : DrawnEdge → Segment ShapeCountBoolean
directed_edge d = record { a = d.edge.a; b = d.edge.b; count = subject_count d.is_turned }

abbrev pub directed_edges : List DrawnEdge → List (Segment ShapeCountBoolean)
directed_edges ds = map directed_edge ds
