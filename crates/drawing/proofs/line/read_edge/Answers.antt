use Rattle.std.proofs.Common.{◌≡◌, Ok, Err, is_ok, sym, ap, ◌∙◌, subst, rules}
use Rattle.plane.specs.Points.{Ranged}
use Rattle.plane.specs.PointOf.{point_of}
use Rattle.plane.specs.Models.{MadeEdge}
use Rattle.plane.specs.declared.int_point.IntPoint.{IntPoint}
use Rattle.drawing.specs.declared.drawn_edge.DrawnEdge.{DrawnEdge}
use Rattle.drawing.specs.declared.reason.Reason.TheVariants.{CoordinateOutside, EndsEqual}
use Rattle.drawing.specs.Lines.{edge_with, edge_from, edge_line, parts, point, read_as, two_points}
use Rattle.drawing.proofs.Texts.{edge_only}
use Rattle.drawing.proofs.Lines.{first_outside, second_outside, ends_same, ends_equal, edge_made}
use Rattle.drawing.proofs.line.read_edge.Goals as goal
use Rattle.drawing.proofs.line.read_edge.Goals.{In_ok-p, In_ok-q}

-- the line says what its two points do
edge_is : (c : In_ok-p) → edge_from (point c.in_ok-p.p) (point c.in_ok-p.q) ≡ edge_line c.args.line.now
edge_is c =
    let points : Ok (c.in_ok-p.p, c.in_ok-p.q) ≡ two_points (parts c.args.line.now) = search rules in
    ap edge_with points

-- both points are within range
edge_of_both : (c : In_ok-q) → edge_from (point c.in_ok-p.p) (point c.in_ok-p.q) ≡ edge_line c.args.line.now → edge_from (point_of c.in_ok-p-2.p) (point_of c.in_ok-q.q) ≡ edge_line c.args.line.now
edge_of_both c is = (λ i. edge_from (c.in_ok-p-2.ensures i) (c.in_ok-q.ensures i)) ∙ is

ranged : (p : IntPoint) → Ranged (point_of p)
ranged p = record { wide = p.wide; high = p.high }

pub returns-in_err-p-clause-written : goal.returns-in_err-p-clause-written
returns-in_err-p-clause-written c = edge_only c.args.line.now c.from_residual.result (search rules)

pub returns-in_err-p-2 : goal.returns-in_err-p-2
returns-in_err-p-2 c =
    let outside : c.from_residual-in_err-p-2.result ≡ Err CoordinateOutside = search rules in
    let said =
    ap read_as outside
    ∙ sym (first_outside (point c.in_ok-p.p) (point c.in_ok-p.q) c.in_err-p-2.ensures.1)
    ∙ edge_is (goal.at.returns-in_err-p-2 c).In_ok-p in
    record { said = said; written = edge_only c.args.line.now c.from_residual-in_err-p-2.result said }

pub returns-in_err-q : goal.returns-in_err-q
returns-in_err-q c =
    let outside : c.from_residual-in_err-q.result ≡ Err CoordinateOutside = search rules in
    let said =
    ap read_as outside
    ∙ sym (second_outside (point c.in_ok-p.p) (point c.in_ok-p.q) c.in_err-q.ensures.1)
    ∙ edge_is (goal.at.returns-in_err-q c).In_ok-p in
    record { said = said; written = edge_only c.args.line.now c.from_residual-in_err-q.result said }

pub returns-in_err-edge : goal.returns-in_err-edge
returns-in_err-edge c =
    let p = c.in_ok-p-2.p in
    let q = c.in_ok-q.q in
    let equal : c.from_residual-in_err-edge.result ≡ Err EndsEqual = search rules in
    let same = ends_same (point_of p) (point_of q) c.new.result (sym c.map_err-2.ensures.variant ∙ ap is_ok c.in_err-edge.was) c.new.ensures in
    let said =
    ap read_as equal
    ∙ sym (ends_equal (point_of p) (point_of q) (ranged p) (ranged q) same)
    ∙ edge_of_both (goal.at.returns-in_err-edge c).In_ok-q (edge_is (goal.at.returns-in_err-edge c).In_ok-p) in
    record { said = said; written = edge_only c.args.line.now c.from_residual-in_err-edge.result said }

pub returns : goal.returns
returns c =
    let p = c.in_ok-p-2.p in
    let q = c.in_ok-q.q in
    let made : c.new.result ≡ Ok c.in_ok-edge.edge = search rules in
    let drawn : DrawnEdge = record { edge = c.in_ok-edge.edge; is_turned = c.is_before.result } in
    let said =
    sym (edge_made (point_of p) (point_of q) drawn (ranged p) (ranged q) (subst (MadeEdge (point_of p) (point_of q)) made c.new.ensures) c.is_before.ensures)
    ∙ edge_of_both (goal.at.returns c).In_ok-q (edge_is (goal.at.returns c).In_ok-p) in
    record { said = said; written = edge_only c.args.line.now (Ok drawn) said }
