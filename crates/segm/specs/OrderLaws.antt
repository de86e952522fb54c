-- What the answers of a comparison say of points and edges, with the proofs.
use Rattle.std.specs.Prelude.{◌≡◌, ◌≤◌, ◌<ℤ◌, unsigned_abs}
use Rattle.std.specs.declared.cmp.Ordering.TheVariants.{Less, Equal, Greater}
use Rattle.std.specs.declared.cmp.Ordering.{Ordering}
use Rattle.std.proofs.Common.{sym, subst}
use mathlib.Core.HLevel.{is_prop→PathP}
use Rattle.std.proofs.Math.Bridge.{le_prop}
use Rattle.std.specs.Cmp.{IsTotalOrder, int_ranks, int_cmp_total, on_total, then_total}
use Rattle.std.specs.Ordering.{MatchOrdering, ordering_then, int_cmp}
use Rattle.plane.specs.Points.{Point, ◌≺◌, by_x, by_y}
use Rattle.plane.specs.Edges.{Edge, ◌⊏◌, by_first, by_second}
use Rattle.plane.specs.PointOf.{point_of}
use Rattle.plane.specs.declared.int_point.IntPoint.{IntPoint}
use Rattle.segm.specs.Orders.{point_order, edge_order}

pub same_point : (p q : IntPoint) → point_of p ≡ point_of q → p ≡ q
same_point p q e = λ i. record {
  x = (e i).x;
  y = (e i).y;
  wide = is_prop→PathP (λ i. unsigned_abs (e i).x ≤ 524288) (λ i. le_prop) p.wide q.wide i;
  high = is_prop→PathP (λ i. unsigned_abs (e i).y ≤ 524288) (λ i. le_prop) p.high q.high i;
}

-- how two points stand to each other
abbrev pub Stands : Ordering → Point → Point → Type 0
Stands o p q = MatchOrdering o (p ≺ q) (p ≡ q) (q ≺ p)

point_ranked : (p q : Point) (m n : Ordering) → MatchOrdering m (p.x <ℤ q.x) (p.x ≡ q.x) (q.x <ℤ p.x) → MatchOrdering n (p.y <ℤ q.y) (p.y ≡ q.y) (q.y <ℤ p.y) → Stands (ordering_then m n) p q
point_ranked p q Less n h k = by_x h
point_ranked p q Equal Less h k = by_y h k
point_ranked p q Equal Equal h k = λ i. record { x = h i; y = k i }
point_ranked p q Equal Greater h k = by_y (sym h) k
point_ranked p q Greater n h k = by_x h

pub points_ranked : (p q : Point) → Stands (point_order p q) p q
points_ranked p q = point_ranked p q (int_cmp p.x q.x) (int_cmp p.y q.y) (int_ranks p.x q.x) (int_ranks p.y q.y)

edge_ranked : (e g : Edge) (m n : Ordering) → Stands m e.a g.a → Stands n e.b g.b → MatchOrdering (ordering_then m n) (e ⊏ g) (e ≡ g) (g ⊏ e)
edge_ranked e g Less n h k = by_first h
edge_ranked e g Equal Less h k = by_second h k
edge_ranked e g Equal Equal h k = λ i. record { a = h i; b = k i }
edge_ranked e g Equal Greater h k = by_second (sym h) k
edge_ranked e g Greater n h k = by_first h

pub edges_ranked : (e g : Edge) → MatchOrdering (edge_order e g) (e ⊏ g) (e ≡ g) (g ⊏ e)
edges_ranked e g = edge_ranked e g (point_order e.a g.a) (point_order e.b g.b) (points_ranked e.a g.a) (points_ranked e.b g.b)

pub equal_points : (p q : Point) → point_order p q ≡ Equal → p ≡ q
equal_points p q e = subst (λ o. Stands o p q) e (points_ranked p q)

pub equal_edges : (e g : Edge) → edge_order e g ≡ Equal → e ≡ g
equal_edges e g h = subst (λ o. MatchOrdering o (e ⊏ g) (e ≡ g) (g ⊏ e)) h (edges_ranked e g)

-- both orders are total
pub point_total : IsTotalOrder point_order
point_total = then_total (on_total (λ (p : Point). p.x) int_cmp_total) (on_total (λ (p : Point). p.y) int_cmp_total)

pub edge_total : IsTotalOrder edge_order
edge_total = then_total (on_total (λ (e : Edge). e.a) point_total) (on_total (λ (e : Edge). e.b) point_total)
