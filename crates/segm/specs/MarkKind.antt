-- Marks as records of a table, with the proofs of the laws: equal marks are one.
use Rattle.std.specs.Prelude.{◌≡◌, ◌<◌, false, refl}
use Rattle.std.specs.declared.cmp.Ordering.TheVariants.{Less, Equal, Greater}
use Rattle.std.specs.declared.cmp.Ordering.{Ordering}
use Rattle.std.proofs.Common.{subst}
use Rattle.std.specs.Cmp.{IsTotalOrder, nat_cmp_total, on_total, then_total, ranks}
use Rattle.std.specs.Ordering.{MatchOrdering, ordering_then, nat_cmp}
use Rattle.table.specs.Records.{RecordKind}
use Rattle.table.proofs.Orders.{balanced}
use Rattle.plane.specs.PointOf.{point_of}
use Rattle.segm.specs.Orders.{point_order}
use Rattle.segm.specs.OrderLaws.{same_point, equal_points, point_total}
use Rattle.segm.specs.Marks.{mark_order, blank_mark}
use Rattle.segm.specs.declared.line_mark.LineMark.{LineMark}

pub equal_parts : (m n : LineMark) (o : Ordering) → nat_cmp m.index n.index ≡ o → ordering_then o (point_order (point_of m.point) (point_of n.point)) ≡ Equal → m ≡ n
equal_parts m n Less e h = cc
equal_parts m n Equal e h =
    let one : m.index ≡ n.index = subst (λ o. MatchOrdering o (m.index < n.index) (m.index ≡ n.index) (n.index < m.index)) e (ranks m.index n.index) in
    let other = same_point m.point n.point (equal_points (point_of m.point) (point_of n.point) h) in
    λ i. record { index = one i; point = other i }
equal_parts m n Greater e h = cc

pub equal_marks : (m n : LineMark) → mark_order m n ≡ Equal → m ≡ n
equal_marks m n e = equal_parts m n (nat_cmp m.index n.index) refl e

pub mark_total : IsTotalOrder mark_order
mark_total = then_total (on_total (λ (m : LineMark). m.index) nat_cmp_total) (on_total (λ (m : LineMark). point_of m.point) point_total)

pub mark_itself : (m : LineMark) → mark_order m m ≡ Equal
mark_itself m = balanced (mark_order m m) (mark_total.antisymm m m)

abbrev pub mark_kind : RecordKind LineMark
mark_kind = record {
  order = mark_order;
  joined = λ m n. m;
  empty? = λ m. false;
  blank = blank_mark;
  flip = λ m n. mark_total.antisymm m n;
  trans = λ m n o. mark_total.trans m n o;
  alike = λ m n o. mark_total.congr m n o;
  keeps = λ m n e. mark_itself m;
  comm = equal_marks;
  assoc = λ m n o e h. refl;
  neutral = λ m n e h. refl;
}
