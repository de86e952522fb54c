-- The segment of a put.
use Rattle.std.proofs.Common.{◌≡◌, Bool, true, false, cond, not, ◌&&◌, nat_abs, Some, None, Ok, Ordering, Less, Equal, Greater, sym, refl, ap, ◌∙◌, subst}
use Rattle.std.specs.Ordering.{is_eq, is_gt}
use Rattle.std.proofs.lemmas.Bool.{both_ways, le-leb}
use Rattle.plane.specs.Points.{Point, before?}
use Rattle.plane.specs.PointOf.{point_of}
use Rattle.plane.specs.declared.fault.Fault.TheVariants.{EndsEqual, CoordinateOutside, CountEmpty}
use Rattle.plane.specs.declared.int_point.IntPoint.{IntPoint}
use Rattle.plane.proofs.Tests.{before_yes, before_true}
use Rattle.finder.specs.Finders.{in_range?}
use Rattle.segm.specs.Counts.{CountKind}
use Rattle.segm.specs.Orders.{point_order}
use Rattle.segm.specs.OrderLaws.{Stands, points_ranked, equal_points}
use Rattle.segm.specs.Segments.{ends_of, turned_of, directed}
use Rattle.segm.specs.declared.segment.Segment.{Segment}
use Rattle.sheet.specs.Models.{Directed}
use Rattle.plane.proofs.Points.{never, weaken, apart}

-- after, by the comparison and by the test
turns : (p q : Point) → is_gt (point_order p q) ≡ before? q p
turns p q = go (point_order p q) (points_ranked p q) (before? q p) refl
  where
    go : (o : Ordering) → Stands o p q → (b : Bool) → before? q p ≡ b → is_gt o ≡ b
    go Less r true e = absurd (never r (weaken (before_yes q p e)))
    go Less r false e = refl
    go Equal r true e = absurd (apart (before_yes q p e) (sym r))
    go Equal r false e = refl
    go Greater r true e = refl
    go Greater r false e = absurd (both_ways (before? q p) e (before_true q p r))

unequal : (p q : Point) → (p ≡ q → ⊥) → is_eq (point_order p q) ≡ false
unequal p q n = go (point_order p q) refl
  where
    go : (o : Ordering) → point_order p q ≡ o → is_eq o ≡ false
    go Less e = refl
    go Equal e = absurd (n (equal_points p q e))
    go Greater e = refl

in_range : (p : Point) (a : IntPoint) → point_of a ≡ p → in_range? p ≡ true
in_range p a e = subst (λ z. in_range? z ≡ true) e (λ i. le-leb (nat_abs a.x) 524288 a.wide i && le-leb (nat_abs a.y) 524288 a.high i)

module _ {C : Type 0} (K : CountKind C) where
  pub directed_ok : (p q : Point) (c : C) (a b : IntPoint) (s : Segment C) → (p ≡ q → ⊥) → point_of a ≡ p → point_of b ≡ q → K.empty? c ≡ false
      → s ≡ directed K (record { a = a; b = b; count = c }) → Directed K p q c (Ok s)
  directed_ok p q c a b s ne ea eb filled is = (
    λ i. cond (unequal p q ne i) (Some EndsEqual) (cond (not (in_range p a ea i && in_range q b eb i)) (Some CoordinateOutside) (cond (filled i) (Some CountEmpty) None)),
    ap ends_of is ∙ ends (is_gt (point_order (point_of a) (point_of b))) (before? q p) same,
    ap (λ (x : Segment C). x.count) is ∙ count (is_gt (point_order (point_of a) (point_of b))) (before? q p) same,
  )
    where
      same : is_gt (point_order (point_of a) (point_of b)) ≡ before? q p
      same = (λ i. is_gt (point_order (ea i) (eb i))) ∙ turns p q

      ends : (x y : Bool) → x ≡ y → ends_of (cond x (turned_of K (record { a = a; b = b; count = c })) (record { a = a; b = b; count = c })) ≡ cond y (record { a = q; b = p }) (record { a = p; b = q })
      ends x true e = ap (λ (z : Bool). ends_of (cond z (turned_of K (record { a = a; b = b; count = c })) (record { a = a; b = b; count = c }))) e ∙ (λ i. record { a = eb i; b = ea i })
      ends x false e = ap (λ (z : Bool). ends_of (cond z (turned_of K (record { a = a; b = b; count = c })) (record { a = a; b = b; count = c }))) e ∙ (λ i. record { a = ea i; b = eb i })

      count : (x y : Bool) → x ≡ y → (cond x (turned_of K (record { a = a; b = b; count = c })) (record { a = a; b = b; count = c })).count ≡ cond y (K.inverse c) c
      count x true e = ap (λ (z : Bool). (cond z (turned_of K (record { a = a; b = b; count = c })) (record { a = a; b = b; count = c })).count) e
      count x false e = ap (λ (z : Bool). (cond z (turned_of K (record { a = a; b = b; count = c })) (record { a = a; b = b; count = c })).count) e

pub filled_is : (b : Bool) → true ≡ not b → b ≡ false
filled_is true e = absurd (both_ways true e refl)
filled_is false e = refl
