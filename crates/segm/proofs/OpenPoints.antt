-- There is one list of open points, and so one number.
use Rattle.std.proofs.Common.{◌≡◌, Bool, true, false, cond, ◌||◌, List, [], ◌∷◌, length, pos, is_some, IfSome, Some, None, Option, Ordering, Less, Equal, Greater, sym, refl, ap, ◌∙◌}
use Rattle.std.specs.Ordering.{is_eq}
use Rattle.std.specs.List.{AllByRecursion}
use Rattle.std.proofs.ByRecursion.{All-weaker}
use Rattle.table.specs.Records.{RecordKind}
use Rattle.table.specs.Listings.{Ascending, record_at}
use Rattle.table.proofs.Orders.{found}
use Rattle.table.proofs.Laws.{same_values}
use Rattle.plane.specs.Points.{Point, ◌≺◌}
use Rattle.plane.proofs.Points.{weaken, never, apart}
use Rattle.segm.specs.Counts.{CountKind}
use Rattle.segm.specs.Orders.{point_order}
use Rattle.segm.specs.OrderLaws.{Stands, points_ranked, equal_points, point_total}
use Rattle.segm.specs.CornerKind.{point_itself}
use Rattle.segm.specs.Open.{Rising, listed?, OpenDetermines}

before_ranked : (p q : Point) (o : Ordering) → Stands o p q → p ≺ q → o ≡ Less
before_ranked p q Less s h = refl
before_ranked p q Equal s h = absurd (apart h s)
before_ranked p q Greater s h = absurd (never h (weaken s))

-- points as records
point_kind : RecordKind Point
point_kind = record {
  order = point_order;
  joined = λ p q. p;
  empty? = λ p. false;
  blank = record { x = pos 0; y = pos 0 };
  flip = λ p q. point_total.antisymm p q;
  trans = λ p q r. point_total.trans p q r;
  alike = λ p q r. point_total.congr p q r;
  keeps = λ p q e. point_itself p;
  comm = equal_points;
  assoc = λ p q r e h. refl;
  neutral = λ p q e h. refl;
}

ascending_points : (l : List Point) → Rising l → Ascending point_kind l
unfolding point_kind
ascending_points [] h = tt
ascending_points (p ∷ l) h = (All-weaker (λ q. p ≺ q) _ (λ q s. before_ranked p q (point_order p q) (points_ranked p q) s) l h.0, ascending_points l h.1)

filled_points : (l : List Point) → AllByRecursion (λ p. point_kind.empty? p ≡ false) l
unfolding point_kind
filled_points [] = tt
filled_points (p ∷ l) = (refl, filled_points l)

listed_found : (l : List Point) (p : Point) → listed? l p ≡ is_some (record_at point_kind l p)
unfolding point_kind
listed_found [] p = refl
listed_found (q ∷ l) p = go (is_eq (point_order p q)) (listed_found l p)
  where
    go : (b : Bool) → listed? l p ≡ is_some (record_at point_kind l p) → (b || listed? l p) ≡ is_some (cond b (Some q) (record_at point_kind l p))
    go true rest = refl
    go false rest = rest

same_found : (p : Point) (o u : Option Point) → IfSome o (λ q. (point_kind.order p q ≡ Equal) × (point_kind.empty? q ≡ false))
    → IfSome u (λ q. (point_kind.order p q ≡ Equal) × (point_kind.empty? q ≡ false)) → is_some o ≡ is_some u → o ≡ u
unfolding point_kind
same_found p None None f g e = refl
same_found p None (Some q) f g e = cc
same_found p (Some q) None f g e = cc
same_found p (Some q) (Some r) f g e = ap Some (sym (equal_points p q f.0) ∙ equal_points p r g.0)

-- a test has one list of points
one_list : (l m : List Point) → Rising l → Rising m → ((p : Point) → listed? l p ≡ listed? m p) → l ≡ m
one_list l m h k e =
    same_values point_kind l m (ascending_points l h) (ascending_points m k)
    (λ p. same_found p (record_at point_kind l p) (record_at point_kind m p) (found point_kind l p (filled_points l)) (found point_kind m p (filled_points m))
    (sym (listed_found l p) ∙ e p ∙ listed_found m p))

pub open_determined : {C : Type 0} (K : CountKind C) → OpenDetermines K
open_determined K l m n h k =
    sym h.many ∙ ap length (one_list h.points k.points h.rising k.rising (λ p. h.just p ∙ sym (k.just p))) ∙ k.many
