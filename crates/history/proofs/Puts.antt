-- The edge that an accepted put brings.
use Rattle.std.proofs.Common.{◌≡◌, ℕ, Bool, true, false, cond, not, ◌&&◌, leb, List, length, nat_abs, Some, None, Ordering, Less, Equal, Greater, refl, ap, ◌∙◌, arith}
use Rattle.std.specs.Ordering.{is_eq}
use Rattle.std.proofs.lemmas.Bool.{both_ways, leb-true, and_parts}
use Rattle.plane.specs.Points.{Point, before?}
use Rattle.plane.specs.Edges.{Edge, Proper}
use Rattle.plane.specs.Models.{edge_between}
use Rattle.plane.specs.declared.fault.Fault.TheVariants.{EndsEqual, CoordinateOutside, CountEmpty, SheetFull}
use Rattle.plane.specs.declared.int_point.IntPoint.{IntPoint}
use Rattle.plane.proofs.Tests.{before_yes, before_true}
use Rattle.finder.specs.Finders.{in_range?}
use Rattle.segm.specs.Counts.{CountKind}
use Rattle.segm.specs.Orders.{point_order, edge_order}
use Rattle.segm.specs.OrderLaws.{Stands, points_ranked}
use Rattle.segm.specs.Segments.{ends_of, turned_of}
use Rattle.segm.specs.Balance.{when, counts, brings, count_at, Counting}
use Rattle.segm.specs.declared.segment.Segment.{Segment}
use Rattle.segm.proofs.Brings.{brings_turned}
use Rattle.history.specs.Sheets.{Page, edge_places, listed?, put_refusal, put_counts, put_brings}

-- what the checks of a put leave
pub record Accepted {C : Type 0} (p q : Point) (s : Page C) : Type 0 where
  pub apart : is_eq (point_order p q) ≡ false
  pub first : in_range? p ≡ true
  pub second : in_range? q ≡ true
  pub roomy : (not (listed? (edge_between p q) s.edges) && leb (edge_places s.lengths) (length s.edges)) ≡ false

-- no check refuses
passed : (a b c d e : Bool) → cond a (Some EndsEqual) (cond (not (b && c)) (Some CoordinateOutside) (cond d (Some CountEmpty) (cond e (Some SheetFull) None))) ≡ None
    → (a ≡ false) × (b ≡ true) × (c ≡ true) × (e ≡ false)
passed true b c d e h = absurd (let z : ◌≡◌ {A = ℕ} 0 1 = cc h in omega arith)
passed false false c d e h = absurd (let z : ◌≡◌ {A = ℕ} 0 1 = cc h in omega arith)
passed false true false d e h = absurd (let z : ◌≡◌ {A = ℕ} 0 1 = cc h in omega arith)
passed false true true true e h = absurd (let z : ◌≡◌ {A = ℕ} 0 1 = cc h in omega arith)
passed false true true false true h = absurd (let z : ◌≡◌ {A = ℕ} 0 1 = cc h in omega arith)
passed false true true false false h = (refl, refl, refl, refl)

module _ {C : Type 0} (K : CountKind C) where
  pub accepted : (p q : Point) (c : C) (s : Page C) → put_refusal K p q c s ≡ None → Accepted p q s
  accepted p q c s h =
      let r = passed (is_eq (point_order p q)) (in_range? p) (in_range? q) (K.empty? c) (not (listed? (edge_between p q) s.edges) && leb (edge_places s.lengths) (length s.edges)) h in
      record { apart = r.0; first = r.1; second = r.2; roomy = r.3 }

-- a point in range, as a value of the code
abbrev pub ranged : (p : Point) → in_range? p ≡ true → IntPoint
ranged p h =
    let r = and_parts (leb (nat_abs p.x) 524288) (leb (nat_abs p.y) 524288) h in
    record { x = p.x; y = p.y; wide = leb-true (nat_abs p.x) 524288 r.0; high = leb-true (nat_abs p.y) 524288 r.1 }

module _ {C : Type 0} (K : CountKind C) (p q : Point) (c : C) (hp : in_range? p ≡ true) (hq : in_range? q ≡ true) where
  -- the edge as it was handed in
  abbrev handed : Segment C
  handed = record { a = ranged p hp; b = ranged q hq; count = c }

  -- the edge that is put, its first end before its second
  pub put_segment : Segment C
  put_segment = cond (before? q p) (turned_of K handed) handed

  pub put_ends : ends_of put_segment ≡ edge_between p q
  unfolding put_segment
  put_ends = go (before? q p)
    where
      go : (b : Bool) → ends_of (cond b (turned_of K handed) handed) ≡ cond b (record { a = q; b = p }) (record { a = p; b = q })
      go true = refl
      go false = refl

  pub put_counted : (e : Edge) → put_counts K p q c e ≡ counts K e put_segment
  unfolding put_segment
  put_counted e = go (before? q p)
    where
      go : (b : Bool) → when K (is_eq (edge_order e (cond b (record { a = q; b = p }) (record { a = p; b = q })))) (cond b (K.inverse c) c) ≡ counts K e (cond b (turned_of K handed) handed)
      go true = refl
      go false = refl

  -- a list whose counts have grown by what the put counts has that edge added
  pub put_counting : (l m : List (Segment C)) → Counting K (λ e. K.sum (count_at K e l) (put_counts K p q c e)) m → Counting K (λ e. K.sum (count_at K e l) (counts K e put_segment)) m
  put_counting l m h = record { ordered = h.ordered; each = λ e. h.each e ∙ ap (K.sum (count_at K e l)) (put_counted e) }

  pub put_brought : (z : Point) → brings K z put_segment ≡ put_brings K p q c z
  unfolding put_segment
  put_brought z = go (before? q p)
    where
      go : (b : Bool) → brings K z (cond b (turned_of K handed) handed) ≡ put_brings K p q c z
      go true = brings_turned K z handed
      go false = refl

-- different points make a proper edge
pub between_proper : (p q : Point) → is_eq (point_order p q) ≡ false → Proper (edge_between p q)
between_proper p q h = go (before? q p) refl (point_order p q) (points_ranked p q) h
  where
    go : (b : Bool) → before? q p ≡ b → (o : Ordering) → Stands o p q → is_eq o ≡ false → Proper (cond b (record { a = q; b = p }) (record { a = p; b = q }))
    go true e o r n = before_yes q p e
    go false e Less r n = r
    go false e Equal r n = absurd (both_ways true n refl)
    go false e Greater r n = absurd (both_ways (before? q p) e (before_true q p r))
