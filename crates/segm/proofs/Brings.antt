-- What turning, joining and emptiness make of what a segment counts at an edge and brings to a point.
use Rattle.std.proofs.Common.{◌≡◌, Bool, true, false, cond, Equal, refl, ap, ◌∙◌, ap₂}
use Rattle.std.specs.Ordering.{is_eq, is_gt}
use Rattle.plane.specs.Points.{Point}
use Rattle.plane.specs.Edges.{Edge}
use Rattle.plane.specs.PointOf.{point_of}
use Rattle.segm.specs.Counts.{CountKind}
use Rattle.segm.specs.Orders.{point_order, edge_order}
use Rattle.segm.specs.OrderLaws.{equal_edges}
use Rattle.segm.specs.Segments.{ends_of, turned_of, directed, joined_segment}
use Rattle.segm.specs.Balance.{when, counts, brings}
use Rattle.segm.specs.declared.segment.Segment.{Segment}
use Rattle.segm.proofs.Groups.{inverse_neutral, inverse_inverse, inverse_sum, sum_swap, when_sum, when_neutral}

module _ {C : Type 0} (K : CountKind C) where
  pub brings_turned : (p : Point) (s : Segment C) → brings K p (turned_of K s) ≡ brings K p s
  brings_turned p s =
      K.comm _ _
      ∙ ap (λ c. K.sum (when K (is_eq (point_order p (point_of s.b))) c) (when K (is_eq (point_order p (point_of s.a))) (K.inverse s.count))) (inverse_inverse K s.count)

  pub brings_directed : (p : Point) (s : Segment C) → brings K p (directed K s) ≡ brings K p s
  brings_directed p s = go (is_gt (point_order (point_of s.a) (point_of s.b)))
    where
      go : (b : Bool) → brings K p (cond b (turned_of K s) s) ≡ brings K p s
      go true = brings_turned p s
      go false = refl

  -- what an edge from e's first end to its second brings, by its count
  between : Point → Edge → C → C
  between p e c = K.sum (when K (is_eq (point_order p e.b)) c) (when K (is_eq (point_order p e.a)) (K.inverse c))

  between_sum : (p : Point) (e : Edge) (c d : C) → between p e (K.sum c d) ≡ K.sum (between p e c) (between p e d)
  unfolding between
  between_sum p e c d =
      ap₂ (λ u v. K.sum u v)
      (when_sum K (is_eq (point_order p e.b)) c d)
      (ap (when K (is_eq (point_order p e.a))) (inverse_sum K c d) ∙ when_sum K (is_eq (point_order p e.a)) (K.inverse c) (K.inverse d))
      ∙ sum_swap K (when K (is_eq (point_order p e.b)) c) (when K (is_eq (point_order p e.b)) d) (when K (is_eq (point_order p e.a)) (K.inverse c)) (when K (is_eq (point_order p e.a)) (K.inverse d))

  between_neutral : (p : Point) (e : Edge) → between p e K.neutral ≡ K.neutral
  unfolding between
  between_neutral p e =
      ap₂ (λ u v. K.sum u v)
      (when_neutral K (is_eq (point_order p e.b)))
      (ap (when K (is_eq (point_order p e.a))) (inverse_neutral K) ∙ when_neutral K (is_eq (point_order p e.a)))
      ∙ K.identity K.neutral

  pub brings_joined : (p : Point) (s t : Segment C) → edge_order (ends_of s) (ends_of t) ≡ Equal → brings K p (joined_segment K s t) ≡ K.sum (brings K p s) (brings K p t)
  unfolding between
  brings_joined p s t e =
      between_sum p (ends_of s) s.count t.count
      ∙ ap (λ (g : Edge). K.sum (brings K p s) (between p g t.count)) (equal_edges (ends_of s) (ends_of t) e)

  pub brings_empty : (p : Point) (s : Segment C) → K.empty? s.count ≡ true → brings K p s ≡ K.neutral
  unfolding between
  brings_empty p s e = ap (between p (ends_of s)) (K.empty_neutral s.count e) ∙ between_neutral p (ends_of s)

  pub counts_joined : (e : Edge) (s t : Segment C) → edge_order (ends_of s) (ends_of t) ≡ Equal → counts K e (joined_segment K s t) ≡ K.sum (counts K e s) (counts K e t)
  counts_joined e s t h =
      when_sum K (is_eq (edge_order e (ends_of s))) s.count t.count
      ∙ ap (λ (g : Edge). K.sum (counts K e s) (when K (is_eq (edge_order e g)) t.count)) (equal_edges (ends_of s) (ends_of t) h)

  pub counts_empty : (e : Edge) (s : Segment C) → K.empty? s.count ≡ true → counts K e s ≡ K.neutral
  counts_empty e s h = ap (when K (is_eq (edge_order e (ends_of s)))) (K.empty_neutral s.count h) ∙ when_neutral K (is_eq (edge_order e (ends_of s)))
