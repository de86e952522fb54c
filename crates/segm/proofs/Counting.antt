-- A count function has one list.
use Rattle.std.proofs.Common.{◌≡◌, Bool, true, false, cond, List, [], ◌∷◌, IfSome, Some, None, Option, Equal, sym, refl, ap, ◌∙◌}
use Rattle.std.specs.Ordering.{is_eq}
use Rattle.std.proofs.lemmas.Bool.{both_ways}
use Rattle.table.specs.Listings.{Ascending, record_at}
use Rattle.table.proofs.Orders.{is_equal, found}
use Rattle.table.proofs.Laws.{behind_first, same_values}
use Rattle.plane.specs.Edges.{Edge}
use Rattle.segm.specs.Counts.{CountKind}
use Rattle.segm.specs.Orders.{edge_order}
use Rattle.segm.specs.OrderLaws.{same_point, equal_edges}
use Rattle.segm.specs.Segments.{ends_of}
use Rattle.segm.specs.SegmentKind.{segment_kind}
use Rattle.segm.specs.Balance.{when, count_at, Counting}
use Rattle.segm.specs.declared.segment.Segment.{Segment}
use Rattle.segm.proofs.Groups.{identity_left}

module _ {C : Type 0} (K : CountKind C) where
  count_of : Option (Segment C) → C
  count_of None = K.neutral
  count_of (Some s) = s.count

  -- the count at an edge is that of its record
  count_found : (l : List (Segment C)) (k : Segment C) → Ascending (segment_kind K) l → count_at K (ends_of k) l ≡ count_of (record_at (segment_kind K) l k)
  unfolding count_of
  count_found [] k h = refl
  count_found (s ∷ l) k h = go (is_eq (edge_order (ends_of k) (ends_of s))) refl (count_found l k h.1)
    where
      go : (b : Bool) → is_eq (edge_order (ends_of k) (ends_of s)) ≡ b → count_at K (ends_of k) l ≡ count_of (record_at (segment_kind K) l k)
          → K.sum (when K b s.count) (count_at K (ends_of k) l) ≡ count_of (cond b (Some s) (record_at (segment_kind K) l k))
      go true e rest =
          ap (K.sum s.count) (rest ∙ ap count_of (behind_first (segment_kind K) s l k h (is_equal (edge_order (ends_of k) (ends_of s)) e)))
          ∙ K.identity s.count
      go false e rest = identity_left K (count_at K (ends_of k) l) ∙ rest

  -- nothing, or a segment with the ends of k that counts
  abbrev Found : Segment C → Option (Segment C) → Type 0
  Found k o = IfSome o (λ s. (edge_order (ends_of k) (ends_of s) ≡ Equal) × (K.empty? s.count ≡ false))

  never_neutral : (c : C) → c ≡ K.neutral → K.empty? c ≡ false → ⊥
  never_neutral c e h = both_ways (K.empty? c) h (ap K.empty? e ∙ K.neutral_empty)

  same_found : (k : Segment C) (o p : Option (Segment C)) → Found k o → Found k p → count_of o ≡ count_of p → o ≡ p
  unfolding count_of
  same_found k None None f g e = refl
  same_found k None (Some t) f g e = absurd (never_neutral t.count (sym e) g.1)
  same_found k (Some s) None f g e = absurd (never_neutral s.count e f.1)
  same_found k (Some s) (Some t) f g e =
      let h = sym (equal_edges (ends_of k) (ends_of s) f.0) ∙ equal_edges (ends_of k) (ends_of t) g.0 in
      λ i. Some (record {
        a = same_point s.a t.a (ap (λ (e : Edge). e.a) h) i;
        b = same_point s.b t.b (ap (λ (e : Edge). e.b) h) i;
        count = e i;
      })

  pub counting_determined : (f : Edge → C) (l m : List (Segment C)) → Counting K f l → Counting K f m → l ≡ m
  counting_determined f l m p q =
      same_values (segment_kind K) l m p.ordered.ascending q.ordered.ascending
      (λ k. same_found k (record_at (segment_kind K) l k) (record_at (segment_kind K) m k) (found (segment_kind K) l k p.ordered.filled) (found (segment_kind K) m k q.ordered.filled)
      (sym (count_found l k p.ordered.ascending) ∙ p.each (ends_of k) ∙ sym (q.each (ends_of k)) ∙ count_found m k q.ordered.ascending))
