-- Orders of lists, and a sheet in order, by tests that compute.
use Rattle.std.proofs.Common.{◌≡◌, Bool, true, false, not, ◌&&◌, leb, List, [], ◌∷◌, length, Ordering, Less, Equal, Greater, sym, refl, ap, ◌∙◌, inl, inr}
use Rattle.std.specs.Ordering.{is_lt}
use Rattle.std.specs.List.{AllByRecursion}
use Rattle.std.proofs.lemmas.Bool.{and_parts, leb-true}
use Rattle.table.specs.Records.{RecordKind}
use Rattle.table.specs.Listings.{Ordered, Reordered, none, same, swap, then}
use Rattle.plane.specs.Points.{before?}
use Rattle.plane.specs.Edges.{Proper}
use Rattle.plane.specs.Rules.{In}
use Rattle.plane.proofs.Tests.{before_yes}
use Rattle.segm.specs.Counts.{CountKind}
use Rattle.segm.specs.Balance.{total}
use Rattle.segm.specs.Segments.{ends_of}
use Rattle.segm.specs.SegmentKind.{segment_kind}
use Rattle.segm.specs.declared.segment.Segment.{Segment}
use Rattle.history.specs.Sheets.{Page, Sound, edge_places}

is_less : (o : Ordering) → is_lt o ≡ true → o ≡ Less
is_less Less e = refl
is_less Equal e = cc
is_less Greater e = cc

unfilled : (b : Bool) → not b ≡ true → b ≡ false
unfilled true e = sym e
unfilled false e = refl

module _ {R : Type 0} (A : RecordKind R) where
  -- x comes before all of a list
  abbrev pub first? : R → List R → Bool
  first? x [] = true
  first? x (y ∷ l) = is_lt (A.order x y) && first? x l

  abbrev pub ordered? : List R → Bool
  ordered? [] = true
  ordered? (x ∷ l) = not (A.empty? x) && (first? x l && ordered? l)

  comes_first : (x : R) (l : List R) → first? x l ≡ true → AllByRecursion (λ y. A.order x y ≡ Less) l
  comes_first x [] e = tt
  comes_first x (y ∷ l) e = let p = and_parts (is_lt (A.order x y)) (first? x l) e in (is_less (A.order x y) p.0, comes_first x l p.1)

  pub in_order : (l : List R) → ordered? l ≡ true → Ordered A l
  in_order [] e = record { ascending = tt; filled = tt }
  in_order (x ∷ l) e =
      let p = and_parts (not (A.empty? x)) (first? x l && ordered? l) e in
      let q = and_parts (first? x l) (ordered? l) p.1 in
      let r = in_order l q.1 in
      record { ascending = (comes_first x l q.0, r.ascending); filled = (unfilled (A.empty? x) p.0, r.filled) }

module _ {C : Type 0} where
  -- each first end comes before its second
  abbrev pub proper? : List (Segment C) → Bool
  proper? [] = true
  proper? (s ∷ l) = before? (ends_of s).a (ends_of s).b && proper? l

  all_proper : (l : List (Segment C)) → proper? l ≡ true → (e : Segment C) → In e l → Proper (ends_of e)
  all_proper [] h e i = absurd i
  all_proper (s ∷ l) h e (inl p) =
      before_yes (ends_of e).a (ends_of e).b
      (ap (λ (t : Segment C). before? (ends_of t).a (ends_of t).b) p ∙ (and_parts (before? (ends_of s).a (ends_of s).b) (proper? l) h).0)
  all_proper (s ∷ l) h e (inr i) = all_proper l (and_parts (before? (ends_of s).a (ends_of s).b) (proper? l) h).1 e i

module _ {C : Type 0} (K : CountKind C) where
  abbrev pub sound? : Page C → Bool
  sound? s = ordered? (segment_kind K) s.edges && (proper? s.edges && leb (length s.edges) (edge_places s.lengths))

  pub is_sound : (s : Page C) → sound? s ≡ true → Sound K s
  is_sound s e =
      let p = and_parts (ordered? (segment_kind K) s.edges) _ e in
      let q = and_parts (proper? s.edges) (leb (length s.edges) (edge_places s.lengths)) p.1 in
      record { ordered = in_order (segment_kind K) s.edges p.0; proper = all_proper s.edges q.0; few = leb-true _ _ q.1 }

  -- a sum is the same in any order
  pub total_reordered : {S : Type 0} (part : S → C) {xs ys : List S} → Reordered xs ys → total K part xs ≡ total K part ys
  total_reordered part none = refl
  total_reordered part (same x r) = ap (K.sum (part x)) (total_reordered part r)
  total_reordered part (swap x y xs) =
      sym (K.assoc (part x) (part y) (total K part xs)) ∙ ap (λ z. K.sum z (total K part xs)) (K.comm (part x) (part y))
      ∙ K.assoc (part y) (part x) (total K part xs)
  total_reordered part (then r t) = total_reordered part r ∙ total_reordered part t
