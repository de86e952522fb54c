-- The list that segments make: its balance is theirs, it is no longer, and its edges are among theirs.
use Rattle.std.proofs.Common.{◌≡◌, ℕ, suc, ◌+◌, ◌≤◌, Bool, true, false, cond, ◌⊎◌, List, [], ◌∷◌, ◌++◌, length, Some, None, Option, Equal, sym, refl, ap, ◌∙◌, subst, inl, inr, arith}
use Rattle.std.specs.Ordering.{is_eq}
use Rattle.std.proofs.lemmas.List.{length-append}
use Rattle.table.specs.Records.{RecordKind}
use Rattle.table.specs.Listings.{Ordered, record_at, joined_at, with_record, Listing}
use Rattle.table.proofs.Orders.{never_none, KeyedAs, joined_keyed}
use Rattle.table.proofs.Edited.{placed, Edited, edit_of, listing_edited, at_edited}
use Rattle.plane.specs.Points.{Point}
use Rattle.plane.specs.Rules.{In}
use Rattle.finder.proofs.Members.{in_left, in_right, in_split}
use Rattle.segm.specs.Counts.{CountKind}
use Rattle.segm.specs.Orders.{edge_order}
use Rattle.segm.specs.OrderLaws.{equal_edges}
use Rattle.segm.specs.Segments.{ends_of}
use Rattle.segm.specs.SegmentKind.{segment_kind}
use Rattle.segm.specs.Balance.{counts, brings, count_at, balance, Counting}
use Rattle.segm.specs.declared.line_mark.LineMark.{LineMark}
use Rattle.segm.specs.declared.segment.Segment.{Segment}
use Rattle.segm.proofs.Brings.{brings_joined, brings_empty, counts_joined, counts_empty}
use Rattle.segm.proofs.Totals.{total_listing}
use Rattle.segm.proofs.Counting.{counting_determined}
use Rattle.rounds.specs.Pieces.{cut_from, CutList}
use Rattle.rounds.proofs.Balances.{cut_balance}

-- ---- a record brought to its place in a list of any kind
module _ {R : Type 0} where
  one_more : (o p : Option R) (l : List R) → length (placed o l) ≤ suc (length (placed p l))
  one_more None None l = omega arith
  one_more None (Some y) l = omega arith
  one_more (Some x) None l = omega arith
  one_more (Some x) (Some y) l = omega arith

  no_more : (o : Option R) (y : R) (l : List R) → length (placed o l) ≤ length (placed (Some y) l)
  no_more None y l = omega arith
  no_more (Some x) y l = omega arith

  behind_placed : (o : Option R) (x : R) (l : List R) → In x l → In x (placed o l)
  behind_placed None x l i = i
  behind_placed (Some y) x l i = inr i

module _ {R : Type 0} (A : RecordKind R) where
  -- a key that a list has is found
  found_in : (l : List R) (k x : R) → In x l → is_eq (A.order k x) ≡ true → record_at A l k ≡ None → ⊥
  found_in [] k x i e n = i
  found_in (y ∷ l) k x (inl p) e n = never_none refl (sym (ap (λ b. cond b (Some y) (record_at A l k)) (ap (λ (z : R). is_eq (A.order k z)) (sym p) ∙ e)) ∙ n)
  found_in (y ∷ l) k x (inr i) e n = go (is_eq (A.order k y)) n (found_in l k x i e)
    where
      go : (b : Bool) → cond b (Some y) (record_at A l k) ≡ None → (record_at A l k ≡ None → ⊥) → ⊥
      go true n f = never_none refl n
      go false n f = f n

  module _ (r : R) (xs ys : List R) (d : Edited A r xs ys) where
    lengths : (n : ℕ) → length (placed (joined_at A d.here r) d.high) ≤ n + length (placed d.here d.high) → length ys ≤ n + length xs
    lengths n le =
        omega (
          arith,
          ap length d.was ∙ length-append d.low (placed d.here d.high),
          ap length d.is ∙ length-append d.low (placed (joined_at A d.here r) d.high),
        )

    pub edited_few : length ys ≤ suc (length xs)
    edited_few = omega (arith, lengths 1 (omega (arith, one_more (joined_at A d.here r) d.here d.high)))

    pub edited_kept : (x : R) → In x xs → is_eq (A.order r x) ≡ true → length ys ≤ length xs
    edited_kept x i e = omega (arith, lengths 0 (omega (arith, go d.here refl)))
      where
        go : (o : Option R) → d.here ≡ o → length (placed (joined_at A d.here r) d.high) ≤ length (placed o d.high)
        go None h = absurd (found_in xs r x i e (at_edited A r xs ys d ∙ h))
        go (Some y) h = no_more (joined_at A d.here r) y d.high

    pub edited_from : (y : R) → In y ys → In y xs ⊎ (A.order y r ≡ Equal)
    edited_from y i = go (in_split y d.low (placed (joined_at A d.here r) d.high) (subst (λ u. In y u) d.is i))
      where
        back : In y (d.low ++ placed d.here d.high) → In y xs
        back j = subst (λ u. In y u) (sym d.was) j

        at : (o : Option R) → KeyedAs A r o → In y (placed o d.high) → In y xs ⊎ (A.order y r ≡ Equal)
        at None k j = inl (back (in_right y d.low (placed d.here d.high) (behind_placed d.here y d.high j)))
        at (Some z) k (inl e) = inr (ap (λ (w : R). A.order w r) e ∙ k)
        at (Some z) k (inr j) = inl (back (in_right y d.low (placed d.here d.high) (behind_placed d.here y d.high j)))

        go : In y d.low ⊎ In y (placed (joined_at A d.here r) d.high) → In y xs ⊎ (A.order y r ≡ Equal)
        go (inl j) = inl (back (in_left y d.low (placed d.here d.high) j))
        go (inr j) = at (joined_at A d.here r) (joined_keyed A d.here r d.keyed) j

-- ---- segments
module _ {C : Type 0} (K : CountKind C) where
  -- e has the ends of one of l
  abbrev EndsIn : Segment C → List (Segment C) → Type 0
  EndsIn e l = (x : Segment C) × In x l × (ends_of e ≡ ends_of x)

  -- g came to l, which then is m
  pub record Put (l : List (Segment C)) (g : Segment C) (m : List (Segment C)) : Type 0 where
    pub balances : (z : Point) → balance K z m ≡ K.sum (balance K z l) (brings K z g)
    pub few : length m ≤ suc (length l)
    pub kept : (x : Segment C) → In x l → is_eq (edge_order (ends_of g) (ends_of x)) ≡ true → length m ≤ length l
    pub from : (e : Segment C) → In e m → ((x : Segment C) × In x l × (ends_of e ≡ ends_of x)) ⊎ (ends_of e ≡ ends_of g)

  module _ (l : List (Segment C)) (g : Segment C) (o : Ordered (segment_kind K) l) where
    abbrev put : (m : List (Segment C)) × Edited (segment_kind K) g l m
    put = edit_of (segment_kind K) g l o.ascending

    put_listed : Listing (segment_kind K) (with_record (segment_kind K) g (record_at (segment_kind K) l)) put.0
    put_listed = listing_edited (segment_kind K) g l put.0 put.1 (record_at (segment_kind K) l) (record { ordered = o; each = λ k. refl })

    put_counts : Counting K (λ e. K.sum (count_at K e l) (counts K e g)) put.0
    put_counts = record {
      ordered = put_listed.ordered;
      each = λ e. total_listing K (segment_kind K) (counts K e) (counts_joined K e) (counts_empty K e) g l put.0 o put_listed;
    }

    is_put : Put l g put.0
    is_put = record {
      balances = λ z. total_listing K (segment_kind K) (brings K z) (brings_joined K z) (brings_empty K z) g l put.0 o put_listed;
      few = edited_few (segment_kind K) g l put.0 put.1;
      kept = edited_kept (segment_kind K) g l put.0 put.1;
      from = λ e i. which e (edited_from (segment_kind K) g l put.0 put.1 e i);
    }
      where
        which : (e : Segment C) → In e l ⊎ (edge_order (ends_of e) (ends_of g) ≡ Equal) → EndsIn e l ⊎ (ends_of e ≡ ends_of g)
        which e (inl i) = inl (e, i, refl)
        which e (inr h) = inr (equal_edges (ends_of e) (ends_of g) h)

    -- what a segment that comes makes of a list
    pub put_list : (m : List (Segment C)) → Counting K (λ e. K.sum (count_at K e l) (counts K e g)) m → Put l g m
    put_list m h = subst (Put l g) (counting_determined K (λ e. K.sum (count_at K e l) (counts K e g)) put.0 m put_counts h) is_put

  -- m is made of ps
  record Gathers (ps m : List (Segment C)) : Type 0 where
    counting : Counting K (λ e. count_at K e ps) m
    balances : (z : Point) → balance K z m ≡ balance K z ps
    few : length m ≤ length ps
    from : (e : Segment C) → In e m → EndsIn e ps

  gathers_more : (p : Segment C) (ps m n : List (Segment C)) → Gathers ps m → Counting K (λ e. K.sum (count_at K e m) (counts K e p)) n → Put m p n → Gathers (p ∷ ps) n
  gathers_more p ps m n h c d = record {
    counting = record { ordered = c.ordered; each = λ e. c.each e ∙ ap (λ x. K.sum x (counts K e p)) (h.counting.each e) ∙ K.comm (count_at K e ps) (counts K e p) };
    balances = λ z. d.balances z ∙ ap (λ x. K.sum x (brings K z p)) (h.balances z) ∙ K.comm (balance K z ps) (brings K z p);
    few = omega (arith, d.few, h.few);
    from = λ e i. which e (d.from e i);
  }
    where
      which : (e : Segment C) → EndsIn e m ⊎ (ends_of e ≡ ends_of p) → EndsIn e (p ∷ ps)
      which e (inl (x, i, q)) = let w = h.from x i in (w.0, inr w.1, q ∙ w.2)
      which e (inr q) = (p, inl refl, q)

  gathers : (ps : List (Segment C)) → (m : List (Segment C)) × Gathers ps m
  gathers [] = ([], record { counting = record { ordered = record { ascending = tt; filled = tt }; each = λ e. refl }; balances = λ z. refl; few = omega arith; from = λ e i. absurd i })
  gathers (p ∷ ps) = next (gathers ps)
    where
      next : (m : List (Segment C)) × Gathers ps m → (m : List (Segment C)) × Gathers (p ∷ ps) m
      next (m, h) =
          let o = h.counting.ordered in
          ((put m p o).0, gathers_more p ps m (put m p o).0 h (put_counts m p o) (is_put m p o))

  pub gathered_list : (ps : List (Segment C))
      → (m : List (Segment C)) × Counting K (λ e. count_at K e ps) m × ((z : Point) → balance K z m ≡ balance K z ps) × (length m ≤ length ps)
      × ((e : Segment C) → In e m → ∥ ((p : Segment C) × In p ps × (ends_of e ≡ ends_of p)) ∥₁)
  gathered_list ps = let w = gathers ps in (w.0, w.1.counting, w.1.balances, w.1.few, λ e i. ∣ w.1.from e i ∣₁)

  module _ (ps l : List (Segment C)) (h : Counting K (λ e. count_at K e ps) l) where
    pub list_is : l ≡ (gathered_list ps).0
    list_is = counting_determined K (λ e. count_at K e ps) l (gathered_list ps).0 h (gathered_list ps).1

    pub list_balance : (z : Point) → balance K z l ≡ balance K z ps
    list_balance z = ap (balance K z) list_is ∙ (gathered_list ps).2 z

    pub list_few : length l ≤ length ps
    list_few = subst (λ u. length u ≤ length ps) (sym list_is) (gathered_list ps).3

    pub list_from : (e : Segment C) → In e l → ∥ ((p : Segment C) × In p ps × (ends_of e ≡ ends_of p)) ∥₁
    list_from e i = (gathered_list ps).4 e (subst (λ u. In e u) list_is i)

  -- a round keeps the balance
  pub round_balance : (ms : List LineMark) (l after : List (Segment C)) → CutList K ms l after → (z : Point) → balance K z after ≡ balance K z l
  round_balance ms l after h z = list_balance (cut_from K 0 ms l) after h z ∙ cut_balance K z 0 ms l
