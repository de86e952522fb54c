-- A function has one listing, and records joined in any order leave one list.
use Rattle.std.proofs.Common.{◌≡◌, Bool, true, false, cond, List, [], ◌∷◌, Some, None, Option, Ordering, Less, Equal, Greater, sym, refl, ap, ◌∙◌, subst, ap₂}
use Rattle.std.specs.Ordering.{is_eq}
use Rattle.std.proofs.ByRecursion.{All-weaker}
use Rattle.table.specs.Records.{RecordKind}
use Rattle.table.specs.Listings.{Ascending, Ordered, record_at, standing, joined_at, with_record, Listing, gathered, Reordered, none, same, swap, then}
use Rattle.table.specs.Laws.{ListingLaws}
use Rattle.table.proofs.Edited.{Edited, edit_of, listing_edited}
use Rattle.table.proofs.Orders.{never_none, is_equal, itself, turned_equal, turned_greater, alike_right, absent, KeyedAs, joined_keyed}

one_value : {X : Type 0} {x y : X} {o : Option X} → o ≡ Some x → o ≡ Some y → x ≡ y
one_value p q = cc

module _ {R : Type 0} (K : RecordKind R) where
  first_is : (x : R) (xs : List R) (k : R) → K.order k x ≡ Equal → record_at K (x ∷ xs) k ≡ Some x
  first_is x xs k e = ap (λ o. cond (is_eq o) (Some x) (record_at K xs k)) e

  -- a key before the first is nowhere
  before_first : (x : R) (xs : List R) (k : R) → Ascending K (x ∷ xs) → K.order k x ≡ Less → record_at K (x ∷ xs) k ≡ None
  before_first x xs k h e =
      absent K k (x ∷ xs) (ap is_eq e, All-weaker (λ y. K.order x y ≡ Less) _ (λ y q. ap is_eq (K.trans k x y e q)) xs h.0)

  -- the key of the first is nowhere behind it
  pub behind_first : (x : R) (xs : List R) (k : R) → Ascending K (x ∷ xs) → K.order k x ≡ Equal → record_at K xs k ≡ None
  behind_first x xs k h e = absent K k xs (All-weaker (λ y. K.order x y ≡ Less) _ (λ y q. ap is_eq (K.alike k x y e ∙ q)) xs h.0)

  rest_same : (x : R) (xs ys : List R) → Ascending K (x ∷ xs) → Ascending K (x ∷ ys)
      → ((k : R) → record_at K (x ∷ xs) k ≡ record_at K (x ∷ ys) k) → (k : R) → record_at K xs k ≡ record_at K ys k
  rest_same x xs ys p q each k = go (is_eq (K.order k x)) refl
    where
      go : (b : Bool) → is_eq (K.order k x) ≡ b → record_at K xs k ≡ record_at K ys k
      go true e = let h = is_equal (K.order k x) e in behind_first x xs k p h ∙ sym (behind_first x ys k q h)
      go false e =
          sym (ap (λ b. cond b (Some x) (record_at K xs k)) e) ∙ each k ∙ ap (λ b. cond b (Some x) (record_at K ys k)) e

  pub same_values : (xs ys : List R) → Ascending K xs → Ascending K ys → ((k : R) → record_at K xs k ≡ record_at K ys k) → xs ≡ ys
  same_values [] [] p q each = refl
  same_values [] (y ∷ ys) p q each = absurd (never_none (first_is y ys y (itself K y)) (sym (each y)))
  same_values (x ∷ xs) [] p q each = absurd (never_none (first_is x xs x (itself K x)) (each x))
  same_values (x ∷ xs) (y ∷ ys) p q each = go (K.order x y) refl (same_values xs ys p.1 q.1)
    where
      go : (o : Ordering) → K.order x y ≡ o → (((k : R) → record_at K xs k ≡ record_at K ys k) → xs ≡ ys) → x ∷ xs ≡ y ∷ ys
      go Less e more = absurd (never_none (first_is x xs x (itself K x)) (each x ∙ before_first y ys x q e))
      go Greater e more = absurd (never_none (first_is y ys y (itself K y)) (sym (each y) ∙ before_first x xs y p (turned_greater K x y e)))
      go Equal e more =
          let h : x ≡ y = one_value (first_is x xs x (itself K x)) (each x ∙ first_is y ys x e) in
          ap₂ (λ u v. u ∷ v) h
          (more (rest_same x xs ys p (All-weaker (λ b. K.order y b ≡ Less) _ (λ b l. K.alike x y b e ∙ l) ys q.0, q.1)
          (λ k. each k ∙ ap (λ (u : R). record_at K (u ∷ ys) k) (sym h))))

  pub determined : (f : R → Option R) (xs ys : List R) → Listing K f xs → Listing K f ys → xs ≡ ys
  determined f xs ys p q = same_values xs ys p.ordered.ascending q.ordered.ascending (λ k. p.each k ∙ sym (q.each k))

  -- a list that lists another joined with r is that one with r in its place
  pub edited_from_listing : (r : R) (xs ys : List R) → Ordered K xs → Listing K (with_record K r (record_at K xs)) ys → Edited K r xs ys
  edited_from_listing r xs ys o l =
      let d = edit_of K r xs o.ascending in
      let e = determined (with_record K r (record_at K xs)) d.0 ys (listing_edited K r xs d.0 d.1 (record_at K xs) (record { ordered = o; each = λ k. refl })) l in
      subst (λ u. Edited K r xs u) e d.1

  -- an empty record is as none
  joined_standing : (z y : R) → K.order z y ≡ Equal → joined_at K (standing K z) y ≡ standing K (K.joined z y)
  joined_standing z y h = go (K.empty? z) refl
    where
      go : (b : Bool) → K.empty? z ≡ b → joined_at K (cond b None (Some z)) y ≡ standing K (K.joined z y)
      go true e = sym (ap (standing K) (K.comm z y h ∙ K.neutral y z (turned_equal K z y h) e))
      go false e = refl

  joined_both : (o : Option R) (x y : R) → K.order x y ≡ Equal → KeyedAs K x o → joined_at K (joined_at K o x) y ≡ joined_at K (joined_at K o y) x
  joined_both None x y e h = joined_standing x y e ∙ ap (standing K) (K.comm x y e) ∙ sym (joined_standing y x (turned_equal K x y e))
  joined_both (Some z) x y e h =
      let zy = K.alike z x y h ∙ e in
      joined_standing (K.joined z x) y (K.alike (K.joined z x) z y (K.keeps z x h) ∙ zy)
      ∙ ap (standing K) (K.assoc z x y h e ∙ ap (K.joined z) (K.comm x y e) ∙ sym (K.assoc z y x zy (turned_equal K x y e)))
      ∙ sym (joined_standing (K.joined z y) x (K.alike (K.joined z y) z x (K.keeps z y zy) ∙ h))

  rekeyed : (o : Option R) (r k : R) → K.order k r ≡ Equal → KeyedAs K r o → KeyedAs K k o
  rekeyed None r k e h = tt
  rekeyed (Some z) r k e h = alike_right K k r z e ∙ h

  gathered_keyed : (rs : List R) (k : R) → KeyedAs K k (gathered K rs k)
  gathered_keyed [] k = tt
  gathered_keyed (r ∷ rs) k = go (is_eq (K.order k r)) refl (gathered_keyed rs k)
    where
      go : (b : Bool) → is_eq (K.order k r) ≡ b → KeyedAs K k (gathered K rs k) → KeyedAs K k (cond b (joined_at K (gathered K rs k) r) (gathered K rs k))
      go true e was =
          let h = is_equal (K.order k r) e in
          rekeyed (joined_at K (gathered K rs k) r) r k h (joined_keyed K (gathered K rs k) r (rekeyed (gathered K rs k) k r (turned_equal K k r h) was))
      go false e was = was

  swapped : (x y : R) (rs : List R) (k : R) → gathered K (x ∷ y ∷ rs) k ≡ gathered K (y ∷ x ∷ rs) k
  swapped x y rs k = go (is_eq (K.order k x)) (is_eq (K.order k y)) refl refl
    where
      go : (a b : Bool) → is_eq (K.order k x) ≡ a → is_eq (K.order k y) ≡ b
          → cond a (joined_at K (cond b (joined_at K (gathered K rs k) y) (gathered K rs k)) x) (cond b (joined_at K (gathered K rs k) y) (gathered K rs k))
          ≡ cond b (joined_at K (cond a (joined_at K (gathered K rs k) x) (gathered K rs k)) y) (cond a (joined_at K (gathered K rs k) x) (gathered K rs k))
      go true true p q =
          let px = is_equal (K.order k x) p in
          let qy = is_equal (K.order k y) q in
          joined_both (gathered K rs k) y x (sym (K.alike k y x qy) ∙ px) (rekeyed (gathered K rs k) k y (turned_equal K k y qy) (gathered_keyed rs k))
      go true false p q = refl
      go false true p q = refl
      go false false p q = refl

  pub gathered_reordered : (rs ss : List R) → Reordered rs ss → (k : R) → gathered K rs k ≡ gathered K ss k
  gathered_reordered _ _ none k = refl
  gathered_reordered _ _ (same x p) k = ap (λ o. cond (is_eq (K.order k x)) (joined_at K o x) o) (gathered_reordered _ _ p k)
  gathered_reordered _ _ (swap x y xs) k = swapped x y xs k
  gathered_reordered _ _ (then p q) k = gathered_reordered _ _ p k ∙ gathered_reordered _ _ q k

  pub any_order : (rs ss xs ys : List R) → Reordered rs ss → Listing K (gathered K rs) xs → Listing K (gathered K ss) ys → xs ≡ ys
  any_order rs ss xs ys e p q =
      determined (gathered K ss) xs ys (record { ordered = p.ordered; each = λ k. p.each k ∙ gathered_reordered rs ss e k }) q

  pub listing_laws : ListingLaws K
  listing_laws = record { determined = determined; any_order = any_order }
