-- The order of keys, and what it says of the record at a key.
use Rattle.std.proofs.Common.{◌≡◌, ℕ, Bool, true, false, cond, List, [], ◌∷◌, ◌++◌, IfSome, Some, None, Option, Ordering, Less, Equal, Greater, sym, refl, ap, ◌∙◌, arith}
use Rattle.std.specs.Ordering.{is_eq, ordering_reverse}
use Rattle.std.specs.List.{AllByRecursion}
use Rattle.std.proofs.ByRecursion.{All-append}
use Rattle.table.specs.Records.{RecordKind}
use Rattle.table.specs.Listings.{Ascending, record_at, standing, joined_at}

pub never_none : {X : Type 0} {x : X} {o : Option X} → o ≡ Some x → o ≡ None → ⊥
never_none p q = let z : ◌≡◌ {A = ℕ} 0 1 = cc in omega arith

pub balanced : (o : Ordering) → o ≡ ordering_reverse o → o ≡ Equal
balanced Less e = sym (cc)
balanced Equal e = refl
balanced Greater e = cc

pub is_equal : (o : Ordering) → is_eq o ≡ true → o ≡ Equal
is_equal Less e = cc
is_equal Equal e = refl
is_equal Greater e = cc

pub all_parts : {X : Type 0} (P : X → Type 0) (xs ys : List X) → AllByRecursion P (xs ++ ys) → AllByRecursion P xs × AllByRecursion P ys
all_parts P [] ys h = (tt, h)
all_parts P (x ∷ xs) ys h = let r = all_parts P xs ys h.1 in ((h.0, r.0), r.1)

module _ {R : Type 0} (K : RecordKind R) where
  pub itself : (x : R) → K.order x x ≡ Equal
  itself x = balanced (K.order x x) (K.flip x x)

  pub turned_equal : (x y : R) → K.order x y ≡ Equal → K.order y x ≡ Equal
  turned_equal x y e = K.flip y x ∙ ap ordering_reverse e

  pub turned_less : (x y : R) → K.order x y ≡ Less → K.order y x ≡ Greater
  turned_less x y e = K.flip y x ∙ ap ordering_reverse e

  pub turned_greater : (x y : R) → K.order x y ≡ Greater → K.order y x ≡ Less
  turned_greater x y e = K.flip y x ∙ ap ordering_reverse e

  pub alike_right : (x y z : R) → K.order x y ≡ Equal → K.order z x ≡ K.order z y
  alike_right x y z e = K.flip z x ∙ ap ordering_reverse (K.alike x y z e) ∙ sym (K.flip z y)

  -- no record of xs has the key of k
  abbrev pub Apart : R → List R → Type 0
  Apart k xs = AllByRecursion (λ x. is_eq (K.order k x) ≡ false) xs

  pub absent : (k : R) (xs : List R) → Apart k xs → record_at K xs k ≡ None
  absent k [] h = refl
  absent k (x ∷ xs) h = ap (λ b. cond b (Some x) (record_at K xs k)) h.0 ∙ absent k xs h.1

  pub present : (k z : R) (low high : List R) → Apart k low → is_eq (K.order k z) ≡ true → record_at K (low ++ (z ∷ high)) k ≡ Some z
  present k z [] high h e = ap (λ b. cond b (Some z) (record_at K high k)) e
  present k z (a ∷ low) high h e = ap (λ b. cond b (Some a) (record_at K (low ++ (z ∷ high)) k)) h.0 ∙ present k z low high h.1 e

  pub passed_over : (k z : R) (low high : List R) → is_eq (K.order k z) ≡ false → record_at K (low ++ (z ∷ high)) k ≡ record_at K (low ++ high) k
  passed_over k z [] high e = ap (λ b. cond b (Some z) (record_at K high k)) e
  passed_over k z (a ∷ low) high e = ap (λ o. cond (is_eq (K.order k a)) (Some a) o) (passed_over k z low high e)

  -- what is found at a key has that key, and is not empty
  pub found : (xs : List R) (k : R) → AllByRecursion (λ x. K.empty? x ≡ false) xs → IfSome (record_at K xs k) (λ x. (K.order k x ≡ Equal) × (K.empty? x ≡ false))
  found [] k h = tt
  found (x ∷ xs) k h = go (is_eq (K.order k x)) refl (found xs k h.1)
    where
      go : (b : Bool) → is_eq (K.order k x) ≡ b → IfSome (record_at K xs k) (λ x. (K.order k x ≡ Equal) × (K.empty? x ≡ false))
          → IfSome (cond b (Some x) (record_at K xs k)) (λ x. (K.order k x ≡ Equal) × (K.empty? x ≡ false))
      go true e rest = (is_equal (K.order k x) e, h.0)
      go false e rest = rest

  pub ascending_append : (low high : List R) → Ascending K low → Ascending K high → AllByRecursion (λ a. AllByRecursion (λ b. K.order a b ≡ Less) high) low → Ascending K (low ++ high)
  ascending_append [] high p q h = q
  ascending_append (a ∷ low) high p q h = (All-append _ low high p.0 h.0, ascending_append low high p.1 q h.1)

  pub ascending_left : (low high : List R) → Ascending K (low ++ high) → Ascending K low
  ascending_left [] high h = tt
  ascending_left (a ∷ low) high h = ((all_parts _ low high h.0).0, ascending_left low high h.1)

  pub ascending_right : (low high : List R) → Ascending K (low ++ high) → Ascending K high
  ascending_right [] high h = h
  ascending_right (a ∷ low) high h = ascending_right low high h.1

  -- there is nothing, or a record with the key of r
  abbrev pub KeyedAs : R → Option R → Type 0
  KeyedAs r o = IfSome o (λ z. K.order z r ≡ Equal)

  -- there is nothing, or a record that is not empty
  abbrev pub Filled : Option R → Type 0
  Filled o = IfSome o (λ z. K.empty? z ≡ false)

  standing_keyed : (r z : R) → K.order z r ≡ Equal → KeyedAs r (standing K z)
  standing_keyed r z e = go (K.empty? z)
    where
      go : (b : Bool) → KeyedAs r (cond b None (Some z))
      go true = tt
      go false = e

  pub standing_filled : (z : R) → Filled (standing K z)
  standing_filled z = go (K.empty? z) refl
    where
      go : (b : Bool) → K.empty? z ≡ b → Filled (cond b None (Some z))
      go true e = tt
      go false e = e

  pub joined_keyed : (o : Option R) (r : R) → KeyedAs r o → KeyedAs r (joined_at K o r)
  joined_keyed None r h = standing_keyed r r (itself r)
  joined_keyed (Some z) r h = standing_keyed r (K.joined z r) (K.alike (K.joined z r) z r (K.keeps z r h) ∙ h)

  pub joined_filled : (o : Option R) (r : R) → Filled (joined_at K o r)
  joined_filled None r = standing_filled r
  joined_filled (Some z) r = standing_filled (K.joined z r)
