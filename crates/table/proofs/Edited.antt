-- A list with one record brought to its place, and what the list then lists.
use Rattle.std.proofs.Common.{◌≡◌, Bool, true, false, cond, List, [], ◌∷◌, ◌++◌, Some, None, Option, Ordering, Less, Equal, Greater, sym, refl, ap, ◌∙◌, subst}
use Rattle.std.specs.Ordering.{is_eq}
use Rattle.std.specs.List.{AllByRecursion}
use Rattle.std.proofs.ByRecursion.{All-append, All-weaker}
use Rattle.table.specs.Records.{RecordKind}
use Rattle.table.specs.Listings.{Ascending, record_at, joined_at, with_record, Listing}
use Rattle.table.proofs.Orders.{is_equal, all_parts, itself, turned_equal, turned_less, turned_greater, alike_right, Apart, absent, present, passed_over, ascending_append, KeyedAs, Filled, joined_keyed, joined_filled}

-- a record that may be there, before xs
abbrev pub placed : {R : Type 0} → Option R → List R → List R
placed None xs = xs
placed (Some z) xs = z ∷ xs

module _ {R : Type 0} (K : RecordKind R) where
  -- r belongs between low and high
  pub record Around (r : R) (low high : List R) : Type 0 where
    pub before : AllByRecursion (λ a. K.order a r ≡ Less) low
    pub after : AllByRecursion (λ b. K.order r b ≡ Less) high
    pub front : Ascending K low
    pub back : Ascending K high

  -- ys is xs with r brought to its place
  pub record Edited (r : R) (xs ys : List R) : Type 0 where
    pub low : List R
    pub high : List R
    pub here : Option R
    pub around : Around r low high
    pub keyed : KeyedAs K r here
    pub was : xs ≡ low ++ placed here high
    pub is : ys ≡ low ++ placed (joined_at K here r) high

  module _ (r : R) (low high : List R) (around : Around r low high) where
    ascending_placed : (o : Option R) → KeyedAs K r o → Ascending K (low ++ placed o high)
    ascending_placed None h =
        ascending_append K low high around.front around.back
        (All-weaker (λ a. K.order a r ≡ Less) _ (λ a p. All-weaker (λ b. K.order r b ≡ Less) _ (λ b q. K.trans a r b p q) high around.after) low around.before)
    ascending_placed (Some z) h =
        ascending_append K low (z ∷ high) around.front
        (All-weaker (λ b. K.order r b ≡ Less) _ (λ b q. K.alike z r b h ∙ q) high around.after, around.back)
        (All-weaker (λ a. K.order a r ≡ Less) _ (λ a p. (alike_right K z r a h ∙ p, All-weaker (λ b. K.order r b ≡ Less) _ (λ b q. K.trans a r b p q) high around.after)) low around.before)

    apart_front : (k : R) → K.order k r ≡ Equal → Apart K k low
    apart_front k e = All-weaker (λ a. K.order a r ≡ Less) _ (λ a p. ap is_eq (turned_less K a k (alike_right K k r a e ∙ p))) low around.before

    apart_back : (k : R) → K.order k r ≡ Equal → Apart K k high
    apart_back k e = All-weaker (λ b. K.order r b ≡ Less) _ (λ b q. ap is_eq (K.alike k r b e ∙ q)) high around.after

    pub at_key : (k : R) (o : Option R) → KeyedAs K r o → K.order k r ≡ Equal → record_at K (low ++ placed o high) k ≡ o
    at_key k None h e = absent K k (low ++ high) (All-append _ low high (apart_front k e) (apart_back k e))
    at_key k (Some z) h e = present K k z low high (apart_front k e) (ap is_eq (alike_right K z r k h ∙ e))

    off_key : (k : R) (o : Option R) → KeyedAs K r o → is_eq (K.order k r) ≡ false → record_at K (low ++ placed o high) k ≡ record_at K (low ++ high) k
    off_key k None h e = refl
    off_key k (Some z) h e = passed_over K k z low high (ap is_eq (alike_right K z r k h) ∙ e)

    filled_rest : (o : Option R) → AllByRecursion (λ x. K.empty? x ≡ false) (low ++ placed o high) → AllByRecursion (λ x. K.empty? x ≡ false) high
    filled_rest None h = (all_parts _ low high h).1
    filled_rest (Some z) h = (all_parts _ low (z ∷ high) h).1.1

    filled_placed : (o : Option R) → Filled K o → AllByRecursion (λ x. K.empty? x ≡ false) low → AllByRecursion (λ x. K.empty? x ≡ false) high → AllByRecursion (λ x. K.empty? x ≡ false) (low ++ placed o high)
    filled_placed None h p q = All-append _ low high p q
    filled_placed (Some z) h p q = All-append _ low (z ∷ high) p (h, q)

    -- what the list has at every key once r is in its place
    each_placed : (o : Option R) → KeyedAs K r o → (f : R → Option R) → ((k : R) → record_at K (low ++ placed o high) k ≡ f k)
        → (k : R) → record_at K (low ++ placed (joined_at K o r) high) k ≡ with_record K r f k
    each_placed o h f each k = go (is_eq (K.order k r)) refl
      where
        go : (b : Bool) → is_eq (K.order k r) ≡ b → record_at K (low ++ placed (joined_at K o r) high) k ≡ cond b (joined_at K (f k) r) (f k)
        go true e =
            let q = is_equal (K.order k r) e in
            at_key k (joined_at K o r) (joined_keyed K o r h) q ∙ ap (λ p. joined_at K p r) (sym (at_key k o h q) ∙ each k)
        go false e = off_key k (joined_at K o r) (joined_keyed K o r h) e ∙ sym (off_key k o h e) ∙ each k

    pub listing_placed : (o : Option R) → KeyedAs K r o → (f : R → Option R) → Listing K f (low ++ placed o high) → Listing K (with_record K r f) (low ++ placed (joined_at K o r) high)
    listing_placed o h f l = record {
      ordered = record {
        ascending = ascending_placed (joined_at K o r) (joined_keyed K o r h);
        filled = filled_placed (joined_at K o r) (joined_filled K o r) (all_parts _ low (placed o high) l.ordered.filled).0 (filled_rest o l.ordered.filled);
      };
      each = each_placed o h f l.each;
    }

  pub listing_edited : (r : R) (xs ys : List R) → Edited r xs ys → (f : R → Option R) → Listing K f xs → Listing K (with_record K r f) ys
  listing_edited r xs ys e f l =
      subst (λ u. Listing K (with_record K r f) u) (sym e.is)
      (listing_placed r e.low e.high e.around e.here e.keyed f (subst (λ u. Listing K f u) e.was l))

  pub at_edited : (r : R) (xs ys : List R) (e : Edited r xs ys) → record_at K xs r ≡ e.here
  at_edited r xs ys e = ap (λ u. record_at K u r) e.was ∙ at_key r e.low e.high e.around r e.here e.keyed (itself K r)

  put_before : (r : R) (x : R) (xs : List R) → Ascending K (x ∷ xs) → K.order r x ≡ Less → (ys : List R) × Edited r (x ∷ xs) ys
  put_before r x xs asc e = (
    placed (joined_at K None r) (x ∷ xs),
    record {
      low = [];
      high = x ∷ xs;
      here = None;
      around = record { before = tt; after = (e, All-weaker (λ y. K.order x y ≡ Less) _ (λ y q. K.trans r x y e q) xs asc.0); front = tt; back = asc };
      keyed = tt;
      was = refl;
      is = refl;
    },
  )

  put_onto : (r : R) (x : R) (xs : List R) → Ascending K (x ∷ xs) → K.order x r ≡ Equal → (ys : List R) × Edited r (x ∷ xs) ys
  put_onto r x xs asc e = (
    placed (joined_at K (Some x) r) xs,
    record {
      low = [];
      high = xs;
      here = Some x;
      around = record { before = tt; after = All-weaker (λ y. K.order x y ≡ Less) _ (λ y q. K.alike r x y (turned_equal K x r e) ∙ q) xs asc.0; front = tt; back = asc.1 };
      keyed = e;
      was = refl;
      is = refl;
    },
  )

  put_behind : (r : R) (x : R) (xs : List R) → Ascending K (x ∷ xs) → K.order x r ≡ Less → (ys : List R) × Edited r xs ys → (zs : List R) × Edited r (x ∷ xs) zs
  put_behind r x xs asc e (ys, d) = (
    x ∷ ys,
    record {
      low = x ∷ d.low;
      high = d.high;
      here = d.here;
      around = record {
        before = (e, d.around.before);
        after = d.around.after;
        front = ((all_parts _ d.low (placed d.here d.high) (subst (λ u. AllByRecursion (λ y. K.order x y ≡ Less) u) d.was asc.0)).0, d.around.front);
        back = d.around.back;
      };
      keyed = d.keyed;
      was = ap (λ u. x ∷ u) d.was;
      is = ap (λ u. x ∷ u) d.is;
    },
  )

  -- every list in order has a place for r
  pub edit_of : (r : R) (xs : List R) → Ascending K xs → (ys : List R) × Edited r xs ys
  edit_of r [] asc = (
    placed (joined_at K None r) [],
    record {
      low = [];
      high = [];
      here = None;
      around = record { before = tt; after = tt; front = tt; back = tt };
      keyed = tt;
      was = refl;
      is = refl;
    },
  )
  edit_of r (x ∷ xs) asc = go (K.order x r) refl (edit_of r xs asc.1)
    where
      go : (o : Ordering) → K.order x r ≡ o → (ys : List R) × Edited r xs ys → (zs : List R) × Edited r (x ∷ xs) zs
      go Less e d = put_behind r x xs asc e d
      go Equal e d = put_onto r x xs asc e
      go Greater e d = put_before r x xs asc (turned_greater K x r e)
