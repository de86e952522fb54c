-- A record that comes to a list adds its part to every total that joining keeps.
use Rattle.std.proofs.Common.{◌≡◌, Bool, true, false, cond, List, [], ◌∷◌, ◌++◌, Some, None, Option, Equal, sym, refl, ap, ◌∙◌}
use Rattle.table.specs.Records.{RecordKind}
use Rattle.table.specs.Listings.{Ordered, record_at, standing, joined_at, with_record, Listing}
use Rattle.table.proofs.Orders.{KeyedAs}
use Rattle.table.proofs.Edited.{placed, Edited}
use Rattle.table.proofs.Laws.{edited_from_listing}
use Rattle.segm.specs.Counts.{CountKind}
use Rattle.segm.specs.Balance.{total}
use Rattle.segm.proofs.Groups.{identity_left}

module _ {C : Type 0} (K : CountKind C) where
  pub total_append : {S : Type 0} (part : S → C) (l m : List S) → total K part (l ++ m) ≡ K.sum (total K part l) (total K part m)
  total_append part [] m = sym (identity_left K (total K part m))
  total_append part (s ∷ l) m = ap (K.sum (part s)) (total_append part l m) ∙ sym (K.assoc (part s) (total K part l) (total K part m))

  module _ {R : Type 0} (A : RecordKind R) (part : R → C)
      (joins : (x y : R) → A.order x y ≡ Equal → part (A.joined x y) ≡ K.sum (part x) (part y))
      (empties : (x : R) → A.empty? x ≡ true → part x ≡ K.neutral) where
    part_of : Option R → C
    part_of None = K.neutral
    part_of (Some x) = part x

    part_standing : (x : R) → part_of (standing A x) ≡ part x
    unfolding part_of
    part_standing x = go (A.empty? x) refl
      where
        go : (b : Bool) → A.empty? x ≡ b → part_of (cond b None (Some x)) ≡ part x
        go true e = sym (empties x e)
        go false e = refl

    part_joined : (o : Option R) (r : R) → KeyedAs A r o → part_of (joined_at A o r) ≡ K.sum (part_of o) (part r)
    unfolding part_of
    part_joined None r h = part_standing r ∙ sym (identity_left K (part r))
    part_joined (Some x) r h = part_standing (A.joined x r) ∙ joins x r h

    total_placed : (low high : List R) (o : Option R) → total K part (low ++ placed o high) ≡ K.sum (total K part (low ++ high)) (part_of o)
    unfolding part_of
    total_placed [] high None = sym (K.identity (total K part high))
    total_placed [] high (Some x) = K.comm (part x) (total K part high)
    total_placed (y ∷ low) high o = ap (K.sum (part y)) (total_placed low high o) ∙ sym (K.assoc (part y) (total K part (low ++ high)) (part_of o))

    total_edited : (r : R) (xs ys : List R) → Edited A r xs ys → total K part ys ≡ K.sum (total K part xs) (part r)
    total_edited r xs ys d =
        ap (total K part) d.is ∙ total_placed d.low d.high (joined_at A d.here r)
        ∙ ap (K.sum (total K part (d.low ++ d.high))) (part_joined d.here r d.keyed)
        ∙ sym (K.assoc (total K part (d.low ++ d.high)) (part_of d.here) (part r))
        ∙ ap (λ z. K.sum z (part r)) (sym (ap (total K part) d.was ∙ total_placed d.low d.high d.here))

    pub total_listing : (r : R) (xs ys : List R) → Ordered A xs → Listing A (with_record A r (record_at A xs)) ys → total K part ys ≡ K.sum (total K part xs) (part r)
    total_listing r xs ys o l = total_edited r xs ys (edited_from_listing A r xs ys o l)
