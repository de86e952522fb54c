-- From the place that was found for a record to what its coming makes of the table.
use Rattle.std.proofs.Common.{◌≡◌, ℕ, suc, ◌+◌, ◌-◌, ◌<◌, ◌≤◌, true, false, cond, not, List, ◌∷◌, ◌++◌, length, get_or, take, drop, set, replicate, Some, None, Less, Equal, Greater, sym, refl, ap, ◌∙◌, subst, add-one, arith}
use Rattle.std.specs.List.{insert, remove, HoldsAt}
use Rattle.std.proofs.ByRecursion.{All-weaker}
use Rattle.std.proofs.lemmas.List.{drop_more, get_or-take, length-take-le, length-set, set-append_left, set_split, take-append-drop, drop-drop, drop-replicate}
use Rattle.std.proofs.lemmas.Bool.{both_ways, not-true, not-false}
use Rattle.table.specs.Records.{RecordKind}
use Rattle.table.specs.Listings.{Ascending, standing}
use Rattle.table.specs.Search.{Parts}
use Rattle.table.specs.Contents.{content, Came, Refused}
use Rattle.table.proofs.Moves.{Splits, splits_append}
use Rattle.table.proofs.Orders.{never_none, turned_equal, turned_greater, alike_right, ascending_left, ascending_right}
use Rattle.table.proofs.Searches.{all_taken, all_dropped, ascending_across}
use Rattle.table.proofs.Edited.{placed, Edited, listing_edited, at_edited}

module _ {R : Type 0} (K : RecordKind R) where
  whole : (xs : List R) (i : ℕ) → Ascending K xs → Ascending K (take i xs ++ drop i xs)
  whole xs i asc = subst (λ u. Ascending K u) (sym (take-append-drop i xs)) asc

  module _ (r : R) (t : List R) (used i : ℕ) (le : used ≤ length t) where
    -- what a search found at i, or beside it
    abbrev pub Missed : Type 0
    Missed = (i ≤ used) × (Ascending K (take used t) → Parts K r (take used t) i)

    abbrev pub Found : R → Type 0
    Found old = (i < used) × (old ≡ get_or t i old) × (K.order old r ≡ Equal)

    pub missed : (i ≤ length (take used t)) × (Ascending K (take used t) → Parts K r (take used t) i) → Missed
    missed h = let l : length (take used t) ≡ used = length-take-le used t le in (omega arith, h.1)

    pub found : (old : R) → old ≡ get_or t i old → (i < length (take used t)) × HoldsAt (λ x. K.order x r ≡ Equal) (take used t) i → Found old
    found old read h =
        let l : length (take used t) ≡ used = length-take-le used t le in
        let lt : i < used = omega arith in
        (lt, read, ap (λ x. K.order x r) (read ∙ sym (get_or-take used t i old lt)) ∙ h.1 old)

    edited_new : (ys : List R) → Missed → ys ≡ take i (take used t) ++ placed (standing K r) (drop i (take used t))
        → Ascending K (take used t) → Edited K r (take used t) ys
    edited_new ys gap is asc =
        let l : length (take used t) ≡ used = length-take-le used t le in
        let parts = gap.1 asc in
        let within : i ≤ length (take used t) = let w = gap.0 in omega arith in
        record {
          low = take i (take used t);
          high = drop i (take used t);
          here = None;
          around = record {
            before = all_taken (λ a. K.order a r ≡ Less) (take used t) i within parts.0;
            after = All-weaker (λ b. K.order b r ≡ Greater) (λ b. K.order r b ≡ Less) (λ b q. turned_greater K b r q) (drop i (take used t)) (all_dropped (λ b. K.order b r ≡ Greater) (take used t) i parts.1);
            front = ascending_left K (take i (take used t)) (drop i (take used t)) (whole (take used t) i asc);
            back = ascending_right K (take i (take used t)) (drop i (take used t)) (whole (take used t) i asc);
          };
          keyed = tt;
          was = sym (take-append-drop i (take used t));
          is = is;
        }

    edited_found : (ys : List R) (old : R) → Found old
        → ys ≡ take i (take used t) ++ placed (standing K (K.joined old r)) (drop (suc i) (take used t))
        → Ascending K (take used t) → Edited K r (take used t) ys
    edited_found ys old hit is asc =
        let lt = hit.0 in
        let equal = hit.2 in
        let l : length (take used t) ≡ used = length-take-le used t le in
        let rest : drop i (take used t) ≡ old ∷ drop (suc i) (take used t) = drop_more (take used t) i old (omega arith) ∙ ap (λ x. x ∷ drop (i + 1) (take used t)) (get_or-take used t i old lt ∙ sym hit.1) ∙ ap (λ n. old ∷ drop n (take used t)) (add-one i) in
        let around : Ascending K (take i (take used t) ++ (old ∷ drop (suc i) (take used t))) = subst (λ u. Ascending K (take i (take used t) ++ u)) rest (whole (take used t) i asc) in
        let tail : Ascending K (old ∷ drop (suc i) (take used t)) = ascending_right K (take i (take used t)) (old ∷ drop (suc i) (take used t)) around in
        record {
          low = take i (take used t);
          high = drop (suc i) (take used t);
          here = Some old;
          around = record {
            before = All-weaker (λ a. K.order a old ≡ Less) (λ a. K.order a r ≡ Less) (λ a q. sym (alike_right K old r a equal) ∙ q) (take i (take used t)) (ascending_across K (take i (take used t)) old (drop (suc i) (take used t)) around);
            after = All-weaker (λ b. K.order old b ≡ Less) (λ b. K.order r b ≡ Less) (λ b q. K.alike r old b (turned_equal K old r equal) ∙ q) (drop (suc i) (take used t)) tail.0;
            front = ascending_left K (take i (take used t)) (old ∷ drop (suc i) (take used t)) around;
            back = tail.1;
          };
          keyed = equal;
          was = sym (take-append-drop i (take used t)) ∙ ap (λ u. take i (take used t) ++ u) rest;
          is = is;
        }

    pub came_passed : (room : ℕ) → used ≤ room → Missed → false ≡ not (K.empty? r) → Came K r (content t used room) (content t used room)
    came_passed room fits gap test =
        let e = not-false (K.empty? r) (sym test) in
        let edit = edited_new (take used t) gap (sym (ap (λ b. take i (take used t) ++ placed (cond b None (Some r)) (drop i (take used t))) e ∙ take-append-drop i (take used t))) in
        record {
          listed = λ f l. listing_edited K r (take used t) (take used t) (edit l.ordered.ascending) f l;
          blank = λ b. b;
          found = λ o no. both_ways (K.empty? r) no.filled e;
          fits = fits;
          long = refl;
          room = refl;
        }

    pub came_new : (room : ℕ) (exit : List R) → Missed → true ≡ not (K.empty? r) → used < room
        → Splits exit (used + 1) (insert (take used t) i r) (drop (used + 1) t) → length exit ≡ length t → Came K r (content t used room) (content exit (used + 1) room)
    came_new room exit gap test lt s long =
        let e = not-true (K.empty? r) (sym test) in
        let edit = edited_new (take (used + 1) exit) gap (s.front ∙ sym (ap (λ b. take i (take used t) ++ placed (cond b None (Some r)) (drop i (take used t))) e)) in
        record {
          listed = λ f l. listing_edited K r (take used t) (take (used + 1) exit) (edit l.ordered.ascending) f l;
          blank = λ b.
              let n : length t - used - 1 ≡ length exit - (used + 1) = omega arith in
              s.back ∙ sym (drop-drop 1 used t) ∙ ap (drop 1) b ∙ drop-replicate 1 (length t - used) K.blank ∙ ap (λ m. replicate m K.blank) n;
          found = λ o no. let f : used ≡ room = no.full in omega arith;
          fits = omega arith;
          long = long;
          room = refl;
        }

    pub refused : (room : ℕ) → Missed → true ≡ not (K.empty? r) → used ≡ room → Refused K r (content t used room) (content t used room)
    unfolding edited_new
    refused room gap test full = record {
      same = refl;
      reason = λ s. record {
        new = at_edited K r (take used t) _ (edited_new _ gap refl s.ordered.ascending);
        filled = not-true (K.empty? r) (sym test);
        full = full;
      };
    }

    pub came_kept : (room : ℕ) (old both : R) → used ≤ room → Found old → both ≡ K.joined old r → true ≡ not (K.empty? both) → Came K r (content t used room) (content (set t i both) used room)
    unfolding edited_found
    came_kept room old both fits hit is test =
        let e = not-true (K.empty? both) (sym test) in
        let l : length (take used t) ≡ used = length-take-le used t le in
        let s : Splits (set t i both) used (take i (take used t) ++ (both ∷ drop (suc i) (take used t))) (drop used t) =
        splits_append (set t i both) _ (drop used t) used
        (ap (λ u. set u i both) (sym (take-append-drop used t)) ∙ set-append_left (take used t) (drop used t) i both (omega arith) ∙ ap (λ u. u ++ drop used t) (set_split (take used t) i both (omega arith)))
        (sym (ap length (set_split (take used t) i both (omega arith))) ∙ length-set (take used t) i both ∙ l) in
        let edit = edited_found (take used (set t i both)) old hit
        (s.front ∙ sym (ap (λ (z : R). take i (take used t) ++ placed (standing K z) (drop (suc i) (take used t))) (sym is) ∙ ap (λ b. take i (take used t) ++ placed (cond b None (Some both)) (drop (suc i) (take used t))) e)) in
        record {
          listed = λ f l. listing_edited K r (take used t) (take used (set t i both)) (edit l.ordered.ascending) f l;
          blank = λ b. s.back ∙ b ∙ ap (λ n. replicate (n - used) K.blank) (sym (length-set t i both));
          found = λ o no. never_none (at_edited K r (take used t) (take used (set t i both)) (edit o.ascending)) no.new;
          fits = fits;
          long = length-set t i both;
          room = refl;
        }

    pub came_gone : (room : ℕ) (exit : List R) (old both : R) → used ≤ room → Found old → both ≡ K.joined old r → false ≡ not (K.empty? both)
        → Splits exit (used - 1) (remove (take used t) i) (K.blank ∷ drop used t) → length exit ≡ length t → Came K r (content t used room) (content exit (used - 1) room)
    unfolding edited_found
    came_gone room exit old both fits hit is test s long =
        let e = not-false (K.empty? both) (sym test) in
        let edit = edited_found (take (used - 1) exit) old hit
        (s.front ∙ sym (ap (λ (z : R). take i (take used t) ++ placed (standing K z) (drop (suc i) (take used t))) (sym is) ∙ ap (λ b. take i (take used t) ++ placed (cond b None (Some both)) (drop (suc i) (take used t))) e)) in
        record {
          listed = λ f l. listing_edited K r (take used t) (take (used - 1) exit) (edit l.ordered.ascending) f l;
          blank = λ b.
              let n : suc (length t - used) ≡ length exit - (used - 1) = omega arith in
              s.back ∙ ap (λ u. K.blank ∷ u) b ∙ ap (λ m. replicate m K.blank) n;
          found = λ o no. never_none (at_edited K r (take used t) (take (used - 1) exit) (edit o.ascending)) no.new;
          fits = omega arith;
          long = long;
          room = refl;
        }
