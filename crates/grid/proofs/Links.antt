-- Columns that are linked from the end of the table on.
use Rattle.std.proofs.Common.{◌≡◌, ℕ, zero, suc, ◌+◌, ◌-◌, ◌<◌, ◌≤◌, eqb, ◌⊎◌, List, [], ◌∷◌, length, get_or, drop, set, replicate, Some, None, Option, sym, refl, ap, ◌∙◌, subst, inl, inr, zero-add, arith, drop-cons}
use Rattle.std.proofs.lemmas.List.{length-map, length-set, get_or-map, get_or-set_same, get_or-set_other, set-get_or, map-set, drop_all, get_or-replicate, length-replicate}
use Rattle.std.proofs.lemmas.Bool.{cond-true, cond-false, eq-eqb, ne_eqb, cases_eq}
use Rattle.grid.specs.Layouts.{most_columns}
use Rattle.grid.specs.declared.fragment.Fragment.{Fragment}
use Rattle.grid.specs.Tables.{Content, content, contents, blank_content, listed, Narrow, most_fragments, Names, from, place, Leads, Linked}

-- ---- the parts of a column, from a place on
pub listed_here : (ms : List Content) (c k : ℕ) → k < length ms → (get_or ms k blank_content).column ≡ c → listed c (drop k ms) ≡ (get_or ms k blank_content).part ∷ listed c (drop (suc k) ms)
unfolding listed
listed_here ms c k h e = ap (listed c) (drop-cons ms k blank_content h) ∙ cond-true (eqb (get_or ms k blank_content).column c) _ _ (eq-eqb _ c e)

pub listed_skip : (ms : List Content) (c k : ℕ) → k < length ms → ((get_or ms k blank_content).column ≡ c → ⊥) → listed c (drop k ms) ≡ listed c (drop (suc k) ms)
unfolding listed
listed_skip ms c k h n = ap (listed c) (drop-cons ms k blank_content h) ∙ cond-false (eqb (get_or ms k blank_content).column c) _ _ (ne_eqb _ c n)

pub listed_past : (ms : List Content) (c k : ℕ) → length ms ≤ k → listed c (drop k ms) ≡ []
unfolding listed
listed_past ms c k h = ap (listed c) (drop_all k ms h)

-- where a link leads is in the table, or at its end
pub named_below : (ms : List Content) (c : ℕ) (j : Option ℕ) → Names ms c j → place (length ms) j ≤ length ms
named_below ms c None h = omega arith
named_below ms c (Some j) h = omega arith

from_place : (ms : List Content) (c : ℕ) (j : Option ℕ) → listed c (drop (place (length ms) j) ms) ≡ listed c (from ms j)
from_place ms c None = ap (listed c) (drop_all (length ms) ms (omega arith))
from_place ms c (Some j) = refl

-- what a link passes over is of other columns
pub leads_same : {ms : List Content} {c k : ℕ} {j : Option ℕ} → Leads ms c k j → listed c (drop k ms) ≡ listed c (from ms j)
leads_same {ms} {c} {k} {j} w = go (place (length ms) j - k) k (omega (arith, w.ahead)) w.skips ∙ from_place ms c j
  where
    go : (n k : ℕ) → n + k ≡ place (length ms) j → ((i : ℕ) → k ≤ i → i < place (length ms) j → (get_or ms i blank_content).column ≡ c → ⊥) → listed c (drop k ms) ≡ listed c (drop (place (length ms) j) ms)
    go zero k e s = ap (λ (i : ℕ). listed c (drop i ms)) (sym (zero-add k) ∙ e)
    go (suc n) k e s = listed_skip ms c k (omega (arith, named_below ms c j w.inside)) (s k (omega arith) (omega arith)) ∙ go n (suc k) (omega arith) (λ i a b. s i (omega arith) b)

-- ---- the table and what it holds
pub content_at : (qs : List Fragment) (k : ℕ) (d : Fragment) → k < length qs → get_or (contents qs) k blank_content ≡ content (get_or qs k d)
content_at qs k d h = get_or-map content qs k d blank_content h

contents_set : (qs : List Fragment) (k : ℕ) (d q : Fragment) → k < length qs → content q ≡ content (get_or qs k d) → contents (set qs k q) ≡ contents qs
contents_set qs k d q h e = map-set content qs k q ∙ ap (set (contents qs) k) (e ∙ sym (content_at qs k d h)) ∙ set-get_or (contents qs) k blank_content

-- ---- linked from k on
pub record Linking (entry qs : List Fragment) (heads : List (Option ℕ)) (k : ℕ) : Type 0 where
  pub same : contents qs ≡ contents entry
  pub long : length heads ≡ most_columns
  pub within : k ≤ length qs
  pub starts : (c : ℕ) → c < most_columns → Leads (contents qs) c k (get_or heads c None)
  pub goes_on : (j : ℕ) (d : Fragment) → k ≤ j → j < length qs → Leads (contents qs) (get_or qs j d).column (suc j) (get_or qs j d).next

pub linking_none : (qs : List Fragment) → Linking qs qs (replicate most_columns None) (length qs)
linking_none qs = record {
  same = refl;
  long = length-replicate {A = Option ℕ} most_columns None;
  within = omega arith;
  starts = λ c l. subst (λ (j : Option ℕ). Leads (contents qs) c (length qs) j) (sym (get_or-replicate {A = Option ℕ} most_columns c None None l)) (empty c);
  goes_on = λ j d i l. absurd (over i l);
}
  where
    over : {j : ℕ} → length qs ≤ j → j < length qs → ⊥
    over i l = omega arith

    past : {i : ℕ} → length qs ≤ i → i < length (contents qs) → ⊥
    past a d = omega (arith, length-map qs content)

    empty : (c : ℕ) → Leads (contents qs) c (length qs) None
    empty c = record {
      ahead = omega (arith, length-map qs content);
      inside = tt;
      skips = λ i a b e. past a b;
    }

module _ (entry qs : List Fragment) (heads : List (Option ℕ)) (k j : ℕ) (d q : Fragment) (w : Linking entry qs heads k) (next : suc j ≡ k) (kept : content q ≡ content (get_or qs j d))
    (link : q.next ≡ get_or heads (get_or qs j d).column None) (narrow : (get_or qs j d).column < most_columns) where
  c : ℕ
  c = (get_or qs j d).column

  here : j < length qs
  here = omega (arith, w.within)

  after : contents (set qs j q) ≡ contents qs
  after = contents_set qs j d q here kept

  stands : (get_or (contents qs) j blank_content).column ≡ c
  unfolding c
  stands = ap (λ (m : Content). m.column) (content_at qs j d here)

  size : length (contents qs) ≡ length qs
  size = length-map qs content

  starts_more : (b : ℕ) → b < most_columns → Leads (contents qs) b j (get_or (set heads c (Some j)) b None)
  unfolding c
  starts_more b l = go (cases_eq b c)
    where
      over : {i : ℕ} → j ≤ i → i < j → ⊥
      over a b = omega arith

      beyond : {i : ℕ} → j ≤ i → (i ≡ j → ⊥) → suc j ≤ i
      beyond a s = omega arith

      go : (b ≡ c) ⊎ (b ≡ c → ⊥) → Leads (contents qs) b j (get_or (set heads c (Some j)) b None)
      go (inl e) = subst (λ (b : ℕ). Leads (contents qs) b j (get_or (set heads c (Some j)) b None)) (sym e)
          (subst (λ (i : Option ℕ). Leads (contents qs) c j i) (sym (get_or-set_same heads c (Some j) None (omega (arith, w.long)))) (record {
            ahead = omega arith;
            inside = (omega (arith, here, size), stands);
            skips = λ i a b e. over a b;
          }))
      go (inr n) =
          let u = subst (λ (i : ℕ). Leads (contents qs) b i (get_or heads b None)) (sym next) (w.starts b l) in
          subst (λ (i : Option ℕ). Leads (contents qs) b j i) (sym (get_or-set_other heads c b (Some j) None n)) (record {
            ahead = omega (arith, u.ahead);
            inside = u.inside;
            skips = λ i a b e. elim (cases_eq i j) [ inl s ↦ n (sym e ∙ ap (λ (k : ℕ). (get_or (contents qs) k blank_content).column) s ∙ stands) | inr s ↦ u.skips i (beyond a s) b e ];
          })

  goes_on_more : (i : ℕ) (e : Fragment) → j ≤ i → i < length (set qs j q) → Leads (contents qs) (get_or (set qs j q) i e).column (suc i) (get_or (set qs j q) i e).next
  goes_on_more i e a b = go (cases_eq i j)
    where
      go : (i ≡ j) ⊎ (i ≡ j → ⊥) → Leads (contents qs) (get_or (set qs j q) i e).column (suc i) (get_or (set qs j q) i e).next
      go (inl s) =
          subst (λ (n : ℕ). Leads (contents qs) (get_or (set qs j q) n e).column (suc n) (get_or (set qs j q) n e).next) (sym s)
          (subst (λ (x : Fragment). Leads (contents qs) x.column (suc j) x.next) (sym (get_or-set_same qs j q e here))
          (subst (λ (o : Option ℕ). Leads (contents qs) q.column (suc j) o) (sym link)
          (subst (λ (n : ℕ). Leads (contents qs) n (suc j) (get_or heads (get_or qs j d).column None)) (sym (ap (λ (m : Content). m.column) kept))
          (subst (λ (n : ℕ). Leads (contents qs) (get_or qs j d).column n (get_or heads (get_or qs j d).column None)) (sym next) (w.starts (get_or qs j d).column narrow)))))
      go (inr n) =
          subst (λ (x : Fragment). Leads (contents qs) x.column (suc i) x.next) (sym (get_or-set_other qs j i q e n)) (w.goes_on i e (past n) (omega (arith, b, length-set qs j q)))
        where
          past : (i ≡ j → ⊥) → k ≤ i
          past n = omega arith

  pub linking_more : Linking entry (set qs j q) (set heads (get_or qs j d).column (Some j)) j
  unfolding c
  linking_more = record {
    same = after ∙ w.same;
    long = length-set heads c (Some j) ∙ w.long;
    within = omega (arith, here, length-set qs j q);
    starts = λ b l. subst (λ (ms : List Content). Leads ms b j (get_or (set heads c (Some j)) b None)) (sym after) (starts_more b l);
    goes_on = λ i e a b. subst (λ (ms : List Content). Leads ms (get_or (set qs j q) i e).column (suc i) (get_or (set qs j q) i e).next) (sym after) (goes_on_more i e a b);
  }

-- the column of a fragment that was not linked yet is one of the grid's
pub linking_narrow : {entry qs : List Fragment} {heads : List (Option ℕ)} {k : ℕ} (j : ℕ) (d : Fragment) → Linking entry qs heads k → Narrow (contents entry) → j < k → (get_or qs j d).column < most_columns
linking_narrow {entry} {qs} {heads} {k} j d w n h =
    let i : j < length qs = omega (arith, w.within) in
    subst (λ (m : Content). m.column < most_columns) (ap (λ (ms : List Content). get_or ms j blank_content) (sym w.same) ∙ content_at qs j d i)
    (n j (omega (arith, i, length-map qs content, ap length w.same)))

pub linking_all : (entry qs : List Fragment) (heads : List (Option ℕ)) → Linking entry qs heads 0 → length qs ≤ most_fragments → Linked qs heads
linking_all entry qs heads w h = record { short = h; starts = w.starts; goes_on = λ k d l. w.goes_on k d (omega arith) l }
