-- A cursor's steps through linked columns: what is left to come.
use Rattle.std.proofs.Common.{◌≡◌, ℕ, suc, ◌+◌, ◌-◌, ◌*◌, ◌<◌, ◌≤◌, Bool, true, false, cond, List, [], ◌∷◌, ◌++◌, length, get_or, drop, Some, None, Option, filter, sym, refl, ap, ◌∙◌, subst, inl, inr, add-one, arith}
use Rattle.std.specs.List.{range_with_len, flat_map}
use Rattle.std.proofs.lemmas.List.{length-map}
use Rattle.std.proofs.lemmas.Bool.{cond-true, cond-false}
use Rattle.finder.specs.Finders.{Pair}
use Rattle.grid.specs.Layouts.{Layout, border, most_columns}
use Rattle.grid.specs.Grid.{Part, shares?, on_border?, ends_inside?, in_order, pairs_with, pairs_among}
use Rattle.grid.specs.declared.fragment.Fragment.{Fragment}
use Rattle.grid.specs.declared.cursor.Cursor.{Cursor}
use Rattle.grid.specs.declared.cursor.Stage.{Stage}
use Rattle.grid.specs.declared.cursor.Stage.TheVariants.{Columns, Borders}
use Rattle.grid.specs.Tables.{Content, content, contents, blank_content, listed, most_fragments, Names, from, Leads, Linked, passes?, first_of, limit, tail_pairs, stage_pairs, here_pairs, rest_pairs, Partners, Placed, Partnered, Begun, Advanced, left, steps_left}
use Rattle.grid.proofs.Links.{listed_here, leads_same, content_at}

tail_nil : (l : Layout) (stage : Stage) (ms : List Content) (c : ℕ) → tail_pairs l stage ms c [] ≡ []
unfolding tail_pairs
tail_nil l Columns ms c = refl
tail_nil l Borders ms c = refl

-- ---- a first fragment i, and where its partners begin
module _ (l : Layout) (ms : List Content) (c : ℕ) where
  with_left : Part → List Pair
  with_left v = pairs_with ends_inside? v (listed c ms)

  on_it : List Part → List Part
  on_it ps = filter (on_border? (border l (suc c))) ps

-- the pairs of what begins with i
here_some : (l : Layout) (stage : Stage) (ms : List Content) (c i : ℕ) (j : Option ℕ) → i < length ms → (get_or ms i blank_content).column ≡ first_of stage c → Partners l stage ms c i j
    → here_pairs l stage ms c (Some i) j ≡ tail_pairs l stage ms c (listed (first_of stage c) (drop i ms))
unfolding here_pairs tail_pairs with_left on_it
here_some l Columns ms c i j h e p =
    ap (λ (ps : List Part). pairs_with shares? (get_or ms i blank_content).part ps ++ pairs_among (listed c (drop (suc i) ms))) (sym p)
    ∙ ap pairs_among (sym (listed_here ms c i h e))
here_some l Borders ms c i j h e (inl (t, p)) =
    ap (λ (ps : List Part). pairs_with ends_inside? (get_or ms i blank_content).part ps ++ flat_map (with_left l ms c) (on_it l ms c (listed (suc c) (drop (suc i) ms)))) (sym p)
    ∙ ap (flat_map (with_left l ms c)) (sym (cond-true (on_border? (border l (suc c)) (get_or ms i blank_content).part) _ _ t))
    ∙ ap (λ (ps : List Part). flat_map (with_left l ms c) (on_it l ms c ps)) (sym (listed_here ms (suc c) i h e))
here_some l Borders ms c i j h e (inr (t, p)) =
    ap (λ (ps : List Part). pairs_with ends_inside? (get_or ms i blank_content).part ps ++ flat_map (with_left l ms c) (on_it l ms c (listed (suc c) (drop (suc i) ms)))) p
    ∙ ap (flat_map (with_left l ms c)) (sym (cond-false (on_border? (border l (suc c)) (get_or ms i blank_content).part) _ _ t))
    ∙ ap (λ (ps : List Part). flat_map (with_left l ms c) (on_it l ms c ps)) (sym (listed_here ms (suc c) i h e))

-- nothing begins with none
here_none : (l : Layout) (stage : Stage) (ms : List Content) (c : ℕ) (j : Option ℕ) → here_pairs l stage ms c None j ≡ tail_pairs l stage ms c (listed (first_of stage c) [])
unfolding here_pairs listed
here_none l stage ms c j = sym (tail_nil l stage ms c)

-- all partners of i were met
here_met : (l : Layout) (stage : Stage) (ms : List Content) (c i : ℕ) → here_pairs l stage ms c (Some i) None ≡ tail_pairs l stage ms c (listed (first_of stage c) (drop (suc i) ms))
unfolding here_pairs listed
here_met l stage ms c i = refl

here_over : (l : Layout) (stage : Stage) (ms : List Content) (c : ℕ) (j : Option ℕ) → here_pairs l stage ms c None j ≡ []
unfolding here_pairs
here_over l stage ms c j = refl

-- ---- the second fragment j
here_step : (l : Layout) (stage : Stage) (ms : List Content) (c i j : ℕ) (k : Option ℕ) → j < length ms → (get_or ms j blank_content).column ≡ c → listed c (drop (suc j) ms) ≡ listed c (from ms k)
    → here_pairs l stage ms c (Some i) (Some j)
    ≡ cond (passes? stage (get_or ms i blank_content).part (get_or ms j blank_content).part)
    (in_order (get_or ms i blank_content).part.number (get_or ms j blank_content).part.number ∷ here_pairs l stage ms c (Some i) k) (here_pairs l stage ms c (Some i) k)
unfolding here_pairs
here_step l stage ms c i j k h e s =
    ap (λ (ps : List Part). pairs_with (passes? stage) (get_or ms i blank_content).part ps ++ tail_pairs l stage ms c (listed (first_of stage c) (drop (suc i) ms)))
    (listed_here ms c j h e ∙ ap (λ (ps : List Part). (get_or ms j blank_content).part ∷ ps) s)
    ∙ split (passes? stage (get_or ms i blank_content).part (get_or ms j blank_content).part) (in_order (get_or ms i blank_content).part.number (get_or ms j blank_content).part.number)
    (pairs_with (passes? stage) (get_or ms i blank_content).part (listed c (from ms k))) (tail_pairs l stage ms c (listed (first_of stage c) (drop (suc i) ms)))
  where
    split : (b : Bool) (x : Pair) (xs ys : List Pair) → cond b (x ∷ xs) xs ++ ys ≡ cond b (x ∷ (xs ++ ys)) (xs ++ ys)
    split true x xs ys = refl
    split false x xs ys = refl

-- a link that goes on leaves fewer steps
left_less : {ms : List Content} {c k : ℕ} (j : Option ℕ) → length ms ≤ most_fragments → k < length ms → Leads ms c (suc k) j → left j < left (Some k)
left_less {ms} {c} {k} None s h w = omega arith
left_less {ms} {c} {k} (Some j) s h w = omega (arith, w.ahead, w.inside.0)

left_most : (j : Option ℕ) → left j ≤ most_fragments
left_most None = omega arith
left_most (Some j) = omega arith

first_few : (stage : Stage) (c : ℕ) → c < limit stage → first_of stage c < most_columns
first_few Columns c h = h
first_few Borders c h = omega arith

stage_few : (stage : Stage) (c : ℕ) → c < limit stage → c < most_columns
stage_few Columns c h = h
stage_few Borders c h = omega arith

-- a cursor at the first fragment of a column or border, or at none
pub begun_none : (l : Layout) (stage : Stage) (ms : List Content) (c : ℕ) → c < limit stage → Begun l stage ms c None (record { column = c; first = None; second = None })
begun_none l stage ms c few = record {
  placed = record { few = few; first_in = tt; second_in = tt; beside = λ e. refl };
  at_column = refl;
  at_first = refl;
  opens = here_none l stage ms c None;
}

pub begun_some : (l : Layout) (stage : Stage) (ms : List Content) (c i : ℕ) (j : Option ℕ) → c < limit stage → Names ms (first_of stage c) (Some i) → Partnered l stage ms c i j
    → Begun l stage ms c (Some i) (record { column = c; first = Some i; second = j })
begun_some l stage ms c i j few b p = record {
  placed = record { few = few; first_in = b; second_in = p.inside; beside = λ e. cc };
  at_column = refl;
  at_first = refl;
  opens = here_some l stage ms c i j b.0 b.1 p.partners;
}

pub partnered_none : (l : Layout) (ms : List Content) (c i : ℕ) → on_border? (border l (suc c)) (get_or ms i blank_content).part ≡ false → Partnered l Borders ms c i None
unfolding listed
partnered_none l ms c i t = record { partners = inr (t, refl); inside = tt }

-- ---- cursors in linked columns
module _ (qs : List Fragment) (heads : List (Option ℕ)) (w : Linked qs heads) where
  size : length (contents qs) ≡ length qs
  size = length-map qs content

  short : length (contents qs) ≤ most_fragments
  short = omega (arith, size, w.short)

  -- the link of a fragment that stands at i
  link_of : (c i : ℕ) (d : Fragment) → Names (contents qs) c (Some i) → Leads (contents qs) c (suc i) (get_or qs i d).next
  link_of c i d n =
      let k : i < length qs = omega (arith, size, n.0) in
      subst (λ (b : ℕ). Leads (contents qs) b (suc i) (get_or qs i d).next) (sym (ap (λ (m : Content). m.column) (content_at qs i d k)) ∙ n.1) (w.goes_on i d k)

  pub partnered_columns : (l : Layout) (c i : ℕ) (d : Fragment) → Names (contents qs) c (Some i) → Partnered l Columns (contents qs) c i (get_or qs i d).next
  partnered_columns l c i d n = let u = link_of c i d n in record { partners = leads_same u; inside = u.inside }

  pub partnered_border : (l : Layout) (c i : ℕ) → c < most_columns → on_border? (border l (suc c)) (get_or (contents qs) i blank_content).part ≡ true → Partnered l Borders (contents qs) c i (get_or heads c None)
  partnered_border l c i k t = let u = w.starts c k in record { partners = inl (t, leads_same u); inside = u.inside }

  -- the next fragment of the column begins, and its pairs are those left
  pub advanced_first : (l : Layout) (stage : Stage) (at next : Cursor) (i : ℕ) (d : Fragment) → Placed stage (contents qs) at → at.first ≡ Some i → at.second ≡ None
      → Begun l stage (contents qs) at.column (get_or qs i d).next next → Advanced l stage (contents qs) at (Some next)
  unfolding rest_pairs
  advanced_first l stage at next i d p f m b = (b.placed, left_same, steps next.column next.first b.at_column b.at_first)
    where
      named : Names (contents qs) (first_of stage at.column) (Some i)
      named = subst (λ (o : Option ℕ). Names (contents qs) (first_of stage at.column) o) f p.first_in

      u : Leads (contents qs) (first_of stage at.column) (suc i) (get_or qs i d).next
      u = link_of (first_of stage at.column) i d named

      here : here_pairs l stage (contents qs) next.column next.first next.second ≡ here_pairs l stage (contents qs) at.column at.first at.second
      here =
          ap (λ (c : ℕ). here_pairs l stage (contents qs) c next.first next.second) b.at_column
          ∙ ap (λ (i : Option ℕ). here_pairs l stage (contents qs) at.column i next.second) b.at_first
          ∙ b.opens ∙ ap (tail_pairs l stage (contents qs) at.column) (sym (leads_same u)) ∙ sym (here_met l stage (contents qs) at.column i)
          ∙ ap (λ (j : Option ℕ). here_pairs l stage (contents qs) at.column (Some i) j) (sym m)
          ∙ ap (λ (i : Option ℕ). here_pairs l stage (contents qs) at.column i at.second) (sym f)

      left_same : rest_pairs l stage (contents qs) next ≡ rest_pairs l stage (contents qs) at
      left_same =
          ap (λ (ps : List Pair). ps ++ flat_map (stage_pairs l stage (contents qs)) (range_with_len (suc next.column) (limit stage - suc next.column))) here
          ∙ ap (λ (c : ℕ). here_pairs l stage (contents qs) at.column at.first at.second ++ flat_map (stage_pairs l stage (contents qs)) (range_with_len (suc c) (limit stage - suc c))) b.at_column

      steps : (c : ℕ) (j : Option ℕ) → c ≡ at.column → j ≡ (get_or qs i d).next
          → ((most_columns - c) * (most_fragments + 1) + left j) * (most_fragments + 1) + left next.second < ((most_columns - at.column) * (most_fragments + 1) + left at.first) * (most_fragments + 1) + left at.second
      steps c j e k = omega (arith, ap left k, ap left f, left_less (get_or qs i d).next short named.0 u, left_most next.second)

  -- a column or border that is begun at its head has all its pairs to come
  pub begun_all : (l : Layout) (stage : Stage) (c : ℕ) (at : Cursor) → c < limit stage → Begun l stage (contents qs) c (get_or heads (first_of stage c) None) at
      → rest_pairs l stage (contents qs) at ≡ stage_pairs l stage (contents qs) c ++ flat_map (stage_pairs l stage (contents qs)) (range_with_len (suc c) (limit stage - suc c))
  unfolding rest_pairs stage_pairs
  begun_all l stage c at k b =
      ap (λ (ps : List Pair). ps ++ flat_map (stage_pairs l stage (contents qs)) (range_with_len (suc at.column) (limit stage - suc at.column))) here
      ∙ ap (λ (c' : ℕ). stage_pairs l stage (contents qs) c ++ flat_map (stage_pairs l stage (contents qs)) (range_with_len (suc c') (limit stage - suc c'))) b.at_column
    where
      here : here_pairs l stage (contents qs) at.column at.first at.second ≡ stage_pairs l stage (contents qs) c
      here =
          ap (λ (c' : ℕ). here_pairs l stage (contents qs) c' at.first at.second) b.at_column
          ∙ ap (λ (i : Option ℕ). here_pairs l stage (contents qs) c i at.second) b.at_first
          ∙ b.opens ∙ ap (tail_pairs l stage (contents qs) c) (sym (leads_same (w.starts (first_of stage c) (first_few stage c k))))

  pub advanced_column : (l : Layout) (stage : Stage) (at next : Cursor) → at.first ≡ None → suc at.column < limit stage
      → Begun l stage (contents qs) (suc at.column) (get_or heads (first_of stage (suc at.column)) None) next → Advanced l stage (contents qs) at (Some next)
  unfolding rest_pairs
  advanced_column l stage at next f k b = (b.placed, left_same, steps next.column b.at_column)
    where
      more : limit stage - suc at.column ≡ suc (limit stage - suc (suc at.column))
      more = omega arith

      over : here_pairs l stage (contents qs) at.column at.first at.second ≡ []
      over = ap (λ (i : Option ℕ). here_pairs l stage (contents qs) at.column i at.second) f ∙ here_over l stage (contents qs) at.column at.second

      left_same : rest_pairs l stage (contents qs) next ≡ rest_pairs l stage (contents qs) at
      left_same =
          begun_all l stage (suc at.column) next k b
          ∙ ap (λ (n : ℕ). stage_pairs l stage (contents qs) (suc at.column) ++ flat_map (stage_pairs l stage (contents qs)) (range_with_len n (limit stage - suc (suc at.column)))) (sym (add-one (suc at.column)))
          ∙ ap (λ (n : ℕ). flat_map (stage_pairs l stage (contents qs)) (range_with_len (suc at.column) n)) (sym more)
          ∙ ap (λ (ps : List Pair). ps ++ flat_map (stage_pairs l stage (contents qs)) (range_with_len (suc at.column) (limit stage - suc at.column))) (sym over)

      steps : (c : ℕ) → c ≡ suc at.column
          → ((most_columns - c) * (most_fragments + 1) + left next.first) * (most_fragments + 1) + left next.second
          < ((most_columns - at.column) * (most_fragments + 1) + left at.first) * (most_fragments + 1) + left at.second
      steps c d = omega (arith, stage_few stage (suc at.column) k, left_most next.first, left_most next.second)

  -- ---- one partner is met
  module _ (l : Layout) (stage : Stage) (at : Cursor) (i j : ℕ) (d e : Fragment) (s : Placed stage (contents qs) at) (f : at.first ≡ Some i) (g : at.second ≡ Some j) where
    first_named : Names (contents qs) (first_of stage at.column) (Some i)
    first_named = subst (λ (o : Option ℕ). Names (contents qs) (first_of stage at.column) o) f s.first_in

    second_named : Names (contents qs) at.column (Some j)
    second_named = subst (λ (o : Option ℕ). Names (contents qs) at.column o) g s.second_in

    link : Leads (contents qs) at.column (suc j) (get_or qs j e).next
    link = link_of at.column j e second_named

    pub met_placed : Placed stage (contents qs) (record { column = at.column; first = at.first; second = (get_or qs j e).next })
    met_placed = record { few = s.few; first_in = s.first_in; second_in = link.inside; beside = λ n. never (sym f ∙ n) }
      where
        never : {x : Option ℕ} → Some i ≡ None → x ≡ None
        never n = cc

    pub met_less : steps_left (record { column = at.column; first = at.first; second = (get_or qs j e).next }) < steps_left at
    met_less = omega (arith, ap left g, left_less (get_or qs j e).next short second_named.0 link)

    met_is : rest_pairs l stage (contents qs) at
        ≡ cond (passes? stage (content (get_or qs i d)).part (content (get_or qs j e)).part) (in_order (get_or qs i d).index (get_or qs j e).index ∷ rest_pairs l stage (contents qs) (record { column = at.column; first = at.first; second = (get_or qs j e).next }))
        (rest_pairs l stage (contents qs) (record { column = at.column; first = at.first; second = (get_or qs j e).next }))
    unfolding rest_pairs
    met_is =
        ap (λ (o : Option ℕ). here_pairs l stage (contents qs) at.column at.first o ++ later) g
        ∙ ap (λ (o : Option ℕ). here_pairs l stage (contents qs) at.column o (Some j) ++ later) f
        ∙ ap (λ (ps : List Pair). ps ++ later) (here_step l stage (contents qs) at.column i j (get_or qs j e).next second_named.0 second_named.1 (leads_same link))
        ∙ split (passes? stage (get_or (contents qs) i blank_content).part (get_or (contents qs) j blank_content).part)
        (in_order (get_or (contents qs) i blank_content).part.number (get_or (contents qs) j blank_content).part.number) (here_pairs l stage (contents qs) at.column (Some i) (get_or qs j e).next)
        ∙ ap (λ (m : Content). told m (get_or (contents qs) j blank_content) (Some i)) (content_at qs i d (omega (arith, size, first_named.0)))
        ∙ ap (λ (m : Content). told (content (get_or qs i d)) m (Some i)) (content_at qs j e (omega (arith, size, second_named.0)))
        ∙ ap (told (content (get_or qs i d)) (content (get_or qs j e))) (sym f)
      where
        later : List Pair
        later = flat_map (stage_pairs l stage (contents qs)) (range_with_len (suc at.column) (limit stage - suc at.column))

        told : Content → Content → Option ℕ → List Pair
        told m n o = cond (passes? stage m.part n.part) (in_order m.part.number n.part.number ∷ (here_pairs l stage (contents qs) at.column o (get_or qs j e).next ++ later))
            (here_pairs l stage (contents qs) at.column o (get_or qs j e).next ++ later)

        split : (b : Bool) (x : Pair) (xs : List Pair) → cond b (x ∷ xs) xs ++ later ≡ cond b (x ∷ (xs ++ later)) (xs ++ later)
        split true x xs = refl
        split false x xs = refl

    pub met_passes : passes? stage (content (get_or qs i d)).part (content (get_or qs j e)).part ≡ true
        → rest_pairs l stage (contents qs) at ≡ in_order (get_or qs i d).index (get_or qs j e).index ∷ rest_pairs l stage (contents qs) (record { column = at.column; first = at.first; second = (get_or qs j e).next })
    met_passes t = met_is ∙ cond-true (passes? stage (content (get_or qs i d)).part (content (get_or qs j e)).part) _ _ t

    pub met_fails : passes? stage (content (get_or qs i d)).part (content (get_or qs j e)).part ≡ false
        → rest_pairs l stage (contents qs) (record { column = at.column; first = at.first; second = (get_or qs j e).next }) ≡ rest_pairs l stage (contents qs) at
    met_fails t = sym (met_is ∙ cond-false (passes? stage (content (get_or qs i d)).part (content (get_or qs j e)).part) _ _ t)

-- no column or border is left
pub advanced_none : (l : Layout) (stage : Stage) (ms : List Content) (at : Cursor) → at.first ≡ None → limit stage ≤ suc at.column → Advanced l stage ms at None
unfolding rest_pairs
advanced_none l stage ms at f k =
    ap (λ (i : Option ℕ). here_pairs l stage ms at.column i at.second ++ flat_map (stage_pairs l stage ms) (range_with_len (suc at.column) (limit stage - suc at.column))) f
    ∙ ap (λ (ps : List Pair). ps ++ flat_map (stage_pairs l stage ms) (range_with_len (suc at.column) (limit stage - suc at.column))) (here_over l stage ms at.column at.second)
    ∙ ap (λ (n : ℕ). flat_map (stage_pairs l stage ms) (range_with_len (suc at.column) n)) (over (limit stage) k)
  where
    over : (n : ℕ) → n ≤ suc at.column → n - suc at.column ≡ 0
    over n k = omega arith
