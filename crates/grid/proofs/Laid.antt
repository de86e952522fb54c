-- Fragments laid edge by edge: the parts of each column, the edges, and how many there are.
use Rattle.std.proofs.Common.{◌≡◌, ℕ, zero, suc, ◌+◌, ◌<◌, ◌≤◌, Bool, true, false, cond, ◌&&◌, eqb, leb, ◌⊎◌, List, [], ◌∷◌, ◌++◌, map, length, take, set, sum_by, sym, refl, ap, ◌∙◌, subst, inl, inr, append_assoc, append-nil, add-zero, arith, length-append}
use Rattle.std.specs.List.{range_with_len, AllByRecursion}
use Rattle.std.proofs.ByRecursion.{All-map, All-append}
use Rattle.std.proofs.lemmas.List.FromFn.{map-range_with_len_more, length-map-range_with_len}
use Rattle.std.proofs.lemmas.List.{take_more_set, map_push}
use Rattle.std.proofs.lemmas.List.Sums.{sum_by-cons}
use Rattle.std.proofs.lemmas.Bool.{cond-true, cond-false, eq-eqb, ne_eqb, cases_lt, leb-true, leb-false}
use Rattle.plane.specs.Edges.{Edge}
use Rattle.grid.specs.Layouts.{Layout}
use Rattle.grid.specs.Rectangles.{first_column, last_column, in_column?, fragments}
use Rattle.grid.specs.Grid.{Part, part, parts_from}
use Rattle.grid.specs.declared.fragment.Fragment.{Fragment}
use Rattle.grid.specs.Tables.{Content, content, contents, listed, edges_in, laid_in, laid_one, laid}

-- ---- one more fragment
pub laid_more : (qs : List Fragment) (q : Fragment) (k a : ℕ) (f : ℕ → Content) → k < length qs → content q ≡ f (a + k) → contents (take k qs) ≡ map f (range_with_len a k)
    → contents (take (k + 1) (set qs k q)) ≡ map f (range_with_len a (k + 1))
laid_more qs q k a f h e i =
    ap contents (take_more_set qs k q h)
    ∙ map_push content (take k qs) q
    ∙ ap (λ (ms : List Content). ms ++ content q ∷ []) i
    ∙ ap (λ (m : Content). map f (range_with_len a k) ++ m ∷ []) e
    ∙ sym (map-range_with_len_more f a k (a + k) refl)

-- ---- the parts of a column
listed_append : (c : ℕ) (ms ns : List Content) → listed c (ms ++ ns) ≡ listed c ms ++ listed c ns
unfolding listed
listed_append c [] ns = refl
listed_append c (m ∷ ms) ns = go (eqb m.column c) (listed_append c ms ns)
  where
    go : (b : Bool) → listed c (ms ++ ns) ≡ listed c ms ++ listed c ns
        → cond b (m.part ∷ listed c (ms ++ ns)) (listed c (ms ++ ns)) ≡ cond b (m.part ∷ listed c ms) (listed c ms) ++ listed c ns
    go true e = ap (λ (ps : List Part). m.part ∷ ps) e
    go false e = e

module _ (l : Layout) (i : ℕ) (e : Edge) (c : ℕ) where
  none_before : (a n : ℕ) → c < a → listed c (map (laid_in l i e) (range_with_len a n)) ≡ []
  unfolding listed
  none_before a zero h = refl
  none_before a (suc n) h = cond-false (eqb a c) _ _ (ne_eqb a c (λ e. over e h)) ∙ none_before (a + 1) n (omega arith)
    where
      over : a ≡ c → c < a → ⊥
      over e h = omega arith

  none_behind : (a n : ℕ) → a + n ≤ c → listed c (map (laid_in l i e) (range_with_len a n)) ≡ []
  unfolding listed
  none_behind a zero h = refl
  none_behind a (suc n) h = cond-false (eqb a c) _ _ (ne_eqb a c (λ e. over e h)) ∙ none_behind (a + 1) n (omega arith)
    where
      over : a ≡ c → a + suc n ≤ c → ⊥
      over e h = omega arith

  one_between : (a n : ℕ) → a ≤ c → c < a + n → listed c (map (laid_in l i e) (range_with_len a n)) ≡ part l c i e ∷ []
  unfolding listed
  one_between a zero h k = absurd (omega arith)
  one_between a (suc n) h k = go (cases_lt a c) (λ j. one_between (a + 1) n (omega arith) (omega arith))
    where
      after : {j : ℕ} → a < j → (a ≡ j → ⊥)
      after h e = omega arith

      go : (a < c) ⊎ (c ≤ a) → (a < c → listed c (map (laid_in l i e) (range_with_len (a + 1) n)) ≡ part l c i e ∷ [])
          → cond (eqb a c) (part l a i e ∷ listed c (map (laid_in l i e) (range_with_len (a + 1) n))) (listed c (map (laid_in l i e) (range_with_len (a + 1) n))) ≡ part l c i e ∷ []
      go (inl j) r = cond-false (eqb a c) _ _ (ne_eqb a c (after j)) ∙ r j
      go (inr j) r =
          let s : a ≡ c = omega arith in
          cond-true (eqb a c) _ _ (eq-eqb a c s)
          ∙ ap (λ (ps : List Part). part l a i e ∷ ps) (none_before (a + 1) n (omega arith))
          ∙ ap (λ (n : ℕ). part l n i e ∷ []) s

  listed_one : listed c (laid_one l i e) ≡ cond (in_column? l c e) (part l c i e ∷ []) []
  unfolding laid_one in_column?
  listed_one = go (leb (first_column l e) c) refl (leb c (last_column l e)) refl
    where
      go : (b : Bool) → leb (first_column l e) c ≡ b → (d : Bool) → leb c (last_column l e) ≡ d
          → listed c (map (laid_in l i e) (range_with_len (first_column l e) (fragments l e))) ≡ cond (b && d) (part l c i e ∷ []) []
      go true s true t =
          let x = leb-true (first_column l e) c s in
          let y = leb-true c (last_column l e) t in
          one_between (first_column l e) (fragments l e) x (omega arith)
      go true s false t =
          let x = leb-true (first_column l e) c s in
          let y = leb-false c (last_column l e) t in
          none_behind (first_column l e) (fragments l e) (omega arith)
      go false s d t = none_before (first_column l e) (fragments l e) (leb-false (first_column l e) c s)

-- the columns of what is laid are those of the edges
pub listed_laid : (l : Layout) (c i : ℕ) (es : List Edge) → listed c (laid l i es) ≡ parts_from l c i es
unfolding laid listed
listed_laid l c i [] = refl
listed_laid l c i (e ∷ es) =
    listed_append c (laid_one l i e) (laid l (suc i) es)
    ∙ ap (λ (ps : List Part). ps ++ listed c (laid l (suc i) es)) (listed_one l i e c)
    ∙ ap (λ (ps : List Part). cond (in_column? l c e) (part l c i e ∷ []) [] ++ ps) (listed_laid l c (suc i) es)
    ∙ go (in_column? l c e)
  where
    go : (b : Bool) → cond b (part l c i e ∷ []) [] ++ parts_from l c (suc i) es ≡ cond b (part l c i e ∷ parts_from l c (suc i) es) (parts_from l c (suc i) es)
    go true = refl
    go false = refl

-- ---- how many there are
pub length_laid : (l : Layout) (i : ℕ) (es : List Edge) → length (laid l i es) ≡ sum_by (λ e. fragments l e) es
unfolding laid laid_one
length_laid l i [] = refl
length_laid l i (e ∷ es) =
    length-append (laid_one l i e) (laid l (suc i) es)
    ∙ ap (λ (n : ℕ). n + length (laid l (suc i) es)) (length-map-range_with_len (laid_in l i e) (first_column l e) (fragments l e))
    ∙ ap (λ (n : ℕ). fragments l e + n) (length_laid l (suc i) es) ∙ sym (sum_by-cons (λ e. fragments l e) e es)

-- ---- one more edge
pub laid_push : (l : Layout) (i : ℕ) (es : List Edge) (e : Edge) → laid l i (es ++ e ∷ []) ≡ laid l i es ++ laid_one l (i + length es) e
unfolding laid
laid_push l i [] e = append-nil (laid_one l i e) ∙ ap (λ (n : ℕ). laid_one l n e) (sym (add-zero i))
laid_push l i (x ∷ es) e =
    ap (λ (ms : List Content). laid_one l i x ++ ms) (laid_push l (suc i) es e ∙ ap (λ (n : ℕ). laid l (suc i) es ++ laid_one l n e) (shift i (length es)))
    ∙ sym (append_assoc (laid_one l i x) (laid l (suc i) es) (laid_one l (i + suc (length es)) e))
  where
    shift : (m n : ℕ) → suc m + n ≡ m + suc n
    shift m n = omega arith

pub edges_append : (l : Layout) (ms ns : List Content) → edges_in l (ms ++ ns) ≡ edges_in l ms ++ edges_in l ns
unfolding edges_in
edges_append l [] ns = refl
edges_append l (m ∷ ms) ns = go (eqb m.column (first_column l m.part.edge)) (edges_append l ms ns)
  where
    go : (b : Bool) → edges_in l (ms ++ ns) ≡ edges_in l ms ++ edges_in l ns
        → cond b (m.part.edge ∷ edges_in l (ms ++ ns)) (edges_in l (ms ++ ns)) ≡ cond b (m.part.edge ∷ edges_in l ms) (edges_in l ms) ++ edges_in l ns
    go true e = ap (λ (es : List Edge). m.part.edge ∷ es) e
    go false e = e

-- an edge is told by its first fragment alone
edges_after : (l : Layout) (i : ℕ) (e : Edge) (a n : ℕ) → first_column l e < a → edges_in l (map (laid_in l i e) (range_with_len a n)) ≡ []
unfolding edges_in
edges_after l i e a zero h = refl
edges_after l i e a (suc n) h = cond-false (eqb a (first_column l e)) _ _ (ne_eqb a (first_column l e) (λ s. over s h)) ∙ edges_after l i e (a + 1) n (omega arith)
  where
    over : a ≡ first_column l e → first_column l e < a → ⊥
    over s h = omega arith

pub edges_one : (l : Layout) (i : ℕ) (e : Edge) → first_column l e ≤ last_column l e → edges_in l (laid_one l i e) ≡ e ∷ []
unfolding edges_in laid_one
edges_one l i e h = go (fragments l e) (omega arith)
  where
    go : (n : ℕ) → 0 < n → edges_in l (map (laid_in l i e) (range_with_len (first_column l e) n)) ≡ e ∷ []
    go zero h = absurd (omega arith)
    go (suc n) h =
        cond-true (eqb (first_column l e) (first_column l e)) _ _ (eq-eqb (first_column l e) (first_column l e) refl)
        ∙ ap (λ (es : List Edge). e ∷ es) (edges_after l i e (first_column l e + 1) n (omega arith))

-- ---- the columns of what is laid
counted_below : (a n m : ℕ) → a + n ≤ m → AllByRecursion (λ c. c < m) (range_with_len a n)
counted_below a zero m h = tt
counted_below a (suc n) m h = (omega arith, counted_below (a + 1) n m (omega arith))

laid_one_below : (l : Layout) (i m : ℕ) (e : Edge) → last_column l e < m → AllByRecursion (λ q. q.column < m) (laid_one l i e)
unfolding laid_one
laid_one_below l i m e h = All-map (λ (q : Content). q.column < m) (laid_in l i e) (range_with_len (first_column l e) (fragments l e)) (go (cases_lt (last_column l e) (first_column l e)))
  where
    go : (last_column l e < first_column l e) ⊎ (first_column l e ≤ last_column l e) → AllByRecursion (λ c. c < m) (range_with_len (first_column l e) (fragments l e))
    go (inl k) = subst (λ (n : ℕ). AllByRecursion (λ c. c < m) (range_with_len (first_column l e) n)) (empty k) tt
      where
        empty : last_column l e < first_column l e → 0 ≡ fragments l e
        empty k = omega arith
    go (inr k) = counted_below (first_column l e) (fragments l e) m (omega arith)

pub laid_below : (l : Layout) (i m : ℕ) (es : List Edge) → AllByRecursion (λ e. last_column l e < m) es → AllByRecursion (λ q. q.column < m) (laid l i es)
unfolding laid
laid_below l i m [] h = tt
laid_below l i m (e ∷ es) (h, k) = All-append (λ (q : Content). q.column < m) (laid_one l i e) (laid l (suc i) es) (laid_one_below l i m e h) (laid_below l (suc i) m es k)
