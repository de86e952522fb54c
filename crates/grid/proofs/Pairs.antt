-- Which pairs stand in the lists of a column and of a border, and how many.
use Rattle.std.proofs.Common.{◌≡◌, ℕ, zero, suc, ◌+◌, ◌*◌, ◌<◌, ◌≤◌, min, max, Bool, true, false, cond, ◌⊎◌, List, [], ◌∷◌, length, filter, sym, refl, ap, ◌∙◌, subst, inl, inr, le_trans, le_refl, add-zero, add-suc, suc-mul, mul-le-mul, suc-add, zero-add, mul-suc, arith, length-append}
use mathlib.Core.Bool.{false≢true}
use native.Mathlib.Nat.{min-eq_left, min-eq_right, max-eq_left, max-eq_right}
use Rattle.std.specs.List.{flat_map}
use Rattle.plane.specs.Edges.{Edge, between?}
use Rattle.plane.specs.Rules.{In}
use Rattle.plane.proofs.Points.{apart}
use Rattle.plane.proofs.Tests.{decides_between}
use Rattle.finder.specs.Finders.{Pair, edge_at}
use Rattle.grid.specs.Layouts.{Layout, border}
use Rattle.grid.specs.Rectangles.{stands_at?, in_column?, rect}
use Rattle.grid.specs.Grid.{Part, part, parts_from, parts, share?, shares?, on_border?, ends_inside?, in_order, pairs_with, pairs_among, column_pairs, border_pairs}
use Rattle.finder.proofs.Members.{in_left, in_right, in_split}
use Rattle.grid.proofs.Members.{in_kept, kept_in, length_kept, in_joined, joined_in, length_joined}

in_order_lt : (i j : ℕ) → i < j → in_order i j ≡ (i, j)
in_order_lt i j h = let k : i ≤ j = omega arith in ap (λ (m : ℕ). (m, max i j)) (min-eq_left k) ∙ ap (λ (m : ℕ). (i, m)) (max-eq_right k)

in_order_gt : (i j : ℕ) → j < i → in_order i j ≡ (j, i)
in_order_gt i j h = let k : j ≤ i = omega arith in ap (λ (m : ℕ). (m, max i j)) (min-eq_right k) ∙ ap (λ (m : ℕ). (j, m)) (max-eq_left k)

-- ---- one part with those of a list
module _ (test : Part → Part → Bool) (p : Part) where
  pair_with : (q : Part) (ps : List Part) → In q ps → test p q ≡ true → In (in_order p.number q.number) (pairs_with test p ps)
  pair_with q [] h t = absurd h
  pair_with q (r ∷ ps) h t = go (test p r) refl h (λ k. pair_with q ps k t)
    where
      go : (b : Bool) → test p r ≡ b → (q ≡ r) ⊎ In q ps → (In q ps → In (in_order p.number q.number) (pairs_with test p ps))
          → In (in_order p.number q.number) (cond b (in_order p.number r.number ∷ pairs_with test p ps) (pairs_with test p ps))
      go true e (inl i) s = inl (ap (λ (w : Part). in_order p.number w.number) i)
      go true e (inr k) s = inr (s k)
      go false e (inl i) s = absurd (clash (subst (λ (w : Part). test p w ≡ true) i t) e)
        where
          clash : {b : Bool} → b ≡ true → b ≡ false → ⊥
          clash e f = false≢true (sym f ∙ e)
      go false e (inr k) s = s k

  record With (ps : List Part) (x : Pair) : Type 0 where
    other : Part
    there : In other ps
    passes : test p other ≡ true
    is : x ≡ in_order p.number other.number

  with_pair : (x : Pair) (ps : List Part) → In x (pairs_with test p ps) → With ps x
  with_pair x [] h = absurd h
  with_pair x (r ∷ ps) h = go (test p r) refl h (λ k. with_pair x ps k)
    where
      further : With ps x → With (r ∷ ps) x
      further w = record { other = w.other; there = inr w.there; passes = w.passes; is = w.is }

      go : (b : Bool) → test p r ≡ b → In x (cond b (in_order p.number r.number ∷ pairs_with test p ps) (pairs_with test p ps)) → (In x (pairs_with test p ps) → With ps x) → With (r ∷ ps) x
      go true e (inl i) s = record { other = r; there = inl refl; passes = e; is = i }
      go true e (inr k) s = further (s k)
      go false e k s = further (s k)

  length_with : (ps : List Part) → length (pairs_with test p ps) ≤ length ps
  length_with [] = omega arith
  length_with (r ∷ ps) = go (test p r) (length_with ps)
    where
      go : (b : Bool) → length (pairs_with test p ps) ≤ length ps → length (cond b (in_order p.number r.number ∷ pairs_with test p ps) (pairs_with test p ps)) ≤ suc (length ps)
      go true h = omega arith
      go false h = omega arith

length_among : (ps : List Part) → length (pairs_among ps) ≤ length ps * length ps
length_among [] = omega arith
length_among (p ∷ ps) =
    omega (arith, length-append (pairs_with shares? p ps) (pairs_among ps), length_with shares? p ps, length_among ps, suc-mul (length ps) (suc (length ps)), mul-suc (length ps) (length ps))

-- ---- the parts of a column
module _ (l : Layout) (c : ℕ) where
  part_in : (n k : ℕ) (es : List Edge) → k < length es → in_column? l c (edge_at es k) ≡ true → In (part l c (n + k) (edge_at es k)) (parts_from l c n es)
  part_in n k [] h t = absurd (omega arith)
  part_in n zero (e ∷ es) h t =
      subst (λ (b : Bool). In (part l c (n + 0) e) (cond b (part l c n e ∷ parts_from l c (suc n) es) (parts_from l c (suc n) es))) (sym t)
      (inl (ap (λ (m : ℕ). part l c m e) (add-zero n)))
  part_in n (suc k) (e ∷ es) h t = go (in_column? l c e) (part_in (suc n) k es (omega arith) t)
    where
      go : (b : Bool) → In (part l c (suc n + k) (edge_at es k)) (parts_from l c (suc n) es) → In (part l c (n + suc k) (edge_at es k)) (cond b (part l c n e ∷ parts_from l c (suc n) es) (parts_from l c (suc n) es))
      go true r = inr (subst (λ (m : ℕ). In (part l c m (edge_at es k)) (parts_from l c (suc n) es)) (suc-add n k ∙ sym (add-suc n k)) r)
      go false r = subst (λ (m : ℕ). In (part l c m (edge_at es k)) (parts_from l c (suc n) es)) (suc-add n k ∙ sym (add-suc n k)) r

  -- p is the part of edge n + k
  record Stands (n : ℕ) (es : List Edge) (p : Part) : Type 0 where
    place : ℕ
    short : place < length es
    is : p ≡ part l c (n + place) (edge_at es place)

  in_part : (n : ℕ) (p : Part) (es : List Edge) → In p (parts_from l c n es) → Stands n es p
  in_part n p [] h = absurd h
  in_part n p (e ∷ es) h = go (in_column? l c e) h (λ k. in_part (suc n) p es k)
    where
      further : Stands (suc n) es p → Stands n (e ∷ es) p
      further w = record {
        place = suc w.place;
        short = omega (arith, w.short);
        is = w.is ∙ ap (λ (m : ℕ). part l c m (edge_at es w.place)) (suc-add n w.place ∙ sym (add-suc n w.place));
      }

      go : (b : Bool) → In p (cond b (part l c n e ∷ parts_from l c (suc n) es) (parts_from l c (suc n) es)) → (In p (parts_from l c (suc n) es) → Stands (suc n) es p) → Stands n (e ∷ es) p
      go true (inl i) s = record { place = 0; short = omega arith; is = i ∙ ap (λ (m : ℕ). part l c m e) (sym (add-zero n)) }
      go true (inr k) s = further (s k)
      go false k s = further (s k)

  length_parts : (n : ℕ) (es : List Edge) → length (parts_from l c n es) ≤ length es
  length_parts n [] = omega arith
  length_parts n (e ∷ es) = go (in_column? l c e) (length_parts (suc n) es)
    where
      go : (b : Bool) → length (parts_from l c (suc n) es) ≤ length es → length (cond b (part l c n e ∷ parts_from l c (suc n) es) (parts_from l c (suc n) es)) ≤ suc (length es)
      go true h = omega arith
      go false h = omega arith

  -- ---- the pairs of a column
  among_has : (n i j : ℕ) (es : List Edge) → i < j → j < length es → in_column? l c (edge_at es i) ≡ true → in_column? l c (edge_at es j) ≡ true
      → share? (rect l c (edge_at es i)) (rect l c (edge_at es j)) ≡ true → In (n + i, n + j) (pairs_among (parts_from l c n es))
  among_has n i j [] h k s t u = absurd (omega arith)
  among_has n i zero (e ∷ es) h k s t u = absurd (omega arith)
  among_has n zero (suc j) (e ∷ es) h k s t u =
      subst (λ (b : Bool). In (n + 0, n + suc j) (pairs_among (cond b (part l c n e ∷ parts_from l c (suc n) es) (parts_from l c (suc n) es)))) (sym s)
      (in_left (n + 0, n + suc j) (pairs_with shares? (part l c n e) (parts_from l c (suc n) es)) (pairs_among (parts_from l c (suc n) es))
      (subst (λ (x : Pair). In x (pairs_with shares? (part l c n e) (parts_from l c (suc n) es))) is
      (pair_with shares? (part l c n e) (part l c (suc n + j) (edge_at es j)) (parts_from l c (suc n) es) (part_in (suc n) j es (omega arith) t) u)))
    where
      is : in_order n (suc n + j) ≡ (n + 0, n + suc j)
      is = in_order_lt n (suc n + j) (omega arith) ∙ ap (λ (m : ℕ). (m, suc n + j)) (sym (add-zero n)) ∙ ap (λ (m : ℕ). (n + 0, m)) (suc-add n j ∙ sym (add-suc n j))
  among_has n (suc i) (suc j) (e ∷ es) h k s t u = go (in_column? l c e)
      (subst (λ (x : Pair). In x (pairs_among (parts_from l c (suc n) es))) is (among_has (suc n) i j es (omega arith) (omega arith) s t u))
    where
      is : ◌≡◌ {A = Pair} (suc n + i, suc n + j) (n + suc i, n + suc j)
      is = ap (λ (m : ℕ). (m, suc n + j)) (suc-add n i ∙ sym (add-suc n i)) ∙ ap (λ (m : ℕ). (n + suc i, m)) (suc-add n j ∙ sym (add-suc n j))

      go : (b : Bool) → In (n + suc i, n + suc j) (pairs_among (parts_from l c (suc n) es)) → In (n + suc i, n + suc j) (pairs_among (cond b (part l c n e ∷ parts_from l c (suc n) es) (parts_from l c (suc n) es)))
      go true r = in_right (n + suc i, n + suc j) (pairs_with shares? (part l c n e) (parts_from l c (suc n) es)) (pairs_among (parts_from l c (suc n) es)) r
      go false r = r

  among_in : (n : ℕ) (x : Pair) (es : List Edge) → In x (pairs_among (parts_from l c n es)) → (x.0 < x.1) × (x.1 < n + length es)
  among_in n x [] h = absurd h
  among_in n x (e ∷ es) h = go (in_column? l c e) h (λ k. further (among_in (suc n) x es k))
    where
      further : (x.0 < x.1) × (x.1 < suc n + length es) → (x.0 < x.1) × (x.1 < n + suc (length es))
      further w = (w.0, omega (arith, w.1))

      first : With shares? (part l c n e) (parts_from l c (suc n) es) x → (x.0 < x.1) × (x.1 < n + suc (length es))
      first w =
          let s = in_part (suc n) w.other es w.there in
          let k : n < w.other.number = omega (arith, ap (λ (p : Part). p.number) s.is) in
          subst (λ (y : Pair). (y.0 < y.1) × (y.1 < n + suc (length es))) (sym (w.is ∙ in_order_lt n w.other.number k))
          (k, omega (arith, ap (λ (p : Part). p.number) s.is, s.short))

      go : (b : Bool) → In x (pairs_among (cond b (part l c n e ∷ parts_from l c (suc n) es) (parts_from l c (suc n) es)))
          → (In x (pairs_among (parts_from l c (suc n) es)) → (x.0 < x.1) × (x.1 < n + suc (length es))) → (x.0 < x.1) × (x.1 < n + suc (length es))
      go true k r = elim (in_split x (pairs_with shares? (part l c n e) (parts_from l c (suc n) es)) (pairs_among (parts_from l c (suc n) es)) k)
          [ inl i ↦ first (with_pair shares? (part l c n e) x (parts_from l c (suc n) es) i) | inr i ↦ r i ]
      go false k r = r k

-- ---- a column, and a border
module _ (l : Layout) (es : List Edge) (c : ℕ) where
  pub column_has : (i j : ℕ) → i < j → j < length es → in_column? l c (edge_at es i) ≡ true → in_column? l c (edge_at es j) ≡ true
      → share? (rect l c (edge_at es i)) (rect l c (edge_at es j)) ≡ true → In (i, j) (column_pairs l es c)
  unfolding column_pairs
  column_has i j h k s t u = subst (λ (x : Pair). In x (pairs_among (parts l es c))) zeros (among_has l c 0 i j es h k s t u)
    where
      zeros : ◌≡◌ {A = Pair} (0 + i, 0 + j) (i, j)
      zeros = ap (λ (m : ℕ). (m, 0 + j)) (zero-add i) ∙ ap (λ (m : ℕ). (i, m)) (zero-add j)

  pub column_numbered : (x : Pair) → In x (column_pairs l es c) → (x.0 < x.1) × (x.1 < length es)
  unfolding column_pairs
  column_numbered x h = let w = among_in l c 0 x es h in (w.0, omega (arith, w.1))

  pub column_short : length (column_pairs l es c) ≤ length es * length es
  unfolding column_pairs
  column_short = le_trans (length_among (parts l es c)) (mul-le-mul (length_parts l c 0 es) (length_parts l c 0 es))

  -- v is the vertical
  border_has : (v k : ℕ) → v < length es → k < length es → in_column? l (suc c) (edge_at es v) ≡ true → in_column? l c (edge_at es k) ≡ true
      → stands_at? (border l (suc c)) (edge_at es v) ≡ true → between? (edge_at es v) (edge_at es k).b ≡ true
      → In (in_order v k) (border_pairs l es c)
  unfolding border_pairs
  border_has v k h i s t u w =
      subst (λ (x : Pair). In x (flat_map (λ p. pairs_with ends_inside? p (parts l es c)) (filter (on_border? (border l (suc c))) (parts l es (suc c))))) zeros
      (in_joined (λ (p : Part). pairs_with ends_inside? p (parts l es c)) (part l (suc c) (0 + v) (edge_at es v)) (in_order (0 + v) (0 + k)) (filter (on_border? (border l (suc c))) (parts l es (suc c)))
      (in_kept (part l (suc c) (0 + v) (edge_at es v)) (on_border? (border l (suc c))) (parts l es (suc c)) (part_in l (suc c) 0 v es h s) u)
      (pair_with ends_inside? (part l (suc c) (0 + v) (edge_at es v)) (part l c (0 + k) (edge_at es k)) (parts l es c) (part_in l c 0 k es i t) w))
    where
      zeros : in_order (0 + v) (0 + k) ≡ in_order v k
      zeros = ap (λ (m : ℕ). in_order m (0 + k)) (zero-add v) ∙ ap (λ (m : ℕ). in_order v m) (zero-add k)

  pub border_has_first : (i j : ℕ) → i < j → j < length es → in_column? l c (edge_at es i) ≡ true → in_column? l (suc c) (edge_at es j) ≡ true
      → stands_at? (border l (suc c)) (edge_at es j) ≡ true → between? (edge_at es j) (edge_at es i).b ≡ true
      → In (i, j) (border_pairs l es c)
  border_has_first i j h k s t u w = subst (λ (x : Pair). In x (border_pairs l es c)) (in_order_gt j i h) (border_has j i k (omega arith) t s u w)

  pub border_has_second : (i j : ℕ) → i < j → j < length es → in_column? l c (edge_at es j) ≡ true → in_column? l (suc c) (edge_at es i) ≡ true
      → stands_at? (border l (suc c)) (edge_at es i) ≡ true → between? (edge_at es i) (edge_at es j).b ≡ true
      → In (i, j) (border_pairs l es c)
  border_has_second i j h k s t u w = subst (λ (x : Pair). In x (border_pairs l es c)) (in_order_lt i j h) (border_has i j (omega arith) k t s u w)

  pub border_numbered : (x : Pair) → In x (border_pairs l es c) → (x.0 < x.1) × (x.1 < length es)
  unfolding border_pairs
  border_numbered x h =
      let (v, i, k) = joined_in (λ (p : Part). pairs_with ends_inside? p (parts l es c)) x (filter (on_border? (border l (suc c))) (parts l es (suc c))) h in
      let w = with_pair ends_inside? v x (parts l es c) k in
      go v w.other (in_part l (suc c) 0 v es (kept_in v (on_border? (border l (suc c))) (parts l es (suc c)) i).0) (in_part l c 0 w.other es w.there) w.passes w.is
    where
      go : (v q : Part) → Stands l (suc c) 0 es v → Stands l c 0 es q → ends_inside? v q ≡ true → x ≡ in_order v.number q.number → (x.0 < x.1) × (x.1 < length es)
      go v q s t u e = subst (λ (y : Pair). (y.0 < y.1) × (y.1 < length es)) (sym e)
          (order v.number q.number s.place t.place (ap (λ (p : Part). p.number) s.is) (ap (λ (p : Part). p.number) t.is) s.short t.short differ)
        where
          inside : between? (edge_at es s.place) (edge_at es t.place).b ≡ true
          inside = sym (ap (λ (p : Part). between? p.edge q.edge.b) s.is ∙ ap (λ (p : Part). between? (edge_at es s.place) p.edge.b) t.is) ∙ u

          -- no edge's second end is inside the edge
          differ : s.place ≡ t.place → ⊥
          differ i = apart ((decides_between (edge_at es s.place) (edge_at es t.place).b).0 inside).to (ap (λ (m : ℕ). (edge_at es m).b) (sym i))

          order : (m n i j : ℕ) → m ≡ 0 + i → n ≡ 0 + j → i < length es → j < length es → (i ≡ j → ⊥) → (min m n < max m n) × (max m n < length es)
          order m n i j e f g h d = (omega arith, omega arith)

  pub border_short : length (border_pairs l es c) ≤ length es * length es
  unfolding border_pairs
  border_short = le_trans
      (length_joined (λ (p : Part). pairs_with ends_inside? p (parts l es c)) (length es) (λ p. le_trans (length_with ends_inside? p (parts l es c)) (length_parts l c 0 es)) (filter (on_border? (border l (suc c))) (parts l es (suc c))))
      (mul-le-mul (le_trans (length_kept (on_border? (border l (suc c))) (parts l es (suc c))) (length_parts l (suc c) 0 es)) (le_refl (length es)))
