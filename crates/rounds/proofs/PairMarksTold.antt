-- The marks at the spots of the pairs of a walk are just the marks of the list.
use Rattle.std.proofs.Common.{◌≡◌, ℕ, ◌<◌, Bool, true, false, cond, ◌||◌, ◌≢◌, ◌⊎◌, ◌↔◌, List, [], ◌∷◌, length, Ordering, Less, Equal, Greater, sym, refl, ap, ◌∙◌, subst, inl, inr, arith}
use mathlib.Core.Bool.{Bool-set, false≢true}
use mathlib.Core.Logic.{∥∥₁_elim}
use Rattle.std.specs.Cmp.{ranks}
use Rattle.std.specs.Ordering.{is_eq, MatchOrdering, ordering_then, nat_cmp}
use Rattle.std.proofs.lemmas.Bool.{or_cases, or_left, or_right, cases_order}
use Rattle.table.proofs.Orders.{is_equal}
use Rattle.plane.specs.Points.{Point}
use Rattle.plane.specs.PointOf.{point_of}
use Rattle.plane.specs.Edges.{Edge, Proper, InSheet, smaller?}
use Rattle.plane.specs.Fractions.{Touch}
use Rattle.plane.specs.Rules.{In, Inner, marked_on, rounded?, some?}
use Rattle.plane.proofs.Touching.{touch_is_marked, as_inner, zeros_sym, one_sided_sym}
use Rattle.plane.proofs.CrossingLaws.{rounded_exactly}
use Rattle.finder.specs.Finders.{Pair, Walk, blank_edge, edge_at}
use Rattle.segm.specs.Orders.{point_order}
use Rattle.segm.specs.OrderLaws.{equal_points}
use Rattle.segm.specs.MarkKind.{mark_itself}
use Rattle.segm.specs.Spots.{Spot, spots, at?, at_one?}
use Rattle.segm.specs.declared.line_mark.LineMark.{LineMark}
use Rattle.segm.proofs.Coming.{at_one_append}
use Rattle.rounds.specs.Marks.{MarkedBy, Told, RoundedPair, SomeRounded}
use Rattle.rounds.specs.Spots.{pair_spots, all_spots, any_rounded?}
use Rattle.rounds.proofs.Members.{in_at}

-- ---- a mark at points on one edge
module _ (i : ℕ) (m : LineMark) where
  at_spot : (p : Point) → at? (record { edge = i; point = p }) m ≡ true → (m.index ≡ i) × (point_of m.point ≡ p)
  at_spot p h = go (nat_cmp m.index i) refl (is_equal _ h)
    where
      never : Less ≡ Equal → ⊥
      never e = let z : ◌≡◌ {A = ℕ} 0 1 = cc e in omega arith

      nor : Greater ≡ Equal → ⊥
      nor e = let z : ◌≡◌ {A = ℕ} 0 1 = cc e in omega arith

      go : (o : Ordering) → nat_cmp m.index i ≡ o → ordering_then o (point_order (point_of m.point) p) ≡ Equal → (m.index ≡ i) × (point_of m.point ≡ p)
      go Less e h = absurd (never h)
      go Equal e h =
          (subst (λ o. MatchOrdering o (m.index < i) (m.index ≡ i) (i < m.index)) e (ranks m.index i), equal_points (point_of m.point) p h)
      go Greater e h = absurd (nor h)

  spot_at : (p : Point) → m.index ≡ i → point_of m.point ≡ p → at? (record { edge = i; point = p }) m ≡ true
  spot_at p e q = subst (λ (t : Spot). at? t m ≡ true) (λ k. record { edge = e k; point = q k }) (ap is_eq (mark_itself m))

  pub at_spots : (ps : List Point) → at_one? (spots i ps) m ≡ true → (m.index ≡ i) × In (point_of m.point) ps
  at_spots [] h = absurd (false≢true h)
  at_spots (p ∷ ps) h = go (or_cases (at? (record { edge = i; point = p }) m) (at_one? (spots i ps) m) h) (at_spots ps)
    where
      go : (at? (record { edge = i; point = p }) m ≡ true) ⊎ (at_one? (spots i ps) m ≡ true)
          → (at_one? (spots i ps) m ≡ true → (m.index ≡ i) × In (point_of m.point) ps)
          → (m.index ≡ i) × In (point_of m.point) (p ∷ ps)
      go (inl e) rest = let w = at_spot p e in (w.0, inl w.1)
      go (inr e) rest = let w = rest e in (w.0, inr w.1)

  pub spots_at : (ps : List Point) → m.index ≡ i → In (point_of m.point) ps → at_one? (spots i ps) m ≡ true
  spots_at [] e h = absurd h
  spots_at (p ∷ ps) e (inl q) = or_left (at? (record { edge = i; point = p }) m) (at_one? (spots i ps) m) (spot_at p e q)
  spots_at (p ∷ ps) e (inr h) = or_right (at? (record { edge = i; point = p }) m) (at_one? (spots i ps) m) (spots_at ps e h)

-- ---- a rounded crossing touches
inner_of : (e g : Edge) (b : Bool) → Inner (cond b g e) (cond b e g) → Inner e g
inner_of e g true h = record { none = zeros_sym e g ∙ h.none; two_sided = one_sided_sym e g ∙ h.two_sided }
inner_of e g false h = h

rounded_touch : (e g : Edge) (s : ℕ) → Proper e → Proper g → rounded? e g s ≡ true → Touch e g
rounded_touch e g s p q h = (as_inner e g p q (inner_of e g (smaller? g e) ((rounded_exactly e g s p q).0 h).0)).0

some_of : (p : Point) (l : List Point) → In p l → some? l ≡ true
some_of p [] h = absurd h
some_of p (q ∷ l) h = refl

-- ---- the marks at the spots of pairs
module _ (s : ℕ) (es : List Edge) where
  -- the numbers of two edges of the list
  abbrev pub Numbered : Pair → Type 0
  Numbered p = (p.0 < p.1) × (p.1 < length es)

  -- a mark on edge i of its crossing with edge j
  pub on_told : (i j : ℕ) (m : LineMark) → i < length es → j < length es → i ≢ j
      → at_one? (spots i (marked_on (edge_at es i) (edge_at es j) s)) m ≡ true → Told s es m
  on_told i j m here there other h =
      let w = at_spots i m (marked_on (edge_at es i) (edge_at es j) s) h in
      ∣ (j, subst (λ (k : ℕ). MarkedBy s es k (point_of m.point) j) (sym w.0) (record { here = here; there = there; other = other; marked = w.1 })) ∣₁

  -- on the first edge of a pair
  pub first_told : (p : Pair) (m : LineMark) → Numbered p → at_one? (spots p.0 (marked_on (edge_at es p.0) (edge_at es p.1) s)) m ≡ true → Told s es m
  first_told p m n = on_told p.0 p.1 m (omega (arith, n.0, n.1)) n.1 (λ e. omega (arith, e, n.0))

  pub second_told : (p : Pair) (m : LineMark) → Numbered p → at_one? (spots p.1 (marked_on (edge_at es p.1) (edge_at es p.0) s)) m ≡ true → Told s es m
  second_told p m n = on_told p.1 p.0 m n.1 (omega (arith, n.0, n.1)) (λ e. omega (arith, e, n.0))

  pub pair_told : (p : Pair) (m : LineMark) → Numbered p → at_one? (pair_spots s es p) m ≡ true → Told s es m
  pair_told p m n h = go (or_cases (at_one? on_first m) (at_one? on_second m) (sym (at_one_append on_first on_second m) ∙ h))
    where
      on_first : List Spot
      on_first = spots p.0 (marked_on (edge_at es p.0) (edge_at es p.1) s)

      on_second : List Spot
      on_second = spots p.1 (marked_on (edge_at es p.1) (edge_at es p.0) s)

      go : (at_one? on_first m ≡ true) ⊎ (at_one? on_second m ≡ true) → Told s es m
      go (inl e) = first_told p m n e
      go (inr e) = second_told p m n e

  pub pairs_told : (ps : List Pair) (m : LineMark) → ((p : Pair) → In p ps → Numbered p) → at_one? (all_spots s es ps) m ≡ true → Told s es m
  pairs_told [] m n h = absurd (false≢true h)
  pairs_told (p ∷ ps) m n h =
      go (or_cases (at_one? (pair_spots s es p) m) (at_one? (all_spots s es ps) m) (sym (at_one_append (pair_spots s es p) (all_spots s es ps) m) ∙ h))
      (pairs_told ps m (λ q i. n q (inr i)))
    where
      go : (at_one? (pair_spots s es p) m ≡ true) ⊎ (at_one? (all_spots s es ps) m ≡ true) → (at_one? (all_spots s es ps) m ≡ true → Told s es m) → Told s es m
      go (inl e) rest = pair_told p m (n p (inl refl)) e
      go (inr e) rest = rest e

  pair_at : (ps : List Pair) (p : Pair) (m : LineMark) → In p ps → at_one? (pair_spots s es p) m ≡ true → at_one? (all_spots s es ps) m ≡ true
  pair_at [] p m i h = absurd i
  pair_at (q ∷ ps) p m (inl e) h =
      at_one_append (pair_spots s es q) (all_spots s es ps) m
      ∙ or_left (at_one? (pair_spots s es q) m) (at_one? (all_spots s es ps) m) (subst (λ (r : Pair). at_one? (pair_spots s es r) m ≡ true) e h)
  pair_at (q ∷ ps) p m (inr i) h =
      at_one_append (pair_spots s es q) (all_spots s es ps) m
      ∙ or_right (at_one? (pair_spots s es q) m) (at_one? (all_spots s es ps) m) (pair_at ps p m i h)

  rounded_pair : (ps : List Pair) → ((p : Pair) → In p ps → Numbered p) → any_rounded? s es ps ≡ true → SomeRounded s es
  rounded_pair [] n h = absurd (false≢true h)
  rounded_pair (p ∷ ps) n h =
      go (or_cases (rounded? (edge_at es p.0) (edge_at es p.1) s) (any_rounded? s es ps) h) (rounded_pair ps (λ q i. n q (inr i)))
    where
      go : (rounded? (edge_at es p.0) (edge_at es p.1) s ≡ true) ⊎ (any_rounded? s es ps ≡ true) → (any_rounded? s es ps ≡ true → SomeRounded s es) → SomeRounded s es
      go (inl e) rest = let w = n p (inl refl) in ∣ (p.0, p.1, record { first = w.0; second = w.1; rounded = e }) ∣₁
      go (inr e) rest = rest e

  rounded_at : (ps : List Pair) (p : Pair) → In p ps → rounded? (edge_at es p.0) (edge_at es p.1) s ≡ true → any_rounded? s es ps ≡ true
  rounded_at [] p i h = absurd i
  rounded_at (q ∷ ps) p (inl e) h =
      or_left (rounded? (edge_at es q.0) (edge_at es q.1) s) (any_rounded? s es ps)
      (subst (λ (r : Pair). rounded? (edge_at es r.0) (edge_at es r.1) s ≡ true) e h)
  rounded_at (q ∷ ps) p (inr i) h = or_right (rounded? (edge_at es q.0) (edge_at es q.1) s) (any_rounded? s es ps) (rounded_at ps p i h)

  -- ---- of all touching pairs
  module _ (sheet : (e : Edge) → In e es → InSheet e) (distinct : (i j : ℕ) → i < j → j < length es → edge_at es i ≢ edge_at es j)
      (ps : List Pair) (walk : Walk es ps) where
    proper_at : (k : ℕ) → k < length es → Proper (edge_at es k)
    proper_at k h = (sheet (edge_at es k) (in_at es k blank_edge h)).proper

    -- what a pair tells that has some mark
    marked_pair : (i j : ℕ) (m : LineMark) → i < j → j < length es
        → (some? (marked_on (edge_at es i) (edge_at es j) s) || some? (marked_on (edge_at es j) (edge_at es i) s)) ≡ true
        → at_one? (pair_spots s es (i, j)) m ≡ true → at_one? (all_spots s es ps) m ≡ true
    marked_pair i j m l k h at =
        ∥∥₁_elim (walk.complete i j l k ((touch_is_marked (edge_at es i) (edge_at es j) s (proper_at i (omega arith)) (proper_at j k) (distinct i j l k)).1 h))
        (Bool-set (at_one? (all_spots s es ps) m) true) (λ w. pair_at ps (i, j) m w at)

    told_at : (m : LineMark) → Told s es m → at_one? (all_spots s es ps) m ≡ true
    told_at m t = ∥∥₁_elim t (Bool-set (at_one? (all_spots s es ps) m) true) (λ w. found w.0 w.1)
      where
        found : (j : ℕ) → MarkedBy s es m.index (point_of m.point) j → at_one? (all_spots s es ps) m ≡ true
        found j w = go (cases_order m.index j)
          where
            on : List Point
            on = marked_on (edge_at es m.index) (edge_at es j) s

            some : some? on ≡ true
            some = some_of (point_of m.point) on w.marked

            at : at_one? (spots m.index on) m ≡ true
            at = spots_at m.index m on refl w.marked

            go : (m.index ≡ j) ⊎ ((m.index < j) ⊎ (j < m.index)) → at_one? (all_spots s es ps) m ≡ true
            go (inl e) = absurd (w.other e)
            go (inr (inl l)) =
                marked_pair m.index j m l w.there (or_left _ _ some) (at_one_append (spots m.index on) _ m ∙ or_left _ _ at)
            go (inr (inr l)) =
                marked_pair j m.index m l w.here (or_right _ _ some) (at_one_append _ (spots m.index on) m ∙ or_right _ _ at)

    pub told_exactly : (m : LineMark) → (at_one? (all_spots s es ps) m ≡ true) ↔ Told s es m
    told_exactly m = (pairs_told ps m walk.numbered, told_at m)

    some_at : SomeRounded s es → any_rounded? s es ps ≡ true
    some_at t = ∥∥₁_elim t (Bool-set (any_rounded? s es ps) true) (λ w. found w.0 w.1 w.2)
      where
        found : (i j : ℕ) → RoundedPair s es i j → any_rounded? s es ps ≡ true
        found i j w =
            let before : i < length es = omega (arith, w.first, w.second) in
            ∥∥₁_elim (walk.complete i j w.first w.second (rounded_touch (edge_at es i) (edge_at es j) s (proper_at i before) (proper_at j w.second) w.rounded))
            (Bool-set (any_rounded? s es ps) true) (λ p. rounded_at ps (i, j) p w.rounded)

    pub some_exactly : (any_rounded? s es ps ≡ true) ↔ SomeRounded s es
    some_exactly = (rounded_pair ps walk.numbered, some_at)
