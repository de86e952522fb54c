-- What showing one more edge does.
use Rattle.std.proofs.Common.{◌≡◌, ℕ, zero, suc, ◌+◌, ◌<◌, ◌≤◌, false, leb, ◌⊎◌, List, [], ◌∷◌, ◌++◌, map, length, get_or, take, Some, None, Ok, Err, Option, Result, sym, refl, ap, ◌∙◌, subst, ap₂, inl, inr, arith, length-take, below_more}
use Rattle.std.proofs.lemmas.List.{take_more, get_or-map}
use Rattle.std.proofs.lemmas.Bool.{cases_lt, cond-true, le-leb, and_from}
use Rattle.plane.specs.Edges.{Edge, InSheet}
use Rattle.plane.specs.Rules.{In}
use Rattle.plane.specs.declared.fault.Fault.{Fault}
use Rattle.plane.specs.declared.fault.Fault.TheVariants.{FinderFull}
use Rattle.plane.proofs.Tests.{before_true}
use Rattle.finder.specs.Finders.{Box, Needs, Meaning, counted, started, blank_edge, edge_at, refusal, show_answer, show_after, with_shown}
use Rattle.finder.specs.Checks.{early_refusal}
use Rattle.finder.specs.Boxes.{LeastBox}
use Rattle.finder.specs.Filling.{filling, refusal_at, AcceptedBelow, Filled, Suitable, ByNeed}
use Rattle.finder.proofs.Refusals.{ranged_true, early_none, refusal_full, refusal_none}

pub at_in : (es : List Edge) (k : ℕ) → k < length es → In (edge_at es k) es
at_in [] k h = absurd (omega arith)
at_in (e ∷ es) zero h = inl refl
at_in (e ∷ es) (suc k) h = inr (at_in es k (omega arith))

-- the edge at k of records' edges
pub edge_at_map : {X : Type 0} (f : X → Edge) (xs : List X) (k : ℕ) (x : X) → k < length xs → x ≡ get_or xs k x → f x ≡ edge_at (map f xs) k
edge_at_map f xs k x h e = ap f e ∙ sym (get_or-map f xs k x blank_edge h)

-- a finder just started
pub started_filling : (m m₀ : Meaning) (b : Box) (n k : ℕ) → m ≡ started b n m₀ → k ≡ n → m ≡ filling m.box k [] m.capacity
started_filling m m₀ b n k e s =
    subst (λ x. x ≡ filling x.box k [] x.capacity) (sym e) (ap (λ j. filling b j [] m₀.capacity) (sym s))

pub filled_at : (need : Needs) (cap cap' : ℕ) (b b' : Box) (es : List Edge) (m : Meaning) (r r' : Result (Unit {0}) Fault) → cap ≡ cap' → b ≡ b' → r ≡ r' → Filled need cap b es m r → Filled need cap' b' es m r'
filled_at need cap cap' b b' es m r r' c e f h =
    subst (λ x. Filled need cap' b' es m x) f (subst (λ x. Filled need cap' x es m r) e (subst (λ x. Filled need x b es m r) c h))

module _ (need : Needs) (cap : ℕ) (b : Box) (es : List Edge) where
  module _ (i : ℕ) (e : Edge) (m m' : Meaning) (r : Result (Unit {0}) Fault) (h : i < length es) (same : e ≡ edge_at es i)
      (is : m ≡ filling b (length es) (take i es) cap) (below : AcceptedBelow need cap b es i)
      (answers : r ≡ show_answer (refusal need m e)) (leaves : m' ≡ show_after (refusal need m e) e m) where
    refusal_here : refusal need m e ≡ refusal_at need cap b es i
    refusal_here = ap₂ (λ x y. refusal need x y) is same

    -- the edge was accepted
    pub shown_ok : r ≡ Ok tt → (m' ≡ filling b (length es) (take (i + 1) es) cap) × AcceptedBelow need cap b es (i + 1)
    shown_ok ok = go (refusal need m e) refl
      where
        go : (o : Option Fault) → refusal need m e ≡ o → (m' ≡ filling b (length es) (take (i + 1) es) cap) × AcceptedBelow need cap b es (i + 1)
        go None o = (
          leaves ∙ ap (λ x. show_after x e m) o ∙ ap₂ with_shown same is ∙ ap (λ xs. filling b (length es) xs cap) (sym (take_more es i blank_edge h)),
          below_more (λ j. refusal_at need cap b es j ≡ None) i below (sym refusal_here ∙ o),
        )
        go (Some f) o = let e = sym ok ∙ answers ∙ ap show_answer o in absurd (cc e)

    -- the edge was refused
    pub shown_err : (f : Fault) → r ≡ Err f → Filled need cap b es m' (Err f)
    shown_err f err = go (refusal need m e) refl
      where
        go : (o : Option Fault) → refusal need m e ≡ o → Filled need cap b es m' (Err f)
        go None o = let e = sym (ap show_answer o) ∙ sym answers ∙ err in absurd (cc e)
        go (Some g) o =
            let bad = sym err ∙ answers ∙ ap show_answer o in
            let eq : f ≡ g = cc bad in
            (i, record { number = h; refused = sym refusal_here ∙ o ∙ ap Some (sym eq); before = below }, leaves ∙ ap (λ x. show_after x e m) o ∙ is)

  -- ---- edges that only the need can have refused
  module _ (s : Suitable b es) where
    part : ℕ → Meaning
    part k = filling b (length es) (take k es) cap

    all_counted : counted (length es) ≡ length es
    all_counted = cond-true (leb (length es) 4096) _ _ (le-leb _ _ s.few)

    none_early : (k : ℕ) → k < length es → early_refusal false (counted (length es)) (length (take k es)) b (edge_at es k) ≡ None
    none_early k h =
        let i = at_in es k h in
        let t = s.sheet (edge_at es k) i in
        let size : length (take k es) ≡ k = simp length-take (omega arith) in
        early_none false (counted (length es)) (length (take k es)) b (edge_at es k) refl (omega (arith, size, all_counted)) (before_true _ _ t.proper)
        (and_from _ _ (ranged_true _ t.first) (ranged_true _ t.second)) (s.inside (edge_at es k) i)

    needs_at : (k : ℕ) → k < length es → need b (length es) (take (k + 1) es) ≡ need b (counted (length es)) (take k es ++ (edge_at es k ∷ []))
    needs_at k h = ap₂ (need b) (sym all_counted) (take_more es k blank_edge h)

    fits_at : (k : ℕ) → k < length es → refusal_at need cap b es k ≡ None → need b (length es) (take (k + 1) es) ≤ cap
    unfolding part
    fits_at k h none = go (cases_lt cap (need b (length es) (take (k + 1) es)))
      where
        go : (cap < need b (length es) (take (k + 1) es)) ⊎ (need b (length es) (take (k + 1) es) ≤ cap) → need b (length es) (take (k + 1) es) ≤ cap
        go (inr l) = l
        go (inl l) = let e = sym none ∙ refusal_full need (part k) (edge_at es k) (none_early k h) (subst (λ n. cap < n) (needs_at k h) l) in absurd (cc e)

    full_at : (k : ℕ) (f : Fault) → k < length es → refusal_at need cap b es k ≡ Some f → (cap < need b (length es) (take (k + 1) es)) × (f ≡ FinderFull k)
    unfolding part
    full_at k f h some = go (cases_lt cap (need b (length es) (take (k + 1) es)))
      where
        go : (cap < need b (length es) (take (k + 1) es)) ⊎ (need b (length es) (take (k + 1) es) ≤ cap) → (cap < need b (length es) (take (k + 1) es)) × (f ≡ FinderFull k)
        go (inl l) =
            let size : length (take k es) ≡ k = simp length-take (omega arith) in
            let is = sym some ∙ refusal_full need (part k) (edge_at es k) (none_early k h) (subst (λ n. cap < n) (needs_at k h) l) in
            let eq : f ≡ FinderFull (length (take k es)) = cc is in
            (l, eq ∙ ap FinderFull size)
        go (inr l) = let e = sym (refusal_none need (part k) (edge_at es k) (none_early k h) (subst (λ n. n ≤ cap) (needs_at k h) l)) ∙ some in absurd (cc e)

    pub by_need : (m : Meaning) (r : Result (Unit {0}) Fault) → Filled need cap b es m r → ByNeed need cap b es r
    by_need m (Ok u) h = λ j l. fits_at j l (h.1 j l)
    by_need m (Err f) h =
        let at = h.1 in
        let full = full_at h.0 f at.number at.refused in
        (h.0, full.1, record { number = at.number; exceeds = full.0; before = λ j l. fits_at j (omega (arith, l, at.number)) (at.before j l) })

-- a sheet's edges suit the box around them
pub suitable : (es : List Edge) (b : Box) → LeastBox es b → length es ≤ 4096 → ((e : Edge) → In e es → InSheet e) → Suitable b es
suitable es b l few sheet = record { few = few; sheet = sheet; inside = l.holds }
