-- The marks of a list of edges, edge by edge: in the order of points, and just those of the crossings.
use Rattle.std.proofs.Common.{◌≡◌, ℕ, ◌<◌, Bool, true, false, cond, eqb, ◌≢◌, ◌⊎◌, List, [], ◌∷◌, map, length, Ordering, Less, Equal, Greater, sym, refl, ap, ◌∙◌, subst, inl, inr, arith}
use mathlib.Core.Bool.{false≢true}
use mathlib.Core.HLevel.{Σ_prop_path}
use mathlib.Core.Logic.{∥∥₁_map}
use native.Mathlib.Bridge.{le_prop}
use native.Mathlib.Decide.{ℕ_discrete}
use Rattle.std.specs.Cmp.{ranks}
use Rattle.std.specs.Ordering.{is_eq, is_lt, MatchOrdering, ordering_then, nat_cmp}
use Rattle.std.proofs.lemmas.Bool.{or_cases, or_left, or_right, eqb-true, eq-eqb, cases_order}
use Rattle.table.specs.Listings.{Ascending}
use Rattle.table.proofs.Orders.{is_equal}
use Rattle.plane.specs.Points.{Point, ◌≺◌}
use Rattle.plane.specs.PointOf.{point_of}
use Rattle.plane.specs.Edges.{Edge, InSheet}
use Rattle.plane.specs.Rules.{In, marked_on, rounded?}
use Rattle.plane.specs.declared.int_point.IntPoint.{IntPoint}
use Rattle.plane.proofs.Tests.{untrue}
use Rattle.plane.proofs.CrossingLaws.{marks_ranged, rounded_sym}
use Rattle.finder.specs.Finders.{blank_edge, edge_at}
use Rattle.segm.specs.Orders.{point_order}
use Rattle.segm.specs.OrderLaws.{Stands, points_ranked}
use Rattle.segm.specs.Open.{Rising}
use Rattle.segm.specs.Marks.{mark_order}
use Rattle.segm.specs.MarkKind.{mark_kind, equal_marks, mark_itself}
use Rattle.segm.specs.Marked.{same_mark?, holds?}
use Rattle.segm.specs.declared.line_mark.LineMark.{LineMark}
use Rattle.rounds.specs.Marks.{Told, MarksOf, SomeRounded}
use Rattle.rounds.specs.Pieces.{points_on}
use Rattle.rounds.proofs.Members.{all_in, all_from_in, in_at, in_map, of_map}
use Rattle.rounds.proofs.ExactCuts.{ExactCuts}

abbrev pub mark : ℕ → IntPoint → LineMark
mark i p = record { index = i; point = p }

-- ---- the marks that are held
holds_in : (ms : List LineMark) (m : LineMark) → holds? ms m ≡ true → In m ms
holds_in [] m h = absurd (false≢true h)
holds_in (n ∷ ms) m h = go (or_cases (same_mark? m n) (holds? ms m) h) (holds_in ms m)
  where
    go : (same_mark? m n ≡ true) ⊎ (holds? ms m ≡ true) → (holds? ms m ≡ true → In m ms) → In m (n ∷ ms)
    go (inl e) rest = inl (equal_marks m n (is_equal (mark_order m n) e))
    go (inr e) rest = inr (rest e)

in_holds : (ms : List LineMark) (m : LineMark) → In m ms → holds? ms m ≡ true
in_holds [] m h = absurd h
in_holds (n ∷ ms) m (inl e) = or_left (same_mark? m n) (holds? ms m) (subst (λ (k : LineMark). same_mark? m k ≡ true) e (ap is_eq (mark_itself m)))
in_holds (n ∷ ms) m (inr h) = or_right (same_mark? m n) (holds? ms m) (in_holds ms m h)

-- ---- the marks of one edge
points_in : (i : ℕ) (ms : List LineMark) (p : IntPoint) → In p (points_on i ms) → In (mark i p) ms
points_in i [] p h = absurd h
points_in i (m ∷ ms) p h = go (eqb m.index i) refl h (points_in i ms p)
  where
    go : (b : Bool) → eqb m.index i ≡ b → In p (cond b (m.point ∷ points_on i ms) (points_on i ms)) → (In p (points_on i ms) → In (mark i p) ms) → In (mark i p) (m ∷ ms)
    go true e (inl k) rest = inl (λ t. record { index = sym (eqb-true m.index i e) t; point = k t })
    go true e (inr k) rest = inr (rest k)
    go false e k rest = inr (rest k)

in_points : (i : ℕ) (ms : List LineMark) (p : IntPoint) → In (mark i p) ms → In p (points_on i ms)
in_points i [] p h = absurd h
in_points i (m ∷ ms) p (inl e) =
    subst (λ (b : Bool). In p (cond b (m.point ∷ points_on i ms) (points_on i ms))) (sym (eq-eqb m.index i (ap (λ (n : LineMark). n.index) (sym e))))
    (inl (ap (λ (n : LineMark). n.point) e))
in_points i (m ∷ ms) p (inr h) = go (eqb m.index i) (in_points i ms p h)
  where
    go : (b : Bool) → In p (points_on i ms) → In p (cond b (m.point ∷ points_on i ms) (points_on i ms))
    go true k = inr k
    go false k = k

-- of two marks of one edge the smaller has the earlier point
less_points : (m n : LineMark) → m.index ≡ n.index → mark_order m n ≡ Less → point_of m.point ≺ point_of n.point
less_points m n e h = go (nat_cmp m.index n.index) (ranks m.index n.index) h
  where
    not_below : (i j : ℕ) → i ≡ j → i < j → ⊥
    not_below i j e l = omega arith

    go : (o : Ordering) → MatchOrdering o (m.index < n.index) (m.index ≡ n.index) (n.index < m.index) → ordering_then o (point_order (point_of m.point) (point_of n.point)) ≡ Less
        → point_of m.point ≺ point_of n.point
    go Less r k = absurd (not_below m.index n.index e r)
    go Equal r k = subst (λ (o : Ordering). Stands o (point_of m.point) (point_of n.point)) k (points_ranked (point_of m.point) (point_of n.point))
    go Greater r k = absurd (false≢true (ap is_lt k))

pub points_rising : (i : ℕ) (ms : List LineMark) → Ascending mark_kind ms → Rising (map point_of (points_on i ms))
points_rising i [] a = tt
points_rising i (m ∷ ms) a = go (eqb m.index i) refl (points_rising i ms a.1)
  where
    after : eqb m.index i ≡ true → (q : Point) → In q (map point_of (points_on i ms)) → point_of m.point ≺ q
    after e q h =
        let w = of_map point_of (points_on i ms) q h in
        let k = all_in (λ n. mark_order m n ≡ Less) ms a.0 (mark i w.0) (points_in i ms w.0 w.1) in
        subst (λ (z : Point). point_of m.point ≺ z) (sym w.2) (less_points m (mark i w.0) (eqb-true m.index i e) k)

    go : (b : Bool) → eqb m.index i ≡ b → Rising (map point_of (points_on i ms)) → Rising (map point_of (cond b (m.point ∷ points_on i ms) (points_on i ms)))
    go true e rest = (all_from_in (λ q. point_of m.point ≺ q) (map point_of (points_on i ms)) (after e), rest)
    go false e rest = rest

-- ---- the places of a list
abbrev pub Place : List Edge → Type 0
Place es = (k : ℕ) × (k < length es)

same_place : (es : List Edge) (i j : Place es) → i.0 ≡ j.0 → i ≡ j
same_place es i j e = Σ_prop_path (λ k. le_prop) e

pub same_place? : (es : List Edge) (i j : Place es) → Dec (i ≡ j)
same_place? es i j = go (ℕ_discrete i.0 j.0)
  where
    go : Dec (i.0 ≡ j.0) → Dec (i ≡ j)
    go (yes e) = yes (same_place es i j e)
    go (no n) = no (λ e. n (ap (λ z. z.0) e))

abbrev pub edge_of : (es : List Edge) → Place es → Edge
edge_of es i = edge_at es i.0

abbrev pub marks_of : (es : List Edge) → List LineMark → Place es → List Point
marks_of es ms i = map point_of (points_on i.0 ms)

module _ (s : ℕ) (es : List Edge) (ms : List LineMark) (sheet : (e : Edge) → In e es → InSheet e) (h : MarksOf s es ms) where
  sheet_at : (i : Place es) → InSheet (edge_of es i)
  sheet_at i = sheet (edge_of es i) (in_at es i.0 blank_edge i.1)

  -- a crossing's mark is listed
  pub told_listed : (i k : Place es) (m : Point) → k.0 ≢ i.0 → In m (marked_on (edge_of es i) (edge_of es k) s) → In m (marks_of es ms i)
  told_listed i k m n w =
      let r = marks_ranged (edge_of es i) (edge_of es k) s (sheet_at i) (sheet_at k) m w in
      let p : IntPoint = record { x = m.x; y = m.y; wide = r.wide; high = r.high } in
      let told : Told s es (mark i.0 p) = ∣ (k.0, record { here = i.1; there = k.1; other = λ e. n (sym e); marked = w }) ∣₁ in
      in_map point_of (points_on i.0 ms) p (in_points i.0 ms p (holds_in ms (mark i.0 p) ((h.each (mark i.0 p)).1 told)))

  -- and each that is listed is one
  listed_told : (i : Place es) (m : Point) → In m (marks_of es ms i) → ∥ ((k : Place es) × (k ≢ i) × In m (marked_on (edge_of es i) (edge_of es k) s)) ∥₁
  listed_told i m w =
      let (p, l, e) = of_map point_of (points_on i.0 ms) m w in
      ∥∥₁_map ((h.each (mark i.0 p)).0 (in_holds ms (mark i.0 p) (points_in i.0 ms p l)))
      (λ t. ((t.0, t.1.there), (λ d. t.1.other (sym (ap (λ z. z.0) d))), subst (λ (q : Point). In q (marked_on (edge_of es i) (edge_at es t.0) s)) (sym e) t.1.marked))

  not_rounded : ¬ SomeRounded s es → (i k : Place es) → k ≢ i → rounded? (edge_of es i) (edge_of es k) s ≡ false
  not_rounded n i k d = untrue (rounded? (edge_of es i) (edge_of es k) s) (λ r. go r (cases_order i.0 k.0))
    where
      go : rounded? (edge_of es i) (edge_of es k) s ≡ true → (i.0 ≡ k.0) ⊎ ((i.0 < k.0) ⊎ (k.0 < i.0)) → ⊥
      go r (inl e) = d (sym (same_place es i k e))
      go r (inr (inl l)) = n ∣ (i.0, k.0, record { first = l; second = k.1; rounded = r }) ∣₁
      go r (inr (inr l)) = n ∣ (k.0, i.0, record { first = l; second = i.1; rounded = rounded_sym (edge_of es k) (edge_of es i) s ∙ r }) ∣₁

  pub exact_cuts : ¬ SomeRounded s es → ExactCuts s (Place es) (edge_of es) (marks_of es ms)
  exact_cuts n = record {
    proper = λ i. (sheet_at i).proper;
    exact = not_rounded n;
    only = listed_told;
    all = λ i k m d w. told_listed i k m (λ e. d (same_place es k i e)) w;
  }
