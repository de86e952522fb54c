-- A list of edges stands apart where nothing is marked, and once it is cut where nothing is rounded.
use Rattle.std.proofs.Common.{◌≡◌, ℕ, zero, suc, ◌+◌, ◌<◌, Bool, true, false, ◌≢◌, ◌⊎◌, List, [], ◌∷◌, map, length, get_or, pos, Less, sym, refl, ap, ◌∙◌, subst, inl, inr, arith}
use mathlib.Core.Bool.{false≢true}
use mathlib.Core.HLevel.{⊥_prop}
use mathlib.Core.Logic.{∥∥₁_elim, ∥∥₁_map}
use Rattle.std.specs.Ordering.{is_lt}
use Rattle.std.proofs.ByRecursion.{All-get_or}
use Rattle.std.proofs.lemmas.List.{length-map, get_or-map}
use Rattle.std.proofs.lemmas.Bool.{or_cases}
use Rattle.table.specs.Listings.{Ascending, Ordered}
use Rattle.plane.specs.Points.{Point, cross}
use Rattle.plane.specs.Edges.{Edge, Proper, InSheet, Between, equal?}
use Rattle.plane.specs.Fractions.{Touch}
use Rattle.plane.specs.Rules.{In, marked_on, some?}
use Rattle.plane.proofs.TouchKinds.{equal_yes, equal_no}
use Rattle.plane.proofs.Touching.{touch_is_marked}
use Rattle.finder.specs.Finders.{blank_edge, edge_at}
use Rattle.finder.proofs.Members.{in_split}
use Rattle.segm.specs.Counts.{CountKind}
use Rattle.segm.specs.Orders.{edge_order}
use Rattle.segm.specs.Segments.{ends_of, blank_segment}
use Rattle.segm.specs.SegmentKind.{segment_kind, edge_itself}
use Rattle.segm.specs.declared.line_mark.LineMark.{LineMark}
use Rattle.segm.specs.declared.segment.Segment.{Segment}
use Rattle.rounds.specs.Marks.{MarksOf, SomeRounded}
use Rattle.rounds.specs.Pieces.{points_on, cut, cut_from}
use Rattle.rounds.proofs.Members.{in_at, of_map}
use Rattle.rounds.proofs.Gaps.{path, Gap, cut_gap}
use Rattle.rounds.proofs.ExactCuts.{ExactCuts, mark_between, mark_line, pieces_apart}
use Rattle.rounds.proofs.ListMarks.{Place, same_place?, edge_of, marks_of, points_rising, told_listed, exact_cuts}

-- ---- nothing is marked
some_in : (l : List Point) → some? l ≡ true → (p : Point) × In p l
some_in [] h = absurd (false≢true h)
some_in (p ∷ l) h = (p, inl refl)

pub none_marked_apart : (s : ℕ) (es : List Edge) → ((e : Edge) → In e es → InSheet e)
    → ((i j : ℕ) → i < j → j < length es → edge_at es i ≢ edge_at es j)
    → MarksOf s es [] → (i j : ℕ) → i < j → j < length es → ¬ Touch (edge_at es i) (edge_at es j)
none_marked_apart s es sheet distinct h i j l m t =
    go (or_cases _ _ ((touch_is_marked (edge_at es i) (edge_at es j) s (proper_at i here) (proper_at j m) (distinct i j l m)).0 t))
  where
    here : i < length es
    here = omega arith

    apart : i ≢ j
    apart e = omega arith

    proper_at : (k : ℕ) → k < length es → Proper (edge_at es k)
    proper_at k w = (sheet (edge_at es k) (in_at es k blank_edge w)).proper

    go : (some? (marked_on (edge_at es i) (edge_at es j) s) ≡ true) ⊎ (some? (marked_on (edge_at es j) (edge_at es i) s) ≡ true) → ⊥
    go (inl w) = let p = some_in _ w in told_listed s es [] sheet h (i, here) (j, m) p.0 (λ e. apart (sym e)) p.1
    go (inr w) = let p = some_in _ w in told_listed s es [] sheet h (j, m) (i, here) p.0 apart p.1

-- ---- nothing is rounded
module _ {C : Type 0} (K : CountKind C) where
  -- each piece is of some edge
  piece_of : (n : ℕ) (ms : List LineMark) (l : List (Segment C)) (p : Segment C) → In p (cut_from K n ms l)
      → (k : ℕ) × (k < length l) × In p (cut K (get_or l k (blank_segment K)) (points_on (n + k) ms))
  piece_of n ms [] p h = absurd h
  piece_of n ms (s ∷ l) p h = go (in_split p (cut K s (points_on n ms)) (cut_from K (suc n) ms l) h) (piece_of (suc n) ms l p)
    where
      go : In p (cut K s (points_on n ms)) ⊎ In p (cut_from K (suc n) ms l)
          → (In p (cut_from K (suc n) ms l) → (k : ℕ) × (k < length l) × In p (cut K (get_or l k (blank_segment K)) (points_on (suc n + k) ms)))
          → (k : ℕ) × (k < length (s ∷ l)) × In p (cut K (get_or (s ∷ l) k (blank_segment K)) (points_on (n + k) ms))
      go (inl i) rest = (0, omega arith, subst (λ (z : ℕ). In p (cut K s (points_on z ms))) (omega arith) i)
      go (inr i) rest =
          let r = rest i in
          (suc r.0, omega (arith, r.1), subst (λ (z : ℕ). In p (cut K (get_or l r.0 (blank_segment K)) (points_on z ms))) (omega arith) r.2)

  -- the ends of a segment are in range by their type
  pub segments_sheet : (l : List (Segment C)) → ((e : Segment C) → In e l → Proper (ends_of e)) → (e : Edge) → In e (map ends_of l) → InSheet e
  segments_sheet l proper e h =
      let (t, i, q) = of_map ends_of l e h in
      subst InSheet (sym q) (record { proper = proper t i; first = record { wide = t.a.wide; high = t.a.high }; second = record { wide = t.b.wide; high = t.b.high } })

  module _ (s : ℕ) (l : List (Segment C)) (ms : List LineMark) (proper : (e : Segment C) → In e l → Proper (ends_of e))
      (h : MarksOf s (map ends_of l) ms) (exact : ¬ SomeRounded s (map ends_of l)) where
    abbrev es : List Edge
    es = map ends_of l

    sheet : (e : Edge) → In e es → InSheet e
    sheet = segments_sheet l proper

    cuts : ExactCuts s (Place es) (edge_of es) (marks_of es ms)
    cuts = exact_cuts s es ms sheet h exact

    -- a piece of the edge at a place
    gap_at : (i : Place es) (t : Segment C) → edge_of es i ≡ ends_of t → (p : Segment C) → In p (cut K t (points_on i.0 ms)) → Gap (path (edge_of es i) (marks_of es ms i)) (ends_of p)
    gap_at i t e p w =
        subst (λ (z : Edge). Gap (path z (marks_of es ms i)) (ends_of p)) (sym e)
        (cut_gap K t (points_on i.0 ms) (subst Proper e (cuts.proper i)) (points_rising i.0 ms h.ordered.ascending)
        (λ m j. subst (λ (z : Edge). Between z m) e (mark_between s (Place es) (same_place? es) (edge_of es) (marks_of es ms) cuts i m j))
        (λ m j. subst (λ (z : Edge). cross z.a z.b m ≡ pos 0) e (mark_line s (Place es) (same_place? es) (edge_of es) (marks_of es ms) cuts i m j))
        p w)

    gap_of : (p : Segment C) → In p (cut_from K 0 ms l) → (i : Place es) × Gap (path (edge_of es i) (marks_of es ms i)) (ends_of p)
    gap_of p w =
        let (k, below, r) = piece_of 0 ms l p w in
        let i : Place es = (k, subst (λ (n : ℕ). k < n) (sym (length-map l ends_of)) below) in
        (i, gap_at i (get_or l k (blank_segment K)) (get_or-map ends_of l k (blank_segment K) blank_edge below) p (subst (λ (z : ℕ). In p (cut K (get_or l k (blank_segment K)) (points_on z ms))) (omega arith) r))

    pieces_equal : (p q : Segment C) → In p (cut_from K 0 ms l) → In q (cut_from K 0 ms l) → Touch (ends_of p) (ends_of q) → ends_of p ≡ ends_of q
    pieces_equal p q v w t = go (equal? (ends_of p) (ends_of q)) refl
      where
        go : (b : Bool) → equal? (ends_of p) (ends_of q) ≡ b → ends_of p ≡ ends_of q
        go true e = equal_yes (ends_of p) (ends_of q) e
        go false e =
            let (i, g) = gap_of p v in
            let (j, k) = gap_of q w in
            absurd (∥∥₁_elim t ⊥_prop (λ z. equal_no (ends_of p) (ends_of q) e
            (pieces_apart s (Place es) (same_place? es) (edge_of es) (marks_of es ms) cuts i j (ends_of p) (ends_of q) g k z.0 z.1)))

pub cut_apart : {C : Type 0} (K : CountKind C) (s : ℕ) (l : List (Segment C)) (ms : List LineMark) → Ordered (segment_kind K) l
    → ((e : Segment C) → In e l → Proper (ends_of e)) → MarksOf s (map ends_of l) ms → ¬ SomeRounded s (map ends_of l)
    → (p q : Segment C) → In p (cut_from K 0 ms l) → In q (cut_from K 0 ms l) → Touch (ends_of p) (ends_of q) → ends_of p ≡ ends_of q
cut_apart K s l ms ordered proper h exact = pieces_equal K s l ms proper h exact

-- ---- the list that the pieces make
module _ {C : Type 0} (K : CountKind C) where
  ascending_at : (l : List (Segment C)) (d : Segment C) → Ascending (segment_kind K) l → (i j : ℕ) → i < j → j < length l → edge_order (ends_of (get_or l i d)) (ends_of (get_or l j d)) ≡ Less
  ascending_at [] d a i j h k = absurd (omega arith)
  ascending_at (s ∷ l) d a i zero h k = absurd (omega arith)
  ascending_at (s ∷ l) d a zero (suc j) h k = All-get_or _ l j d (omega arith) a.0
  ascending_at (s ∷ l) d a (suc i) (suc j) h k = ascending_at l d a.1 i j (omega arith) (omega arith)

  -- no two edges of a list in strict order have the same ends
  pub ordered_distinct : (l : List (Segment C)) → Ordered (segment_kind K) l → (i j : ℕ) → i < j → j < length (map ends_of l) → edge_at (map ends_of l) i ≢ edge_at (map ends_of l) j
  ordered_distinct l o i j h k e =
      let d = blank_segment K in
      let below : j < length l = subst (λ (n : ℕ). j < n) (length-map l ends_of) k in
      let at_i = get_or-map ends_of l i d blank_edge (omega arith) in
      let at_j = get_or-map ends_of l j d blank_edge below in
      false≢true (ap is_lt (sym (edge_itself (ends_of (get_or l i d))) ∙ ap (edge_order (ends_of (get_or l i d))) (sym at_i ∙ e ∙ at_j) ∙ ascending_at l d o.ascending i j h below))

pub list_apart : {C : Type 0} (K : CountKind C) (s : ℕ) (l after : List (Segment C)) (ms : List LineMark) → Ordered (segment_kind K) l
    → ((e : Segment C) → In e l → Proper (ends_of e)) → MarksOf s (map ends_of l) ms → ¬ SomeRounded s (map ends_of l)
    → ((e : Segment C) → In e after → ∥ ((p : Segment C) × In p (cut_from K 0 ms l) × (ends_of e ≡ ends_of p)) ∥₁)
    → Ordered (segment_kind K) after
    → (i j : ℕ) → i < j → j < length after → ¬ Touch (edge_at (map ends_of after) i) (edge_at (map ends_of after) j)
list_apart {C} K s l after ms ordered proper h exact from o i j b k t =
    ∥∥₁_elim (piece i (omega arith)) ⊥_prop (λ v. ∥∥₁_elim (piece j k) ⊥_prop (λ w.
    ordered_distinct K after o i j b (subst (λ (n : ℕ). j < n) (sym (length-map after ends_of)) k)
    (v.2 ∙ cut_apart K s l ms ordered proper h exact v.0 w.0 v.1 w.1 (moved _ _ v.2 w.2) ∙ sym w.2)))
  where
    piece : (n : ℕ) → n < length after → ∥ ((p : Segment C) × In p (cut_from K 0 ms l) × (edge_at (map ends_of after) n ≡ ends_of p)) ∥₁
    piece n r = let d = blank_segment K in ∥∥₁_map (from (get_or after n d) (in_at after n d r)) (λ w. (w.0, w.1, get_or-map ends_of after n d blank_edge r ∙ w.2))

    moved : (e g : Edge) → edge_at (map ends_of after) i ≡ e → edge_at (map ends_of after) j ≡ g → Touch e g
    moved e g p q = subst (λ (z : Edge). Touch z g) p (subst (λ (z : Edge). Touch (edge_at (map ends_of after) i) z) q t)
