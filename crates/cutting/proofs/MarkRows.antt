-- Marks in order stand in rows, one for each edge, and the edges are cut row by row.
use Rattle.std.proofs.Common.{◌≡◌, ℕ, suc, ◌+◌, ◌<◌, ◌≤◌, ◌==◌, Bool, true, false, cond, List, [], ◌∷◌, ◌++◌, map, length, get_or, take, drop, Ordering, Less, Equal, Greater, sym, refl, ap, ◌∙◌, subst, ap₂, arith, take-append-drop}
use Rattle.std.specs.List.{AllByRecursion, prefix_len}
use Rattle.std.proofs.Math.Numerals.{one-add}
use Rattle.std.specs.Cmp.{ranks}
use Rattle.std.specs.Ordering.{MatchOrdering, ordering_then, nat_cmp}
use Rattle.std.proofs.lemmas.List.{append-nil, append_assoc, length-append, length-take-le, take_more}
use Rattle.std.proofs.lemmas.Bool.{eqb-true, ne_eqb}
use Rattle.std.proofs.lemmas.Bool.Decides.{nat_tests}
use Rattle.table.specs.Listings.{Ascending, Ordered}
use Rattle.plane.specs.PointOf.{point_of}
use Rattle.plane.specs.declared.int_point.IntPoint.{IntPoint}
use Rattle.segm.specs.Counts.{CountKind}
use Rattle.segm.specs.Orders.{point_order}
use Rattle.segm.specs.Marks.{mark_order}
use Rattle.segm.specs.MarkKind.{mark_kind}
use Rattle.segm.specs.declared.line_mark.LineMark.{LineMark}
use Rattle.segm.specs.declared.segment.Segment.{Segment}
use Rattle.rounds.specs.Pieces.{points_on, cut, cut_from}
use Rattle.cutting.specs.Cutting.{point_at}

-- ---- rising indices
-- no index is below i, and none is below that of an earlier mark
abbrev pub Rising : ℕ → List LineMark → Type 0
Rising i [] = Unit {0}
Rising i (m ∷ l) = (i ≤ m.index) × Rising m.index l

rising_lower : (i j : ℕ) (l : List LineMark) → i ≤ j → Rising j l → Rising i l
rising_lower i j [] le h = tt
rising_lower i j (m ∷ l) le h = (omega (arith, h.0), h.1)

index_rises : (m n : LineMark) (o : Ordering) → nat_cmp m.index n.index ≡ o → ordering_then o (point_order (point_of m.point) (point_of n.point)) ≡ Less → m.index ≤ n.index
index_rises m n Less e h =
    let k : m.index < n.index = subst (λ o. MatchOrdering o (m.index < n.index) (m.index ≡ n.index) (n.index < m.index)) e (ranks m.index n.index) in omega arith
index_rises m n Equal e h =
    let k : m.index ≡ n.index = subst (λ o. MatchOrdering o (m.index < n.index) (m.index ≡ n.index) (n.index < m.index)) e (ranks m.index n.index) in omega arith
index_rises m n Greater e h = let z : ◌≡◌ {A = ℕ} 0 1 = cc in omega arith

rising_behind : (m : LineMark) (l : List LineMark) → AllByRecursion (λ n. mark_order m n ≡ Less) l → Ascending mark_kind l → Rising m.index l
rising_behind m [] h a = tt
rising_behind m (n ∷ l) h a = (index_rises m n (nat_cmp m.index n.index) refl h.0, rising_behind n l a.0 a.1)

rising_all : (l : List LineMark) → Ascending mark_kind l → Rising 0 l
rising_all [] a = tt
rising_all (m ∷ l) a = (omega arith, rising_behind m l a.0 a.1)

-- ---- the points of one row
none_on : (i k : ℕ) (l : List LineMark) → k < i → Rising i l → points_on k l ≡ []
none_on i k [] lt h = refl
none_on i k (m ∷ l) lt h =
    ap (λ b. cond b (m.point ∷ points_on k l) (points_on k l)) (ne_eqb m.index k (λ e. omega (arith, h.0)))
    ∙ none_on m.index k l (omega (arith, h.0)) h.1

-- how many of the first marks are those of edge i
abbrev row : ℕ → List LineMark → ℕ
row i l = prefix_len (λ (m : LineMark). m.index == i) l

-- an index that is no lower and another is higher
other : (k i : ℕ) → (k == i) ≡ false → i ≤ k → i < k
other k i e le = grind (arith, nat_tests)

row_points : (i : ℕ) (l : List LineMark) → Rising i l → map point_at (take (row i l) l) ≡ points_on i l
row_points i [] h = refl
row_points i (m ∷ l) h = go (m.index == i) refl (row_points i l (rising_lower i m.index l h.0 h.1))
  where
    go : (b : Bool) → (m.index == i) ≡ b → map point_at (take (row i l) l) ≡ points_on i l
        → map point_at (take (cond b (1 + row i l) 0) (m ∷ l)) ≡ cond b (m.point ∷ points_on i l) (points_on i l)
    go true e rest =
        subst (λ (n : ℕ). map point_at (take n (m ∷ l)) ≡ m.point ∷ points_on i l) (sym (one-add (row i l))) (ap (λ (u : List IntPoint). m.point ∷ u) rest)
    go false e rest = sym (none_on m.index i l (other m.index i e h.0) h.1)

row_rises : (i : ℕ) (l : List LineMark) → Rising i l → Rising (suc i) (drop (row i l) l)
row_rises i [] h = tt
row_rises i (m ∷ l) h = go (m.index == i) refl (row_rises i l (rising_lower i m.index l h.0 h.1))
  where
    go : (b : Bool) → (m.index == i) ≡ b → Rising (suc i) (drop (row i l) l) → Rising (suc i) (drop (cond b (1 + row i l) 0) (m ∷ l))
    go true e rest = subst (λ (n : ℕ). Rising (suc i) (drop n (m ∷ l))) (sym (one-add (row i l))) rest
    go false e rest = (other m.index i e h.0, h.1)

row_others : (i k : ℕ) (l : List LineMark) → i < k → points_on k l ≡ points_on k (drop (row i l) l)
row_others i k [] lt = refl
row_others i k (m ∷ l) lt = go (m.index == i) refl (row_others i k l lt)
  where
    go : (b : Bool) → (m.index == i) ≡ b → points_on k l ≡ points_on k (drop (row i l) l) → points_on k (m ∷ l) ≡ points_on k (drop (cond b (1 + row i l) 0) (m ∷ l))
    go true e rest =
        ap (λ b. cond b (m.point ∷ points_on k l) (points_on k l)) (ne_eqb m.index k (λ d. let here : m.index ≡ i = eqb-true m.index i e in omega arith))
        ∙ subst (λ (n : ℕ). points_on k l ≡ points_on k (drop n (m ∷ l))) (sym (one-add (row i l))) rest
    go false e rest = refl

-- ---- the rows of a list of marks
-- `rest` is what is left of ms behind the rows of the first i edges
pub record Rows (i : ℕ) (ms rest : List LineMark) : Type 0 where
  pub rising : Rising i rest
  pub points : (k : ℕ) → i ≤ k → points_on k ms ≡ points_on k rest

pub rows_none : (ms : List LineMark) → Ordered mark_kind ms → Rows 0 ms ms
rows_none ms o = record { rising = rising_all ms o.ascending; points = λ k h. refl }

-- the first n marks that are left are the row of edge i
module _ {i : ℕ} {ms rest : List LineMark} (rows : Rows i ms rest) (n : ℕ) (all : n ≡ row i rest) where
  pub rows_points : (front : List LineMark) → front ≡ take n rest → map point_at front ≡ points_on i ms
  rows_points front is =
      ap (map point_at) (is ∙ ap (λ (k : ℕ). take k rest) all) ∙ row_points i rest rows.rising ∙ sym (rows.points i (omega arith))

  pub rows_more : (back : List LineMark) → back ≡ drop n rest → Rows (i + 1) ms back
  rows_more back is =
      let one : suc i ≡ i + 1 = omega arith in
      subst (Rows (i + 1) ms) (sym (is ∙ ap (λ (k : ℕ). drop k rest) all)) (record {
        rising = subst (λ (k : ℕ). Rising k (drop (row i rest) rest)) one (row_rises i rest rows.rising);
        points = λ k lt. rows.points k (omega arith) ∙ row_others i k rest (omega arith);
      })

-- ---- edges cut one after another
module _ {C : Type 0} (K : CountKind C) (ms : List LineMark) where
  cut_append : (j : ℕ) (l m : List (Segment C)) → cut_from K j ms (l ++ m) ≡ cut_from K j ms l ++ cut_from K (j + length l) ms m
  cut_append j [] m = let z : j ≡ j + 0 = omega arith in ap (λ (n : ℕ). cut_from K n ms m) z
  cut_append j (s ∷ l) m =
      let z : suc j + length l ≡ j + suc (length l) = omega arith in
      ap (λ u. cut K s (points_on j ms) ++ u) (cut_append (suc j) l m ∙ ap (λ (n : ℕ). cut_from K (suc j) ms l ++ cut_from K n ms m) z)
      ∙ sym (append_assoc (cut K s (points_on j ms)) (cut_from K (suc j) ms l) (cut_from K (j + suc (length l)) ms m))

  module _ (l : List (Segment C)) (i : ℕ) (s : Segment C) (lt : i < length l) (is : s ≡ get_or l i s) (ps : List IntPoint) (on : ps ≡ points_on i ms) where
    pub cut_more : cut_from K 0 ms (take i l) ++ cut K s ps ≡ cut_from K 0 ms (take (i + 1) l)
    cut_more =
        let n : i ≡ 0 + length (take i l) = omega (arith, length-take-le i l (omega arith)) in
        sym (
        ap (cut_from K 0 ms) (take_more l i s lt) ∙ cut_append 0 (take i l) (get_or l i s ∷ [])
        ∙ ap (λ u. cut_from K 0 ms (take i l) ++ u) (append-nil (cut K (get_or l i s) (points_on (0 + length (take i l)) ms)))
        ∙ ap₂ (λ (x : Segment C) (qs : List IntPoint). cut_from K 0 ms (take i l) ++ cut K x qs) (sym is) (sym (on ∙ ap (λ (k : ℕ). points_on k ms) n))
        )

    pub cut_fewer : length (cut_from K 0 ms (take i l)) + length (cut K s ps) ≤ length (cut_from K 0 ms l)
    cut_fewer =
        let all : length (cut_from K 0 ms l) ≡ length (cut_from K 0 ms (take (i + 1) l)) + length (cut_from K (0 + length (take (i + 1) l)) ms (drop (i + 1) l)) =
        ap (λ u. length (cut_from K 0 ms u)) (sym (take-append-drop (i + 1) l)) ∙ ap length (cut_append 0 (take (i + 1) l) (drop (i + 1) l))
        ∙ length-append (cut_from K 0 ms (take (i + 1) l)) (cut_from K (0 + length (take (i + 1) l)) ms (drop (i + 1) l)) in
        omega (arith, sym (length-append (cut_from K 0 ms (take i l)) (cut K s ps)) ∙ ap length cut_more)
