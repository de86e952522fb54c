-- Pieces are proper edges: the points of a path are distinct, and each piece has its ends in order.
use Rattle.std.proofs.Common.{◌≡◌, ℕ, zero, suc, ◌+◌, ◌<◌, Bool, true, false, cond, eqb, ◌≢◌, ◌⊎◌, List, [], ◌∷◌, ◌++◌, map, reverse, length, ℤ, Ordering, Less, Equal, Greater, sym, refl, ap, subst, ap₂, inl, inr, arith}
use mathlib.Core.List.{reverse_aux}
use mathlib.Core.HLevel.{⊥_prop}
use mathlib.Core.Logic.{∥∥₁_elim}
use lib.Signed.{lt_z}
use Rattle.std.specs.Ordering.{is_gt}
use Rattle.std.proofs.lemmas.Bool.{eqb-true}
use Rattle.table.specs.Listings.{Ascending}
use Rattle.plane.specs.Points.{Point, ◌≺◌}
use Rattle.plane.specs.Edges.{Proper}
use Rattle.plane.specs.PointOf.{point_of}
use Rattle.plane.specs.Rules.{In}
use Rattle.plane.specs.declared.int_point.IntPoint.{IntPoint}
use Rattle.plane.proofs.Points.{weaken, never, apart}
use Rattle.plane.proofs.CrossingLaws.{marks_inside}
use Rattle.finder.specs.Finders.{edge_at}
use Rattle.finder.proofs.Members.{in_split}
use Rattle.segm.specs.Counts.{CountKind}
use Rattle.segm.specs.Orders.{point_order}
use Rattle.segm.specs.OrderLaws.{same_point, Stands, points_ranked}
use Rattle.segm.specs.Segments.{ends_of, turned_of, directed}
use Rattle.segm.specs.MarkKind.{mark_kind}
use Rattle.segm.specs.declared.line_mark.LineMark.{LineMark}
use Rattle.segm.specs.declared.segment.Segment.{Segment}
use Rattle.rounds.specs.Marks.{MarkedBy, Told, MarksOf}
use Rattle.rounds.specs.Placing.{last_y, settled, place, placed}
use Rattle.rounds.specs.Pieces.{points_on, pieces, cut, cut_from}
use Rattle.rounds.proofs.MarkLists.{holds_in, points_on_in, all_in, less_never}
use Rattle.rounds.proofs.Numbers.{from_settled, from_place, placed_in}

-- ---- lists without repetition
abbrev pub Distinct : {X : Type 0} → List X → Type 0
Distinct [] = Unit {0}
Distinct (x ∷ l) = (In x l → ⊥) × Distinct l

-- nothing is in both
abbrev pub Disjoint : {X : Type 0} → List X → List X → Type 0
Disjoint {X} l m = (x : X) → In x l → In x m → ⊥

module _ {X : Type 0} where
  pub distinct_append : (l m : List X) → Distinct l → Distinct m → Disjoint l m → Distinct (l ++ m)
  distinct_append [] m h k d = k
  distinct_append (x ∷ l) m h k d = (λ i. go (in_split x l m i), distinct_append l m h.1 k (λ y i. d y (inr i)))
    where
      go : In x l ⊎ In x m → ⊥
      go (inl i) = h.0 i
      go (inr i) = d x (inl refl) i

  distinct_reversed : (l r : List X) → Distinct l → Distinct r → Disjoint l r → Distinct (reverse_aux l r)
  distinct_reversed [] r h k d = k
  distinct_reversed (x ∷ l) r h k d = distinct_reversed l (x ∷ r) h.1 (d x (inl refl), k) go
    where
      go : Disjoint l (x ∷ r)
      go y i (inl e) = h.0 (subst (λ u. In u l) e i)
      go y i (inr j) = d y (inr i) j

distinct_settled : (before : ℤ) (group : List IntPoint) (after : ℤ) → Distinct group → Distinct (settled before group after)
distinct_settled before group after h = go (lt_z after before)
  where
    go : (b : Bool) → Distinct (cond b group (reverse group))
    go true = h
    go false = distinct_reversed group [] h tt (λ x i j. j)

distinct_place : (before w : ℤ) (group l : List IntPoint) (end : ℤ) → Distinct group → Distinct l → Disjoint group l → Distinct (place before w group l end)
distinct_place before w group [] end h k d = distinct_settled before group end h
distinct_place before w group (p ∷ l) end h k d =
    go (lt_z w p.x)
    (distinct_place (last_y before (settled before group p.y)) p.x (p ∷ []) l end (λ i. i, tt) k.1 alone)
    (distinct_place before w (p ∷ group) l end (λ i. d p i (inl refl), h) k.1 joined)
  where
    alone : Disjoint (p ∷ []) l
    alone x (inl e) j = k.0 (subst (λ u. In u l) e j)
    alone x (inr i) j = i

    joined : Disjoint (p ∷ group) l
    joined x (inl e) j = k.0 (subst (λ u. In u l) e j)
    joined x (inr i) j = d x i (inr j)

    behind : (x : IntPoint) → In x (p ∷ []) ⊎ In x l → In x group → ⊥
    behind x (inl (inl e)) i = d x i (inl e)
    behind x (inl (inr j)) i = j
    behind x (inr j) i = d x i (inr j)

    go : (b : Bool)
        → Distinct (place (last_y before (settled before group p.y)) p.x (p ∷ []) l end)
        → Distinct (place before w (p ∷ group) l end)
        → Distinct (cond b (settled before group p.y ++ place (last_y before (settled before group p.y)) p.x (p ∷ []) l end) (place before w (p ∷ group) l end))
    go true f g =
        distinct_append (settled before group p.y) _ (distinct_settled before group p.y h) f
        (λ x i j. behind x (from_place x (last_y before (settled before group p.y)) p.x (p ∷ []) l end j) (from_settled x before group p.y i))
    go false f g = g

pub distinct_placed : (a b : IntPoint) (l : List IntPoint) → Distinct l → Distinct (placed a b l)
distinct_placed a b [] h = tt
distinct_placed a b (p ∷ l) h = distinct_place a.y p.x (p ∷ []) l b.y (λ i. i, tt) h.1 alone
  where
    alone : Disjoint (p ∷ []) l
    alone x (inl e) j = h.0 (subst (λ u. In u l) e j)
    alone x (inr i) j = i

-- marks in order have distinct points on each edge
pub distinct_points : (i : ℕ) (ms : List LineMark) → Ascending mark_kind ms → Distinct (points_on i ms)
distinct_points i [] h = tt
distinct_points i (m ∷ ms) h = go (eqb m.index i) refl (distinct_points i ms h.1)
  where
    go : (b : Bool) → eqb m.index i ≡ b → Distinct (points_on i ms) → Distinct (cond b (m.point ∷ points_on i ms) (points_on i ms))
    go true e d = (λ j. again ((points_on_in i ms m.point).0 j), d)
      where
        again : In (record { index = i; point = m.point }) ms → ⊥
        again j = less_never mark_kind m (record { index = i; point = m.point }) (all_in _ ms _ h.0 j) (λ k. record { index = sym (eqb-true m.index i e) k; point = m.point })
    go false e d = d

-- ---- the ends of a piece
before_less : (p q : Point) → p ≺ q → point_order p q ≡ Less
before_less p q h = go (point_order p q) (points_ranked p q)
  where
    go : (o : Ordering) → Stands o p q → o ≡ Less
    go Less s = refl
    go Equal s = absurd (apart h s)
    go Greater s = absurd (never h (weaken s))

module _ {C : Type 0} (K : CountKind C) where
  -- a proper edge is not turned
  pub directed_same : (s : Segment C) → Proper (ends_of s) → directed K s ≡ s
  directed_same s h = ap (λ o. cond (is_gt o) (turned_of K s) s) (before_less (point_of s.a) (point_of s.b) h)

  -- unequal ends are put in order
  pub directed_proper : (s : Segment C) → s.a ≢ s.b → Proper (ends_of (directed K s))
  directed_proper s n = go (point_order (point_of s.a) (point_of s.b)) (points_ranked (point_of s.a) (point_of s.b))
    where
      go : (o : Ordering) → Stands o (point_of s.a) (point_of s.b) → Proper (ends_of (cond (is_gt o) (turned_of K s) s))
      go Less h = h
      go Equal h = absurd (n (same_point s.a s.b h))
      go Greater h = h

  -- edges without marks are their own pieces
  pub uncut : (i : ℕ) (l : List (Segment C)) → ((e : Segment C) → In e l → Proper (ends_of e)) → cut_from K i [] l ≡ l
  uncut i [] h = refl
  uncut i (s ∷ l) h = ap₂ (λ u v. u ∷ v) (directed_same s (h s (inl refl))) (uncut (suc i) l (λ e j. h e (inr j)))

  path_proper : (c : C) (p : IntPoint) (l : List IntPoint) → Distinct (p ∷ l) → (x : Segment C) → In x (pieces K c p l) → Proper (ends_of x)
  path_proper c p [] h x i = absurd i
  path_proper c p (q ∷ l) h x (inl e) =
      subst (λ (u : Segment C). Proper (ends_of u)) (sym e) (directed_proper (record { a = p; b = q; count = c }) (λ z. h.0 (inl z)))
  path_proper c p (q ∷ l) h x (inr i) = path_proper c q l h.1 x i

  -- no end of s is among the points
  abbrev pub EndsApart : Segment C → List IntPoint → Type 0
  EndsApart s ps = (p : IntPoint) → In p ps → (p ≢ s.a) × (p ≢ s.b)

  pub cut_proper : (s : Segment C) (ps : List IntPoint) → Proper (ends_of s) → Distinct ps → EndsApart s ps → (x : Segment C) → In x (cut K s ps) → Proper (ends_of x)
  cut_proper s ps h d n = path_proper s.count s.a (placed s.a s.b ps ++ (s.b ∷ [])) (start, distinct_append (placed s.a s.b ps) (s.b ∷ []) (distinct_placed s.a s.b ps d) (λ i. i, tt) end)
    where
      split : In s.a (placed s.a s.b ps) ⊎ In s.a (s.b ∷ []) → ⊥
      split (inl i) = (n s.a ((placed_in s.a s.b ps s.a).0 i)).0 refl
      split (inr (inl e)) = apart h (ap point_of e)
      split (inr (inr i)) = i

      start : In s.a (placed s.a s.b ps ++ (s.b ∷ [])) → ⊥
      start i = split (in_split s.a (placed s.a s.b ps) (s.b ∷ []) i)

      end : Disjoint (placed s.a s.b ps) (s.b ∷ [])
      end x i (inl e) = (n x ((placed_in s.a s.b ps x).0 i)).1 e
      end x i (inr j) = j

  abbrev pub AllProper : List (Segment C) → Type 0
  AllProper l = (e : Segment C) → In e l → Proper (ends_of e)

  -- no mark of the edges that are numbered from i is an end of its own edge
  abbrev pub MarksApart : ℕ → List LineMark → List (Segment C) → Type 0
  MarksApart i ms l = (k j : ℕ) → k ≡ i + j → j < length (map ends_of l) → (p : IntPoint) → In p (points_on k ms)
      → (point_of p ≢ (edge_at (map ends_of l) j).a) × (point_of p ≢ (edge_at (map ends_of l) j).b)

  pub cut_from_proper : (i : ℕ) (ms : List LineMark) (l : List (Segment C)) → AllProper l → Ascending mark_kind ms → MarksApart i ms l → AllProper (cut_from K i ms l)
  cut_from_proper i ms [] h o n x j = absurd j
  cut_from_proper i ms (s ∷ l) h o n x j = go (in_split x (cut K s (points_on i ms)) (cut_from K (suc i) ms l) j) (cut_from_proper (suc i) ms l (λ e q. h e (inr q)) o later x)
    where
      here : EndsApart s (points_on i ms)
      here p q = let w = n i 0 (omega arith) (omega arith) p q in (λ e. w.0 (ap point_of e), λ e. w.1 (ap point_of e))

      later : MarksApart (suc i) ms l
      later k j e lt p q = n k (suc j) (omega arith) (omega arith) p q

      go : In x (cut K s (points_on i ms)) ⊎ In x (cut_from K (suc i) ms l) → (In x (cut_from K (suc i) ms l) → Proper (ends_of x)) → Proper (ends_of x)
      go (inl q) f = cut_proper s (points_on i ms) (h s (inl refl)) (distinct_points i ms o) here x q
      go (inr q) f = f q

  proper_at : (l : List (Segment C)) → AllProper l → (k : ℕ) → k < length (map ends_of l) → Proper (edge_at (map ends_of l) k)
  proper_at [] h k lt = absurd (omega arith)
  proper_at (s ∷ l) h zero lt = h s (inl refl)
  proper_at (s ∷ l) h (suc k) lt = proper_at l (λ e i. h e (inr i)) k (omega arith)

  -- no mark is an end of its own edge
  pub mark_no_end : (s : ℕ) (ms : List LineMark) (l : List (Segment C)) → AllProper l → MarksOf s (map ends_of l) ms → (m : LineMark) → In m ms
      → (point_of m.point ≢ (edge_at (map ends_of l) m.index).a) × (point_of m.point ≢ (edge_at (map ends_of l) m.index).b)
  mark_no_end s ms l h marks m i = (λ z. ∥∥₁_elim told ⊥_prop (λ t. (inside t.0 t.1).0 z), λ z. ∥∥₁_elim told ⊥_prop (λ t. (inside t.0 t.1).1 z))
    where
      told : Told s (map ends_of l) m
      told = (marks.each m).0 ((holds_in ms m).1 i)

      inside : (j : ℕ) → MarkedBy s (map ends_of l) m.index (point_of m.point) j
          → (point_of m.point ≢ (edge_at (map ends_of l) m.index).a) × (point_of m.point ≢ (edge_at (map ends_of l) m.index).b)
      inside j t =
          marks_inside (edge_at (map ends_of l) m.index) (edge_at (map ends_of l) j) s
          (proper_at l h m.index t.here) (proper_at l h j t.there) (point_of m.point) t.marked

  pub pieces_proper : (s : ℕ) (ms : List LineMark) (l : List (Segment C)) → ((e : Segment C) → In e l → Proper (ends_of e)) → MarksOf s (map ends_of l) ms
      → (p : Segment C) → In p (cut_from K 0 ms l) → Proper (ends_of p)
  pieces_proper s ms l h marks = cut_from_proper 0 ms l h marks.ordered.ascending inside
    where
      inside : MarksApart 0 ms l
      inside k j e lt p i =
          let q : k ≡ j = omega arith in
          mark_no_end s ms l h marks (record { index = j; point = p }) ((points_on_in j ms p).0 (subst (λ n. In p (points_on n ms)) q i))
