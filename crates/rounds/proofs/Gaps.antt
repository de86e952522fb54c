-- Between the ends of a piece lies no point of the path that it is cut from.
use Rattle.std.proofs.Common.{◌≡◌, cond, ◌⊎◌, List, [], ◌∷◌, ◌++◌, map, pos, Ordering, Less, Equal, Greater, sym, refl, ap, ◌∙◌, subst, inl, inr}
use Rattle.std.specs.Ordering.{is_gt}
use Rattle.std.specs.List.{AllByRecursion}
use Rattle.std.proofs.ByRecursion.{All-push}
use Rattle.std.proofs.lemmas.List.{map_push}
use Rattle.plane.specs.Points.{Point, ◌≺◌, cross}
use Rattle.plane.specs.PointOf.{point_of}
use Rattle.plane.specs.Edges.{Edge, Proper, Between}
use Rattle.plane.specs.Rules.{In}
use Rattle.plane.specs.declared.int_point.IntPoint.{IntPoint}
use Rattle.plane.proofs.Points.{weaken, never, apart, ≺-trans}
use Rattle.finder.proofs.Members.{in_left, in_split}
use Rattle.segm.specs.Counts.{CountKind}
use Rattle.segm.specs.Orders.{point_order}
use Rattle.segm.specs.OrderLaws.{Stands, points_ranked}
use Rattle.segm.specs.Open.{Rising}
use Rattle.segm.specs.Segments.{ends_of, turned_of, directed}
use Rattle.segm.specs.declared.segment.Segment.{Segment}
use Rattle.rounds.specs.Pieces.{pieces, cut}
use Rattle.rounds.proofs.Members.{all_in, all_from_in, in_map}
use Rattle.rounds.proofs.PlacedOrder.{placed_ascending}

-- ---- the path of an edge: its ends, and its marks between them
abbrev pub path : Edge → List Point → List Point
path e l = e.a ∷ (l ++ (e.b ∷ []))

pub data OnPath (e : Edge) (l : List Point) (m : Point) : Type 0 where
  is_end : (m ≡ e.a) ⊎ (m ≡ e.b) → OnPath e l m
  is_mark : In m l → OnPath e l m

pub in_path : (e : Edge) (l : List Point) (m : Point) → In m (path e l) → OnPath e l m
in_path e l m (inl h) = is_end (inl h)
in_path e l m (inr h) = go (in_split m l (e.b ∷ []) h)
  where
    go : In m l ⊎ In m (e.b ∷ []) → OnPath e l m
    go (inl i) = is_mark i
    go (inr (inl i)) = is_end (inr i)
    go (inr (inr i)) = absurd i

pub mark_in_path : (e : Edge) (l : List Point) (m : Point) → In m l → In m (path e l)
mark_in_path e l m h = inr (in_left m l (e.b ∷ []) h)

rising_to : (l : List Point) (b : Point) → Rising l → ((m : Point) → In m l → m ≺ b) → Rising (l ++ (b ∷ []))
rising_to [] b r h = (tt, tt)
rising_to (p ∷ l) b r h = (All-push (λ q. p ≺ q) l b r.0 (h p (inl refl)), rising_to l b r.1 (λ m i. h m (inr i)))

pub rising_path : (e : Edge) (l : List Point) → e.a ≺ e.b → Rising l → ((m : Point) → In m l → Between e m) → Rising (path e l)
rising_path e l o r h =
    (All-push (λ q. e.a ≺ q) l e.b (all_from_in (λ q. e.a ≺ q) l (λ m i. (h m i).from)) o, rising_to l e.b r (λ m i. (h m i).to))

-- ---- a piece
pub record Gap (l : List Point) (e : Edge) : Type 0 where
  pub from : In e.a l
  pub to : In e.b l
  pub step : e.a ≺ e.b
  pub none : (m : Point) → In m l → ¬ Between e m

irreflexive : {p : Point} → ¬ (p ≺ p)
irreflexive h = apart h refl

first_gap : (p q : Point) (l : List Point) → Rising (p ∷ q ∷ l) → Gap (p ∷ q ∷ l) (record { a = p; b = q })
first_gap p q l r = record { from = inl refl; to = inr (inl refl); step = r.0.0; none = none }
  where
    none : (m : Point) → In m (p ∷ q ∷ l) → ¬ Between (record { a = p; b = q }) m
    none m (inl e) h = apart h.from (sym e)
    none m (inr (inl e)) h = apart h.to e
    none m (inr (inr i)) h = irreflexive (≺-trans h.to (all_in (λ z. q ≺ z) l r.1.0 m i))

further_gap : (p : Point) (l : List Point) (e : Edge) → AllByRecursion (λ q. p ≺ q) l → Gap l e → Gap (p ∷ l) e
further_gap p l e a g = record { from = inr g.from; to = inr g.to; step = g.step; none = none }
  where
    none : (m : Point) → In m (p ∷ l) → ¬ Between e m
    none m (inl i) h = irreflexive (≺-trans (all_in (λ q. p ≺ q) l a e.a g.from) (subst (λ z. e.a ≺ z) i h.from))
    none m (inr i) h = g.none m i h

module _ {C : Type 0} (K : CountKind C) where
  -- a piece whose ends are in order is not turned
  directed_ends : (s : Segment C) → point_of s.a ≺ point_of s.b → ends_of (directed K s) ≡ ends_of s
  directed_ends s h = go (point_order (point_of s.a) (point_of s.b)) (points_ranked (point_of s.a) (point_of s.b))
    where
      go : (o : Ordering) → Stands o (point_of s.a) (point_of s.b) → ends_of (cond (is_gt o) (turned_of K s) s) ≡ ends_of s
      go Less k = refl
      go Equal k = refl
      go Greater k = absurd (never h (weaken k))

  pub piece_gap : (c : C) (p : IntPoint) (l : List IntPoint) → Rising (map point_of (p ∷ l)) → (s : Segment C) → In s (pieces K c p l) → Gap (map point_of (p ∷ l)) (ends_of s)
  piece_gap c p [] r s h = absurd h
  piece_gap c p (q ∷ l) r s (inl e) =
      subst (Gap (map point_of (p ∷ q ∷ l))) (sym (ap ends_of e ∙ directed_ends (record { a = p; b = q; count = c }) r.0.0))
      (first_gap (point_of p) (point_of q) (map point_of l) r)
  piece_gap c p (q ∷ l) r s (inr h) = further_gap (point_of p) (map point_of (q ∷ l)) (ends_of s) r.0 (piece_gap c q l r.1 s h)

  -- a piece of an edge that is cut at marks strictly inside it and on its line
  pub cut_gap : (t : Segment C) (l : List IntPoint) → Proper (ends_of t) → Rising (map point_of l)
      → ((m : Point) → In m (map point_of l) → Between (ends_of t) m) → ((m : Point) → In m (map point_of l) → cross (point_of t.a) (point_of t.b) m ≡ pos 0)
      → (s : Segment C) → In s (cut K t l) → Gap (path (ends_of t) (map point_of l)) (ends_of s)
  cut_gap t l o r b z s h =
      let kept = placed_ascending t.a t.b o l r (λ m i. z (point_of m) (in_map point_of l m i)) in
      let whole = map_push point_of l t.b in
      subst (λ (k : List Point). Gap (point_of t.a ∷ k) (ends_of s)) whole
      (piece_gap t.count t.a (l ++ (t.b ∷ []))
      (subst (λ (k : List Point). Rising (point_of t.a ∷ k)) (sym whole) (rising_path (ends_of t) (map point_of l) o r b))
      s (subst (λ (k : List IntPoint). In s (pieces K t.count t.a (k ++ (t.b ∷ [])))) kept h))
