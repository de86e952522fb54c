-- How many pieces there are: placing keeps the points of an edge, and each mark adds a piece to the edge that it is on.
use Rattle.std.proofs.Common.{◌≡◌, ℕ, suc, ◌+◌, ◌<◌, Bool, true, false, cond, ◌&&◌, eqb, ltb, leb, ◌⊎◌, ◌↔◌, List, [], ◌∷◌, ◌++◌, reverse, length, ℤ, sym, refl, ap, ◌∙◌, inl, inr, arith}
use mathlib.Core.List.{reverse_aux}
use lib.Signed.{lt_z}
use Rattle.std.proofs.lemmas.List.{length-append, length-reverse}
use Rattle.plane.specs.Rules.{In}
use Rattle.plane.specs.declared.int_point.IntPoint.{IntPoint}
use Rattle.finder.proofs.Members.{in_left, in_right, in_split}
use Rattle.segm.specs.Counts.{CountKind}
use Rattle.segm.specs.declared.line_mark.LineMark.{LineMark}
use Rattle.segm.specs.declared.segment.Segment.{Segment}
use Rattle.rounds.specs.Placing.{last_y, settled, place, placed}
use Rattle.rounds.specs.Pieces.{points_on, pieces, cut, cut_from}

-- ---- placing keeps the number of points
settled_length : (before : ℤ) (group : List IntPoint) (after : ℤ) → length (settled before group after) ≡ length group
settled_length before group after = go (lt_z after before)
  where
    go : (b : Bool) → length (cond b group (reverse group)) ≡ length group
    go true = refl
    go false = length-reverse group

place_length : (before w : ℤ) (group l : List IntPoint) (end : ℤ) → length (place before w group l end) ≡ length group + length l
place_length before w group [] end = omega (arith, settled_length before group end)
place_length before w group (p ∷ l) end =
    go (lt_z w p.x) (place_length (last_y before (settled before group p.y)) p.x (p ∷ []) l end) (place_length before w (p ∷ group) l end)
  where
    go : (b : Bool)
        → length (place (last_y before (settled before group p.y)) p.x (p ∷ []) l end) ≡ length (p ∷ []) + length l
        → length (place before w (p ∷ group) l end) ≡ length (p ∷ group) + length l
        → length (cond b (settled before group p.y ++ place (last_y before (settled before group p.y)) p.x (p ∷ []) l end) (place before w (p ∷ group) l end)) ≡ length group + length (p ∷ l)
    go true h k =
        length-append (settled before group p.y) (place (last_y before (settled before group p.y)) p.x (p ∷ []) l end)
        ∙ omega (arith, settled_length before group p.y)
    go false h k = omega arith

pub placed_length : (a b : IntPoint) (l : List IntPoint) → length (placed a b l) ≡ length l
placed_length a b [] = refl
placed_length a b (p ∷ l) = place_length a.y p.x (p ∷ []) l b.y ∙ omega arith

-- ---- placing keeps the points
module _ (p : IntPoint) where
  from_reverse : (l r : List IntPoint) → In p (reverse_aux l r) → In p l ⊎ In p r
  from_reverse [] r i = inr i
  from_reverse (q ∷ l) r i = go (from_reverse l (q ∷ r) i)
    where
      go : In p l ⊎ In p (q ∷ r) → In p (q ∷ l) ⊎ In p r
      go (inl j) = inl (inr j)
      go (inr (inl e)) = inl (inl e)
      go (inr (inr j)) = inr j

  to_reverse : (l r : List IntPoint) → In p l ⊎ In p r → In p (reverse_aux l r)
  to_reverse [] r (inl i) = absurd i
  to_reverse [] r (inr i) = i
  to_reverse (q ∷ l) r (inl (inl e)) = to_reverse l (q ∷ r) (inr (inl e))
  to_reverse (q ∷ l) r (inl (inr j)) = to_reverse l (q ∷ r) (inl j)
  to_reverse (q ∷ l) r (inr j) = to_reverse l (q ∷ r) (inr (inr j))

  pub from_settled : (before : ℤ) (group : List IntPoint) (after : ℤ) → In p (settled before group after) → In p group
  from_settled before group after = go (lt_z after before)
    where
      only : In p group ⊎ In {X = IntPoint} p [] → In p group
      only (inl i) = i
      only (inr i) = absurd i

      go : (b : Bool) → In p (cond b group (reverse group)) → In p group
      go true i = i
      go false i = only (from_reverse group [] i)

  to_settled : (before : ℤ) (group : List IntPoint) (after : ℤ) → In p group → In p (settled before group after)
  to_settled before group after i = go (lt_z after before)
    where
      go : (b : Bool) → In p (cond b group (reverse group))
      go true = i
      go false = to_reverse group [] (inl i)

  pub from_place : (before w : ℤ) (group l : List IntPoint) (end : ℤ) → In p (place before w group l end) → In p group ⊎ In p l
  from_place before w group [] end i = inl (from_settled before group end i)
  from_place before w group (q ∷ l) end i =
      go (lt_z w q.x) (from_place (last_y before (settled before group q.y)) q.x (q ∷ []) l end) (from_place before w (q ∷ group) l end) i
    where
      new : In p (q ∷ []) ⊎ In p l → In p group ⊎ In p (q ∷ l)
      new (inl (inl e)) = inr (inl e)
      new (inl (inr i)) = absurd i
      new (inr j) = inr (inr j)

      more : In p (q ∷ group) ⊎ In p l → In p group ⊎ In p (q ∷ l)
      more (inl (inl e)) = inr (inl e)
      more (inl (inr i)) = inl i
      more (inr j) = inr (inr j)

      go : (b : Bool)
          → (In p (place (last_y before (settled before group q.y)) q.x (q ∷ []) l end) → In p (q ∷ []) ⊎ In p l)
          → (In p (place before w (q ∷ group) l end) → In p (q ∷ group) ⊎ In p l)
          → In p (cond b (settled before group q.y ++ place (last_y before (settled before group q.y)) q.x (q ∷ []) l end) (place before w (q ∷ group) l end))
          → In p group ⊎ In p (q ∷ l)
      go true f g i = either (in_split p (settled before group q.y) (place (last_y before (settled before group q.y)) q.x (q ∷ []) l end) i)
        where
          either : In p (settled before group q.y) ⊎ In p (place (last_y before (settled before group q.y)) q.x (q ∷ []) l end) → In p group ⊎ In p (q ∷ l)
          either (inl j) = inl (from_settled before group q.y j)
          either (inr j) = new (f j)
      go false f g i = more (g i)

  to_place : (before w : ℤ) (group l : List IntPoint) (end : ℤ) → In p group ⊎ In p l → In p (place before w group l end)
  to_place before w group [] end (inl i) = to_settled before group end i
  to_place before w group [] end (inr i) = absurd i
  to_place before w group (q ∷ l) end i =
      go (lt_z w q.x) (to_place (last_y before (settled before group q.y)) q.x (q ∷ []) l end) (to_place before w (q ∷ group) l end) i
    where
      go : (b : Bool)
          → (In p (q ∷ []) ⊎ In p l → In p (place (last_y before (settled before group q.y)) q.x (q ∷ []) l end))
          → (In p (q ∷ group) ⊎ In p l → In p (place before w (q ∷ group) l end))
          → In p group ⊎ In p (q ∷ l)
          → In p (cond b (settled before group q.y ++ place (last_y before (settled before group q.y)) q.x (q ∷ []) l end) (place before w (q ∷ group) l end))
      go true f g (inl j) = in_left p (settled before group q.y) _ (to_settled before group q.y j)
      go true f g (inr (inl e)) = in_right p (settled before group q.y) _ (f (inl (inl e)))
      go true f g (inr (inr j)) = in_right p (settled before group q.y) _ (f (inr j))
      go false f g (inl j) = g (inl (inr j))
      go false f g (inr (inl e)) = g (inl (inl e))
      go false f g (inr (inr j)) = g (inr j)

from_placed : (a b : IntPoint) (l : List IntPoint) (p : IntPoint) → In p (placed a b l) → In p l
from_placed a b [] p i = i
from_placed a b (q ∷ l) p i = go (from_place p a.y q.x (q ∷ []) l b.y i)
  where
    go : In p (q ∷ []) ⊎ In p l → In p (q ∷ l)
    go (inl (inl e)) = inl e
    go (inl (inr j)) = absurd j
    go (inr j) = inr j

to_placed : (a b : IntPoint) (l : List IntPoint) (p : IntPoint) → In p l → In p (placed a b l)
to_placed a b [] p i = i
to_placed a b (q ∷ l) p (inl e) = to_place p a.y q.x (q ∷ []) l b.y (inl (inl e))
to_placed a b (q ∷ l) p (inr j) = to_place p a.y q.x (q ∷ []) l b.y (inr j)

pub placed_in : (a b : IntPoint) (l : List IntPoint) (p : IntPoint) → In p (placed a b l) ↔ In p l
placed_in a b l p = (from_placed a b l p, to_placed a b l p)

-- ---- how many marks are on edges
-- how many marks are on the n edges that are numbered from i
abbrev pub marks_on : ℕ → ℕ → List LineMark → ℕ
marks_on i n [] = 0
marks_on i n (m ∷ ms) = cond (leb i m.index && ltb m.index (i + n)) (suc (marks_on i n ms)) (marks_on i n ms)

pub marks_on_none : (i : ℕ) (ms : List LineMark) → marks_on i 0 ms ≡ 0
marks_on_none i [] = refl
marks_on_none i (m ∷ ms) = let h = marks_on_none i ms in grind arith

pub marks_on_more : (i n : ℕ) (ms : List LineMark) → marks_on i (suc n) ms ≡ length (points_on i ms) + marks_on (suc i) n ms
marks_on_more i n [] = refl
marks_on_more i n (m ∷ ms) = go m.index (marks_on i (suc n) ms) (points_on i ms) (marks_on (suc i) n ms) (marks_on_more i n ms)
  where
    go : (k a : ℕ) (ps : List IntPoint) (b : ℕ) → a ≡ length ps + b
        → cond (leb i k && ltb k (i + suc n)) (suc a) a ≡ length (cond (eqb k i) (m.point ∷ ps) ps) + cond (leb (suc i) k && ltb k (suc i + n)) (suc b) b
    go k a ps b h = grind arith

pub marks_on_all : (n : ℕ) (ms : List LineMark) → ((m : LineMark) → In m ms → m.index < n) → marks_on 0 n ms ≡ length ms
marks_on_all n [] h = refl
marks_on_all n (m ∷ ms) h = go m.index (marks_on 0 n ms) (length ms) (h m (inl refl)) (marks_on_all n ms (λ k i. h k (inr i)))
  where
    go : (k a b : ℕ) → k < n → a ≡ b → cond (leb 0 k && ltb k (0 + n)) (suc a) a ≡ suc b
    go k a b lt e = grind arith

-- ---- how many pieces there are
module _ {C : Type 0} (K : CountKind C) where
  pub pieces_length : (c : C) (p : IntPoint) (l : List IntPoint) → length (pieces K c p l) ≡ length l
  pieces_length c p [] = refl
  pieces_length c p (q ∷ l) = ap suc (pieces_length c q l)

  pub cut_length : (s : Segment C) (ps : List IntPoint) → length (cut K s ps) ≡ suc (length ps)
  cut_length s ps =
      pieces_length s.count s.a (placed s.a s.b ps ++ (s.b ∷ []))
      ∙ length-append (placed s.a s.b ps) (s.b ∷ []) ∙ omega (arith, placed_length s.a s.b ps)

  -- edges that are numbered from i
  pub pieces_number_from : (i : ℕ) (ms : List LineMark) (l : List (Segment C)) → length (cut_from K i ms l) ≡ length l + marks_on i (length l) ms
  pieces_number_from i ms [] = sym (marks_on_none i ms) ∙ omega arith
  pieces_number_from i ms (s ∷ l) =
      length-append (cut K s (points_on i ms)) (cut_from K (suc i) ms l)
      ∙ omega (arith, cut_length s (points_on i ms), pieces_number_from (suc i) ms l, marks_on_more i (length l) ms)

  pub pieces_number : (ms : List LineMark) (l : List (Segment C)) → ((m : LineMark) → In m ms → m.index < length l) → length (cut_from K 0 ms l) ≡ length l + length ms
  pieces_number ms l h = pieces_number_from 0 ms l ∙ ap (λ (n : ℕ). length l + n) (marks_on_all (length l) ms h)
