-- Placing the marks of an edge one group of equal x after another.
use Rattle.std.proofs.Common.{◌≡◌, ℕ, suc, ◌+◌, ◌-◌, ◌<◌, ◌≤◌, Bool, true, false, not, cond, List, [], ◌∷◌, ◌++◌, map, reverse, length, get_or, take, drop, Bor, Some, None, Option, MatchOption, IfSome, ℤ, nat_abs, sym, refl, ap, ◌∙◌, subst, ap₂, arith, take-append-drop, take-add, w32, to_z, of_z}
use mathlib.Core.List.{reverse_aux}
use borrow.Author.Differences.{ints}
use lib.Signed.{lt_z}
use borrow.Rule.Slice.PartMut.{put_mid}
use Rattle.std.specs.List.{between, prefix_len, HoldsAt}
use Rattle.std.proofs.Math.Numerals.{one-add}
use Rattle.std.proofs.lemmas.List.Edits.{split_between, length-between}
use Rattle.std.proofs.lemmas.List.{append-nil, append_assoc, append_cancel_left, drop_all, take_all, drop_more, drop-drop, get_or-drop, take_rest, length-drop, length-reverse, length-map, map-append, map_more, reverse-reverse}
use Rattle.std.proofs.lemmas.Slice.{take-put_mid, drop-put_mid}
use Rattle.std.proofs.lemmas.Int.{to_z-of_z}
use Rattle.plane.specs.declared.int_point.IntPoint.{IntPoint}
use Rattle.segm.specs.Marks.{blank_mark}
use Rattle.segm.specs.declared.line_mark.LineMark.{LineMark}
use Rattle.rounds.specs.Placing.{last_y, settled, place, place_all, placed}
use Rattle.cutting.specs.Cutting.{point_at}

-- ---- lists of points
last_append : (y : ℤ) (l m : List IntPoint) → last_y y (l ++ m) ≡ last_y (last_y y l) m
last_append y [] m = refl
last_append y (p ∷ l) m = last_append p.y l m

reverse_points : (l : List LineMark) (r : List LineMark) → map point_at (reverse_aux l r) ≡ reverse_aux (map point_at l) (map point_at r)
reverse_points [] r = refl
reverse_points (m ∷ l) r = reverse_points l (m ∷ r)

-- the y of the first mark, or `end` where there is none
abbrev pub first_y : List LineMark → ℤ → ℤ
first_y [] end = end
first_y (m ∷ l) end = m.point.y

-- ---- a group that is closed by a mark to its right, or by the end
abbrev closed : ℤ → ℤ → List IntPoint → List LineMark → List IntPoint
closed before end group r = settled before group (first_y r end) ++ place_all (last_y before (settled before group (first_y r end))) (map point_at r) end

-- how many of the first marks are not to the right of w
abbrev up_to : ℤ → List LineMark → ℕ
up_to w l = prefix_len (λ (m : LineMark). not (lt_z w m.point.x)) l

place_group : (before end w : ℤ) (group : List IntPoint) (l : List LineMark)
    → place before w group (map point_at l) end ≡ closed before end (reverse_aux (map point_at (take (up_to w l) l)) group) (drop (up_to w l) l)
place_group before end w group [] = sym (append-nil (settled before group end))
place_group before end w group (q ∷ l) = go (lt_z w q.point.x) (place_group before end w (q.point ∷ group) l)
  where
    go : (b : Bool) → place before w (q.point ∷ group) (map point_at l) end ≡ closed before end (reverse_aux (map point_at (take (up_to w l) l)) (q.point ∷ group)) (drop (up_to w l) l)
        → cond b (closed before end group (q ∷ l)) (place before w (q.point ∷ group) (map point_at l) end)
        ≡ closed before end (reverse_aux (map point_at (take (cond (not b) (1 + up_to w l) 0) (q ∷ l))) group) (drop (cond (not b) (1 + up_to w l) 0) (q ∷ l))
    go true rest = refl
    go false rest =
        subst (λ (n : ℕ). place before w (q.point ∷ group) (map point_at l) end ≡ closed before end (reverse_aux (map point_at (take n (q ∷ l))) group) (drop n (q ∷ l)))
        (sym (one-add (up_to w l))) rest

not_right : (w : ℤ) → lt_z w w ≡ false
not_right w = grind (arith, ints)

-- the group of the first mark
first_group : (before end : ℤ) (m : LineMark) (l : List LineMark) (n : ℕ) → n ≡ up_to m.point.x (m ∷ l)
    → place_all before (map point_at (m ∷ l)) end ≡ closed before end (reverse (map point_at (take n (m ∷ l)))) (drop n (m ∷ l))
first_group before end m l n is =
    let more : suc (up_to m.point.x l) ≡ n =
    sym (one-add (up_to m.point.x l)) ∙ ap (λ b. cond (not b) (1 + up_to m.point.x l) 0) (sym (not_right m.point.x)) ∙ sym is in
    subst (λ (k : ℕ). place_all before (map point_at (m ∷ l)) end ≡ closed before end (reverse (map point_at (take k (m ∷ l)))) (drop k (m ∷ l))) more
    (place_group before end m.point.x (m.point ∷ []) l)

settled_group : (test : Bool) (g : List LineMark) → map point_at (cond test (reverse g) g) ≡ cond test (reverse (map point_at g)) (reverse (reverse (map point_at g)))
settled_group true g = reverse_points g []
settled_group false g = sym (reverse-reverse (map point_at g))

-- the last of the first n marks
last_is : (y : ℤ) (t : List LineMark) (n : ℕ) (d : LineMark) → 0 < n → n ≤ length t → last_y y (map point_at (take n t)) ≡ (get_or t (n - 1) d).point.y
last_is y t n d lt le =
    let sum : n - 1 + 1 ≡ n = omega arith in
    ap (last_y y) (ap (λ (k : ℕ). map point_at (take k t)) (sym sum) ∙ map_more point_at t (n - 1) d (omega arith))
    ∙ last_append y (map point_at (take (n - 1) t)) ((get_or t (n - 1) d).point ∷ [])

pub first_at : (t : List LineMark) (to : ℕ) (end : ℤ) (d : LineMark) → to < length t → first_y (drop to t) end ≡ (get_or t to d).point.y
first_at t to end d lt = ap (λ l. first_y l end) (drop_more t to d lt)

pub first_none : (t : List LineMark) (to : ℕ) (end : ℤ) → length t ≤ to → first_y (drop to t) end ≡ end
first_none t to end le = ap (λ l. first_y l end) (drop_all to t le)

-- what is said of the y of a mark behind, or of `end` where there is none
pub first_told : (t : List LineMark) (to : ℕ) (end none : ℤ) → none ≡ end → (o : Option (Bor LineMark)) (y : ℤ) (Told : Bor LineMark → Type 0)
    → MatchOption o (y ≡ none) Told → ((m : Bor LineMark) → Told m → y ≡ m.now.point.y)
    → MatchOption o (length t ≤ to) (λ m. (to < length t) × HoldsAt (λ x. m.now ≡ x) t to) → IfSome o (λ m. m.now ≡ get_or t to m.now) → y ≡ first_y (drop to t) end
first_told t to end none e None y Told told reads place at = told ∙ e ∙ sym (first_none t to end place)
first_told t to end none e (Some m) y Told told reads place at = reads m told ∙ ap (λ (x : LineMark). x.point.y) at ∙ sym (first_at t to end m.now place.0)

-- ---- one turn of the loop
-- the marks from k on, as a slice is given
pub group_from : (t : List LineMark) (k n : ℕ) → (λ (l : List LineMark). n ≡ up_to (get_or l 0 blank_mark).point.x l) (take (length t - k) (drop k t)) → n ≡ up_to (get_or t k blank_mark).point.x (drop k t)
group_from t k n is =
    let z : k + 0 ≡ k = omega arith in
    subst (λ (l : List LineMark). n ≡ up_to (get_or l 0 blank_mark).point.x l) (take_rest t k) is
    ∙ ap (λ (m : LineMark). up_to m.point.x (drop k t)) (get_or-drop k t 0 blank_mark ∙ ap (λ (i : ℕ). get_or t i blank_mark) z)

pub group_within : (t : List LineMark) (k n : ℕ) → k ≤ length t → n ≤ length (take (length t - k) (drop k t)) → k + n ≤ length t
group_within t k n le within = omega (arith, ap length (take_rest t k), length-drop k t)

-- a list from k on, up to another place and from there on
pub between_rest : {X : Type 0} (t : List X) (k to : ℕ) → k ≤ to → drop k t ≡ between k to t ++ drop to t
between_rest t k to le = append_cancel_left (take k t) (drop k t) (between k to t ++ drop to t) (take-append-drop k t ∙ split_between t k to le)

-- what the group between two places becomes: reversed if the test holds
pub record Turned (test : Bool) (t u : List LineMark) (k to : ℕ) : Type 0 where
  pub front : take to u ≡ take k t ++ cond test (reverse (between k to t)) (between k to t)
  pub back : drop to u ≡ drop to t

module _ (t : List LineMark) (k to : ℕ) (lt : k < to) (le : to ≤ length t) where
  pub turned_back : (ys : List LineMark) → ys ≡ reverse (between k to t) → Turned true t (put_mid k (to - k) t ys) k to
  turned_back ys e =
      let long : length ys ≡ to - k = ap length e ∙ length-reverse (between k to t) ∙ length-between t k to le in
      record {
        front = take-put_mid k (to - k) t ys to (omega arith) (omega arith) ∙ ap (λ l. take k t ++ l) e;
        back = drop-put_mid k (to - k) t ys to (omega arith) (omega arith) long;
      }

  pub turned_not : Turned false t t k to
  turned_not =
      let sum : k + (to - k) ≡ to = omega arith in
      record { front = subst (λ (n : ℕ). take n t ≡ take k t ++ between k to t) sum (take-add k (to - k) t); back = refl }

  -- the group that begins at k
  pub place_first : (before end : ℤ) (n : ℕ) → to ≡ k + n → n ≡ up_to (get_or t k blank_mark).point.x (drop k t)
      → place_all before (map point_at (drop k t)) end ≡ closed before end (reverse (map point_at (between k to t))) (drop to t)
  place_first before end n sum is =
      let m = get_or t k blank_mark in
      let rest : drop k t ≡ m ∷ drop (k + 1) t = drop_more t k blank_mark (omega arith) in
      let long : to - k ≡ n = omega arith in
      let first = subst (λ (l : List LineMark). n ≡ up_to m.point.x l → place_all before (map point_at l) end ≡ closed before end (reverse (map point_at (take n l))) (drop n l)) (sym rest)
      (first_group before end m (drop (k + 1) t) n) is in
      first ∙ ap₂ (λ (j : ℕ) (l : List LineMark). closed before end (reverse (map point_at (take j (drop k t)))) l) (sym long) (drop-drop n k t ∙ ap (λ (j : ℕ). drop j t) (sym sum))

-- ---- the loop
-- the marks before k are placed from a on, and placing those behind gives the rest of what placing e gives
pub record Placing (a end : ℤ) (e t : List LineMark) (k : ℕ) (before : ℤ) : Type 0 where
  pub long : length t ≡ length e
  pub within : k ≤ length t
  pub at : before ≡ last_y a (map point_at (take k t))
  pub rest : place_all a (map point_at e) end ≡ map point_at (take k t) ++ place_all before (map point_at (drop k t)) end

pub placing_as : {a end : ℤ} {e t : List LineMark} {k : ℕ} {y z : ℤ} → y ≡ z → Placing a end e t k y → Placing a end e t k z
placing_as {a} {end} {e} {t} {k} is p = subst (λ (z : ℤ). Placing a end e t k z) is p

module _ (a end : ℤ) (e : List LineMark) where
  pub placing_none : Placing a end e e 0 a
  placing_none = record { long = refl; within = omega arith; at = refl; rest = refl }

  module _ (t : List LineMark) (k : ℕ) (before : ℤ) (p : Placing a end e t k before) where
    pub placing_more : (n to : ℕ) (after : ℤ) (u : List LineMark) (y : ℤ) (d : LineMark) → to ≡ k + n → k < to → to ≤ length t
        → n ≡ up_to (get_or t k blank_mark).point.x (drop k t)
        → after ≡ first_y (drop to t) end → length u ≡ length t → Turned (lt_z after before) t u k to → y ≡ (get_or u (to - 1) d).point.y → Placing a end e u to y
    placing_more n to after u y d sum lt le group is long turned last =
        let X = map point_at (take k t) in
        let G = between k to t in
        let S = settled before (reverse (map point_at G)) (first_y (drop to t) end) in
        let front : map point_at (take to u) ≡ X ++ S =
        ap (map point_at) turned.front ∙ map-append point_at (take k t) (cond (lt_z after before) (reverse G) G)
        ∙ ap (λ l. X ++ l) (settled_group (lt_z after before) G ∙ ap (λ (z : ℤ). settled before (reverse (map point_at G)) z) is) in
        let at : y ≡ last_y a (map point_at (take to u)) = last ∙ sym (last_is a u to d (omega arith) (omega arith)) in
        let now : last_y before S ≡ y = ap (λ (z : ℤ). last_y z S) p.at ∙ sym (last_append a X S) ∙ ap (last_y a) (sym front) ∙ sym at in
        record {
          long = long ∙ p.long;
          within = omega arith;
          at = at;
          rest =
              p.rest ∙ ap (λ l. X ++ l) (place_first t k to lt le before end n sum group)
              ∙ sym (append_assoc X S (place_all (last_y before S) (map point_at (drop to t)) end))
              ∙ ap₂ (λ l m. l ++ m) (sym front) (ap₂ (λ (z : ℤ) (l : List LineMark). place_all z (map point_at l) end) now (sym turned.back));
        }

    pub placing_all : length t ≤ k → map point_at t ≡ place_all a (map point_at e) end
    placing_all le =
        sym (p.rest ∙ ap₂ (λ l m. map point_at l ++ place_all before (map point_at m) end) (take_all k t le) (drop_all k t le) ∙ append-nil (map point_at t))

-- a coordinate is the number that its bits stand for
pub y_kept : (p : IntPoint) → to_z w32 (of_z w32 p.y) ≡ p.y
y_kept p = let h : nat_abs p.y ≤ 524288 = p.high in to_z-of_z w32 p.y (omega (arith, ints))

-- no more than one point is placed already
placed_few : (a b : IntPoint) (l : List IntPoint) → length l ≤ 1 → placed a b l ≡ l
placed_few a b [] le = refl
placed_few a b (p ∷ []) le = go (lt_z b.y a.y)
  where
    go : (test : Bool) → cond test (p ∷ []) (p ∷ []) ≡ p ∷ []
    go true = refl
    go false = refl
placed_few a b (p ∷ q ∷ l) le = absurd (omega arith)

pub unplaced : (a b : IntPoint) (t u : List LineMark) → length t ≤ 1 → u ≡ t → map point_at u ≡ placed a b (map point_at t)
unplaced a b t u le e = ap (map point_at) e ∙ sym (placed_few a b (map point_at t) (omega (arith, length-map t point_at)))
