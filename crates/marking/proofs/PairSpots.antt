-- Taking pairs and noting what their crossings mark: an invariant, its steps, and its end.
use Rattle.std.proofs.Common.{◌≡◌, ℕ, ◌+◌, ◌^◌, ◌<◌, Bool, true, false, ◌||◌, ◌⊎◌, List, [], ◌∷◌, ◌++◌, map, length, get_or, Some, None, Option, sym, refl, ap, ◌∙◌, subst, ap₂, inl, inr, append-nil, arith, length-append}
use mathlib.Core.Bool.{or-false, or_assoc}
use Rattle.std.proofs.lemmas.Bool.{or_cases}
use Rattle.plane.specs.Edges.{Edge, Proper}
use Rattle.plane.specs.Models.{edge_of, points_of}
use Rattle.plane.specs.Rules.{In, marked_on, rounded?}
use Rattle.plane.specs.declared.cross_solver.CrossMarks.{CrossMarks}
use Rattle.plane.specs.declared.x_segment.XSegment.{XSegment}
use Rattle.table.specs.Contents.{Content, records}
use Rattle.finder.specs.Finders.{Pair, Meaning, MayCome, Walks, Next, edge_at, walking_on}
use Rattle.finder.proofs.Members.{in_left}
use Rattle.finder.proofs.Showing.{edge_at_map}
use Rattle.finder.proofs.Walking.{Came, begun, came_none, came_more, came_all, numbers}
use Rattle.segm.specs.Marked.{Marked}
use Rattle.segm.specs.Segments.{ends_of}
use Rattle.segm.specs.Spots.{spots, at_one?, Overflow, SameSize}
use Rattle.segm.specs.declared.line_mark.LineMark.{LineMark}
use Rattle.segm.specs.declared.segment.Segment.{Segment}
use Rattle.segm.proofs.Coming.{at_one_append, marked_as}
use Rattle.rounds.specs.Marks.{Told, MoreMarks}
use Rattle.rounds.specs.Spots.{pair_spots, all_spots, any_rounded?}
use Rattle.rounds.proofs.Members.{in_at}
use Rattle.rounds.proofs.PairMarksTold.{pair_told, pairs_told}
use Rattle.marking.specs.Gathering.{AllProper, Noted, PairsMarked}

-- ---- the edge at a number
module _ {C : Type 0} (xs : List (Segment C)) (i : ℕ) (x : Segment C) (h : i < length xs) (is : x ≡ get_or xs i x) where
  pub proper_at : AllProper xs → Proper (ends_of x)
  proper_at proper = proper x (subst (λ (y : Segment C). In y xs) (sym is) (in_at xs i x h))

  pub left_out : ¬ Proper (ends_of x) → ¬ AllProper xs
  left_out turned proper = turned (proper_at proper)

  pub at_number : (e : XSegment) → edge_of e ≡ ends_of x → edge_of e ≡ edge_at (map ends_of xs) i
  at_number e same = same ∙ edge_at_map ends_of xs i x h is

-- what the crossing of two edges of a list marks
module _ {C : Type 0} (s : ℕ) (xs : List (Segment C)) (i j : ℕ) (x y : Segment C) (left : i < length xs) (at : x ≡ get_or xs i x) (right : j < length xs) (there : y ≡ get_or xs j y)
    (first second : XSegment) (one : edge_of first ≡ ends_of x) (other : edge_of second ≡ ends_of y) where
  pub pair_marked : (c : CrossMarks) → points_of c.first ≡ marked_on (edge_of first) (edge_of second) s → points_of c.second ≡ marked_on (edge_of second) (edge_of first) s
      → spots i (points_of c.first) ++ spots j (points_of c.second) ≡ pair_spots s (map ends_of xs) (i, j)
  pair_marked c on_first on_second =
      let e = at_number xs i x left at first one in
      let g = at_number xs j y right there second other in
      ap₂ (λ ps qs. spots i ps ++ spots j qs)
      (on_first ∙ ap₂ (λ (a b : Edge). marked_on a b s) e g)
      (on_second ∙ ap₂ (λ (a b : Edge). marked_on a b s) g e)

-- ---- one pair more
module _ (s : ℕ) (es : List Edge) where
  spots_push : (ps : List Pair) (p : Pair) (m : LineMark) → at_one? (all_spots s es (ps ++ (p ∷ []))) m ≡ (at_one? (all_spots s es ps) m || at_one? (pair_spots s es p) m)
  spots_push [] p m = ap (λ ts. at_one? ts m) (append-nil (pair_spots s es p))
  spots_push (q ∷ ps) p m =
      at_one_append (pair_spots s es q) (all_spots s es (ps ++ (p ∷ []))) m
      ∙ ap (λ b. at_one? (pair_spots s es q) m || b) (spots_push ps p m)
      ∙ sym (or_assoc (at_one? (pair_spots s es q) m) (at_one? (all_spots s es ps) m) (at_one? (pair_spots s es p) m))
      ∙ ap (λ b. b || at_one? (pair_spots s es p) m) (sym (at_one_append (pair_spots s es q) (all_spots s es ps) m))

  rounded_push : (ps : List Pair) (p : Pair) → any_rounded? s es (ps ++ (p ∷ [])) ≡ (any_rounded? s es ps || rounded? (edge_at es p.0) (edge_at es p.1) s)
  rounded_push [] p = or-false (rounded? (edge_at es p.0) (edge_at es p.1) s)
  rounded_push (q ∷ ps) p =
      ap (λ b. rounded? (edge_at es q.0) (edge_at es q.1) s || b) (rounded_push ps p)
      ∙ sym (or_assoc (rounded? (edge_at es q.0) (edge_at es q.1) s) (any_rounded? s es ps) (rounded? (edge_at es p.0) (edge_at es p.1) s))

  -- a test of marks of the list, and more of them than room
  marks_over : (P : LineMark → Bool) (n : ℕ) → ((m : LineMark) → P m ≡ true → Told s es m) → Overflow P n → MoreMarks s es n
  marks_over P n told h = record {
    held = h.held;
    ordered = h.ordered;
    many = h.many;
    each = λ m e. told m (h.each m e);
    another = h.another;
    new = h.new;
    told = told h.another h.told;
  }

-- ---- what came
module _ (walks : Walks) (before m : Meaning) (done : List Pair) where
  came_numbered : Came walks before m done → before.walking ≡ false → (p : Pair) → In p done → (p.0 < p.1) × (p.1 < length before.shown)
  came_numbered (inl (e, d)) f p i = absurd (subst (In p) d i)
  came_numbered (inr (w, e)) f p i = (begun walks before (done ++ m.coming) f w).1.numbered p (in_left p done m.coming i)

  came_capacity : Came walks before m done → m.capacity ≡ before.capacity
  came_capacity (inl (e, d)) = ap (λ (z : Meaning). z.capacity) e
  came_capacity (inr (w, e)) = ap (λ (z : Meaning). z.capacity) e

-- ---- the loop
module _ {C : Type 0} (walks : Walks) (before : Meaning) (s : ℕ) (xs : List (Segment C)) (entry : Content LineMark) where
  abbrev es : List Edge
  es = map ends_of xs

  -- the pairs that were taken are counted, and what they mark is noted
  pub record Kept (m : Meaning) (table : Content LineMark) (rounded : Bool) (number : ℕ) : Type 0 where
    pub done : List Pair
    pub came : Came walks before m done
    pub counts : number ≡ length done
    pub size : SameSize entry table
    pub noted : AllProper xs → records entry ≡ [] → Noted (at_one? (all_spots s es done)) table × (rounded ≡ any_rounded? s es done)

  pub kept_none : Kept before entry false 0
  kept_none = record {
    done = [];
    came = came_none walks before;
    counts = refl;
    size = record { room = refl; places = refl };
    noted = λ proper e. (subst (Marked (λ _. false)) (sym e) (record { ordered = record { ascending = tt; filled = tt }; each = λ m. refl }), refl);
  }

  -- one call of next
  module _ (m m' : Meaning) (r : Option Pair) (n : Next walks m m' r) (table : Content LineMark) (rounded : Bool) (number : ℕ) (kept : Kept m table rounded number) where
    -- no pair came
    module _ (is : r ≡ None) where
      all : (MayCome walks before kept.done) × (m' ≡ walking_on [] before)
      all = came_all walks m m' r n before kept.done kept.came is

      pub kept_all : (k : ℕ) → k ≡ length (records table) → AllProper xs → records entry ≡ [] → PairsMarked walks before m' s es (records table) (record { marks = k; is_rounded = rounded; pairs = number })
      kept_all k many proper h =
          let w = kept.noted proper h in
          record { pairs = kept.done; allowed = all.0; left = all.1; number = kept.counts; noted = w.0; many = many; flag = w.1 }

      pub all_capacity : m'.capacity ≡ before.capacity
      all_capacity = ap (λ (z : Meaning). z.capacity) all.1

    -- a pair came
    module _ (i j : ℕ) (is : r ≡ Some (i, j)) where
      came_pair : Came walks before m' (kept.done ++ ((i, j) ∷ []))
      came_pair = came_more walks m m' r n before kept.done kept.came (i, j) is

      pub more_capacity : m'.capacity ≡ before.capacity
      more_capacity = came_capacity walks before m' (kept.done ++ ((i, j) ∷ [])) came_pair

      -- of edges that were shown to a finder that did not walk yet
      module _ (shown : before.shown ≡ es) (filling : before.walking ≡ false) where
        pub pair_numbers : (i < j) × (j < length es) × (number < 2 ^ 40)
        pair_numbers =
            let w = numbers walks m m' r n before kept.done kept.came (i, j) is filling in
            (w.0, subst (λ (l : List Edge). j < length l) shown w.1, omega (arith, kept.counts, w.2))

      abbrev with_pair : LineMark → Bool
      with_pair x = at_one? (all_spots s es kept.done) x || at_one? (pair_spots s es (i, j)) x

      -- its marks came to the table
      pub kept_more : (after : Content LineMark) (told : Bool) → SameSize table after
          → (AllProper xs → (P : LineMark → Bool) → Noted P table → Noted (λ x. P x || at_one? (pair_spots s es (i, j)) x) after)
          → (AllProper xs → told ≡ rounded? (edge_at es i) (edge_at es j) s) → Kept m' after (rounded || told) (number + 1)
      kept_more after told size notes round = record {
        done = kept.done ++ ((i, j) ∷ []);
        came = came_pair;
        counts = simp length-append (omega (arith, kept.counts));
        size = record { room = size.room ∙ kept.size.room; places = size.places ∙ kept.size.places };
        noted = λ proper h.
            let w = kept.noted proper h in (
              marked_as with_pair (at_one? (all_spots s es (kept.done ++ ((i, j) ∷ [])))) (records after)
                  (λ x. sym (spots_push s es kept.done (i, j) x)) (notes proper (at_one? (all_spots s es kept.done)) w.0),
              (λ t. w.1 t || round proper t) ∙ sym (rounded_push s es kept.done (i, j)),
            );
      }

      -- they were too many
      pub kept_over : before.shown ≡ es → before.walking ≡ false
          → (AllProper xs → (P : LineMark → Bool) → Noted P table → Overflow (λ x. P x || at_one? (pair_spots s es (i, j)) x) table.room)
          → AllProper xs → records entry ≡ [] → MoreMarks s es entry.room
      kept_over shown filling notes proper h =
          subst (MoreMarks s es) kept.size.room
          (marks_over s es with_pair table.room told (notes proper (at_one? (all_spots s es kept.done)) (kept.noted proper h).0))
        where
          told : (x : LineMark) → with_pair x ≡ true → Told s es x
          told x e = go (or_cases (at_one? (all_spots s es kept.done) x) (at_one? (pair_spots s es (i, j)) x) e)
            where
              go : (at_one? (all_spots s es kept.done) x ≡ true) ⊎ (at_one? (pair_spots s es (i, j)) x ≡ true) → Told s es x
              go (inl w) =
                  pairs_told s es kept.done x
                  (λ p k. subst (λ (l : List Edge). (p.0 < p.1) × (p.1 < length l)) shown (came_numbered walks before m kept.done kept.came filling p k)) w
              go (inr w) = let k = pair_numbers shown filling in pair_told s es (i, j) x (k.0, k.1) w
