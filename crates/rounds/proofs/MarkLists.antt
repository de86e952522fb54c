-- The list of the marks: there is one, its marks are on edges of the list, and it is as long as there are marks.
use Rattle.std.proofs.Common.{◌≡◌, ℕ, ◌<◌, ◌≤◌, Bool, true, false, cond, ◌||◌, eqb, ◌↔◌, List, [], ◌∷◌, length, Ordering, Less, Equal, sym, refl, ap, ◌∙◌, subst, inl, inr, arith}
use mathlib.Core.Logic.{∥∥₁_elim}
use native.Mathlib.Bridge.{le_prop}
use Rattle.std.specs.Ordering.{is_eq}
use Rattle.std.specs.List.{AllByRecursion}
use Rattle.std.proofs.lemmas.Bool.{eqb-true, eq-eqb}
use Rattle.table.specs.Records.{RecordKind}
use Rattle.table.specs.Listings.{Ascending}
use Rattle.table.proofs.Orders.{is_equal, itself}
use Rattle.plane.specs.Edges.{Edge}
use Rattle.plane.specs.Rules.{In}
use Rattle.plane.specs.declared.int_point.IntPoint.{IntPoint}
use Rattle.plane.proofs.Tests.{clash}
use Rattle.segm.specs.Marks.{mark_order}
use Rattle.segm.specs.MarkKind.{mark_kind, equal_marks, mark_itself}
use Rattle.segm.specs.Marked.{same_mark?, holds?}
use Rattle.segm.specs.declared.line_mark.LineMark.{LineMark}
use Rattle.segm.proofs.Marking.{marks_determine}
use Rattle.rounds.specs.Marks.{MarksOf, MoreMarks}
use Rattle.rounds.specs.Pieces.{points_on}

-- ---- what is in a list of marks
held_in : (ms : List LineMark) (m : LineMark) → holds? ms m ≡ true → In m ms
held_in [] m h = absurd (clash h refl)
held_in (n ∷ ms) m h = go (same_mark? m n) refl h (held_in ms m)
  where
    go : (b : Bool) → same_mark? m n ≡ b → (b || holds? ms m) ≡ true → (holds? ms m ≡ true → In m ms) → In m (n ∷ ms)
    go true e h f = inl (equal_marks m n (is_equal (mark_order m n) e))
    go false e h f = inr (f h)

in_held : (ms : List LineMark) (m : LineMark) → In m ms → holds? ms m ≡ true
in_held [] m i = absurd i
in_held (n ∷ ms) m (inl e) = ap (λ (o : Ordering). is_eq o || holds? ms m) (ap (mark_order m) (sym e) ∙ mark_itself m)
in_held (n ∷ ms) m (inr i) = go (same_mark? m n) (in_held ms m i)
  where
    go : (b : Bool) → holds? ms m ≡ true → (b || holds? ms m) ≡ true
    go true h = refl
    go false h = h

pub holds_in : (ms : List LineMark) (m : LineMark) → (holds? ms m ≡ true) ↔ In m ms
holds_in ms m = (held_in ms m, in_held ms m)

-- the points on edge i are those of its marks
on_marked : (i : ℕ) (ms : List LineMark) (p : IntPoint) → In p (points_on i ms) → In (record { index = i; point = p }) ms
on_marked i [] p h = h
on_marked i (m ∷ ms) p h = go (eqb m.index i) refl h (on_marked i ms p)
  where
    go : (b : Bool) → eqb m.index i ≡ b → In p (cond b (m.point ∷ points_on i ms) (points_on i ms)) → (In p (points_on i ms) → In (record { index = i; point = p }) ms)
        → In (record { index = i; point = p }) (m ∷ ms)
    go true e (inl q) f = inl (λ k. record { index = sym (eqb-true m.index i e) k; point = q k })
    go true e (inr h) f = inr (f h)
    go false e h f = inr (f h)

marked_on_edge : (i : ℕ) (ms : List LineMark) (p : IntPoint) → In (record { index = i; point = p }) ms → In p (points_on i ms)
marked_on_edge i [] p h = h
marked_on_edge i (m ∷ ms) p (inl q) =
    subst (λ b. In p (cond b (m.point ∷ points_on i ms) (points_on i ms))) (sym (eq-eqb m.index i (ap (λ (n : LineMark). n.index) (sym q)))) (inl (ap (λ (n : LineMark). n.point) q))
marked_on_edge i (m ∷ ms) p (inr h) = go (eqb m.index i) (marked_on_edge i ms p h)
  where
    go : (b : Bool) → In p (points_on i ms) → In p (cond b (m.point ∷ points_on i ms) (points_on i ms))
    go true h = inr h
    go false h = h

pub points_on_in : (i : ℕ) (ms : List LineMark) (p : IntPoint) → In p (points_on i ms) ↔ In (record { index = i; point = p }) ms
points_on_in i ms p = (on_marked i ms p, marked_on_edge i ms p)

-- ---- the list of all marks
same_tests : (a b : Bool) → (a ≡ true → b ≡ true) → (b ≡ true → a ≡ true) → a ≡ b
same_tests true true f g = refl
same_tests true false f g = sym (f refl)
same_tests false true f g = g refl
same_tests false false f g = refl

module _ (s : ℕ) (es : List Edge) (ms : List LineMark) where
  pub marks_unique : (ns : List LineMark) → MarksOf s es ms → MarksOf s es ns → ms ≡ ns
  marks_unique ns h k =
      marks_determine (holds? ns) ms ns
      (record { ordered = h.ordered; each = λ m. same_tests (holds? ms m) (holds? ns m) (λ e. (k.each m).1 ((h.each m).0 e)) (λ e. (h.each m).1 ((k.each m).0 e)) })
      (record { ordered = k.ordered; each = λ m. refl })

  pub marks_below : MarksOf s es ms → (m : LineMark) → In m ms → m.index < length es
  marks_below h m i = ∥∥₁_elim ((h.each m).0 (in_held ms m i)) le_prop (λ t. t.1.here)

-- ---- a list that holds all of another in order, and one more, is longer
pub all_in : {X : Type 0} (P : X → Type 0) (xs : List X) (x : X) → AllByRecursion P xs → In x xs → P x
all_in P [] x h i = absurd i
all_in P (y ∷ xs) x h (inl e) = subst P (sym e) h.0
all_in P (y ∷ xs) x h (inr i) = all_in P xs x h.1 i

module _ {R : Type 0} (A : RecordKind R) where
  pub less_never : (x y : R) → A.order x y ≡ Less → y ≡ x → ⊥
  less_never x y l e =
      let w : A.order x y ≡ Equal = ap (A.order x) e ∙ itself A x in
      let z : ◌≡◌ {A = ℕ} 0 1 = cc in omega arith

  -- what is in y ∷ ys and after y is in ys
  behind : (y : R) (ys : List R) (x : R) → A.order y x ≡ Less → In x (y ∷ ys) → In x ys
  behind y ys x l (inl e) = absurd (less_never y x l e)
  behind y ys x l (inr i) = i

  abbrev Within : List R → List R → Type 0
  Within xs ys = (x : R) → In x xs → In x ys

  within_rest : (x : R) (xs : List R) (y : R) (ys : List R) → Ascending A (x ∷ xs) → Within (x ∷ xs) (y ∷ ys) → x ≡ y → Within xs ys
  within_rest x xs y ys h w e z i = behind y ys z (ap (λ (u : R). A.order u z) (sym e) ∙ all_in _ xs z h.0 i) (w z (inr i))

  within_back : (x : R) (xs : List R) (y : R) (ys : List R) → Ascending A (x ∷ xs) → Ascending A (y ∷ ys) → Within (x ∷ xs) (y ∷ ys) → In x ys → Within (x ∷ xs) ys
  within_back x xs y ys h k w j z (inl e) = subst (λ u. In u ys) (sym e) j
  within_back x xs y ys h k w j z (inr i) =
      behind y ys z (A.trans y x z (all_in _ ys x k.0 j) (all_in _ xs z h.0 i)) (w z (inr i))

  no_longer : (xs ys : List R) → Ascending A xs → Ascending A ys → Within xs ys → length xs ≤ length ys
  no_longer [] ys h k w = omega arith
  no_longer (x ∷ xs) [] h k w = absurd (w x (inl refl))
  no_longer (x ∷ xs) (y ∷ ys) h k w = go (w x (inl refl)) (no_longer xs ys h.1 k.1) (no_longer (x ∷ xs) ys h k.1)
    where
      go : In x (y ∷ ys) → (Within xs ys → length xs ≤ length ys) → (Within (x ∷ xs) ys → length (x ∷ xs) ≤ length ys) → length (x ∷ xs) ≤ length (y ∷ ys)
      go (inl e) f g = omega (arith, f (within_rest x xs y ys h w e))
      go (inr j) f g = omega (arith, g (within_back x xs y ys h k w j))

  pub shorter : (xs ys : List R) (z : R) → Ascending A xs → Ascending A ys → Within xs ys → In z ys → ¬ In z xs → length xs < length ys
  shorter [] [] z h k w i n = absurd i
  shorter [] (y ∷ ys) z h k w i n = omega arith
  shorter (x ∷ xs) [] z h k w i n = absurd i
  shorter (x ∷ xs) (y ∷ ys) z h k w i n = go (w x (inl refl)) i (shorter xs ys z h.1 k.1) (shorter (x ∷ xs) ys z h k.1)
    where
      go : In x (y ∷ ys) → In z (y ∷ ys) → (Within xs ys → In z ys → ¬ In z xs → length xs < length ys)
          → (Within (x ∷ xs) ys → In z ys → ¬ In z (x ∷ xs) → length (x ∷ xs) < length ys) → length (x ∷ xs) < length (y ∷ ys)
      go (inl e) (inl p) f g = absurd (n (inl (p ∙ sym e)))
      go (inl e) (inr j) f g = omega (arith, f (within_rest x xs y ys h w e) j (λ u. n (inr u)))
      go (inr q) (inl p) f g = omega (arith, no_longer (x ∷ xs) ys h k.1 (within_back x xs y ys h k w q))
      go (inr q) (inr j) f g = omega (arith, g (within_back x xs y ys h k w q) j n)

pub marks_more : (s : ℕ) (es : List Edge) (ms : List LineMark) (n : ℕ) → MarksOf s es ms → MoreMarks s es n → n < length ms
marks_more s es ms n h k =
    omega (
      arith,
      k.many,
      shorter mark_kind k.held ms k.another k.ordered.ascending h.ordered.ascending
          (λ m i. held_in ms m ((h.each m).1 (k.each m (in_held k.held m i))))
          (held_in ms k.another ((h.each k.another).1 k.told))
          (λ i. clash (in_held k.held k.another i) k.new),
    )
