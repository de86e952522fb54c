-- The refusal of an edge, check by check.
use Rattle.std.proofs.Common.{◌≡◌, ℕ, ◌<◌, ◌≤◌, Bool, true, false, cond, not, ◌&&◌, ltb, leb, [], ◌∷◌, ◌++◌, length, nat_abs, Some, None, Option, sym, refl, ◌∙◌, subst, ap₂}
use Rattle.std.proofs.lemmas.Bool.{le-leb, leb-true, leb-false, lt-leb, lt-ltb, le-ltb, cond-true, cond-false, and_from, and_parts, not-false}
use Rattle.plane.specs.Points.{Point, Ranged, before?}
use Rattle.plane.specs.PointOf.{point_of}
use Rattle.plane.specs.Edges.{Edge}
use Rattle.plane.specs.declared.int_point.IntPoint.{IntPoint}
use Rattle.plane.specs.declared.fault.Fault.{Fault}
use Rattle.plane.specs.declared.fault.Fault.TheVariants.{EndsEqual, CoordinateOutside, EdgeOutsideBox, FinderFull, Walking, AnnouncedReached}
use Rattle.plane.proofs.Tests.{untrue}
use Rattle.finder.specs.Finders.{Box, Needs, Meaning, in_range?, in_box?, refusal}
use Rattle.finder.specs.Checks.{early_refusal}

-- ---- the range of a point
pub ranged_true : (p : Point) → Ranged p → in_range? p ≡ true
ranged_true p h = and_from _ _ (le-leb _ _ h.wide) (le-leb _ _ h.high)

pub ranged_yes : (p : Point) → in_range? p ≡ true → Ranged p
ranged_yes p e =
    let h = and_parts (leb (nat_abs p.x) 524288) (leb (nat_abs p.y) 524288) e in
    record { wide = leb-true _ _ h.0; high = leb-true _ _ h.1 }

pub ranged_false : (p : Point) → ¬ Ranged p → in_range? p ≡ false
ranged_false p n = untrue (in_range? p) (λ e. n (ranged_yes p e))

pub ranged_point : (q : IntPoint) (p : Point) → point_of q ≡ p → in_range? p ≡ true
ranged_point q p e = subst (λ z. in_range? z ≡ true) e (ranged_true (point_of q) (record { wide = q.wide; high = q.high }))

-- ---- the test of two points in a box, of points that are theirs
pub in_box_ends : (box : Box) (p q : Point) (r s : IntPoint) (b : Bool) → point_of r ≡ p → point_of s ≡ q → b ≡ (in_box? box (point_of r) && in_box? box (point_of s)) → (in_box? box p && in_box? box q) ≡ b
in_box_ends box p q r s b e f h = ap₂ (λ x y. in_box? box x && in_box? box y) (sym e) (sym f) ∙ sym h

-- ---- each check that all finders share refuses where those before it let the edge pass
module _ (walking : Bool) (announced shown : ℕ) (box : Box) (e : Edge) where
  pub early_walking : walking ≡ true → early_refusal walking announced shown box e ≡ Some Walking
  early_walking w = simp w

  module _ (w : walking ≡ false) where
    pub early_reached : announced ≤ shown → early_refusal walking announced shown box e ≡ Some AnnouncedReached
    early_reached h = let l = le-leb _ _ h in simp (w, l)

    module _ (h : shown < announced) where
      pub early_unordered : before? e.a e.b ≡ false → early_refusal walking announced shown box e ≡ Some EndsEqual
      early_unordered n = let l = lt-leb _ _ h in simp (w, l, n)

      module _ (o : before? e.a e.b ≡ true) where
        pub early_ranged : (in_range? e.a && in_range? e.b) ≡ false → early_refusal walking announced shown box e ≡ Some CoordinateOutside
        early_ranged n = let l = lt-leb _ _ h in simp (w, l, o, n)

        module _ (r : (in_range? e.a && in_range? e.b) ≡ true) where
          pub early_outside : (in_box? box e.a && in_box? box e.b) ≡ false → early_refusal walking announced shown box e ≡ Some EdgeOutsideBox
          early_outside n = let l = lt-leb _ _ h in simp (w, l, o, r, n)

          pub early_none : (in_box? box e.a && in_box? box e.b) ≡ true → early_refusal walking announced shown box e ≡ None
          early_none b = let l = lt-leb _ _ h in simp (w, l, o, r, b)

-- ---- the refusal by all checks
-- the checks in their order, and what stands behind the last
by_checks : (w r o g x : Bool) → Option Fault → Option Fault
by_checks w r o g x last = cond w (Some Walking) (cond r (Some AnnouncedReached) (cond o (Some EndsEqual) (cond g (Some CoordinateOutside) (cond x (Some EdgeOutsideBox) last))))

by_early : (w r o g x : Bool) (last : Option Fault) (f : Fault) → by_checks w r o g x None ≡ Some f → by_checks w r o g x last ≡ Some f
unfolding by_checks
by_early true r o g x last f e = e
by_early false true o g x last f e = e
by_early false false true g x last f e = e
by_early false false false true x last f e = e
by_early false false false false true last f e = e
by_early false false false false false last f e = cc

by_last : (w r o g x : Bool) (last : Option Fault) → by_checks w r o g x None ≡ None → by_checks w r o g x last ≡ last
unfolding by_checks
by_last true r o g x last e = cc
by_last false true o g x last e = cc
by_last false false true g x last e = cc
by_last false false false true x last e = cc
by_last false false false false true last e = cc
by_last false false false false false last e = refl

none_passed : (w r o g x : Bool) → by_checks w r o g x None ≡ None → (w ≡ false) × (r ≡ false) × (o ≡ false) × (g ≡ false) × (x ≡ false)
unfolding by_checks
none_passed true r o g x e = cc
none_passed false true o g x e = cc
none_passed false false true g x e = cc
none_passed false false false true x e = cc
none_passed false false false false true e = cc
none_passed false false false false false e = (refl, refl, refl, refl, refl)

-- what an edge is that no early check refuses
pub record Passed (walking : Bool) (announced shown : ℕ) (box : Box) (e : Edge) : Type 0 where
  pub filling : walking ≡ false
  pub below : shown < announced
  pub ordered : before? e.a e.b ≡ true
  pub ranged : (in_range? e.a && in_range? e.b) ≡ true
  pub inside : (in_box? box e.a && in_box? box e.b) ≡ true

pub early_passed : (walking : Bool) (announced shown : ℕ) (box : Box) (e : Edge) → early_refusal walking announced shown box e ≡ None → Passed walking announced shown box e
unfolding by_checks
early_passed walking announced shown box e h =
    let p = none_passed walking (leb announced shown) (not (before? e.a e.b)) (not (in_range? e.a && in_range? e.b)) (not (in_box? box e.a && in_box? box e.b)) h in
    record {
      filling = p.0;
      below = leb-false _ _ p.1;
      ordered = not-false _ p.2;
      ranged = not-false _ p.3;
      inside = not-false _ p.4;
    }

module _ (need : Needs) (m : Meaning) (e : Edge) where
  by_need : Option Fault
  by_need = cond (ltb m.capacity (need m.box m.announced (m.shown ++ (e ∷ [])))) (Some (FinderFull (length m.shown))) None

  -- an early refusal is the refusal
  pub refusal_early : (f : Fault) → early_refusal m.walking m.announced (length m.shown) m.box e ≡ Some f → refusal need m e ≡ Some f
  unfolding by_checks by_need
  refusal_early f h =
      by_early m.walking (leb m.announced (length m.shown)) (not (before? e.a e.b)) (not (in_range? e.a && in_range? e.b)) (not (in_box? m.box e.a && in_box? m.box e.b)) by_need f h

  -- without one, the need decides
  pub refusal_late : early_refusal m.walking m.announced (length m.shown) m.box e ≡ None
      → refusal need m e ≡ cond (ltb m.capacity (need m.box m.announced (m.shown ++ (e ∷ [])))) (Some (FinderFull (length m.shown))) None
  unfolding by_checks by_need
  refusal_late h =
      by_last m.walking (leb m.announced (length m.shown)) (not (before? e.a e.b)) (not (in_range? e.a && in_range? e.b)) (not (in_box? m.box e.a && in_box? m.box e.b)) by_need h

  -- an edge is refused as full, or accepted
  pub refusal_full : early_refusal m.walking m.announced (length m.shown) m.box e ≡ None → m.capacity < need m.box m.announced (m.shown ++ (e ∷ [])) → refusal need m e ≡ Some (FinderFull (length m.shown))
  refusal_full h l = refusal_late h ∙ cond-true (ltb m.capacity (need m.box m.announced (m.shown ++ (e ∷ [])))) _ _ (lt-ltb _ _ l)

  pub refusal_none : early_refusal m.walking m.announced (length m.shown) m.box e ≡ None → need m.box m.announced (m.shown ++ (e ∷ [])) ≤ m.capacity → refusal need m e ≡ None
  refusal_none h l = refusal_late h ∙ cond-false (ltb m.capacity (need m.box m.announced (m.shown ++ (e ∷ [])))) _ _ (le-ltb _ _ l)
