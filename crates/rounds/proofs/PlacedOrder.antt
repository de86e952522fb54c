-- Marks on the line of their edge are cut in the order of points.
use Rattle.std.proofs.Common.{◌≡◌, Bool, true, false, cond, List, [], ◌∷◌, ◌++◌, map, reverse, ℤ, pos, ◌-ℤ◌, ◌*ℤ◌, ◌≤ℤ◌, ◌<ℤ◌, sym, refl, ap, ◌∙◌, inl, inr, append_assoc, append-nil, arith}
use mathlib.Core.List.{reverse-cons}
use borrow.Author.Differences.{ints}
use lib.IntN.{zero-*ℤ}
use lib.Signed.{lt_z}
use Rattle.plane.specs.Points.{◌≺◌, by_x, by_y, cross}
use Rattle.plane.specs.PointOf.{point_of}
use Rattle.plane.specs.Rules.{In}
use Rattle.plane.specs.declared.int_point.IntPoint.{IntPoint}
use Rattle.plane.proofs.Signs.{lt_le, gap, no_gap, gap_pos, zero_of_mul, unmul_eq}
use Rattle.segm.specs.Open.{Rising}
use Rattle.rounds.specs.Placing.{last_y, settled, place, placed}

lt_true : (a b : ℤ) → a <ℤ b → lt_z a b ≡ true
lt_true a b h = grind (arith, ints)

lt_false : (a b : ℤ) → b ≤ℤ a → lt_z a b ≡ false
lt_false a b h = grind (arith, ints)

-- ---- each group is one point
abbrev Rightward : ℤ → List IntPoint → Type 0
Rightward w [] = Unit {0}
Rightward w (m ∷ l) = (w <ℤ m.x) × Rightward m.x l

settled_one : (before : ℤ) (p : IntPoint) (after : ℤ) → settled before (p ∷ []) after ≡ p ∷ []
settled_one before p after = go (lt_z after before)
  where
    go : (b : Bool) → cond b (p ∷ []) (p ∷ []) ≡ p ∷ []
    go true = refl
    go false = refl

place_rightward : (before : ℤ) (p : IntPoint) (l : List IntPoint) (end : ℤ) → Rightward p.x l → place before p.x (p ∷ []) l end ≡ p ∷ l
place_rightward before p [] end r = settled_one before p end
place_rightward before p (m ∷ l) end r =
    let first = settled before (p ∷ []) m.y in
    ap (λ (b : Bool). cond b (first ++ place (last_y before first) m.x (m ∷ []) l end) (place before p.x (m ∷ p ∷ []) l end)) (lt_true p.x m.x r.0)
    ∙ ap (λ (z : List IntPoint). z ++ place (last_y before first) m.x (m ∷ []) l end) (settled_one before p m.y)
    ∙ ap (λ (z : List IntPoint). p ∷ z) (place_rightward (last_y before first) m l end r.1)

-- ---- all are one group
place_upward : (before w : ℤ) (group l : List IntPoint) (end : ℤ) → before ≤ℤ end → ((m : IntPoint) → In m l → m.x ≤ℤ w) → place before w group l end ≡ reverse group ++ l
place_upward before w group [] end h k = ap (λ (b : Bool). cond b group (reverse group)) (lt_false end before h) ∙ sym (append-nil (reverse group))
place_upward before w group (m ∷ l) end h k =
    let first = settled before group m.y in
    ap (λ (b : Bool). cond b (first ++ place (last_y before first) m.x (m ∷ []) l end) (place before w (m ∷ group) l end)) (lt_false w m.x (k m (inl refl)))
    ∙ place_upward before w (m ∷ group) l end h (λ n i. k n (inr i))
    ∙ ap (λ (z : List IntPoint). z ++ l) (reverse-cons m group) ∙ append_assoc (reverse group) (m ∷ []) l

-- ---- which of both the edge has
abbrev OnLine : IntPoint → IntPoint → IntPoint → Type 0
OnLine a b m = cross (point_of a) (point_of b) (point_of m) ≡ pos 0

module _ (a b : IntPoint) where
  -- two points of one x on an edge that goes to the right are one
  same_height : a.x <ℤ b.x → (p m : IntPoint) → OnLine a b p → OnLine a b m → p.x ≡ m.x → p.y ≡ m.y
  same_height h p m s t e =
      let u = gap_pos a.x b.x h in
      level p.y m.y a.y (unmul_eq (b.x -ℤ a.x) (p.y -ℤ a.y) (m.y -ℤ a.y) u
      (sym (no_gap _ _ s) ∙ ap (λ (z : ℤ). (b.y -ℤ a.y) *ℤ (z -ℤ a.x)) e ∙ no_gap _ _ t))
    where
      level : (p m a : ℤ) → p -ℤ a ≡ m -ℤ a → p ≡ m
      level p m a h = omega (arith, ints)

  rightward : a.x <ℤ b.x → (p : IntPoint) (l : List IntPoint) → OnLine a b p → ((m : IntPoint) → In m l → OnLine a b m) → Rising (map point_of (p ∷ l)) → Rightward p.x l
  rightward h p [] s k c = tt
  rightward h p (m ∷ l) s k c = (step c.0.0, rightward h m l (k m (inl refl)) (λ n i. k n (inr i)) c.1)
    where
      not_same : (c d : ℤ) → c ≡ d → c <ℤ d → ⊥
      not_same c d e l = omega (arith, ints)

      step : point_of p ≺ point_of m → p.x <ℤ m.x
      step (by_x l) = l
      step (by_y e l) = absurd (not_same p.y m.y (same_height h p m s (k m (inl refl)) e) l)

  -- a vertical edge has one x
  vertical_x : a.x ≡ b.x → a.y <ℤ b.y → (m : IntPoint) → OnLine a b m → m.x ≡ a.x
  vertical_x e h m s =
      sym (no_gap a.x m.x (zero_of_mul (b.y -ℤ a.y) (m.x -ℤ a.x) (gap_pos a.y b.y h)
      (no_gap _ _ s ∙ ap (λ (z : ℤ). z *ℤ (m.y -ℤ a.y)) (gap a.x b.x e) ∙ zero-*ℤ (m.y -ℤ a.y))))

  pub placed_ascending : point_of a ≺ point_of b → (l : List IntPoint) → Rising (map point_of l) → ((m : IntPoint) → In m l → cross (point_of a) (point_of b) (point_of m) ≡ pos 0) → placed a b l ≡ l
  placed_ascending o [] c k = refl
  placed_ascending o (p ∷ l) c k = go o
    where
      same_le : (m p a : ℤ) → m ≡ a → p ≡ a → m ≤ℤ p
      same_le m p a e f = omega (arith, ints)

      go : point_of a ≺ point_of b → placed a b (p ∷ l) ≡ p ∷ l
      go (by_x h) = place_rightward a.y p l b.y (rightward h p l (k p (inl refl)) (λ m i. k m (inr i)) c)
      go (by_y e h) =
          place_upward a.y p.x (p ∷ []) l b.y (lt_le h)
          (λ m i. same_le m.x p.x a.x (vertical_x e h m (k m (inr i))) (vertical_x e h p (k p (inl refl))))
