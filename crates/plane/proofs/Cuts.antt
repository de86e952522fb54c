-- A whole point inside an edge cuts it: a point lies on the edge exactly if it lies on a piece. And a point on an edge lies in its box.
use Rattle.std.proofs.Common.{◌≡◌, ◌⊎◌, ◌↔◌, List, [], ◌∷◌, ℤ, pos, ◌-ℤ◌, ◌*ℤ◌, neg_ℤ, ◌≤ℤ◌, ◌<ℤ◌, sym, ap, ◌∙◌, inl, inr, arith}
use borrow.Author.Differences.{ints}
use lib.Signed.{clash_ℤ}
use Rattle.algebra.proofs.Ring.{v, ◌⊖◌, ◌⊗◌, ring}
use Rattle.plane.specs.Points.{Point, ◌≺◌, by_x, by_y, cross}
use Rattle.plane.specs.Edges.{Edge, Proper, Between}
use Rattle.plane.specs.Fractions.{Frac, den, by, Line, On}
use Rattle.plane.proofs.Signs.{den_pos, eq_le, gap_pos, nonneg_of_mul, linked}
use Rattle.plane.proofs.Points.{Order, before, same, after, compare, weaken, same_le, ≺-≼, ≼-≺, ≺-trans, le_x, le_y, scale}
use Rattle.plane.proofs.Lines.{at_first, at_second, swapped, round}
pub use Rattle.plane.proofs.Lines.{same_line}

abbrev pub edge : Point → Point → Edge
edge p q = record { a = p; b = q }

pub cut_on : (e : Edge) (p : Point) (f : Frac) → cross e.a e.b p ≡ pos 0 → Between e p → On e f ↔ (On (edge e.a p) f ⊎ On (edge p e.b) f)
cut_on e p f z h = (forth, back)
  where
    forth : On e f → On (edge e.a p) f ⊎ On (edge p e.b) f
    forth w = go (compare f.at (by f p))
      where
        pe : Proper e
        pe = ≺-trans h.from h.to

        one : Line (edge e.a p) f
        one = same_line e (edge e.a p) f pe (at_first e.a e.b) z w.line

        two : Line (edge p e.b) f
        two = same_line e (edge p e.b) f pe z (at_second e.a e.b) w.line

        go : Order f.at (by f p) → On (edge e.a p) f ⊎ On (edge p e.b) f
        go (before l) = inl (record { line = one; from = w.from; to = weaken l })
        go (same l) = inl (record { line = one; from = w.from; to = same_le l })
        go (after l) = inr (record { line = two; from = weaken l; to = w.to })

    back : On (edge e.a p) f ⊎ On (edge p e.b) f → On e f
    back (inl w) = record {
      line = same_line (edge e.a p) e f h.from (at_first e.a p) (swapped e.a e.b p ∙ ap neg_ℤ z) w.line;
      from = w.from;
      to = weaken (≼-≺ w.to (scale (den f) (den_pos f.k) h.to));
    }
    back (inr w) = record {
      line = same_line (edge p e.b) e f h.to (round e.a e.b p ∙ ap neg_ℤ z) (at_second p e.b) w.line;
      from = weaken (≺-≼ (scale (den f) (den_pos f.k) h.from) w.from);
      to = w.to;
    }

-- between the ends in the plane: the box of e
pub record Boxed (e : Edge) (f : Frac) : Type 0 where
  pub left : (by f e.a).x ≤ℤ f.at.x
  pub right : f.at.x ≤ℤ (by f e.b).x
  pub rising : e.a.y ≤ℤ e.b.y → ((by f e.a).y ≤ℤ f.at.y) × (f.at.y ≤ℤ (by f e.b).y)
  pub falling : e.b.y ≤ℤ e.a.y → ((by f e.b).y ≤ℤ f.at.y) × (f.at.y ≤ℤ (by f e.a).y)

abbrev vars : Edge → Frac → List ℤ
vars e f = e.a.x ∷ e.a.y ∷ e.b.x ∷ e.b.y ∷ f.at.x ∷ f.at.y ∷ den f ∷ []

pub boxed : (e : Edge) (f : Frac) → Proper e → On e f → Boxed e f
boxed e f pe h = record { left = left; right = right; rising = λ l. go_up pe l; falling = λ l. go_down pe l }
  where
    left : (by f e.a).x ≤ℤ f.at.x
    left = le_x h.from

    right : f.at.x ≤ℤ (by f e.b).x
    right = le_x h.to

    le_trans : (a b c : ℤ) → a ≤ℤ b → b ≤ℤ c → a ≤ℤ c
    le_trans a b c i j = omega (arith, ints)

    wide : (a b : ℤ) → a ≤ℤ b → pos 0 ≤ℤ (b -ℤ a)
    wide a b h = omega (arith, ints)

    down_to : (a b : ℤ) → pos 0 ≤ℤ (b -ℤ a) → a ≤ℤ b
    down_to a b h = omega (arith, ints)

    beside : e.a.x ≡ e.b.x → (by f e.b).x ≤ℤ (by f e.a).x
    beside z = eq_le (ap (λ w. den f *ℤ w) (sym z))

    -- the width times r is s times w
    step : (r s w : ℤ) → e.a.x <ℤ e.b.x → (e.b.x -ℤ e.a.x) *ℤ r ≡ s *ℤ w → pos 0 ≤ℤ s → pos 0 ≤ℤ w → pos 0 ≤ℤ r
    step r s w u = nonneg_of_mul (e.b.x -ℤ e.a.x) r s w (gap_pos _ _ u)

    go_up : e.a ≺ e.b → e.a.y ≤ℤ e.b.y → ((by f e.a).y ≤ℤ f.at.y) × (f.at.y ≤ℤ (by f e.b).y)
    go_up (by_x u) l = (
      down_to _ _ (step (f.at.y -ℤ (by f e.a).y) (e.b.y -ℤ e.a.y) (f.at.x -ℤ (by f e.a).x) u h.line (wide _ _ l) (wide _ _ left)),
      down_to _ _ (step ((by f e.b).y -ℤ f.at.y) (e.b.y -ℤ e.a.y) ((by f e.b).x -ℤ f.at.x) u
          (linked _ _ _ _ (ring (vars e f)
          ((v 2 ⊖ v 0) ⊗ (v 6 ⊗ v 3 ⊖ v 5) ⊖ (v 3 ⊖ v 1) ⊗ (v 6 ⊗ v 2 ⊖ v 4))
          ((v 3 ⊖ v 1) ⊗ (v 4 ⊖ v 6 ⊗ v 0) ⊖ (v 2 ⊖ v 0) ⊗ (v 5 ⊖ v 6 ⊗ v 1)) tt) (sym h.line))
          (wide _ _ l) (wide _ _ right)),
    )
    go_up (by_y z u) l = (le_y (le_trans _ _ _ right (beside z)) h.from, le_y (le_trans _ _ _ (beside z) left) h.to)

    go_down : e.a ≺ e.b → e.b.y ≤ℤ e.a.y → ((by f e.b).y ≤ℤ f.at.y) × (f.at.y ≤ℤ (by f e.a).y)
    go_down (by_x u) l = (
      down_to _ _ (step (f.at.y -ℤ (by f e.b).y) (e.a.y -ℤ e.b.y) ((by f e.b).x -ℤ f.at.x) u
          (linked _ _ _ _ (ring (vars e f)
          ((v 2 ⊖ v 0) ⊗ (v 5 ⊖ v 6 ⊗ v 3) ⊖ (v 1 ⊖ v 3) ⊗ (v 6 ⊗ v 2 ⊖ v 4))
          ((v 2 ⊖ v 0) ⊗ (v 5 ⊖ v 6 ⊗ v 1) ⊖ (v 3 ⊖ v 1) ⊗ (v 4 ⊖ v 6 ⊗ v 0)) tt) h.line)
          (wide _ _ l) (wide _ _ right)),
      down_to _ _ (step ((by f e.a).y -ℤ f.at.y) (e.a.y -ℤ e.b.y) (f.at.x -ℤ (by f e.a).x) u
          (linked _ _ _ _ (ring (vars e f)
          ((v 2 ⊖ v 0) ⊗ (v 6 ⊗ v 1 ⊖ v 5) ⊖ (v 1 ⊖ v 3) ⊗ (v 4 ⊖ v 6 ⊗ v 0))
          ((v 3 ⊖ v 1) ⊗ (v 4 ⊖ v 6 ⊗ v 0) ⊖ (v 2 ⊖ v 0) ⊗ (v 5 ⊖ v 6 ⊗ v 1)) tt) (sym h.line))
          (wide _ _ l) (wide _ _ left)),
    )
    go_down (by_y z u) l = clash_ℤ u l
