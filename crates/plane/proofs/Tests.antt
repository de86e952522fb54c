-- The tests on points and edges, and what they tell.
use Rattle.std.proofs.Common.{◌≡◌, Bool, true, false, not, ◌&&◌, ◌||◌, ◌⊎◌, ℤ, ◌≤ℤ◌, ◌<ℤ◌, Decides, sym, refl, ◌∙◌, inl, inr, arith}
use mathlib.Core.Bool.{false≢true}
use borrow.Author.Differences.{ints}
use lib.Signed.{lt_z, le_z}
use Rattle.std.proofs.lemmas.Int.{by_lt_z}
use Rattle.std.proofs.lemmas.Bool.Decides.{Decides-and, Decides-or, Decides-not, Decides-like}
use Rattle.plane.specs.Points.{Point, ◌≺◌, by_x, by_y, before?}
use Rattle.plane.specs.Edges.{Edge, ◌⊏◌, by_first, by_second, smaller?, Between, between?}
use Rattle.plane.proofs.Signs.{eq_le, le_eq}
use Rattle.plane.proofs.Points.{edge_ext, Order, before, same, after, compare, weaken, same_le, never}

pub untrue : (b : Bool) → ¬ (b ≡ true) → b ≡ false
untrue true n = absurd (n refl)
untrue false n = refl

pub clash : {b : Bool} → b ≡ true → b ≡ false → ⊥
clash e f = false≢true (sym f ∙ e)

pub neither : (a b : Bool) → (a || b) ≡ false → (a ≡ false) × (b ≡ false)
neither true b e = absurd (false≢true (sym e))
neither false b e = (refl, e)

pub both_false : (a b : Bool) → a ≡ false → b ≡ false → (a || b) ≡ false
both_false a b i j = rw (i, j)

decides_lt : (a b : ℤ) → Decides (lt_z a b) (a <ℤ b)
decides_lt a b = (λ e. grind (arith, ints), λ h. grind (arith, ints))

decides_le : (a b : ℤ) → Decides (le_z a b) (a ≤ℤ b)
decides_le a b = (λ e. grind (arith, ints), λ h. grind (arith, ints))

-- ---- the order of points
pub decides_before : (p q : Point) → Decides (before? p q) (p ≺ q)
decides_before p q =
    Decides-like (before? p q) to from
    (Decides-or (lt_z p.x q.x) (le_z p.x q.x && lt_z p.y q.y) (decides_lt p.x q.x)
    (Decides-and (le_z p.x q.x) (lt_z p.y q.y) (decides_le p.x q.x) (decides_lt p.y q.y)))
  where
    to : (p.x <ℤ q.x) ⊎ ((p.x ≤ℤ q.x) × (p.y <ℤ q.y)) → p ≺ q
    to (inl h) = by_x h
    to (inr h) = by_lt_z p.x q.x by_x (λ l. by_y (le_eq h.0 l) h.1)

    from : p ≺ q → (p.x <ℤ q.x) ⊎ ((p.x ≤ℤ q.x) × (p.y <ℤ q.y))
    from (by_x h) = inl h
    from (by_y e h) = inr (eq_le e, h)

pub before_yes : (p q : Point) → before? p q ≡ true → p ≺ q
before_yes p q = (decides_before p q).0

pub before_true : (p q : Point) → p ≺ q → before? p q ≡ true
before_true p q = (decides_before p q).1

pub decides_between : (e : Edge) (p : Point) → Decides (between? e p) (Between e p)
decides_between e p =
    Decides-like (between? e p) (λ h. record { from = h.0; to = h.1 }) (λ h. (h.from, h.to))
    (Decides-and (before? e.a p) (before? p e.b) (decides_before e.a p) (decides_before p e.b))

-- ---- the order of edges
pub decides_smaller : (e g : Edge) → Decides (smaller? e g) (e ⊏ g)
decides_smaller e g =
    Decides-like (smaller? e g) to from
    (Decides-or (before? e.a g.a) (not (before? g.a e.a) && before? e.b g.b) (decides_before e.a g.a)
    (Decides-and (not (before? g.a e.a)) (before? e.b g.b) (Decides-not (before? g.a e.a) (decides_before g.a e.a)) (decides_before e.b g.b)))
  where
    to : (e.a ≺ g.a) ⊎ ((g.a ≺ e.a → ⊥) × (e.b ≺ g.b)) → e ⊏ g
    to (inl h) = by_first h
    to (inr h) = elim (compare e.a g.a) [ before l ↦ by_first l | same l ↦ by_second l h.1 | after l ↦ absurd (h.0 l) ]

    from : e ⊏ g → (e.a ≺ g.a) ⊎ ((g.a ≺ e.a → ⊥) × (e.b ≺ g.b))
    from (by_first h) = inl h
    from (by_second s h) = inr (λ l. never l (same_le s), h)

pub smaller_yes : (e g : Edge) → smaller? e g ≡ true → e ⊏ g
smaller_yes e g = (decides_smaller e g).0

pub smaller_true : (e g : Edge) → e ⊏ g → smaller? e g ≡ true
smaller_true e g = (decides_smaller e g).1

⊏-asym : {e g : Edge} → e ⊏ g → g ⊏ e → ⊥
⊏-asym (by_first h) (by_first l) = never h (weaken l)
⊏-asym (by_first h) (by_second s l) = never h (same_le s)
⊏-asym (by_second s h) (by_first l) = never l (same_le s)
⊏-asym (by_second s h) (by_second r l) = never h (weaken l)

pub smaller_asym : (e g : Edge) → smaller? e g ≡ true → smaller? g e ≡ false
smaller_asym e g h = untrue (smaller? g e) (λ l. ⊏-asym (smaller_yes e g h) (smaller_yes g e l))

pub not_smaller : (e g : Edge) → smaller? e g ≡ false → smaller? g e ≡ false → e ≡ g
not_smaller e g h l = go (compare e.a g.a) (compare e.b g.b)
  where
    go : Order e.a g.a → Order e.b g.b → e ≡ g
    go (before i) j = absurd (clash (smaller_true e g (by_first i)) h)
    go (after i) j = absurd (clash (smaller_true g e (by_first i)) l)
    go (same i) (before j) = absurd (clash (smaller_true e g (by_second i j)) h)
    go (same i) (after j) = absurd (clash (smaller_true g e (by_second (sym i) j)) l)
    go (same i) (same j) = edge_ext i j
