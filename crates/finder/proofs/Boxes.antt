-- The least box around edges, reckoned edge by edge.
use Rattle.std.proofs.Common.{◌≡◌, ◌<◌, true, ◌&&◌, List, [], ◌∷◌, ◌++◌, map, length, ℤ, ◌≤ℤ◌, fold, sym, refl, ◌∙◌, subst, inl, inr, arith}
use borrow.Author.Differences.{ints}
use lib.Signed.{le_z}
use Rattle.std.proofs.lemmas.Int.{clamps}
use Rattle.std.proofs.lemmas.List.{map-append}
use Rattle.std.proofs.lemmas.List.Sums.{fold-append}
use Rattle.std.proofs.lemmas.Bool.{and_parts, and_from}
use Rattle.plane.specs.Points.{Point}
use Rattle.plane.specs.Edges.{Edge}
use Rattle.plane.specs.Rules.{In}
use Rattle.finder.specs.Finders.{Box, zero_box, in_box?, edge_at}
use Rattle.finder.specs.Boxes.{holds?, Inside, LeastBox, point_box, with_point, with_edge, edges_box}

pub box_ext : {b c : Box} → b.left ≡ c.left → b.right ≡ c.right → b.bottom ≡ c.bottom → b.top ≡ c.top → b ≡ c
box_ext {b} {c} l r d u = λ i. record { left = l i; right = r i; bottom = d i; top = u i }

-- ---- parts of boxes
pub inside_same : (b : Box) → Inside b b
inside_same b = record { left = omega (arith, ints); right = omega (arith, ints); bottom = omega (arith, ints); top = omega (arith, ints) }

pub inside_trans : {b c d : Box} → Inside b c → Inside c d → Inside b d
inside_trans h l = record { left = omega (arith, ints); right = omega (arith, ints); bottom = omega (arith, ints); top = omega (arith, ints) }

with_point_box : (b : Box) (p : Point) → Inside b (with_point b p)
unfolding with_point
with_point_box b p = record { left = omega (arith, ints, clamps); right = omega (arith, ints, clamps); bottom = omega (arith, ints, clamps); top = omega (arith, ints, clamps) }

with_point_point : (b : Box) (p : Point) → Inside (point_box p) (with_point b p)
unfolding with_point
with_point_point b p = record { left = omega (arith, ints, clamps); right = omega (arith, ints, clamps); bottom = omega (arith, ints, clamps); top = omega (arith, ints, clamps) }

with_point_least : (b c : Box) (p : Point) → Inside b c → Inside (point_box p) c → Inside (with_point b p) c
unfolding with_point
with_point_least b c p h l = record { left = omega (arith, ints, clamps); right = omega (arith, ints, clamps); bottom = omega (arith, ints, clamps); top = omega (arith, ints, clamps) }

-- ---- points and edges in a box
le_yes : (x y : ℤ) → le_z x y ≡ true → x ≤ℤ y
le_yes x y e = grind (arith, ints)

le_true : (x y : ℤ) → x ≤ℤ y → le_z x y ≡ true
le_true x y h = grind (arith, ints)

pub point_inside : (b : Box) (p : Point) → in_box? b p ≡ true → Inside (point_box p) b
point_inside b p e =
    let h = and_parts (le_z b.left p.x && le_z p.x b.right) (le_z b.bottom p.y && le_z p.y b.top) e in
    let wide = and_parts (le_z b.left p.x) (le_z p.x b.right) h.0 in
    let high = and_parts (le_z b.bottom p.y) (le_z p.y b.top) h.1 in
    record { left = le_yes _ _ wide.0; right = le_yes _ _ wide.1; bottom = le_yes _ _ high.0; top = le_yes _ _ high.1 }

pub inside_point : (b : Box) (p : Point) → Inside (point_box p) b → in_box? b p ≡ true
inside_point b p h = and_from _ _ (and_from _ _ (le_true _ _ h.left) (le_true _ _ h.right)) (and_from _ _ (le_true _ _ h.bottom) (le_true _ _ h.top))

-- the ends of an edge are in a box
pub record EdgeIn (e : Edge) (b : Box) : Type 0 where
  pub first : Inside (point_box e.a) b
  pub second : Inside (point_box e.b) b

pub edge_in : (b : Box) (e : Edge) → holds? b e ≡ true → EdgeIn e b
edge_in b e h = let p = and_parts (in_box? b e.a) (in_box? b e.b) h in record { first = point_inside b e.a p.0; second = point_inside b e.b p.1 }

pub holds_edge : (b : Box) (e : Edge) → EdgeIn e b → holds? b e ≡ true
holds_edge b e h = and_from _ _ (inside_point b e.a h.first) (inside_point b e.b h.second)

-- ---- one edge after another
with_edge_box : (b : Box) (e : Edge) → Inside b (with_edge b e)
with_edge_box b e = inside_trans (with_point_box b e.a) (with_point_box (with_point b e.a) e.b)

with_edge_edge : (b : Box) (e : Edge) → EdgeIn e (with_edge b e)
with_edge_edge b e = record {
  first = inside_trans (with_point_point b e.a) (with_point_box (with_point b e.a) e.b);
  second = with_point_point (with_point b e.a) e.b;
}

grown : (b : Box) (es : List Edge) → Inside b (fold with_edge b es)
grown b [] = inside_same b
grown b (e ∷ es) = inside_trans (with_edge_box b e) (grown (with_edge b e) es)

grown_edge : (b : Box) (es : List Edge) (e : Edge) → In e es → EdgeIn e (fold with_edge b es)
grown_edge b [] e i = absurd i
grown_edge b (g ∷ es) e (inl s) =
    let h : EdgeIn e (with_edge b g) = subst (λ x. EdgeIn x (with_edge b g)) (sym s) (with_edge_edge b g) in
    record { first = inside_trans h.first (grown (with_edge b g) es); second = inside_trans h.second (grown (with_edge b g) es) }
grown_edge b (g ∷ es) e (inr i) = grown_edge (with_edge b g) es e i

grown_least : (b c : Box) (es : List Edge) → Inside b c → ((e : Edge) → In e es → EdgeIn e c) → Inside (fold with_edge b es) c
grown_least b c [] h each = h
grown_least b c (e ∷ es) h each =
    let i = each e (inl refl) in
    grown_least (with_edge b e) c es (with_point_least (with_point b e.a) c e.b (with_point_least b c e.a h i.first) i.second) (λ g j. each g (inr j))

pub edges_box_least : (es : List Edge) → LeastBox es (edges_box es)
edges_box_least [] = record { holds = λ e i. absurd i; least = λ c h each. absurd (omega arith); none = λ _. refl }
edges_box_least (e ∷ es) = record {
  holds = λ g i. holds_edge (edges_box (e ∷ es)) g (grown_edge (point_box e.a) (e ∷ es) g i);
  least = λ c h each. grown_least (point_box e.a) c (e ∷ es) (edge_in c e (each e (inl refl))).first (λ g i. edge_in c g (each g i));
  none = λ z. absurd (omega (arith, z));
}

-- there is one least box
pub least_unique : (es : List Edge) (b c : Box) → LeastBox es b → LeastBox es c → b ≡ c
least_unique [] b c l k = l.none refl ∙ sym (k.none refl)
least_unique (e ∷ es) b c l k =
    let h = l.least c (omega arith) k.holds in
    let i = k.least b (omega arith) l.holds in
    box_ext (omega (arith, ints, h.left, i.left)) (omega (arith, ints, h.right, i.right)) (omega (arith, ints, h.bottom, i.bottom)) (omega (arith, ints, h.top, i.top))

-- ---- reckoned in a loop
pub grown_more : {X : Type 0} (edge : X → Edge) (b : Box) (xs : List X) (x : X) → fold with_edge b (map edge (xs ++ (x ∷ []))) ≡ with_edge (fold with_edge b (map edge xs)) (edge x)
grown_more edge b xs x = simp (map-append, fold-append)

pub box_none : (es : List Edge) → length es ≡ 0 → zero_box ≡ edges_box es
box_none [] h = refl
box_none (e ∷ es) h = absurd (omega (arith, h))

pub box_all : (es : List Edge) → 0 < length es → fold with_edge (point_box (edge_at es 0).a) es ≡ edges_box es
box_all [] h = absurd (omega arith)
box_all (e ∷ es) h = refl

pub box_least : (es : List Edge) (b : Box) → b ≡ edges_box es → LeastBox es b
box_least es b e = subst (LeastBox es) (sym e) (edges_box_least es)
