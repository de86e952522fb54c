-- The derived comparison of edges, by the tests on them.
use Rattle.std.proofs.Common.{◌≡◌, Bool, true, false, cond, not, ◌&&◌, ◌||◌, ℤ, refl, sym, ap, ◌∙◌, Ordering, Less, Equal, Greater, arith}
use borrow.Author.Differences.{ints}
use lib.Signed.{lt_z, le_z}
use Rattle.std.specs.Ordering.{int_cmp, ordering_then, is_lt, is_eq}
use Rattle.plane.specs.Points.{Point, before?}
use Rattle.plane.specs.Edges.{Edge, smaller?, equal?}

-- what two tests, less and greater, answer
abbrev asked : Bool → Bool → Ordering
asked l g = cond l Less (cond g Greater Equal)

asked_then : (l g m h : Bool) → ordering_then (asked l g) (asked m h) ≡ asked (l || (not g && m)) (g || (not l && h))
asked_then true g m h = refl
asked_then false true m h = refl
asked_then false false m h = refl

le_not : (x y : ℤ) → le_z x y ≡ not (lt_z y x)
le_not x y = grind (arith, ints)

abbrev pub order_of : Point → Point → Ordering
order_of p q = ordering_then (int_cmp p.x q.x) (int_cmp p.y q.y)

points_asked : (p q : Point) → order_of p q ≡ asked (before? p q) (before? q p)
points_asked p q = asked_then (lt_z p.x q.x) (lt_z q.x p.x) (lt_z p.y q.y) (lt_z q.y p.y) ∙ sym (rw (le_not p.x q.x, le_not q.x p.x))

edges_asked : (e g : Edge) → ordering_then (order_of e.a g.a) (order_of e.b g.b) ≡ asked (smaller? e g) (smaller? g e)
edges_asked e g = rw (points_asked e.a g.a, points_asked e.b g.b) (asked_then (before? e.a g.a) (before? g.a e.a) (before? e.b g.b) (before? g.b e.b))

pub less_edge : (e g : Edge) → is_lt (ordering_then (order_of e.a g.a) (order_of e.b g.b)) ≡ smaller? e g
less_edge e g = ap is_lt (edges_asked e g) ∙ less (smaller? e g) (smaller? g e)
  where
    less : (l g : Bool) → is_lt (asked l g) ≡ l
    less true g = refl
    less false true = refl
    less false false = refl

pub equal_edge : (e g : Edge) → is_eq (ordering_then (order_of e.a g.a) (order_of e.b g.b)) ≡ equal? e g
equal_edge e g = ap is_eq (edges_asked e g) ∙ same (smaller? e g) (smaller? g e)
  where
    same : (l g : Bool) → is_eq (asked l g) ≡ (not l && not g)
    same true g = refl
    same false true = refl
    same false false = refl
