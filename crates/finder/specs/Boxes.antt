-- The least box around edges.
use Rattle.std.specs.Prelude.{◌≡◌, ◌<◌, Bool, true, ◌&&◌, List, [], ◌∷◌, length, ◌≤ℤ◌, fold}
use Rattle.std.specs.Int.{int_min, int_max}
use Rattle.plane.specs.Points.{Point}
use Rattle.plane.specs.Edges.{Edge}
use Rattle.plane.specs.Rules.{In}
use Rattle.finder.specs.Finders.{Box, zero_box, in_box?}

-- both ends of the edge are in the box
abbrev pub holds? : Box → Edge → Bool
holds? b e = in_box? b e.a && in_box? b e.b

-- the box b is a part of the box c
pub record Inside (b c : Box) : Type 0 where
  pub left : c.left ≤ℤ b.left
  pub right : b.right ≤ℤ c.right
  pub bottom : c.bottom ≤ℤ b.bottom
  pub top : b.top ≤ℤ c.top

-- the box holds every edge and is a part of every box that does; zeros for no edges
pub record LeastBox (es : List Edge) (b : Box) : Type 0 where
  pub holds : (e : Edge) → In e es → holds? b e ≡ true
  pub least : (c : Box) → 0 < length es → ((e : Edge) → In e es → holds? c e ≡ true) → Inside b c
  pub none : length es ≡ 0 → b ≡ zero_box

-- the same box, reckoned
abbrev pub point_box : Point → Box
point_box p = record { left = p.x; right = p.x; bottom = p.y; top = p.y }

unfoldable pub with_point : Box → Point → Box
with_point b p = record { left = int_min b.left p.x; right = int_max b.right p.x; bottom = int_min b.bottom p.y; top = int_max b.top p.y }

abbrev pub with_edge : Box → Edge → Box
with_edge b e = with_point (with_point b e.a) e.b

abbrev pub edges_box : List Edge → Box
edges_box [] = zero_box
edges_box (e ∷ es) = fold with_edge (point_box e.a) (e ∷ es)
