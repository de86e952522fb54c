-- What a finder means, and what each of its calls does to that meaning.
use Rattle.std.specs.Prelude.{◌≡◌, ℕ, ◌^◌, ◌<◌, ◌≤◌, Bool, true, false, cond, not, ◌&&◌, List, [], ◌∷◌, ◌++◌, length, ℤ, pos, Some, None, Ok, Err, Option, Result, int_le, nat_le, nat_lt, slice_index_or, unsigned_abs}
use Rattle.plane.specs.Points.{Point, before?}
use Rattle.plane.specs.Edges.{Edge}
use Rattle.plane.specs.Fractions.{Touch}
use Rattle.plane.specs.Rules.{In}
use Rattle.plane.specs.declared.fault.Fault.{Fault}
use Rattle.plane.specs.declared.fault.Fault.TheVariants.{EndsEqual, CoordinateOutside, EdgeOutsideBox, FinderFull, Walking, AnnouncedReached}
use Rattle.finder.specs.declared.int_rect.IntRect.{IntRect}

-- the numbers of two edges
abbrev pub Pair : Type 0
Pair = ℕ × ℕ

pub record Box : Type 0 where
  pub left : ℤ
  pub right : ℤ
  pub bottom : ℤ
  pub top : ℤ

abbrev pub box_of : IntRect → Box
box_of r = record { left = r.min_x; right = r.max_x; bottom = r.min_y; top = r.max_y }

abbrev pub zero_box : Box
zero_box = record { left = pos 0; right = pos 0; bottom = pos 0; top = pos 0 }

-- a box, the number of edges announced, the edges shown in order, the pairs to come, whether it walks or is still filling, its capacity
pub record Meaning : Type 0 where
  pub box : Box
  pub announced : ℕ
  pub shown : List Edge
  pub coming : List Pair
  pub walking : Bool
  pub capacity : ℕ

-- a finder never started
abbrev pub unstarted : ℕ → Meaning
unstarted c = record { box = zero_box; announced = 0; shown = []; coming = []; walking = false; capacity = c }

-- how a need follows from box, announced number and shown edges
abbrev pub Needs : Type 0
Needs = Box → ℕ → List Edge → ℕ

-- which lists of pairs may come for a box, an announced number and shown edges
abbrev pub Walks : Type 1
Walks = Box → ℕ → List Edge → List Pair → Type 0

abbrev pub blank_edge : Edge
blank_edge = record { a = record { x = pos 0; y = pos 0 }; b = record { x = pos 0; y = pos 0 } }

abbrev pub edge_at : List Edge → ℕ → Edge
edge_at es i = slice_index_or es i blank_edge

-- what every list of pairs must be: short, of numbers i < j of shown edges, and with every touching pair
pub record Walk (es : List Edge) (ps : List Pair) : Type 0 where
  pub few : length ps ≤ 2 ^ 40
  pub numbered : (p : Pair) → In p ps → (p.0 < p.1) × (p.1 < length es)
  pub complete : (i j : ℕ) → i < j → j < length es → Touch (edge_at es i) (edge_at es j) → ∥ In (i, j) ps ∥₁

-- a number above 4096 counts as 0
abbrev pub counted : ℕ → ℕ
counted n = cond (nat_le n 4096) n 0

abbrev pub started : Box → ℕ → Meaning → Meaning
started b n m = record { box = b; announced = counted n; shown = []; coming = []; walking = false; capacity = m.capacity }

abbrev pub with_shown : Edge → Meaning → Meaning
with_shown e m = record { box = m.box; announced = m.announced; shown = m.shown ++ (e ∷ []); coming = m.coming; walking = m.walking; capacity = m.capacity }

abbrev pub walking_on : List Pair → Meaning → Meaning
walking_on ps m = record { box = m.box; announced = m.announced; shown = m.shown; coming = ps; walking = true; capacity = m.capacity }

abbrev pub in_range? : Point → Bool
in_range? p = nat_le (unsigned_abs p.x) 524288 && nat_le (unsigned_abs p.y) 524288

abbrev pub in_box? : Box → Point → Bool
in_box? b p = (int_le b.left p.x && int_le p.x b.right) && (int_le b.bottom p.y && int_le p.y b.top)

-- the refusal of an edge, by the checks in their order: walking, announced number reached, ends not in order, outside the range, outside the box, need above capacity
abbrev pub refusal : Needs → Meaning → Edge → Option Fault
refusal need m e =
    cond m.walking (Some Walking)
    (cond (nat_le m.announced (length m.shown)) (Some AnnouncedReached)
    (cond (not (before? e.a e.b)) (Some EndsEqual)
    (cond (not (in_range? e.a && in_range? e.b)) (Some CoordinateOutside)
    (cond (not (in_box? m.box e.a && in_box? m.box e.b)) (Some EdgeOutsideBox)
    (cond (nat_lt m.capacity (need m.box m.announced (m.shown ++ (e ∷ [])))) (Some (FinderFull (length m.shown))) None)))))

abbrev pub show_answer : Option Fault → Result (Unit {0}) Fault
show_answer None = Ok tt
show_answer (Some f) = Err f

abbrev pub show_after : Option Fault → Edge → Meaning → Meaning
show_after None e m = with_shown e m
show_after (Some f) e m = m

abbrev pub first : List Pair → Option Pair
first [] = None
first (p ∷ ps) = Some p

abbrev pub rest : List Pair → List Pair
rest [] = []
rest (p ∷ ps) = ps

-- the pairs that are there to be given: where a walk begins any list that may come, else those still to come
abbrev pub MayCome : Walks → Meaning → List Pair → Type 0
MayCome walks m ps = cond m.walking (m.coming ≡ ps) (walks m.box m.announced m.shown ps × Walk m.shown ps)

pub record Next (walks : Walks) (before after : Meaning) (answer : Option Pair) : Type 0 where
  pub pairs : List Pair
  pub allowed : MayCome walks before pairs
  pub answers : answer ≡ first pairs
  pub leaves : after ≡ walking_on (rest pairs) before
