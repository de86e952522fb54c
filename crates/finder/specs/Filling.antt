-- What showing a list of edges leaves, and which edge is refused.
use Rattle.std.specs.Prelude.{◌≡◌, ℕ, ◌+◌, ◌<◌, ◌≤◌, true, false, List, [], length, take, Some, None, Ok, Err, Option, Result}
use Rattle.plane.specs.Edges.{Edge, InSheet}
use Rattle.plane.specs.Rules.{In}
use Rattle.plane.specs.declared.fault.Fault.{Fault}
use Rattle.plane.specs.declared.fault.Fault.TheVariants.{FinderFull}
use Rattle.finder.specs.Finders.{Box, Meaning, Needs, counted, edge_at, refusal}
use Rattle.finder.specs.Boxes.{holds?}

-- a finder started with a box and a number, and shown some edges
abbrev pub filling : Box → ℕ → List Edge → ℕ → Meaning
filling b n es cap = record { box = b; announced = counted n; shown = es; coming = []; walking = false; capacity = cap }

-- the refusal of edge k, once those before it were shown
abbrev pub refusal_at : Needs → ℕ → Box → List Edge → ℕ → Option Fault
refusal_at need cap b es k = refusal need (filling b (length es) (take k es) cap) (edge_at es k)

abbrev pub AcceptedBelow : Needs → ℕ → Box → List Edge → ℕ → Type 0
AcceptedBelow need cap b es k = (j : ℕ) → j < k → refusal_at need cap b es j ≡ None

-- edge k is the first to be refused
pub record RefusedAt (need : Needs) (cap : ℕ) (b : Box) (es : List Edge) (f : Fault) (k : ℕ) : Type 0 where
  pub number : k < length es
  pub refused : refusal_at need cap b es k ≡ Some f
  pub before : AcceptedBelow need cap b es k

-- all edges were shown in order, or those before the first that is refused
abbrev pub Filled : Needs → ℕ → Box → List Edge → Meaning → Result (Unit {0}) Fault → Type 0
Filled need cap b es m (Ok u) = (m ≡ filling b (length es) es cap) × AcceptedBelow need cap b es (length es)
Filled need cap b es m (Err f) = (k : ℕ) × RefusedAt need cap b es f k × (m ≡ filling b (length es) (take k es) cap)

-- edges that no check but that of the need refuses
pub record Suitable (b : Box) (es : List Edge) : Type 0 where
  pub few : length es ≤ 4096
  pub sheet : (e : Edge) → In e es → InSheet e
  pub inside : (e : Edge) → In e es → holds? b e ≡ true

abbrev pub FitsBelow : Needs → ℕ → Box → List Edge → ℕ → Type 0
FitsBelow need cap b es k = (j : ℕ) → j < k → need b (length es) (take (j + 1) es) ≤ cap

-- edge k is the first with which the need exceeds the capacity
pub record FullAt (need : Needs) (cap : ℕ) (b : Box) (es : List Edge) (k : ℕ) : Type 0 where
  pub number : k < length es
  pub exceeds : cap < need b (length es) (take (k + 1) es)
  pub before : FitsBelow need cap b es k

-- the need decides alone
abbrev pub ByNeed : Needs → ℕ → Box → List Edge → Result (Unit {0}) Fault → Type 0
ByNeed need cap b es (Ok u) = FitsBelow need cap b es (length es)
ByNeed need cap b es (Err f) = (k : ℕ) × (f ≡ FinderFull k) × FullAt need cap b es k
