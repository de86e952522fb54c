-- What the table of fragments holds, how its columns are linked, and where a walk stands.
use Rattle.std.specs.Prelude.{◌≡◌, ℕ, suc, ◌+◌, ◌-◌, ◌*◌, ◌^◌, ◌<◌, ◌≤◌, min, Bool, true, false, cond, ◌⊎◌, List, [], ◌∷◌, ◌++◌, map, length, get_or, take, drop, pos, ◌≤ℤ◌, ◌<ℤ◌, Some, None, filter, Option, ◌==◌, ◌≢◌, slice_index_or}
use Rattle.std.specs.List.{range_with_len, flat_map, AllByRecursion}
use Rattle.plane.specs.Edges.{Edge, Proper}
use Rattle.plane.specs.Models.{edge_of}
use Rattle.finder.specs.Finders.{Pair, Box, box_of, zero_box, blank_edge, first, rest}
use Rattle.grid.specs.Layouts.{Layout, layout, width, border, most_columns}
use Rattle.grid.specs.Rectangles.{first_column, fragments}
use Rattle.grid.specs.Grid.{Part, part, shares?, on_border?, ends_inside?, pairs_with, pairs_among}
use Rattle.grid.specs.declared.fragment.Fragment.{Fragment}
use Rattle.grid.specs.declared.cursor.Cursor.{Cursor}
use Rattle.grid.specs.declared.cursor.Found.{Found}
use Rattle.grid.specs.declared.cursor.Stage.{Stage}
use Rattle.grid.specs.declared.cursor.Stage.TheVariants.{Columns, Borders}
use Rattle.grid.specs.declared.cursor.Step.{Step}
use Rattle.grid.specs.declared.cursor.WalkState.{WalkState}
use Rattle.grid.specs.declared.cursor.WalkState.TheVariants.{Filling, Column, Border, Done}

-- e is an edge, and lies between left and right of the box
pub record Lies (b : Box) (e : Edge) : Type 0 where
  pub proper : Proper e
  pub begins : b.left ≤ℤ e.a.x
  pub ends : e.b.x ≤ℤ b.right

-- ---- what the table holds
-- a fragment without its link
pub record Content : Type 0 where
  pub column : ℕ
  pub part : Part

abbrev pub blank_content : Content
blank_content = record { column = 0; part = record { number = 0; edge = blank_edge; rectangle = zero_box } }

abbrev pub content : Fragment → Content
content q = record { column = q.column; part = record { number = q.index; edge = edge_of q.x_segment; rectangle = box_of q.rect } }

abbrev pub contents : List Fragment → List Content
contents qs = map content qs

-- the parts of column c
unfoldable pub listed : ℕ → List Content → List Part
listed c [] = []
listed c (m ∷ ms) = cond (m.column == c) (m.part ∷ listed c ms) (listed c ms)

-- the edges, each at its first fragment
unfoldable pub edges_in : Layout → List Content → List Edge
edges_in l [] = []
edges_in l (m ∷ ms) = cond (m.column == first_column l m.part.edge) (m.part.edge ∷ edges_in l ms) (edges_in l ms)

-- the fragments of the edge e with number i
abbrev pub laid_in : Layout → ℕ → Edge → ℕ → Content
laid_in l i e c = record { column = c; part = part l c i e }

unfoldable pub laid_one : Layout → ℕ → Edge → List Content
laid_one l i e = map (laid_in l i e) (range_with_len (first_column l e) (fragments l e))

-- the fragments of edges in the order shown, with the numbers from i on
unfoldable pub laid : Layout → ℕ → List Edge → List Content
laid l i [] = []
laid l i (e ∷ es) = laid_one l i e ++ laid l (suc i) es

-- every column is one that a grid has
abbrev pub Narrow : List Content → Type 0
Narrow ms = (k : ℕ) → k < length ms → (get_or ms k blank_content).column < most_columns

-- ---- links
-- no table uses more fragments
abbrev pub most_fragments : ℕ
most_fragments = 524288

-- a link names a fragment of column c, or none
abbrev pub Names : List Content → ℕ → Option ℕ → Type 0
Names ms c None = Unit {0}
Names ms c (Some j) = (j < length ms) × ((get_or ms j blank_content).column ≡ c)

-- the fragments from a link on
abbrev pub from : List Content → Option ℕ → List Content
from ms None = []
from ms (Some j) = drop j ms

-- where they begin among n
abbrev pub place : ℕ → Option ℕ → ℕ
place n None = n
place n (Some j) = j

-- from k on, column c begins with the fragment that j names, or is empty
pub record Leads (ms : List Content) (c k : ℕ) (j : Option ℕ) : Type 0 where
  pub ahead : k ≤ place (length ms) j
  pub inside : Names ms c j
  pub skips : (i : ℕ) → k ≤ i → i < place (length ms) j → (get_or ms i blank_content).column ≢ c

-- each column has its first fragment in heads, and each fragment the next of its column in `next`
pub record Linked (qs : List Fragment) (heads : List (Option ℕ)) : Type 0 where
  pub short : length qs ≤ most_fragments
  pub starts : (c : ℕ) → c < most_columns → Leads (contents qs) c 0 (slice_index_or heads c None)
  pub goes_on : (k : ℕ) (d : Fragment) → k < length qs → Leads (contents qs) (slice_index_or qs k d).column (suc k) (slice_index_or qs k d).next

-- ---- where a walk stands
-- the test of two parts, the column of the first, and how many columns or borders there are
abbrev pub passes? : Stage → Part → Part → Bool
passes? Columns = shares?
passes? Borders = ends_inside?

abbrev pub first_of : Stage → ℕ → ℕ
first_of Columns c = c
first_of Borders c = suc c

abbrev pub limit : Stage → ℕ
limit Columns = most_columns
limit Borders = most_columns - 1

-- the pairs of column or border c, of those whose first is among ps
unfoldable pub tail_pairs : Layout → Stage → List Content → ℕ → List Part → List Pair
tail_pairs l Columns ms c ps = pairs_among ps
tail_pairs l Borders ms c ps = flat_map (λ v. pairs_with ends_inside? v (listed c ms)) (filter (on_border? (border l (suc c))) ps)

unfoldable pub stage_pairs : Layout → Stage → List Content → ℕ → List Pair
stage_pairs l stage ms c = tail_pairs l stage ms c (listed (first_of stage c) ms)

-- the pairs of fragment i of column or border c with those from j on, and of the fragments after i
unfoldable pub here_pairs : Layout → Stage → List Content → ℕ → Option ℕ → Option ℕ → List Pair
here_pairs l stage ms c None j = []
here_pairs l stage ms c (Some i) j =
    pairs_with (passes? stage) (get_or ms i blank_content).part (listed c (from ms j)) ++ tail_pairs l stage ms c (listed (first_of stage c) (drop (suc i) ms))

-- the partners of fragment i are those of column c from j on; a fragment that is no vertical on the border has none there
abbrev pub Partners : Layout → Stage → List Content → ℕ → ℕ → Option ℕ → Type 0
Partners l Columns ms c i j = listed c (drop (suc i) ms) ≡ listed c (from ms j)
Partners l Borders ms c i j =
    ((on_border? (border l (suc c)) (get_or ms i blank_content).part ≡ true) × (listed c ms ≡ listed c (from ms j)))
    ⊎ ((on_border? (border l (suc c)) (get_or ms i blank_content).part ≡ false) × (listed c (from ms j) ≡ []))

-- those, and the pairs of the columns or borders after c
unfoldable pub rest_pairs : Layout → Stage → List Content → Cursor → List Pair
rest_pairs l stage ms at =
    here_pairs l stage ms at.column at.first at.second ++ flat_map (stage_pairs l stage ms) (range_with_len (suc at.column) (limit stage - suc at.column))

-- a cursor stands on fragments of the columns that it is to compare, or on none; on a second only beside a first
pub record Placed (stage : Stage) (ms : List Content) (at : Cursor) : Type 0 where
  pub few : at.column < limit stage
  pub first_in : Names ms (first_of stage at.column) at.first
  pub second_in : Names ms at.column at.second
  pub beside : at.first ≡ None → at.second ≡ None

-- the partners of i in column c begin with j
pub record Partnered (l : Layout) (stage : Stage) (ms : List Content) (c i : ℕ) (j : Option ℕ) : Type 0 where
  pub partners : Partners l stage ms c i j
  pub inside : Names ms c j

-- a cursor at fragment i of column or border c, with all pairs of those from i on to come
pub record Begun (l : Layout) (stage : Stage) (ms : List Content) (c : ℕ) (i : Option ℕ) (at : Cursor) : Type 0 where
  pub placed : Placed stage ms at
  pub at_column : at.column ≡ c
  pub at_first : at.first ≡ i
  pub opens : here_pairs l stage ms c i at.second ≡ tail_pairs l stage ms c (listed (first_of stage c) (from ms i))

-- how many steps it can take at most
abbrev pub left : Option ℕ → ℕ
left None = 0
left (Some i) = most_fragments - i

abbrev pub steps_left : Cursor → ℕ
steps_left at = ((most_columns - at.column) * (most_fragments + 1) + left at.first) * (most_fragments + 1) + left at.second

-- a cursor goes on to the next first fragment, or there is none, and nothing is left
abbrev pub Advanced : Layout → Stage → List Content → Cursor → Option Cursor → Type 0
Advanced l stage ms at None = rest_pairs l stage ms at ≡ []
Advanced l stage ms at (Some next) = Placed stage ms next × (rest_pairs l stage ms next ≡ rest_pairs l stage ms at) × (steps_left next < steps_left at)

-- the next pair and what is left behind it, or nothing is left
abbrev pub Finds : Layout → Stage → List Content → Cursor → Option Found → Type 0
Finds l stage ms at None = rest_pairs l stage ms at ≡ []
Finds l stage ms at (Some f) = Placed stage ms f.at × (rest_pairs l stage ms at ≡ f.pair ∷ rest_pairs l stage ms f.at)

abbrev pub walking? : WalkState → Bool
walking? Filling = false
walking? (Column at) = true
walking? (Border at) = true
walking? Done = true

-- the pairs to come
unfoldable pub coming_pairs : Layout → List Content → WalkState → List Pair
coming_pairs l ms Filling = []
coming_pairs l ms (Column at) = rest_pairs l Columns ms at ++ flat_map (stage_pairs l Borders ms) (range_with_len 0 (limit Borders))
coming_pairs l ms (Border at) = rest_pairs l Borders ms at
coming_pairs l ms Done = []

-- a walk that goes on stands at a cursor of its stage
abbrev pub Stands : List Content → WalkState → Type 0
Stands ms Filling = Unit {0}
Stands ms (Column at) = Placed Columns ms at
Stands ms (Border at) = Placed Borders ms at
Stands ms Done = Unit {0}

-- and the columns are linked once it has begun
pub record Standing (qs : List Fragment) (heads : List (Option ℕ)) (state : WalkState) : Type 0 where
  pub linked : walking? state ≡ true → Linked qs heads
  pub stands : Stands (contents qs) state

-- the beginning of a walk: all pairs are to come
pub record Started (qs : List Fragment) (l : Layout) (state : WalkState) : Type 0 where
  pub comes : coming_pairs l (contents qs) state
      ≡ flat_map (stage_pairs l Columns (contents qs)) (range_with_len 0 (limit Columns)) ++ flat_map (stage_pairs l Borders (contents qs)) (range_with_len 0 (limit Borders))
  pub stands : Stands (contents qs) state
  pub walks : walking? state ≡ true

-- a step of a walk: the first of the pairs to come, and the others left
pub record Stepped (qs : List Fragment) (l : Layout) (before : WalkState) (step : Step) : Type 0 where
  pub gives : step.pair ≡ first (coming_pairs l (contents qs) before)
  pub leaves : coming_pairs l (contents qs) step.state ≡ rest (coming_pairs l (contents qs) before)
  pub stands : Stands (contents qs) step.state
  pub walks : walking? step.state ≡ true

-- the pairs that are there to be given: where a walk begins all of them, else those still to come
unfoldable pub ready_pairs : Layout → List Content → WalkState → List Pair
ready_pairs l ms Filling = flat_map (stage_pairs l Columns ms) (range_with_len 0 (limit Columns)) ++ flat_map (stage_pairs l Borders ms) (range_with_len 0 (limit Borders))
ready_pairs l ms (Column at) = coming_pairs l ms (Column at)
ready_pairs l ms (Border at) = coming_pairs l ms (Border at)
ready_pairs l ms Done = coming_pairs l ms Done

-- a call of a walk: the first of those pairs, and the others left; what the table holds stays
pub record Walked (used : ℕ) (l : Layout) (before : WalkState) (entry exit : List Fragment) (heads : List (Option ℕ)) (step : Step) : Type 0 where
  pub same : contents (take used exit) ≡ contents (take used entry)
  pub gives : step.pair ≡ first (ready_pairs l (contents (take used entry)) before)
  pub leaves : coming_pairs l (contents (take used exit)) step.state ≡ rest (ready_pairs l (contents (take used entry)) before)
  pub stands : Standing (take used exit) heads step.state
  pub walks : walking? step.state ≡ true

-- ---- the whole table
pub record Sound (table : List Fragment) (used shown announced : ℕ) (box : Box) (l : Layout) (heads : List (Option ℕ)) (state : WalkState) : Type 0 where
  pub room : used ≤ min (length table) most_fragments
  pub holds : contents (take used table) ≡ laid l 0 (edges_in l (contents (take used table)))
  pub counts : length (edges_in l (contents (take used table))) ≡ shown
  pub below : shown ≤ announced
  pub few : announced ≤ 4096
  pub wide : width box <ℤ pos (2 ^ 32)
  pub layout_is : l ≡ layout box announced
  pub lies : AllByRecursion (Lies box) (edges_in l (contents (take used table)))
  pub stands : Standing (take used table) heads state
