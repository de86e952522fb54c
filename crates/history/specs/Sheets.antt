-- What a sheet and its tables hold, and what opening and putting leave and answer.
use Rattle.std.specs.Prelude.{◌≡◌, ℕ, ◌-◌, ◌≤◌, min, Bool, false, cond, not, ◌&&◌, ◌||◌, List, [], ◌∷◌, ◌++◌, map, length, replicate, Some, None, Ok, Err, Option, Result, nat_le}
use Rattle.std.specs.Ordering.{is_eq}
use Rattle.table.specs.Listings.{Ordered}
use Rattle.plane.specs.Points.{Point, before?}
use Rattle.plane.specs.Edges.{Edge, Proper}
use Rattle.plane.specs.Models.{edge_between}
use Rattle.plane.specs.Rules.{In}
use Rattle.plane.specs.declared.fault.Fault.{Fault}
use Rattle.plane.specs.declared.fault.Fault.TheVariants.{EndsEqual, CoordinateOutside, CountEmpty, SheetFull}
use Rattle.finder.specs.Finders.{in_range?}
use Rattle.segm.specs.Counts.{CountKind}
use Rattle.segm.specs.Orders.{point_order, edge_order}
use Rattle.segm.specs.Marks.{blank_mark}
use Rattle.segm.specs.Segments.{ends_of, blank_segment}
use Rattle.segm.specs.SegmentKind.{segment_kind}
use Rattle.segm.specs.Balance.{when, count_at, Counting}
use Rattle.segm.specs.declared.line_mark.LineMark.{LineMark}
use Rattle.segm.specs.declared.segment.Segment.{Segment}
use Rattle.history.specs.declared.sheet_state.SheetState.{SheetState}
use Rattle.history.specs.declared.sheet_state.SheetState.TheVariants.{Raw}

-- the lengths of the three tables that a sheet is opened over
pub record Lengths : Type 0 where
  pub edges : ℕ
  pub spare : ℕ
  pub marks : ℕ

-- how many edges, and how many marks, there may be
abbrev pub edge_places : Lengths → ℕ
edge_places n = min (min n.edges n.spare) 4096

abbrev pub mark_places : Lengths → ℕ
mark_places n = min n.marks 4096

-- a sheet: its edges in order with their counts, its state, the snap exponent, its start and step, and the lengths of its tables
pub record Page (C : Type 0) : Type 0 where
  pub edges : List (Segment C)
  pub state : SheetState
  pub exponent : ℕ
  pub start : ℕ
  pub step : ℕ
  pub lengths : Lengths

-- what the three tables hold
pub record Tables (C : Type 0) : Type 0 where
  pub edges : List (Segment C)
  pub spare : List (Segment C)
  pub marks : List LineMark

module _ {C : Type 0} where
  -- the edges of a sheet without their counts
  abbrev pub ends : Page C → List Edge
  ends s = map ends_of s.edges

  -- a new sheet
  abbrev pub opening : Lengths → ℕ → ℕ → Page C
  opening n start step = record { edges = []; state = Raw; exponent = start; start = start; step = step; lengths = n }

  -- the sheet with other edges, in another state, at another exponent
  abbrev pub changed : Page C → List (Segment C) → SheetState → ℕ → Page C
  changed s l state e = record { edges = l; state = state; exponent = e; start = s.start; step = s.step; lengths = s.lengths }

  -- some edge of the list has these ends
  abbrev pub listed? : Edge → List (Segment C) → Bool
  listed? e [] = false
  listed? e (s ∷ l) = is_eq (edge_order e (ends_of s)) || listed? e l

module _ {C : Type 0} (K : CountKind C) where
  -- the edges in the first places, and all else blank
  abbrev pub tables_of : Page C → Tables C
  tables_of s = record {
    edges = s.edges ++ replicate (s.lengths.edges - length s.edges) (blank_segment K);
    spare = replicate s.lengths.spare (blank_segment K);
    marks = replicate s.lengths.marks blank_mark;
  }

  -- the edges are in strict order, none has an empty count, each has its first end before its second, and there are no more than places
  pub record Sound (s : Page C) : Type 0 where
    pub ordered : Ordered (segment_kind K) s.edges
    pub proper : (e : Segment C) → In e s.edges → Proper (ends_of e)
    pub few : length s.edges ≤ edge_places s.lengths

  -- which check refuses an edge from p to q with the count c: ends equal, a coordinate outside, count empty, a new edge and all places used
  abbrev pub put_refusal : Point → Point → C → Page C → Option Fault
  put_refusal p q c s =
      cond (is_eq (point_order p q)) (Some EndsEqual)
      (cond (not (in_range? p && in_range? q)) (Some CoordinateOutside)
      (cond (K.empty? c) (Some CountEmpty)
      (cond (not (listed? (edge_between p q) s.edges) && nat_le (edge_places s.lengths) (length s.edges)) (Some SheetFull) None)))

  -- the count as it is kept: inverted where the ends change places
  abbrev pub put_count : Point → Point → C → C
  put_count p q c = cond (before? q p) (K.inverse c) c

  -- what the put counts at the edge e
  abbrev pub put_counts : Point → Point → C → Edge → C
  put_counts p q c e = when K (is_eq (edge_order e (edge_between p q))) (put_count p q c)

  -- what the put brings to the point z, as it was handed in: its count at its second point, the inverse at its first
  abbrev pub put_brings : Point → Point → C → Point → C
  put_brings p q c z = K.sum (when K (is_eq (point_order z q)) c) (when K (is_eq (point_order z p)) (K.inverse c))

  -- an accepted put: the counts have grown by what it counts, the sheet is raw, and the exponent is back at its start
  pub record PutOn (p q : Point) (c : C) (s after : Page C) : Type 0 where
    pub list : List (Segment C)
    pub counting : Counting K (λ e. K.sum (count_at K e s.edges) (put_counts p q c e)) list
    pub leaves : after ≡ changed s list Raw s.start

  abbrev pub Put : Point → Point → C → Page C → Page C → Result (Unit {0}) Fault → Type 0
  Put p q c s after (Ok done) = (put_refusal p q c s ≡ None) × PutOn p q c s after
  Put p q c s after (Err f) = (put_refusal p q c s ≡ Some f) × (after ≡ s)
