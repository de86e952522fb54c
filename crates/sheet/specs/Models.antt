-- The sheet that the fields of the code stand for, and what a call does to it.
use Rattle.std.specs.Prelude.{◌≡◌, ℕ, cond, not, ◌&&◌, List, length, Some, None, Ok, Err, Option, Result}
use Rattle.table.specs.Contents.{Content, records}
use Rattle.table.specs.Tables.{content_of}
use Rattle.std.specs.Ordering.{is_eq}
use Rattle.plane.specs.Points.{Point}
use Rattle.plane.specs.Models.{edge_between}
use Rattle.plane.specs.declared.fault.Fault.{Fault}
use Rattle.plane.specs.declared.fault.Fault.TheVariants.{EndsEqual, CoordinateOutside, CountEmpty}
use Rattle.finder.specs.Finders.{in_range?}
use Rattle.segm.specs.Counts.{CountKind}
use Rattle.segm.specs.Orders.{point_order}
use Rattle.segm.specs.Segments.{ends_of}
use Rattle.segm.specs.declared.line_mark.LineMark.{LineMark}
use Rattle.segm.specs.declared.segment.Segment.{Segment}
use Rattle.segm.specs.declared.winding.WindingCount.{Ghosts}
use Rattle.table.specs.declared.keyed.Keyed.{Ghosts as Keys}
use Rattle.history.specs.Histories.{Call, Answer, Leaves}
use Rattle.history.specs.Rounds.{Use}
use Rattle.history.specs.Sheets.{Page, Tables, Sound, tables_of, put_count}
use Rattle.history.specs.declared.sheet_state.SheetState.{SheetState}
use Rattle.sheet.specs.declared.sheet.Sheet.{Sheet}

module _ {C : Type 0} where
  -- the sheet over two tables of edges and places for marks
  abbrev pub page_in : Content (Segment C) → Content (Segment C) → List LineMark → SheetState → ℕ → ℕ → ℕ → Page C
  page_in edges spare marks state e start step = record {
    edges = records edges;
    state = state;
    exponent = e;
    start = start;
    step = step;
    lengths = record { edges = length edges.places; spare = length spare.places; marks = length marks };
  }

module _ {C : Type 0} {W : Ghosts C} {G : Keys (Segment C)} where
  abbrev pub page_of : Sheet C W G → Page C
  page_of s = page_in (content_of s.edges) (content_of s.spare) s.marks.now s.state s.radius.current s.start s.radius.step

  abbrev pub tables_in : Sheet C W G → Tables C
  tables_in s = record { edges = (content_of s.edges).places; spare = (content_of s.spare).places; marks = s.marks.now }

module _ {C : Type 0} {W : Ghosts C} {G : Keys (Segment C)} (K : CountKind C) where
  -- the edges of a sheet are in order, and all else in its tables is blank
  pub record Held (s : Sheet C W G) : Type 0 where
    pub sound : Sound K (page_of s)
    pub tables : tables_in s ≡ tables_of K (page_of s)

  -- a call on a sheet leaves and answers what the rules lay down, and leaves the sheet held
  abbrev pub Does : (w : Call C) → Use → Sheet C W G → Sheet C W G → Answer w → Type 0
  Does w u before after a = Held after × Leaves K w u (page_of before) (page_of after) a

module _ {C : Type 0} (K : CountKind C) where
  -- the refusal of a put by the checks that do not look at the sheet
  abbrev pub early_refusal : Point → Point → C → Option Fault
  early_refusal p q c =
      cond (is_eq (point_order p q)) (Some EndsEqual)
      (cond (not (in_range? p && in_range? q)) (Some CoordinateOutside)
      (cond (K.empty? c) (Some CountEmpty) None))

  -- the segment of a put, or its refusal
  abbrev pub Directed : Point → Point → C → Result (Segment C) Fault → Type 0
  Directed p q c (Ok s) = (early_refusal p q c ≡ None) × (ends_of s ≡ edge_between p q) × (s.count ≡ put_count K p q c)
  Directed p q c (Err f) = early_refusal p q c ≡ Some f
