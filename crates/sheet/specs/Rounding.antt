-- What one round does to the tables of a sheet.
use Rattle.std.specs.Prelude.{◌≡◌, ℕ, List, length}
use Rattle.table.specs.Contents.{Content, records}
use Rattle.finder.specs.Boxes.{edges_box}
use Rattle.finder.specs.Finders.{Pair, Walks}
use Rattle.segm.specs.Counts.{CountKind}
use Rattle.segm.specs.declared.line_mark.LineMark.{LineMark}
use Rattle.segm.specs.declared.segment.Segment.{Segment}
use Rattle.history.specs.Rounds.{state_after, exponent_after}
use Rattle.history.specs.Sheets.{Page, ends, changed, edge_places, Sound}
use Rattle.history.specs.declared.answers.RoundAnswer.{RoundAnswer}

module _ {C : Type 0} where
  -- the sheet after a round with this answer, with these edges
  abbrev pub page_after : Page C → List (Segment C) → RoundAnswer → Page C
  page_after s l a = changed s l (state_after a.marks a.is_rounded) (exponent_after a.marks s.exponent s.step)

  -- the pairs of a walk that the finder may give were taken, as many as answered
  pub record Came (walks : Walks) (s : Page C) (a : RoundAnswer) : Type 0 where
    pub pairs : List Pair
    pub allowed : walks (edges_box (ends s)) (length s.edges) (ends s) pairs
    pub number : a.pairs ≡ length pairs

module _ {C : Type 0} (K : CountKind C) where
  -- the sheet s lies in the tables: its edges are the records of one, the other has none, and there are as many places as it has
  pub record Lies (s : Page C) (edges spare : Content (Segment C)) (marks : List LineMark) (e : ℕ) : Type 0 where
    pub sound : Sound K s
    pub listed : s.edges ≡ records edges
    pub emptied : spare.used ≡ 0
    pub edge_room : edges.room ≡ edge_places s.lengths
    pub spare_room : spare.room ≡ edge_places s.lengths
    pub edge_length : length edges.places ≡ s.lengths.edges
    pub spare_length : length spare.places ≡ s.lengths.spare
    pub mark_length : length marks ≡ s.lengths.marks
    pub exponent : e ≡ s.exponent
