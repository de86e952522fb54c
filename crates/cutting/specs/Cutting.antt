-- A table that pieces are joined into.
use Rattle.std.specs.Prelude.{◌≡◌, ℕ, ◌+◌, ◌<◌, ◌≤◌, List, ◌++◌, length, take, Result, MatchResult}
use Rattle.table.specs.Contents.{Content, content, records, BlankBehind}
use Rattle.plane.specs.declared.fault.Fault.{Fault}
use Rattle.plane.specs.declared.fault.Fault.TheVariants.{PiecesFull}
use Rattle.plane.specs.declared.int_point.IntPoint.{IntPoint}
use Rattle.segm.specs.Counts.{CountKind}
use Rattle.segm.specs.Balance.{count_at, Counting}
use Rattle.segm.specs.SegmentKind.{segment_kind}
use Rattle.segm.specs.declared.line_mark.LineMark.{LineMark}
use Rattle.segm.specs.declared.segment.Segment.{Segment}

abbrev pub point_at : LineMark → IntPoint
point_at m = m.point

-- the room and the number of places stay
pub record Keeps {R : Type 0} (before after : Content R) : Type 0 where
  pub room : after.room ≡ before.room
  pub long : length after.places ≡ length before.places

module _ {C : Type 0} (K : CountKind C) where
  -- the records of a table list the counts of the pieces ps
  pub record Pieced (ps : List (Segment C)) (t : Content (Segment C)) : Type 0 where
    pub counting : Counting K (λ e. count_at K e ps) (records t)

  -- more pieces were joined into a table that listed some; it is refused only where all of them are more than the room
  abbrev pub Brings : {T : Type 0} → List (Segment C) → Content (Segment C) → Content (Segment C) → Result T Fault → Type 0
  Brings more before after r = (ps : List (Segment C)) → Pieced ps before
      → MatchResult r (λ _. Pieced (ps ++ more) after × (after.room ≡ before.room) × (length after.places ≡ length before.places)) (λ f. (f ≡ PiecesFull) × (before.room < length ps + length more))

  -- the same of one step: more pieces were joined
  pub record Joined (more : List (Segment C)) (before after : Content (Segment C)) : Type 0 where
    pub pieced : (ps : List (Segment C)) → Pieced ps before → Pieced (ps ++ more) after
    pub kept : Keeps before after

  -- and here there was no room for all of them
  pub record Crowded (more : List (Segment C)) (before after : Content (Segment C)) (f : Fault) : Type 0 where
    pub told : f ≡ PiecesFull
    pub many : (ps : List (Segment C)) → Pieced ps before → before.room < length ps + length more
    pub kept : Keeps before after

  abbrev pub Joins : {T : Type 0} → List (Segment C) → Content (Segment C) → Content (Segment C) → Result T Fault → Type 0
  Joins more before after r = MatchResult r (λ _. Joined more before after) (Crowded more before after)

  -- the first n places of a slice list the counts of the pieces ps, and all others are blank
  pub record PiecedIn (ps : List (Segment C)) (room : ℕ) (table : List (Segment C)) (n : ℕ) : Type 0 where
    pub counting : Counting K (λ e. count_at K e ps) (take n table)
    pub fits : n ≤ room
    pub roomy : room ≤ length table
    pub blank : BlankBehind (segment_kind K) (content table n room)

  -- more pieces were joined into a slice that listed some; it is refused only where all of them are more than the room
  abbrev pub BringsIn : List (Segment C) → ℕ → List (Segment C) → ℕ → List (Segment C) → Result ℕ Fault → Type 0
  BringsIn more room before n after r = (ps : List (Segment C)) → PiecedIn ps room before n
      → MatchResult r (λ m. PiecedIn (ps ++ more) room after m) (λ f. (f ≡ PiecesFull) × (room < length ps + length more))
