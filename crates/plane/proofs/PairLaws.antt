-- All laws of a crossing, for two edges that are what their type promises.
use Rattle.std.proofs.Common.{ℕ}
use Rattle.plane.specs.Edges.{Edge}
use Rattle.plane.specs.Laws.{TouchIsMarked, InnerPoint, NearestPoint, RoundedExactly, ExactMarks, Snaps, MarksInside, MarksRanged, TargetSlants}
use Rattle.plane.specs.Models.{edge_of}
use Rattle.plane.specs.declared.x_segment.XSegment.{XSegment}
use Rattle.plane.proofs.EdgeOf.{proper_of, sheet_of}
use Rattle.plane.proofs.Touching as touching
use Rattle.plane.proofs.CrossingLaws as laws

pub record PairLaws (e g : Edge) (s : ℕ) : Type 0 where
  pub touch_is_marked : TouchIsMarked e g s
  pub inner_point : InnerPoint e g
  pub nearest_point : NearestPoint e g
  pub rounded_exactly : RoundedExactly e g s
  pub exact_marks : ExactMarks e g s × ExactMarks g e s
  pub snaps : Snaps e g s
  pub marks_inside : MarksInside e g s × MarksInside g e s
  pub marks_ranged : MarksRanged e g s × MarksRanged g e s
  pub target_slants : TargetSlants e g

pub pair_laws : (x y : XSegment) (s : ℕ) → PairLaws (edge_of x) (edge_of y) s
pair_laws x y s =
    let e = edge_of x in
    let g = edge_of y in
    let pe = proper_of x in
    let pg = proper_of y in
    record {
      touch_is_marked = touching.touch_is_marked e g s pe pg;
      inner_point = touching.inner_point e g pe pg;
      nearest_point = laws.nearest_point e g pe pg;
      rounded_exactly = laws.rounded_exactly e g s pe pg;
      exact_marks = (laws.exact_marks e g s pe pg, laws.exact_marks g e s pg pe);
      snaps = laws.snaps e g s pe pg;
      marks_inside = (laws.marks_inside e g s pe pg, laws.marks_inside g e s pg pe);
      marks_ranged = (laws.marks_ranged e g s (sheet_of x) (sheet_of y), laws.marks_ranged g e s (sheet_of y) (sheet_of x));
      target_slants = touching.target_slants e g pe pg;
    }
