-- A segment that came to a table in order adds its count.
use Rattle.std.proofs.Common.{IfOk, Ok, Err, Result, refl, ap, ◌∙◌}
use Rattle.table.specs.Listings.{Ordered, record_at}
use Rattle.table.specs.Contents.{Content, records, Came, Answers}
use Rattle.plane.specs.Edges.{Edge}
use Rattle.segm.specs.Counts.{CountKind}
use Rattle.segm.specs.SegmentKind.{segment_kind}
use Rattle.segm.specs.Balance.{counts, brings}
use Rattle.segm.specs.Laws.{Adds}
use Rattle.segm.specs.declared.segment.Segment.{Segment}
use Rattle.segm.proofs.Brings.{brings_joined, brings_empty, counts_joined, counts_empty}
use Rattle.segm.proofs.Totals.{total_listing}

module _ {C : Type 0} (K : CountKind C) (s : Segment C) (before after : Content (Segment C)) where
  pub came_adds : Ordered (segment_kind K) (records before) → Came (segment_kind K) s before after → Adds K s (records before) (records after)
  came_adds o h =
      let l = h.listed (record_at (segment_kind K) (records before)) (record { ordered = o; each = λ k. refl }) in
      let grows = λ (e : Edge). total_listing K (segment_kind K) (counts K e) (counts_joined K e) (counts_empty K e) s (records before) (records after) o l in
      record {
        counts_grow = grows;
        balance_grows = λ p. total_listing K (segment_kind K) (brings K p) (brings_joined K p) (brings_empty K p) s (records before) (records after) o l;
        still_counting = λ f q. record { ordered = l.ordered; each = λ e. grows e ∙ ap (λ c. K.sum c (counts K e s)) (q.each e) };
      }

  pub joined_adds : {T E : Type 0} (a : Result T E) → Answers (segment_kind K) s before after a
      → Ordered (segment_kind K) (records before) → IfOk a (λ _. Adds K s (records before) (records after))
  joined_adds (Ok x) h o = came_adds o h
  joined_adds (Err e) h o = tt
