-- Segments as records of a table, with the proofs of the laws: the key is both ends, and equal edges add their counts.
use Rattle.std.specs.Prelude.{◌≡◌, true}
use Rattle.std.specs.declared.cmp.Ordering.TheVariants.{Equal}
use Rattle.std.proofs.Common.{ap, ◌∙◌}
use Rattle.table.specs.Records.{RecordKind}
use Rattle.table.proofs.Orders.{balanced}
use Rattle.plane.specs.Edges.{Edge}
use Rattle.segm.specs.Counts.{CountKind}
use Rattle.segm.specs.Orders.{edge_order}
use Rattle.segm.specs.OrderLaws.{same_point, equal_edges, edge_total}
use Rattle.segm.specs.Segments.{ends_of, joined_segment, blank_segment}
use Rattle.segm.specs.declared.segment.Segment.{Segment}

pub edge_itself : (e : Edge) → edge_order e e ≡ Equal
edge_itself e = balanced (edge_order e e) (edge_total.antisymm e e)

module _ {C : Type 0} (K : CountKind C) where
  pub joined_comm : (s t : Segment C) → edge_order (ends_of s) (ends_of t) ≡ Equal → joined_segment K s t ≡ joined_segment K t s
  joined_comm s t e = let h = equal_edges (ends_of s) (ends_of t) e in λ i. record {
    a = same_point s.a t.a (ap (λ (e : Edge). e.a) h) i;
    b = same_point s.b t.b (ap (λ (e : Edge). e.b) h) i;
    count = K.comm s.count t.count i;
  }

  pub joined_assoc : (s t u : Segment C) → joined_segment K (joined_segment K s t) u ≡ joined_segment K s (joined_segment K t u)
  joined_assoc s t u = λ i. record { a = s.a; b = s.b; count = K.assoc s.count t.count u.count i }

  pub joined_empty : (s t : Segment C) → K.empty? t.count ≡ true → joined_segment K s t ≡ s
  joined_empty s t e = λ i. record { a = s.a; b = s.b; count = (ap (K.sum s.count) (K.empty_neutral t.count e) ∙ K.identity s.count) i }

  abbrev pub segment_kind : RecordKind (Segment C)
  segment_kind = record {
    order = λ s t. edge_order (ends_of s) (ends_of t);
    joined = joined_segment K;
    empty? = λ s. K.empty? s.count;
    blank = blank_segment K;
    flip = λ s t. edge_total.antisymm (ends_of s) (ends_of t);
    trans = λ s t u. edge_total.trans (ends_of s) (ends_of t) (ends_of u);
    alike = λ s t u. edge_total.congr (ends_of s) (ends_of t) (ends_of u);
    keeps = λ s t e. edge_itself (ends_of s);
    comm = joined_comm;
    assoc = λ s t u e h. joined_assoc s t u;
    neutral = λ s t e h. joined_empty s t h;
  }
