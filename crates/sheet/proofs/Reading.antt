-- What a reading of one edge answers.
use Rattle.std.proofs.Common.{◌≡◌, ℕ, ◌<◌, ◌≤◌, length, get_or, Some, None, Option, MatchOption, refl}
use Rattle.std.specs.Option.{ok_or}
use Rattle.plane.specs.declared.fault.Fault.TheVariants.{NoSuchEdge}
use Rattle.segm.specs.declared.segment.Segment.{Segment}
use Rattle.history.specs.Histories.{EdgeRead}
use Rattle.history.specs.Sheets.{Page}

pub edge_read : {C : Type 0} (i : ℕ) (s : Page C) (o : Option (Segment C)) → MatchOption o (length s.edges ≤ i) (λ x. (i < length s.edges) × (x ≡ get_or s.edges i x)) → EdgeRead i s (ok_or o NoSuchEdge)
edge_read i s None h = (refl, h)
edge_read i s (Some x) h = h
