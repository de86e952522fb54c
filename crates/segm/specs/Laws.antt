-- What a segment that comes to a list in order makes of its counts.
use Rattle.std.specs.Prelude.{◌≡◌, List}
use Rattle.plane.specs.Points.{Point}
use Rattle.plane.specs.Edges.{Edge}
use Rattle.segm.specs.Counts.{CountKind}
use Rattle.segm.specs.Balance.{counts, brings, count_at, balance, Counting, counted}
use Rattle.segm.specs.declared.segment.Segment.{Segment}

module _ {C : Type 0} (K : CountKind C) where
  -- s came to l, which then is m
  pub record Adds (s : Segment C) (l m : List (Segment C)) : Type 0 where
    -- the count of every edge grows by what s counts there
    pub counts_grow : (e : Edge) → count_at K e m ≡ K.sum (count_at K e l) (counts K e s)
    -- the balance of every point grows by what s brings there
    pub balance_grows : (p : Point) → balance K p m ≡ K.sum (balance K p l) (brings K p s)
    -- a list of a count function is then one of the function with s
    pub still_counting : (f : Edge → C) → Counting K f l → Counting K (counted K s f) m

  -- a count function has one list
  abbrev pub CountsDetermine : Type 0
  CountsDetermine = (f : Edge → C) (l m : List (Segment C)) → Counting K f l → Counting K f m → l ≡ m
