-- The open points of segments: those whose balance is not empty.
use Rattle.std.specs.Prelude.{◌≡◌, ℕ, Bool, false, not, ◌||◌, List, [], ◌∷◌, length}
use Rattle.std.specs.Ordering.{is_eq}
use Rattle.std.specs.List.{AllByRecursion}
use Rattle.plane.specs.Points.{Point, ◌≺◌}
use Rattle.segm.specs.Counts.{CountKind}
use Rattle.segm.specs.Orders.{point_order}
use Rattle.segm.specs.Balance.{balance}
use Rattle.segm.specs.declared.segment.Segment.{Segment}

-- each point comes before all that follow it
abbrev pub Rising : List Point → Type 0
Rising [] = Unit {0}
Rising (p ∷ l) = AllByRecursion (λ q. p ≺ q) l × Rising l

abbrev pub listed? : List Point → Point → Bool
listed? [] p = false
listed? (q ∷ l) p = is_eq (point_order p q) || listed? l p

module _ {C : Type 0} (K : CountKind C) where
  -- just n points are open: a list in strict order holds them, and no others
  pub record Open (l : List (Segment C)) (n : ℕ) : Type 0 where
    pub points : List Point
    pub rising : Rising points
    pub just : (p : Point) → listed? points p ≡ not (K.empty? (balance K p l))
    pub many : length points ≡ n

  -- there is one such number
  abbrev pub OpenDetermines : Type 0
  OpenDetermines = (l : List (Segment C)) (m n : ℕ) → Open l m → Open l n → m ≡ n
