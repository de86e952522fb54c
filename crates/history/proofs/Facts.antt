-- What the laws over histories rest on: facts about one round, and about one put.
use Rattle.std.proofs.Common.{◌≡◌, ℕ, suc, ◌+◌, ◌<◌, ◌≤◌, true, ◌≢◌, ◌⊎◌, List, [], map, length}
use Rattle.std.specs.Ordering.{is_eq}
use Rattle.table.specs.Listings.{Ordered}
use Rattle.plane.specs.Points.{Point}
use Rattle.plane.specs.Edges.{Edge, Proper, InSheet}
use Rattle.plane.specs.Fractions.{Touch}
use Rattle.plane.specs.Rules.{In}
use Rattle.finder.specs.Finders.{edge_at}
use Rattle.segm.specs.Counts.{CountKind}
use Rattle.segm.specs.Orders.{edge_order}
use Rattle.segm.specs.Segments.{ends_of}
use Rattle.segm.specs.SegmentKind.{segment_kind}
use Rattle.segm.specs.Balance.{counts, brings, count_at, balance, Counting}
use Rattle.segm.specs.Laws.{CountsDetermine}
use Rattle.segm.specs.declared.line_mark.LineMark.{LineMark}
use Rattle.segm.specs.declared.segment.Segment.{Segment}
use Rattle.rounds.specs.Marks.{MarksOf, MoreMarks, SomeRounded}
use Rattle.rounds.specs.Pieces.{cut_from, CutList}

module _ {C : Type 0} where
  -- each first end comes before its second
  abbrev pub AllProper : List (Segment C) → Type 0
  AllProper l = (e : Segment C) → In e l → Proper (ends_of e)

  -- each edge of l has the ends of some edge of ps
  abbrev pub From : List (Segment C) → List (Segment C) → Type 0
  From ps l = (e : Segment C) → In e l → ∥ ((p : Segment C) × In p ps × (ends_of e ≡ ends_of p)) ∥₁

module _ {C : Type 0} (K : CountKind C) where
  pub record Facts : Type 0 where
    pub round_balance : (ms : List LineMark) (l after : List (Segment C)) → CutList K ms l after → (z : Point) → balance K z after ≡ balance K z l
    pub list_few : (ps l : List (Segment C)) → Counting K (λ e. count_at K e ps) l → length l ≤ length ps
    pub list_from : (ps l : List (Segment C)) → Counting K (λ e. count_at K e ps) l → From ps l
    pub pieces_number : (ms : List LineMark) (l : List (Segment C)) → ((m : LineMark) → In m ms → m.index < length l) → length (cut_from K 0 ms l) ≡ length l + length ms
    pub marks_below : (s : ℕ) (es : List Edge) (ms : List LineMark) → MarksOf s es ms → (m : LineMark) → In m ms → m.index < length es
    pub marks_unique : (s : ℕ) (es : List Edge) (ms ns : List LineMark) → MarksOf s es ms → MarksOf s es ns → ms ≡ ns
    pub marks_more : (s : ℕ) (es : List Edge) (ms : List LineMark) (n : ℕ) → MarksOf s es ms → MoreMarks s es n → n < length ms
    pub pieces_proper : (s : ℕ) (ms : List LineMark) (l : List (Segment C)) → AllProper l → MarksOf s (map ends_of l) ms
        → AllProper (cut_from K 0 ms l)
    pub uncut : (i : ℕ) (l : List (Segment C)) → AllProper l → cut_from K i [] l ≡ l
    pub none_marked_apart : (s : ℕ) (es : List Edge) → ((e : Edge) → In e es → InSheet e) → ((i j : ℕ) → i < j → j < length es → edge_at es i ≢ edge_at es j)
        → MarksOf s es [] → (i j : ℕ) → i < j → j < length es → ¬ Touch (edge_at es i) (edge_at es j)
    pub list_apart : (s : ℕ) (l after : List (Segment C)) (ms : List LineMark) → Ordered (segment_kind K) l → AllProper l
        → MarksOf s (map ends_of l) ms → ¬ SomeRounded s (map ends_of l)
        → From (cut_from K 0 ms l) after
        → Ordered (segment_kind K) after
        → (i j : ℕ) → i < j → j < length after → ¬ Touch (edge_at (map ends_of after) i) (edge_at (map ends_of after) j)
    pub put_balance : (l m : List (Segment C)) (g : Segment C) → Ordered (segment_kind K) l → Counting K (λ e. K.sum (count_at K e l) (counts K e g)) m
        → (z : Point) → balance K z m ≡ K.sum (balance K z l) (brings K z g)
    pub put_few : (l m : List (Segment C)) (g : Segment C) → Ordered (segment_kind K) l → Counting K (λ e. K.sum (count_at K e l) (counts K e g)) m
        → length m ≤ suc (length l)
    pub put_no_more : (l m : List (Segment C)) (g : Segment C) → Ordered (segment_kind K) l → Counting K (λ e. K.sum (count_at K e l) (counts K e g)) m
        → (x : Segment C) → In x l → is_eq (edge_order (ends_of g) (ends_of x)) ≡ true → length m ≤ length l
    pub put_from : (l m : List (Segment C)) (g : Segment C) → Ordered (segment_kind K) l → Counting K (λ e. K.sum (count_at K e l) (counts K e g)) m
        → (e : Segment C) → In e m → ∥ (((x : Segment C) × In x l × (ends_of e ≡ ends_of x)) ⊎ (ends_of e ≡ ends_of g)) ∥₁
    pub counts_determine : CountsDetermine K
