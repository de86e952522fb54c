-- Puts and rounds leave a sheet in order, with proper edges, and within its places.
use Rattle.std.proofs.Common.{◌≡◌, ℕ, zero, suc, ◌+◌, ◌<◌, ◌≤◌, Bool, true, false, not, ◌&&◌, ◌||◌, leb, ◌≢◌, ◌⊎◌, List, [], ◌∷◌, map, length, Ok, Err, Result, Less, sym, refl, ap, ◌∙◌, subst, inl, inr, arith}
use mathlib.Core.Bool.{Bool-set}
use mathlib.Core.Logic.{∥∥₁_elim}
use lib.ListN.{length-map}
use Rattle.std.specs.Ordering.{is_eq}
use Rattle.std.specs.List.{AllByRecursion}
use Rattle.std.proofs.ByRecursion.{All-get_or, All-map}
use Rattle.std.proofs.lemmas.Bool.{both_ways, leb-false}
use Rattle.table.specs.Listings.{Ascending, Ordered}
use Rattle.plane.specs.Points.{Point, before?}
use Rattle.plane.specs.Edges.{Edge, Proper}
use Rattle.plane.specs.Models.{edge_between}
use Rattle.plane.specs.Rules.{In}
use Rattle.plane.specs.declared.fault.Fault.{Fault}
use Rattle.plane.proofs.Tests.{before_yes, before_true}
use Rattle.finder.specs.Finders.{blank_edge, edge_at}
use Rattle.segm.specs.Counts.{CountKind}
use Rattle.segm.specs.Orders.{edge_order}
use Rattle.segm.specs.Segments.{ends_of}
use Rattle.segm.specs.SegmentKind.{segment_kind, edge_itself}
use Rattle.segm.specs.Balance.{counts, count_at, Counting}
use Rattle.segm.specs.declared.segment.Segment.{Segment}
use Rattle.rounds.specs.Pieces.{cut_from}
use Rattle.history.specs.Sheets.{Page, Lengths, opening, edge_places, ends, listed?, Sound, Put}
use Rattle.history.specs.Rounds.{Use, RoundDone, Rounds, outside, broke}
use Rattle.history.specs.Histories.{Call, Answer, Entry, Leaves, History, opened, called}
use Rattle.history.specs.Histories.Call.{put, round, run, read_number, read_edge, read_state}
use Rattle.history.specs.declared.answers.RoundAnswer.{RoundAnswer}
use Rattle.history.proofs.Facts.{Facts}
use Rattle.history.proofs.Puts.{Accepted, accepted, put_segment, put_ends, put_counting, between_proper}

-- ---- places of a list in order
module _ {C : Type 0} (K : CountKind C) where
  -- what holds of all edges holds of the one at a place
  all_at : (P : Edge → Type 0) (l : List (Segment C)) (i : ℕ) → i < length l → AllByRecursion (λ s. P (ends_of s)) l → P (edge_at (map ends_of l) i)
  all_at P l i lt h = All-get_or P (map ends_of l) i blank_edge (omega (arith, length-map l ends_of)) (All-map P ends_of l h)

  ascending_at : (l : List (Segment C)) → Ascending (segment_kind K) l → (i j : ℕ) → i < j → j < length l
      → edge_order (edge_at (map ends_of l) i) (edge_at (map ends_of l) j) ≡ Less
  ascending_at [] h i j lt lj = absurd (omega arith)
  ascending_at (s ∷ l) h i zero lt lj = absurd (omega arith)
  ascending_at (s ∷ l) h zero (suc j) lt lj = all_at (λ e. edge_order (ends_of s) e ≡ Less) l j (omega arith) h.0
  ascending_at (s ∷ l) h (suc i) (suc j) lt lj = ascending_at l h.1 i j (omega arith) (omega arith)

  pub distinct_ends : (l : List (Segment C)) → Ordered (segment_kind K) l → (i j : ℕ) → i < j → j < length l
      → edge_at (map ends_of l) i ≢ edge_at (map ends_of l) j
  distinct_ends l o i j lt lj e =
      let less = ascending_at l o.ascending i j lt lj in
      let same = ap (λ (x : Edge). edge_order x (edge_at (map ends_of l) j)) e ∙ edge_itself (edge_at (map ends_of l) j) in
      let z : ◌≡◌ {A = ℕ} 0 1 = cc (less, same) in
      omega arith

-- ---- puts
-- edges with the ends of a proper edge are proper, also where that edge is only known to be there
proper_from : {X : Type 0} (e : Edge) → ∥ X ∥₁ → (X → Proper e) → Proper e
proper_from e t f = before_yes e.a e.b (∥∥₁_elim t (Bool-set (before? e.a e.b) true) (λ x. before_true e.a e.b (f x)))

listed_in : {C : Type 0} (e : Edge) (l : List (Segment C)) → listed? e l ≡ true → (x : Segment C) × In x l × (is_eq (edge_order e (ends_of x)) ≡ true)
listed_in e [] h = absurd (both_ways false refl h)
listed_in e (s ∷ l) h = go (is_eq (edge_order e (ends_of s))) refl (λ r. listed_in e l r) h
  where
    go : (b : Bool) → is_eq (edge_order e (ends_of s)) ≡ b → (listed? e l ≡ true → (x : Segment _) × In x l × (is_eq (edge_order e (ends_of x)) ≡ true)) → (b || listed? e l) ≡ true
        → (x : Segment _) × In x (s ∷ l) × (is_eq (edge_order e (ends_of x)) ≡ true)
    go true is f r = (s, inl refl, is)
    go false is f r = let x = f r in (x.0, inr x.1, x.2)

module _ {C : Type 0} (K : CountKind C) (facts : Facts K) where
  pub put_sound : (p q : Point) (c : C) (s after : Page C) (a : Result (Unit {0}) Fault) → Sound K s → Put K p q c s after a → Sound K after
  put_sound p q c s after (Err f) ok h = subst (Sound K) (sym h.1) ok
  put_sound p q c s after (Ok done) ok h = subst (Sound K) (sym h.1.leaves) (record { ordered = h.1.counting.ordered; proper = proper; few = few })
    where
      is : Accepted p q s
      is = accepted K p q c s h.0

      g : Segment C
      g = put_segment K p q c is.first is.second

      ends_are : ends_of g ≡ edge_between p q
      ends_are = put_ends K p q c is.first is.second

      grown : Counting K (λ e. K.sum (count_at K e s.edges) (counts K e g)) h.1.list
      grown = put_counting K p q c is.first is.second s.edges h.1.list h.1.counting

      known : (e : Edge) → ((x : Segment C) × In x s.edges × (e ≡ ends_of x)) ⊎ (e ≡ ends_of g) → Proper e
      known e (inl x) = subst Proper (sym x.2) (ok.proper x.0 x.1)
      known e (inr i) = subst Proper (sym (i ∙ ends_are)) (between_proper p q is.apart)

      proper : (e : Segment C) → In e h.1.list → Proper (ends_of e)
      proper e i = proper_from (ends_of e) (facts.put_from s.edges h.1.list g ok.ordered grown e i) (known (ends_of e))

      count : (b : Bool) → listed? (edge_between p q) s.edges ≡ b → (not b && leb (edge_places s.lengths) (length s.edges)) ≡ false → length h.1.list ≤ edge_places s.lengths
      count true e r =
          let x = listed_in (edge_between p q) s.edges e in
          omega (arith, ok.few, facts.put_no_more s.edges h.1.list g ok.ordered grown x.0 x.1 (ap (λ (y : Edge). is_eq (edge_order y (ends_of x.0))) ends_are ∙ x.2))
      count false e r = omega (arith, facts.put_few s.edges h.1.list g ok.ordered grown, leb-false (edge_places s.lengths) (length s.edges) r)

      few : length h.1.list ≤ edge_places s.lengths
      few = count (listed? (edge_between p q) s.edges) refl is.roomy

  -- ---- rounds
  pub round_sound : (u : Use) (s after : Page C) (a : RoundAnswer) → Sound K s → RoundDone K u s after a → Sound K after
  round_sound u s after a ok d = subst (Sound K) (sym d.leaves) (record { ordered = d.cut.ordered; proper = proper; few = few })
    where
      ps : List (Segment C)
      ps = cut_from K 0 d.marks s.edges

      proper : (e : Segment C) → In e d.list → Proper (ends_of e)
      proper e i = proper_from (ends_of e) (facts.list_from ps d.list d.cut e i) (λ w. subst Proper (sym w.2) (facts.pieces_proper s.exponent d.marks s.edges ok.proper d.marked w.0 w.1))

      number : length ps ≡ length s.edges + length d.marks
      number = facts.pieces_number d.marks s.edges (λ m i. subst (λ n. m.index < n) (length-map s.edges ends_of) (facts.marks_below s.exponent (ends s) d.marks d.marked m i))

      few : length d.list ≤ edge_places s.lengths
      few = omega (arith, facts.list_few ps d.list d.cut, number, d.pieces_fit)

  pub rounds_sound : (u : Use) (n : ℕ) (b : Bool) (s after : Page C) → Sound K s → Rounds K u n b s after → Sound K after
  rounds_sound u zero b s after ok r = subst (Sound K) (sym r.1) ok
  rounds_sound u (suc n) b s after ok r = round_sound u r.0 after r.2 (rounds_sound u n r.1 s r.0 ok r.3) r.5

  -- ---- histories
  pub step_sound : (w : Call C) (u : Use) (s after : Page C) (a : Answer w) → Sound K s → Leaves K w u s after a → Sound K after
  step_sound (put p q c) u s after a ok l = put_sound p q c s after a ok l
  step_sound round u s after (Ok a) ok l = round_sound u s after a ok l
  step_sound round u s after (Err f) ok l = subst (Sound K) (sym l.0) ok
  step_sound (run n) u s after (Ok a) ok l = rounds_sound u a.rounds a.has_marks s after ok l.1.rounds
  step_sound (run n) u s after (Err f) ok (outside _ same _ _) = subst (Sound K) (sym same) ok
  step_sound (run n) u s after (Err f) ok (broke _ x) = rounds_sound u f.rounds x.marked s after ok x.rounds
  step_sound read_number u s after a ok l = subst (Sound K) (sym l.0) ok
  step_sound (read_edge i) u s after a ok l = subst (Sound K) (sym l.0) ok
  step_sound read_state u s after a ok l = subst (Sound K) (sym l.0) ok

  pub opening_sound : (n : Lengths) (start step : ℕ) → Sound K (opening n start step)
  opening_sound n start step = record { ordered = record { ascending = tt; filled = tt }; proper = λ e i. absurd i; few = omega arith }

  pub history_sound : {n : Lengths} {start step : ℕ} {ws : List (Call C)} {es : List (Entry C)} {s : Page C} → History K n start step ws es s → Sound K s
  history_sound {n} {start} {step} opened = opening_sound n start step
  history_sound (called {s} h w u a after l) = step_sound w u s after a (history_sound h) l
