-- The marks of a sheet, gathered by a finder that was shown its edges.
use Rattle.std.proofs.Common.{◌≡◌, ℕ, ◌≤◌, true, leb, ◌↔◌, List, map, length, Ok, Err, Result, sym, ◌∙◌, subst, arith, MatchResult}
use Rattle.std.proofs.lemmas.List.{length-map}
use Rattle.std.proofs.lemmas.Result.{MatchResult-weaker}
use Rattle.std.proofs.lemmas.Bool.{cond-true, le-leb}
use Rattle.plane.specs.Edges.{Edge, InSheet}
use Rattle.plane.specs.Rules.{In}
use Rattle.plane.specs.declared.fault.Fault.{Fault}
use Rattle.plane.specs.declared.fault.Fault.TheVariants.{MarksFull}
use Rattle.finder.specs.Finders.{Box, Meaning, Walk, Walks, MayCome, counted}
use Rattle.finder.specs.Boxes.{LeastBox, edges_box}
use Rattle.finder.specs.Filling.{ByNeed, FitsBelow, FullAt, Suitable, filling}
use Rattle.finder.proofs.Showing.{suitable}
use Rattle.segm.specs.Counts.{CountKind}
use Rattle.segm.specs.Segments.{ends_of}
use Rattle.segm.specs.declared.line_mark.LineMark.{LineMark}
use Rattle.segm.specs.declared.segment.Segment.{Segment}
use Rattle.rounds.specs.Marks.{MarksOf, MoreMarks, SomeRounded}
use Rattle.rounds.proofs.Apart.{ordered_distinct, segments_sheet}
use Rattle.rounds.proofs.PairMarksTold.{told_exactly, some_exactly}
use Rattle.history.specs.Rounds.{Use, Shown}
use Rattle.history.specs.Sheets.{Page, Sound, ends, mark_places}
use Rattle.history.specs.declared.answers.RoundAnswer.{RoundAnswer}
use Rattle.table.specs.declared.ordered_table.NoRoom.{NoRoom}
use Rattle.marking.specs.Gathering.{AllProper, Gathered, PairsMarked, Unpieced, finder_full, marks_full}

module _ {C : Type 0} (K : CountKind C) (u : Use) (s : Page C) (sound : Sound K s) (b : Box) where
  few : length (ends s) ≤ 4096
  few = omega (arith, length-map s.edges ends_of, sound.few)

  sheet : (e : Edge) → In e (ends s) → InSheet e
  sheet = segments_sheet K s.edges sound.proper

  fit : LeastBox (ends s) b → Suitable b (ends s)
  fit least = suitable (ends s) b least few sheet

  refused : LeastBox (ends s) b → b ≡ edges_box (ends s) → (f : Fault) → (Suitable b (ends s) → ByNeed u.need u.capacity b (ends s) (Err f)) → Unpieced u s f
  refused least value f by =
      let w = by (fit least) in
      subst (Unpieced u s) (sym w.1) (finder_full w.0 (subst (λ (c : Box). FullAt u.need u.capacity c (ends s) w.0) value w.2))

  shown : LeastBox (ends s) b → b ≡ edges_box (ends s) → (Suitable b (ends s) → ByNeed u.need u.capacity b (ends s) (Ok tt)) → Shown u s
  shown least value by =
      subst (λ (n : ℕ). FitsBelow u.need u.capacity (edges_box (ends s)) (ends s) n) (length-map s.edges ends_of)
      (subst (λ (c : Box). FitsBelow u.need u.capacity c (ends s) (length (ends s))) value (by (fit least)))

  module _ (walks : Walks) (m m' : Meaning) (is : m ≡ filling b (length (ends s)) (ends s) u.capacity) (value : b ≡ edges_box (ends s)) (room : Shown u s)
      (marks : List LineMark) (a : RoundAnswer) (h : PairsMarked walks m m' s.exponent (ends s) marks a) where
    begins : walks b (counted (length (ends s))) (ends s) h.pairs × Walk (ends s) h.pairs
    begins = subst (λ (z : Meaning). MayCome walks z h.pairs) is h.allowed

    announced : counted (length (ends s)) ≡ length s.edges
    announced = cond-true (leb (length (ends s)) 4096) _ _ (le-leb _ _ few) ∙ length-map s.edges ends_of

    listed : MarksOf s.exponent (ends s) marks
    listed = record {
      ordered = h.noted.ordered;
      each = λ x.
          let told = told_exactly s.exponent (ends s) sheet (ordered_distinct K s.edges sound.ordered) h.pairs begins.1 x in
          let held = h.noted.each x in
          (λ e. told.0 (sym held ∙ e), λ t. held ∙ told.1 t);
    }

    flagged : (a.is_rounded ≡ true) ↔ SomeRounded s.exponent (ends s)
    flagged =
        let some = some_exactly s.exponent (ends s) sheet (ordered_distinct K s.edges sound.ordered) h.pairs begins.1 in
        (λ e. some.0 (sym h.flag ∙ e), λ t. h.flag ∙ some.1 t)

    gathered : Gathered walks u s marks a
    gathered = record {
      shown = room;
      pairs = h.pairs;
      came = subst (λ (c : Box). walks c (length s.edges) (ends s) h.pairs) value (subst (λ (n : ℕ). walks b n (ends s) h.pairs) announced begins.0);
      walk = begins.1;
      taken = h.number;
      marked = listed;
      number = h.many;
      flag = flagged;
    }

  -- the finder had no room for some edge
  pub gather_refused : (xs : List (Segment C)) → s.edges ≡ xs → LeastBox (map ends_of xs) b → b ≡ edges_box (map ends_of xs)
      → (f : Fault) → (Suitable b (map ends_of xs) → ByNeed u.need u.capacity b (map ends_of xs) (Err f)) → Unpieced u s f
  gather_refused xs e =
      subst
      (λ (ys : List (Segment C)). LeastBox (map ends_of ys) b → b ≡ edges_box (map ends_of ys) → (f : Fault) → (Suitable b (map ends_of ys) → ByNeed u.need u.capacity b (map ends_of ys) (Err f)) → Unpieced u s f)
      e refused

  -- what is known of edges that a finder was shown, and of the marks of its pairs at the exponent t
  pub record NotedAll (walks : Walks) (m m' : Meaning) (marks : List LineMark) (n : ℕ) (r : Result RoundAnswer NoRoom) (xs : List (Segment C)) (t : ℕ) : Type 0 where
    pub least : LeastBox (map ends_of xs) b
    pub value : b ≡ edges_box (map ends_of xs)
    pub is : m ≡ filling b (length (map ends_of xs)) (map ends_of xs) u.capacity
    pub by_need : Suitable b (map ends_of xs) → ByNeed u.need u.capacity b (map ends_of xs) (Ok tt)
    pub noted : AllProper xs → MatchResult r (λ a. PairsMarked walks m m' t (map ends_of xs) marks a) (λ _. MoreMarks t (map ends_of xs) n)

  module _ (walks : Walks) (m m' : Meaning) (marks : List LineMark) (n : ℕ) (r : Result RoundAnswer NoRoom) where
    all_gathered : n ≡ mark_places s.lengths → NotedAll walks m m' marks n r s.edges s.exponent → MatchResult r (λ a. Gathered walks u s marks a) (λ _. Unpieced u s MarksFull)
    all_gathered is h =
        let room = shown h.least h.value h.by_need in
        MatchResult-weaker r (h.noted sound.proper)
        (λ a w. gathered walks m m' h.is h.value room marks a w)
        (λ _ w. marks_full room (subst (MoreMarks s.exponent (ends s)) is w))

    pub gather_done : (xs : List (Segment C)) (t : ℕ) → s.edges ≡ xs → s.exponent ≡ t → n ≡ mark_places s.lengths
        → NotedAll walks m m' marks n r xs t → MatchResult r (λ a. Gathered walks u s marks a) (λ _. Unpieced u s MarksFull)
    gather_done xs t e p is h =
        all_gathered is (subst (NotedAll walks m m' marks n r s.edges) (sym p) (subst (λ (ys : List (Segment C)). NotedAll walks m m' marks n r ys t) (sym e) h))
