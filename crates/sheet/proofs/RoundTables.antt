-- A round over the tables, from the marks that were gathered and the pieces that were joined.
use Rattle.std.proofs.Common.{◌≡◌, ℕ, ◌+◌, ◌<◌, ◌≤◌, false, leb, List, [], ◌∷◌, ◌++◌, ◌-◌, length, take, drop, replicate, sym, refl, ap, ◌∙◌, subst, arith}
use lib.ListN.{length-map, length-replicate}
use Rattle.std.proofs.lemmas.List.{length-take-le, drop-replicate, replicate-append-replicate}
use Rattle.std.proofs.lemmas.Bool.{leb-false}
use Rattle.table.specs.Contents as table
use Rattle.table.specs.Contents.{Content, TookOver, records}
use Rattle.plane.specs.Rules.{In}
use Rattle.plane.specs.declared.fault.Fault.{Fault}
use Rattle.plane.specs.declared.fault.Fault.TheVariants.{PiecesFull}
use Rattle.finder.specs.Finders.{Walks}
use Rattle.segm.specs.Counts.{CountKind}
use Rattle.segm.specs.Segments.{ends_of, blank_segment}
use Rattle.segm.specs.Marks.{blank_mark}
use Rattle.segm.specs.SegmentKind.{segment_kind}
use Rattle.segm.specs.Balance.{count_at, Counting}
use Rattle.segm.specs.declared.line_mark.LineMark.{LineMark}
use Rattle.segm.specs.declared.segment.Segment.{Segment}
use Rattle.rounds.specs.Pieces.{cut_from, CutList}
use Rattle.rounds.proofs.MarkLists.{marks_below}
use Rattle.rounds.proofs.Numbers.{pieces_number}
use Rattle.rounds.proofs.Proper.{uncut}
use Rattle.history.specs.Rounds.{Use, RoundDone, RoundRefused, finder_full, marks_full, pieces_full, state_after, exponent_after}
use Rattle.history.specs.Sheets.{Page, changed, ends, mark_places}
use Rattle.history.specs.declared.answers.RoundAnswer.{RoundAnswer}
use Rattle.history.proofs.Given.{facts}
use Rattle.history.proofs.Sound.{round_sound}
use Rattle.cutting.specs.Cutting.{Pieced}
use Rattle.marking.specs.Gathering as gathering
use Rattle.marking.specs.Gathering.{Gathered, Unpieced}
use Rattle.sheet.specs.Rounding.{Came, Lies, page_after}

module _ {C : Type 0} (K : CountKind C) (walks : Walks) (u : Use) (s : Page C) (edges spare : Content (Segment C)) (marks : List LineMark) (e : ℕ)
    (lies : Lies K s edges spare marks e) where
  -- gathering was refused
  pub not_gathered : (f : Fault) → Unpieced u s f → RoundRefused u s f
  not_gathered f (gathering.finder_full k h) = finder_full k h
  not_gathered f (gathering.marks_full h more) = marks_full h more

  module _ (found : List LineMark) (a : RoundAnswer) (g : Gathered walks u s found a) (within : a.marks ≤ mark_places s.lengths) where
    listed_long : length (records edges) ≡ length s.edges
    listed_long = sym (ap length lies.listed)

    -- edges and marks exceed the places
    pub too_many : false ≡ leb (length (records edges) + a.marks) edges.room → RoundRefused u s PiecesFull
    too_many more =
        let n = g.number in let l = listed_long in let r = lies.edge_room in
        let x = leb-false (length (records edges) + a.marks) edges.room (sym more) in
        pieces_full g.shown found g.marked (omega arith) (omega arith)

    module _ (fits : length (records edges) + a.marks ≤ edges.room) where
      -- a list that the pieces make, where edges and marks fit
      pub round_done : (l : List (Segment C)) → CutList K found s.edges l → RoundDone K u s (page_after s l a) a
      round_done l cut =
          let n = g.number in let m = listed_long in let r = lies.edge_room in
          record {
            shown = g.shown;
            pairs = g.pairs;
            walk = g.walk;
            taken = g.taken;
            marks = found;
            marked = g.marked;
            marks_fit = omega arith;
            pieces_fit = omega arith;
            number = n;
            flag = g.flag;
            list = l;
            cut = cut;
            leaves = λ i. changed s l (state_after (n i) a.is_rounded) (exponent_after (n i) s.exponent s.step);
          }

      pub came : Came walks s a
      came = record { pairs = g.pairs; allowed = g.came; number = g.taken }

      -- more pieces than places there never are
      pub never_crowded : (ps : List (Segment C)) → ps ≡ cut_from K 0 found s.edges → spare.room < 0 + length ps → ⊥
      never_crowded ps same more =
          let n = g.number in let m = listed_long in
          let below_all : (x : LineMark) → In x found → x.index < length s.edges = λ x i. subst (λ (z : ℕ). x.index < z) (length-map s.edges ends_of) (marks_below s.exponent (ends s) found g.marked x i) in
          let p = pieces_number K found s.edges below_all in
          let k = ap length same in let r = lies.edge_room in let w = lies.spare_room in
          omega arith

      -- no marks: the list is its own
      pub nothing_cut : a.marks ≡ 0 → CutList K found (s.edges) (records edges)
      nothing_cut z =
          let none : found ≡ [] = no_marks found (sym g.number ∙ z) in
          let same : cut_from K 0 found s.edges ≡ s.edges = ap (λ (ms : List LineMark). cut_from K 0 ms s.edges) none ∙ uncut K 0 s.edges lies.sound.proper in
          subst (λ l. CutList K found s.edges l) lies.listed (record { ordered = lies.sound.ordered; each = λ x. ap (count_at K x) (sym same) })
        where
          no_marks : (l : List LineMark) → length l ≡ 0 → l ≡ []
          no_marks [] h = refl
          no_marks (x ∷ l) h = let no : ⊥ = omega arith in absurd no

      -- what the round leaves: the sheet after it, which lies in the tables again
      pub record Left (edges' spare' : Content (Segment C)) : Type 0 where
        pub done : RoundDone K u s (page_after s (records edges') a) a
        pub lies_again : Lies K (page_after s (records edges') a) edges' spare' marks (page_after s (records edges') a).exponent
        pub came : Came walks s a

      left : (edges' spare' : Content (Segment C)) → CutList K found s.edges (records edges') → edges'.room ≡ edges.room → spare'.used ≡ 0 → spare'.room ≡ edges.room
          → length edges'.places ≡ length edges.places → length spare'.places ≡ length spare.places → Left edges' spare'
      left edges' spare' cut room emptied other long wide =
          let done = round_done (records edges') cut in
          record {
            done = done;
            lies_again = record {
              sound = round_sound K (facts K) u s (page_after s (records edges') a) a lies.sound done;
              listed = refl;
              emptied = emptied;
              edge_room = room ∙ lies.edge_room;
              spare_room = other ∙ lies.edge_room;
              edge_length = long ∙ lies.edge_length;
              spare_length = wide ∙ lies.spare_length;
              mark_length = lies.mark_length;
              exponent = refl;
            };
            came = came;
          }

      pub left_whole : a.marks ≡ 0 → Left edges spare
      left_whole z = left edges spare (nothing_cut z) refl lies.emptied (lies.spare_room ∙ sym lies.edge_room) refl refl

      pub left_cut : (joined edges' spare' : Content (Segment C)) (ps : List (Segment C)) → ps ≡ cut_from K 0 found s.edges → Pieced K ps joined → joined.room ≡ spare.room → length joined.places ≡ length spare.places
          → TookOver (segment_kind K) edges joined edges' spare' → Left edges' spare'
      left_cut joined edges' spare' ps same p room long took =
          left edges' spare' (subst (λ l. CutList K found s.edges l) (sym took.listed) (subst (λ l. Counting K (λ x. count_at K x l) (records joined)) same p.counting))
          took.room (ap (λ (t : Content (Segment C)). t.used) took.emptied)
          (ap (λ (t : Content (Segment C)). t.room) took.emptied ∙ room ∙ lies.spare_room ∙ sym lies.edge_room)
          took.long
          (ap (λ (t : Content (Segment C)). length t.places) took.emptied ∙ length-replicate (length joined.places) (blank_segment K) ∙ long)

      -- and what was joined finds room among the edges
      pub never_refused : (joined : Content (Segment C)) → table.Sound (segment_kind K) joined → joined.room ≡ spare.room → edges.room < length (records joined) → ⊥
      never_refused joined sound room more =
          let f = sound.fits in let t = sound.roomy in
          let n : length (records joined) ≡ joined.used = length-take-le joined.used joined.places (omega arith) in
          let r = lies.edge_room in let w = lies.spare_room in
          omega arith

-- ---- the mark table ms, of which the first p places may be used
module _ (ms back : List LineMark) (p : ℕ) (blank : ms ≡ replicate (length ms) blank_mark) (long : length back + p ≡ length ms) (behind : back ≡ drop p ms) where
  back_blank : back ≡ replicate (length ms - p) blank_mark
  back_blank = behind ∙ subst (λ (xs : List LineMark). drop p xs ≡ replicate (length ms - p) blank_mark) (sym blank) (drop-replicate p (length ms) blank_mark)

  joined : (k : ℕ) → k ≡ p → (xs : List LineMark) → xs ≡ replicate k blank_mark → xs ++ back ≡ replicate (length ms) blank_mark
  joined k is xs front =
      (λ i. front i ++ back_blank i) ∙ replicate-append-replicate k (length ms - p) blank_mark ∙ ap (λ (n : ℕ). replicate n blank_mark) (omega (arith, is, long))

  -- nothing of them was used
  pub blank_unused : (left ns : List LineMark) (k : ℕ) → ns ≡ replicate k blank_mark → k ≡ p → left ≡ ns → left ++ back ≡ replicate (length ms) blank_mark
  blank_unused left ns k none is same = joined k is left (same ∙ none)

  -- the first a of them were used, and are blank again
  pub blank_used : (left now ns : List LineMark) (a m : ℕ) → m ≡ p → a ≤ m → drop a now ≡ drop a ns → drop a ns ≡ replicate (m - a) blank_mark → left ≡ replicate a blank_mark ++ drop a now
      → left ++ back ≡ replicate (length ms) blank_mark
  blank_used left now ns a m is within kept free again =
      let whole : left ≡ replicate (a + (m - a)) blank_mark = again ∙ ap (λ l. replicate a blank_mark ++ l) (kept ∙ free) ∙ replicate-append-replicate a (m - a) blank_mark in
      joined (a + (m - a)) (omega (arith, is, within)) left whole

-- a table that lists nothing yet
pub pieced_none : {C : Type 0} (K : CountKind C) (t : Content (Segment C)) → t.used ≡ 0 → Pieced K [] t
pieced_none K t e = record { counting = subst (λ (n : ℕ). Counting K (λ x. count_at K x []) (take n t.places)) (sym e) (record { ordered = record { ascending = tt; filled = tt }; each = λ x. refl }) }
