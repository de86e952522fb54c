-- A clean sheet has no two edges that touch.
use Rattle.std.proofs.Common.{◌≡◌, ℕ, zero, suc, Bool, true, false, cond, eqb, List, [], ◌∷◌, map, length, Ok, Err, sym, refl, ap, ◌∙◌, subst, inl, inr, arith}
use lib.ListN.{length-map}
use Rattle.std.proofs.lemmas.List.{nil_from_length}
use Rattle.std.proofs.lemmas.Bool.{both_ways, eqb-true}
use Rattle.plane.specs.Edges.{Edge, InSheet}
use Rattle.plane.specs.Rules.{In}
use Rattle.segm.specs.Counts.{CountKind}
use Rattle.segm.specs.Segments.{ends_of}
use Rattle.segm.specs.Balance.{count_at}
use Rattle.segm.specs.declared.line_mark.LineMark.{LineMark}
use Rattle.segm.specs.declared.segment.Segment.{Segment}
use Rattle.rounds.specs.Marks.{MarksOf, SomeRounded}
use Rattle.rounds.specs.Pieces.{cut_from, CutList}
use Rattle.history.specs.Sheets.{Lengths, Page, ends, Sound}
use Rattle.history.specs.Rounds.{Use, RoundDone, Rounds, outside, broke}
use Rattle.history.specs.Histories.{Call, Answer, Entry, Leaves, History, opened, called}
use Rattle.history.specs.Histories.Call.{put, round, run, read_number, read_edge, read_state}
use Rattle.history.specs.Laws.{Apart}
use Rattle.history.specs.declared.sheet_state.SheetState.TheVariants.{Raw, Rounded, Clean}
use Rattle.history.specs.declared.answers.RoundAnswer.{RoundAnswer}
use Rattle.history.proofs.Facts.{Facts}
use Rattle.history.proofs.Sound.{distinct_ends, rounds_sound, history_sound}

raw_unclean : Raw ≡ Clean → ⊥
raw_unclean e = let z : ◌≡◌ {A = ℕ} 0 1 = cc e in omega arith

rounded_unclean : Rounded ≡ Clean → ⊥
rounded_unclean e = let z : ◌≡◌ {A = ℕ} 0 1 = cc e in omega arith

in_map : {X Y : Type 0} (f : X → Y) (l : List X) (y : Y) → In y (map f l) → (x : X) × In x l × (y ≡ f x)
in_map f [] y i = absurd i
in_map f (x ∷ l) y (inl e) = (x, inl refl, e)
in_map f (x ∷ l) y (inr i) = let r = in_map f l y i in (r.0, inr r.1, r.2)

module _ {C : Type 0} (K : CountKind C) where
  -- the edges of a sheet are proper, and their ends in range by their type
  pub sound_in_sheet : (s : Page C) → Sound K s → (e : Edge) → In e (ends s) → InSheet e
  sound_in_sheet s ok e i =
      let r = in_map ends_of s.edges e i in
      subst InSheet (sym r.2) (record {
        proper = ok.proper r.0 r.1;
        first = record { wide = r.0.a.wide; high = r.0.a.high };
        second = record { wide = r.0.b.wide; high = r.0.b.high };
      })

-- what is claimed of a sheet
abbrev CleanApart : {C : Type 0} → Page C → Type 0
CleanApart s = s.state ≡ Clean → Apart (ends s)

module _ {C : Type 0} (K : CountKind C) (facts : Facts K) where
  -- without marks the list stays as it was
  pub unmarked_list : (s : Page C) (ms : List LineMark) (l : List (Segment C)) → Sound K s → CutList K ms s.edges l → ms ≡ [] → l ≡ s.edges
  unmarked_list s ms l ok cut e =
      facts.counts_determine (λ g. count_at K g (cut_from K 0 ms s.edges)) l s.edges cut (record {
        ordered = ok.ordered;
        each = λ g. ap (count_at K g) (sym (ap (λ (m : List LineMark). cut_from K 0 m s.edges) e ∙ facts.uncut 0 s.edges ok.proper));
      })

  unmarked_apart : (s : Page C) (ms : List LineMark) (l : List (Segment C)) → Sound K s → MarksOf s.exponent (ends s) ms → CutList K ms s.edges l → ms ≡ [] → Apart (map ends_of l)
  unmarked_apart s ms l ok marked cut e =
      subst (λ (m : List (Segment C)). Apart (map ends_of m)) (sym (unmarked_list s ms l ok cut e))
      (facts.none_marked_apart s.exponent (ends s) (sound_in_sheet K s ok)
      (λ i j lt lj. distinct_ends K s.edges ok.ordered i j lt (omega (arith, length-map s.edges ends_of)))
      (subst (MarksOf s.exponent (ends s)) e marked))

  unrounded_apart : (s : Page C) (ms : List LineMark) (l : List (Segment C)) → Sound K s → MarksOf s.exponent (ends s) ms → CutList K ms s.edges l → ¬ SomeRounded s.exponent (ends s) → Apart (map ends_of l)
  unrounded_apart s ms l ok marked cut no_round i j lt lj =
      facts.list_apart s.exponent s.edges l ms ok.ordered ok.proper marked no_round (facts.list_from (cut_from K 0 ms s.edges) l cut) cut.ordered i j lt (omega (arith, length-map l ends_of))

  pub round_clean : (u : Use) (s after : Page C) (a : RoundAnswer) → Sound K s → RoundDone K u s after a → CleanApart after
  round_clean u s after a ok d is =
      subst (λ (x : Page C). Apart (ends x)) (sym d.leaves) (go (eqb (length d.marks) 0) refl a.is_rounded refl (sym (ap (λ (x : Page C). x.state) d.leaves) ∙ is))
    where
      go : (b : Bool) → eqb (length d.marks) 0 ≡ b → (r : Bool) → a.is_rounded ≡ r → cond b Clean (cond r Rounded Clean) ≡ Clean → Apart (map ends_of d.list)
      go true e r f c = unmarked_apart s d.marks d.list ok d.marked d.cut (nil_from_length d.marks (eqb-true (length d.marks) 0 e))
      go false e true f c = absurd (rounded_unclean c)
      go false e false f c = unrounded_apart s d.marks d.list ok d.marked d.cut (λ some. both_ways a.is_rounded f (d.flag.1 some))

  same_clean : (s after : Page C) → CleanApart s → after ≡ s → CleanApart after
  same_clean s after h e = subst CleanApart (sym e) h

  pub rounds_clean : (u : Use) (n : ℕ) (b : Bool) (s after : Page C) → Sound K s → CleanApart s → Rounds K u n b s after → CleanApart after
  rounds_clean u zero b s after ok h r = same_clean s after h r.1
  rounds_clean u (suc n) b s after ok h r = round_clean u r.0 after r.2 (rounds_sound K facts u n r.1 s r.0 ok r.3) r.5

  pub step_clean : (w : Call C) (u : Use) (s after : Page C) (a : Answer w) → Sound K s → CleanApart s → Leaves K w u s after a → CleanApart after
  step_clean (put p q c) u s after (Ok done) ok h l = λ is. absurd (raw_unclean (sym (ap (λ (x : Page C). x.state) l.1.leaves) ∙ is))
  step_clean (put p q c) u s after (Err f) ok h l = same_clean s after h l.1
  step_clean round u s after (Ok a) ok h l = round_clean u s after a ok l
  step_clean round u s after (Err f) ok h l = same_clean s after h l.0
  step_clean (run n) u s after (Ok a) ok h l = rounds_clean u a.rounds a.has_marks s after ok h l.1.rounds
  step_clean (run n) u s after (Err f) ok h (outside _ same _ _) = same_clean s after h same
  step_clean (run n) u s after (Err f) ok h (broke _ x) = rounds_clean u f.rounds x.marked s after ok h x.rounds
  step_clean read_number u s after a ok h l = same_clean s after h l.0
  step_clean (read_edge i) u s after a ok h l = same_clean s after h l.0
  step_clean read_state u s after a ok h l = same_clean s after h l.0

  pub history_clean : {n : Lengths} {start step : ℕ} {ws : List (Call C)} {es : List (Entry C)} {s : Page C} → History K n start step ws es s → CleanApart s
  history_clean opened = λ is. absurd (raw_unclean is)
  history_clean (called {s} h w u a after l) = step_clean w u s after a (history_sound K facts h) (history_clean h) l
