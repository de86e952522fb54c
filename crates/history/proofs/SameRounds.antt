-- Rounds on one sheet leave and answer the same, whatever the finders.
use Rattle.std.proofs.Common.{◌≡◌, ℕ, zero, suc, ◌<◌, ◌≤◌, Bool, ◌||◌, ltb, ◌≢◌, ◌⊎◌, List, length, sym, refl, ap, ◌∙◌, subst, inl, inr, arith}
use Rattle.std.proofs.lemmas.Bool.Decides.{same_from_decides}
use Rattle.plane.specs.declared.fault.Fault.{Fault}
use Rattle.plane.specs.declared.fault.Fault.TheVariants.{FinderFull}
use Rattle.segm.specs.Counts.{CountKind}
use Rattle.segm.specs.Balance.{count_at}
use Rattle.segm.specs.declared.line_mark.LineMark.{LineMark}
use Rattle.rounds.specs.Pieces.{cut_from, CutList}
use Rattle.history.specs.Sheets.{Page, ends, changed, mark_places}
use Rattle.history.specs.Rounds.{Use, state_after, exponent_after, RoundRefused, finder_full, marks_full, pieces_full, RoundDone, Rounds}
use Rattle.history.specs.declared.sheet_state.SheetState.TheVariants.{Clean}
use Rattle.history.specs.declared.answers.RoundAnswer.{RoundAnswer}
use Rattle.history.proofs.Facts.{Facts}

-- a refusal that is not for want of room in the finder
abbrev pub RoomyFault : Fault → Type 0
RoomyFault f = (k : ℕ) → f ≢ FinderFull k

module _ {C : Type 0} (K : CountKind C) (facts : Facts K) where
  pub round_same : (u v : Use) (s x y : Page C) (a b : RoundAnswer) → RoundDone K u s x a → RoundDone K v s y b
      → (x ≡ y) × (a.marks ≡ b.marks) × (a.is_rounded ≡ b.is_rounded)
  round_same u v s x y a b d e =
      (d.leaves ∙ page ∙ sym e.leaves, d.number ∙ ap length marks ∙ sym e.number, flag)
    where
      marks : d.marks ≡ e.marks
      marks = facts.marks_unique s.exponent (ends s) d.marks e.marks d.marked e.marked

      flag : a.is_rounded ≡ b.is_rounded
      flag = same_from_decides a.is_rounded b.is_rounded d.flag e.flag

      list : d.list ≡ e.list
      list = facts.counts_determine (λ g. count_at K g (cut_from K 0 d.marks s.edges)) d.list e.list d.cut (subst (λ (ms : List LineMark). CutList K ms s.edges e.list) (sym marks) e.cut)

      page : changed s d.list (state_after (length d.marks) a.is_rounded) (exponent_after (length d.marks) s.exponent s.step)
          ≡ changed s e.list (state_after (length e.marks) b.is_rounded) (exponent_after (length e.marks) s.exponent s.step)
      page = λ i. changed s (list i) (state_after (length (marks i)) (flag i)) (exponent_after (length (marks i)) s.exponent s.step)

  -- a round that was done is not refused with another finder that has room
  pub done_not_refused : (u v : Use) (s x : Page C) (a : RoundAnswer) (f : Fault) → RoundDone K u s x a → RoundRefused v s f → RoomyFault f → ⊥
  done_not_refused u v s x a f d (finder_full k _) roomy = roomy k refl
  done_not_refused u v s x a f d (marks_full _ m) roomy =
      omega (arith, d.marks_fit, facts.marks_more s.exponent (ends s) d.marks (mark_places s.lengths) d.marked m)
  done_not_refused u v s x a f d (pieces_full _ ms marked _ above) roomy =
      omega (arith, d.pieces_fit, ap length (facts.marks_unique s.exponent (ends s) d.marks ms d.marked marked))

  pub refused_same : (u v : Use) (s : Page C) (f g : Fault) → RoundRefused u s f → RoundRefused v s g → RoomyFault f → RoomyFault g → f ≡ g
  refused_same u v s f g (finder_full k _) q rf rg = absurd (rf k refl)
  refused_same u v s f g (marks_full _ m) (finder_full k _) rf rg = absurd (rg k refl)
  refused_same u v s f g (marks_full _ m) (marks_full _ n) rf rg = refl
  refused_same u v s f g (marks_full _ m) (pieces_full _ ms marked few _) rf rg =
      absurd (omega (arith, few, facts.marks_more s.exponent (ends s) ms (mark_places s.lengths) marked m))
  refused_same u v s f g (pieces_full _ ms marked few _) (finder_full k _) rf rg = absurd (rg k refl)
  refused_same u v s f g (pieces_full _ ms marked few _) (marks_full _ m) rf rg =
      absurd (omega (arith, few, facts.marks_more s.exponent (ends s) ms (mark_places s.lengths) marked m))
  refused_same u v s f g (pieces_full _ ms marked few _) (pieces_full _ ns _ _ _) rf rg = refl

  pub rounds_same : (u v : Use) (n : ℕ) (b c : Bool) (s x y : Page C) → Rounds K u n b s x → Rounds K v n c s y → (x ≡ y) × (b ≡ c)
  rounds_same u v zero b c s x y r q = (r.1 ∙ sym q.1, r.0 ∙ sym q.0)
  rounds_same u v (suc n) b c s x y r q =
      let below = rounds_same u v n r.1 q.1 s r.0 q.0 r.3 q.3 in
      let here = round_same u v r.0 x y r.2 q.2 r.5 (subst (λ (t : Page C). RoundDone K v t y q.2) (sym below.0) q.5) in
      (here.0, r.6 ∙ (λ i. below.1 i || ltb 0 (here.1 i)) ∙ sym q.6)

  -- after n rounds one more was done
  pub record GoingOn (u : Use) (n : ℕ) (s : Page C) : Type 0 where
    pub at : Page C
    pub marked : Bool
    pub rounds : Rounds K u n marked s at
    pub unclean : at.state ≢ Clean
    pub next : Page C
    pub answer : RoundAnswer
    pub done : RoundDone K u at next answer

  pub going_on : (u : Use) (n m : ℕ) (b : Bool) (s x : Page C) → n < m → Rounds K u m b s x → GoingOn u n s
  going_on u n zero b s x lt r = absurd (omega arith)
  going_on u n (suc m) b s x lt r = go (λ l. going_on u n m r.1 s r.0 l r.3) (cases n m (omega arith))
    where
      cases : (i j : ℕ) → i ≤ j → (i ≡ j) ⊎ (i < j)
      cases i j h = grind arith

      last : GoingOn u m s
      last = record { at = r.0; marked = r.1; rounds = r.3; unclean = r.4; next = x; answer = r.2; done = r.5 }

      go : (n < m → GoingOn u n s) → (n ≡ m) ⊎ (n < m) → GoingOn u n s
      go f (inl e) = subst (λ k. GoingOn u k s) (sym e) last
      go f (inr l) = f l
