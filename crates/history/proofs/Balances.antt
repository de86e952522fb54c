-- The balance at every point is that of all accepted puts.
use Rattle.std.proofs.Common.{◌≡◌, ℕ, zero, suc, Bool, List, Ok, Err, sym, refl, ap, ◌∙◌}
use Rattle.plane.specs.Points.{Point}
use Rattle.segm.specs.Counts.{CountKind}
use Rattle.segm.specs.Balance.{balance}
use Rattle.history.specs.Sheets.{Lengths, Page, Sound, put_brings, PutOn}
use Rattle.history.specs.Rounds.{Use, RoundDone, Rounds, outside, broke}
use Rattle.history.specs.Histories.{Call, Answer, Entry, Leaves, History, opened, called}
use Rattle.history.specs.Histories.Call.{put, round, run, read_number, read_edge, read_state}
use Rattle.history.specs.Laws.{brought, put_balance}
use Rattle.history.specs.declared.answers.RoundAnswer.{RoundAnswer}
use Rattle.history.proofs.Facts.{Facts}
use Rattle.history.proofs.Puts.{Accepted, accepted, put_segment, put_counting, put_brought}
use Rattle.history.proofs.Sound.{history_sound}

module _ {C : Type 0} (K : CountKind C) (facts : Facts K) where
  abbrev at : Point → Page C → C
  at z s = balance K z s.edges

  same_balance : (z : Point) (s after : Page C) → at z after ≡ at z s → at z after ≡ K.sum (at z s) K.neutral
  same_balance z s after e = e ∙ sym (K.identity (at z s))

  pub put_on_balance : (p q : Point) (c : C) (s after : Page C) → Sound K s → Accepted p q s → PutOn K p q c s after → (z : Point) → at z after ≡ K.sum (at z s) (put_brings K p q c z)
  put_on_balance p q c s after ok is h z =
      ap (at z) h.leaves
      ∙ facts.put_balance s.edges h.list (put_segment K p q c is.first is.second) ok.ordered (put_counting K p q c is.first is.second s.edges h.list h.counting) z
      ∙ ap (K.sum (at z s)) (put_brought K p q c is.first is.second z)

  pub round_done_balance : (u : Use) (s after : Page C) (a : RoundAnswer) → RoundDone K u s after a → (z : Point) → at z after ≡ at z s
  round_done_balance u s after a d z = ap (at z) d.leaves ∙ facts.round_balance d.marks s.edges d.list d.cut z

  pub rounds_balance : (u : Use) (n : ℕ) (b : Bool) (s after : Page C) → Rounds K u n b s after → (z : Point) → at z after ≡ at z s
  rounds_balance u zero b s after r z = ap (at z) r.1
  rounds_balance u (suc n) b s after r z = round_done_balance u r.0 after r.2 r.5 z ∙ rounds_balance u n r.1 s r.0 r.3 z

  pub step_balance : (w : Call C) (u : Use) (s after : Page C) (a : Answer w) → Sound K s → Leaves K w u s after a → (z : Point) → at z after ≡ K.sum (at z s) (brought K z w a)
  step_balance (put p q c) u s after (Ok done) ok l z = put_on_balance p q c s after ok (accepted K p q c s l.0) l.1 z
  step_balance (put p q c) u s after (Err f) ok l z = same_balance z s after (ap (at z) l.1)
  step_balance round u s after (Ok a) ok l z = same_balance z s after (round_done_balance u s after a l z)
  step_balance round u s after (Err f) ok l z = same_balance z s after (ap (at z) l.0)
  step_balance (run n) u s after (Ok a) ok l z = same_balance z s after (rounds_balance u a.rounds a.has_marks s after l.1.rounds z)
  step_balance (run n) u s after (Err f) ok (outside _ same _ _) z = same_balance z s after (ap (at z) same)
  step_balance (run n) u s after (Err f) ok (broke _ x) z = same_balance z s after (rounds_balance u f.rounds x.marked s after x.rounds z)
  step_balance read_number u s after a ok l z = same_balance z s after (ap (at z) l.0)
  step_balance (read_edge i) u s after a ok l z = same_balance z s after (ap (at z) l.0)
  step_balance read_state u s after a ok l z = same_balance z s after (ap (at z) l.0)

  pub history_balance : {n : Lengths} {start step : ℕ} {ws : List (Call C)} {es : List (Entry C)} {s : Page C} → History K n start step ws es s → (z : Point) → at z s ≡ put_balance K z es
  history_balance opened z = refl
  history_balance (called {s} h w u a after l) z =
      step_balance w u s after a (history_sound K facts h) l z ∙ ap (λ x. K.sum x (brought K z w a)) (history_balance h z)
