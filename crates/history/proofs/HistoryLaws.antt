-- The laws over every history, from facts about one put and one round.
use Rattle.segm.specs.Counts.{CountKind}
use Rattle.history.specs.Laws.{HistoryLaws}
use Rattle.history.proofs.Facts.{Facts}
use Rattle.history.proofs.Sound.{history_sound}
use Rattle.history.proofs.Balances.{history_balance}
use Rattle.history.proofs.Clean.{history_clean}
use Rattle.history.proofs.Agreement.{histories_agree}

pub laws : {C : Type 0} (K : CountKind C) → Facts K → HistoryLaws K
laws K facts = record {
  sound = λ n start step ws es s h. history_sound K facts h;
  balance = λ n start step ws es s h. history_balance K facts h;
  clean = λ n start step ws es s h. history_clean K facts h;
  agreement = λ n start step ws es fs s t h k. histories_agree K facts h k;
}
