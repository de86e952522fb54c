-- The facts about one round and one put, from the crates below, and the laws from them.
use Rattle.segm.specs.Counts.{CountKind}
use Rattle.segm.proofs.Counting.{counting_determined}
use Rattle.rounds.proofs.Lists.{list_few, list_from, round_balance, put_list}
use Rattle.rounds.proofs.MarkLists.{marks_below, marks_unique, marks_more}
use Rattle.rounds.proofs.Numbers.{pieces_number}
use Rattle.rounds.proofs.Proper.{pieces_proper, uncut}
use Rattle.rounds.proofs.Apart.{none_marked_apart, list_apart}
use Rattle.history.specs.Laws.{HistoryLaws}
use Rattle.history.proofs.Facts.{Facts}
use Rattle.history.proofs.HistoryLaws.{laws}

pub facts : {C : Type 0} (K : CountKind C) → Facts K
facts K = record {
  round_balance = round_balance K;
  list_few = list_few K;
  list_from = list_from K;
  pieces_number = pieces_number K;
  marks_below = λ s es ms. marks_below s es ms;
  marks_unique = marks_unique;
  marks_more = marks_more;
  pieces_proper = pieces_proper K;
  uncut = uncut K;
  none_marked_apart = none_marked_apart;
  list_apart = list_apart K;
  put_balance = λ l m g o c. (put_list K l g o m c).balances;
  put_few = λ l m g o c. (put_list K l g o m c).few;
  put_no_more = λ l m g o c. (put_list K l g o m c).kept;
  put_from = λ l m g o c e i. ∣ (put_list K l g o m c).from e i ∣₁;
  counts_determine = counting_determined K;
}

pub history_laws : {C : Type 0} (K : CountKind C) → HistoryLaws K
history_laws K = laws K (facts K)
