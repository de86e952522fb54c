-- A refusal that is passed on, and one that is turned into another.
use Rattle.std.proofs.Common.{◌≡◌, ◌||◌, List, IsErrAnd, Ok, Err, Result, sym, subst, MatchResult}
use Rattle.table.specs.Contents.{Content, records}
use Rattle.segm.specs.Spots.{Spot, at_one?, Crowded, Overflow}
use Rattle.segm.specs.declared.line_mark.LineMark.{LineMark}
use Rattle.marking.specs.Gathering.{Noted, Notes}

pub at_refusal : {T E : Type 0} (r : Result T E) (f : E) (P : T → Type 0) (Q : E → Type 0) → IsErrAnd r (λ d. d ≡ f) → Q f → MatchResult r P Q
at_refusal (Ok x) f P Q e h = absurd e
at_refusal (Err d) f P Q e h = subst Q (sym e) h

pub refused_as : {T E D : Type 0} (r : Result T E) (o : Result T D) (f : D) (P : T → Type 0) (Q : D → Type 0)
    → MatchResult r (λ x. o ≡ Ok x) (λ _. IsErrAnd o (λ d. d ≡ f)) → MatchResult r P (λ _. Q f) → MatchResult o P Q
refused_as (Ok x) o f P Q e h = subst (λ z. MatchResult z P Q) (sym e) h
refused_as (Err d) o f P Q e h = at_refusal o f P Q e h

pub notes_refused : {T E : Type 0} (ts : List Spot) (before after : Content LineMark) (r : Result T E) (f : E) → IsErrAnd r (λ d. d ≡ f)
    → Crowded ts (records before) before.room → Notes ts before after r
notes_refused ts before after r f e w P h = at_refusal r f (λ _. Noted (λ x. P x || at_one? ts x) after) (λ _. Overflow (λ x. P x || at_one? ts x) before.room) e (w P h)
