use Rattle.std.proofs.Common.{sym, ap}
use Rattle.finder.specs.Finders.{first, walking_on}
use Rattle.finder.specs.Pairs.{pairs_meaning, pairs_from}
use Rattle.finder.proofs.Rows.{from_first, from_past}
use Rattle.finder.proofs.Shown.{may_come}
use Rattle.finder.proofs.all_pairs.methods.AllPairsFinder.next.Goals as goal

pub returns-then-j-self : goal.returns-then-j-self
returns-then-j-self c =
    let s = c.args.self.now in
    record {
      pairs = pairs_from s.intake.shown c.unwrap_or-i.result.0 c.unwrap_or-i.result.1;
      allowed = may_come s c.unwrap_or-i.result c.unwrap_or-i.ensures;
      answers = sym (from_first _ _ _ c.if-j-self.true);
      leaves = ap (λ ps. walking_on ps (pairs_meaning s)) c.following.ensures.goes_on;
    }

pub returns-else-j-self : goal.returns-else-j-self
returns-else-j-self c =
    let s = c.args.self.now in
    record {
      pairs = pairs_from s.intake.shown c.unwrap_or-i.result.0 c.unwrap_or-i.result.1;
      allowed = may_come s c.unwrap_or-i.result c.unwrap_or-i.ensures;
      answers = sym (ap first (from_past s.intake.shown c.unwrap_or-i.result.0 c.unwrap_or-i.result.1 c.if-j-self.false));
      leaves = ap (λ ps. walking_on ps (pairs_meaning s)) c.following.ensures.goes_on;
    }
