use Rattle.std.proofs.Common.{◌≡◌, List}
use Rattle.std.specs.List.{FoldsTo}
use Rattle.finder.specs.Finders.{Pair}
use Rattle.finder.specs.Taking.{number_of}
use Rattle.finder.proofs.Walking.{Came, pairs_left}
use Rattle.finder.proofs.taking.take_all.Given as goal

-- the pairs taken so far were visited and counted
abbrev pub invariant-loop-i : goal.invariant-loop-i
invariant-loop-i g l =
    let F = g.F.Finder in
    record {
      done : List Pair;
      came : Came F.walks (F.meaning l.initial.finder) (F.meaning l.finder) done;
      visited : FoldsTo g.V.PairVisitor.visits l.initial.visitor done l.visitor;
      counted : l.taken ≡ number_of done;
    }

abbrev pub decreases-loop-i : goal.decreases-loop-i
decreases-loop-i g l = pairs_left (g.F.Finder.meaning l.finder)
