use Rattle.grid.proofs.Links.{Linking}
use Rattle.grid.proofs.linking.link.Given as goal

abbrev pub invariant-loop-k : goal.invariant-loop-k
invariant-loop-k l = Linking l.initial.fragments l.fragments l.heads l.k
