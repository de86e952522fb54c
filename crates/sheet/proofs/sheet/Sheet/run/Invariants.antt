use Rattle.std.proofs.Common.{◌≡◌, ◌-◌, ◌≤◌}
use Rattle.history.specs.Rounds.{Rounds}
use Rattle.sheet.specs.Models.{page_of}
use Rattle.marking.specs.Gathering.{use_of}
use Rattle.sheet.proofs.sheet.Sheet.run.Given as goal

-- so many rounds were done on the sheet, and the finder has its capacity
abbrev pub invariant-loop-rounds : goal.invariant-loop-rounds
invariant-loop-rounds g l =
    let K = g.C.WindingCount.kind in let F = g.F.Finder in
    Rounds K (use_of F.need (F.meaning l.initial.finder)) l.rounds l.has_marks (page_of l.initial.self) (page_of l.self)
    × ((F.meaning l.finder).capacity ≡ (F.meaning l.initial.finder).capacity) × (l.rounds ≤ l.budget)

abbrev pub decreases-loop-rounds : goal.decreases-loop-rounds
decreases-loop-rounds g l = l.budget - l.rounds
