use Rattle.std.proofs.Common.{◌≡◌, map, length, take}
use Rattle.finder.specs.Filling.{filling, AcceptedBelow}
use Rattle.finder.proofs.filling.fill.Given as goal

-- the first edges were shown, and none was refused
abbrev pub invariant-loop-edge : goal.invariant-loop-edge
invariant-loop-edge g l =
    let F = g.F.Finder in
    let es = map g.E.EdgeRecord.edge l.edges in
    let m = F.meaning l.initial.finder in
    (F.meaning l.finder ≡ filling m.box (length es) (take l.edge-index es) m.capacity) × AcceptedBelow F.need m.capacity m.box es l.edge-index
