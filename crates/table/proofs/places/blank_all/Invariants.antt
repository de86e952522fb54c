-- What the blanking keeps: the places passed are blank, the others are as they were.
use Rattle.std.proofs.Common.{◌≡◌, ◌++◌, drop, replicate}
use Rattle.table.proofs.places.blank_all.Given as goal

abbrev pub invariant-loop-place : goal.invariant-loop-place
invariant-loop-place g l = l.table ≡ replicate l.place-index g.R.Keyed.kind.blank ++ drop l.place-index l.initial.table
