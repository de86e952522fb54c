-- What `open` ensures.
use Rattle.std.proofs.Common.{refl}
use Rattle.table.proofs.Laws.{listing_laws}
use Rattle.table.proofs.Soundness.{sound_opened, opened}
use Rattle.table.proofs.ordered_table.OrderedTable.open.Goals as goal

pub returns : goal.returns
returns g c = record {
  content = opened g.R.Keyed.kind c.args.places.now c.blank_all.new.table c.args.room c.min-room.result c.blank_all.ensures c.min-room.ensures;
  laws = listing_laws g.R.Keyed.kind;
  same = refl;
}

pub invariant_of-result : goal.invariant_of-result
invariant_of-result g c = record { sound = sound_opened g.R.Keyed.kind c.args.places.now c.blank_all.new.table c.args.room c.min-room.result c.blank_all.ensures c.min-room.ensures }
