-- A record that came leaves the table sound.
use Rattle.table.specs.Contents.{content}
use Rattle.table.proofs.Soundness.{sound_came}
use Rattle.table.proofs.ordered_table.OrderedTable.insert.Goals as goal

pub invariant_of-self-2 : goal.invariant_of-self-2
invariant_of-self-2 g c = record {
  sound = sound_came g.R.Keyed.kind c.args.r (content c.args.self.now.places.now c.args.self.now.used c.args.self.now.room)
      (content c.bring.new.table c.in_ok-n.n c.args.self.now.room) c.in_ok-n.ensures c.args.self.now.sound;
}
