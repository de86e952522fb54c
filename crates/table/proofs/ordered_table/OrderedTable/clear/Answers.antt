-- A cleared table is sound.
use Rattle.table.specs.Contents.{content}
use Rattle.table.proofs.Replacing.{sound_cleared}
use Rattle.table.proofs.ordered_table.OrderedTable.clear.Goals as goal

pub invariant_of-self : goal.invariant_of-self
invariant_of-self g c = record {
  sound = sound_cleared g.R.Keyed.kind c.blank_all.new.table (content c.args.self.now.places.now c.args.self.now.used c.args.self.now.room) c.args.self.now.sound c.blank_all.ensures;
}
