use Rattle.std.proofs.Common.{false, [], rules}
use Rattle.finder.specs.Finders.{box_of}
use Rattle.grid.specs.Meanings.{grid_meaning}
use Rattle.grid.specs.Tables.{edges_in, coming_pairs}
use Rattle.grid.proofs.Sizes.{box_narrow}
use Rattle.grid.proofs.Sounds.{sound_empty}
use Rattle.grid.proofs.fragment_buffer.methods.FragmentBufferFinder.start.Goals as goal

pub invariant_of-self : goal.invariant_of-self
invariant_of-self c =
    let i = c.new-intake.ensures in
    record { sound = ∣ sound_empty i.shown i.few (box_narrow c.new-intake.result.extent.min_x c.new-intake.result.extent.max_x (search rules) (search rules)) c.new-self.ensures ∣₁ }

pub returns : goal.returns
unfolding edges_in coming_pairs
returns c = λ i. record {
  box = box_of (c.new-intake.ensures.extent i);
  announced = c.new-intake.ensures.announced i;
  shown = [];
  coming = [];
  walking = false;
  capacity = (grid_meaning c.args.self.now).capacity;
}
