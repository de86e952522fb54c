use Rattle.std.proofs.Common.{min, false, [], length, rules}
use Rattle.finder.specs.Finders.{box_of}
use Rattle.grid.specs.Tables.{edges_in, coming_pairs}
use Rattle.grid.proofs.Sizes.{box_narrow}
use Rattle.grid.proofs.Worked.{worked}
use Rattle.grid.proofs.Sounds.{sound_empty}
use Rattle.grid.proofs.fragment_buffer.FragmentBuffer.new.Goals as goal

pub invariant_of-result : goal.invariant_of-result
invariant_of-result c =
    let i = c.new-intake.ensures in
    record { sound = ∣ sound_empty i.shown i.few (box_narrow c.new-intake.result.extent.min_x c.new-intake.result.extent.max_x (search rules) (search rules)) c.new-layout.ensures ∣₁ }

pub returns : goal.returns
unfolding edges_in coming_pairs
returns c = record {
  unstarted = λ i. record {
    box = box_of (c.new-intake.ensures.extent i);
    announced = c.new-intake.ensures.announced i;
    shown = [];
    coming = [];
    walking = false;
    capacity = min (length c.args.fragments.now) 524288;
  };
  worked = worked;
}
