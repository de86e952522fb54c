use Rattle.std.proofs.Common.{ℕ, min, take, ap}
use mathlib.Core.Logic.{∥∥₁_map}
use Rattle.finder.specs.Finders.{box_of}
use Rattle.grid.specs.Models.{layout_of}
use Rattle.grid.specs.Tables.{contents, edges_in, most_fragments, ready_pairs}
use Rattle.grid.proofs.Sounds.{known_room, known_standing, known_narrow, may_come, sound_walked}
use Rattle.grid.proofs.fragment_buffer.methods.FragmentBufferFinder.next.Goals as goal

pub walk-after-requires : goal.walk-after-requires
walk-after-requires c =
    let g = c.args.self.now in
    record { room = known_room g; narrow = known_narrow g; stands = known_standing g }

pub invariant_of-self : goal.invariant_of-self
invariant_of-self c = record { sound = ∥∥₁_map c.args.self.now.sound (λ s. sound_walked s c.walk-after.ensures.same c.walk-after.auto.fragments c.walk-after.ensures.stands) }

pub returns : goal.returns
returns c =
    let g = c.args.self.now in
    record {
      pairs = ready_pairs (layout_of g.layout) (contents (take g.used g.fragments.now)) g.state;
      allowed = may_come g;
      answers = c.walk-after.ensures.gives;
      leaves = λ i. record {
        box = box_of g.intake.extent;
        announced = g.intake.announced;
        shown = ap (edges_in (layout_of g.layout)) c.walk-after.ensures.same i;
        coming = c.walk-after.ensures.leaves i;
        walking = c.walk-after.ensures.walks i;
        capacity = ap (λ (n : ℕ). min n most_fragments) c.walk-after.auto.fragments i;
      };
    }
