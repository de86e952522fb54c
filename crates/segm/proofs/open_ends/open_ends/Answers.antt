-- The count, with all places blank again.
use Rattle.std.proofs.Common.{ℕ, replicate, ap, ◌∙◌}
use Rattle.segm.specs.Corners.{blank_corner}
use Rattle.segm.proofs.OpenPoints.{open_determined}
use Rattle.segm.proofs.open_ends.open_ends.Goals as goal

pub returns : goal.returns
returns g c =
    let K = g.C.WindingCount.kind in
    record {
      count = c.count_open-answer.ensures;
      blank = c.blank_all.ensures ∙ ap (λ (n : ℕ). replicate n (blank_corner K)) c.count_open-answer.auto.places;
      determined = open_determined K;
    }
