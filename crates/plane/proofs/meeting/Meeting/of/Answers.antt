use Rattle.std.proofs.Common.{◌∙◌}
use Rattle.plane.specs.Answers.{meeting}
use Rattle.plane.proofs.Meetings.{meeting_same}
use Rattle.plane.proofs.meeting.Meeting.of.Goals as goal

pub returns : goal.returns
unfolding meeting
returns c =
    c.by_directions.ensures
    ∙ meeting_same _ _ _ _ _ _ _ _ c.of-other_a.ensures c.of-other_b.ensures c.of-target_a.ensures c.of-target_b.ensures
