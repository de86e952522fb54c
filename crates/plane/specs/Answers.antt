-- What the parts of the crossing's solver answer.
use Rattle.std.specs.Prelude.{◌≡◌, ℕ, ◌+◌, Bool, false, cond, ◌||◌, pos, Some, None, Option, ◌==◌, nat_le}
use Rattle.plane.specs.Points.{Point}
use Rattle.plane.specs.Edges.{Edge, direction, straight?, same?, zero_of, first, second, zeros}
use Rattle.plane.specs.Rules.{Marking, nothing, on_both, on_target, on_other, marking}
use Rattle.plane.specs.PointOf.{point_of}
use Rattle.plane.specs.declared.cross_solver.CrossResult.{CrossResult}
use Rattle.plane.specs.declared.cross_solver.CrossType.{CrossType}
use Rattle.plane.specs.declared.cross_solver.CrossType.TheVariants as type
use Rattle.plane.specs.declared.direction.Direction.{Direction}
use Rattle.plane.specs.declared.meeting.Meeting.{Meeting}
use Rattle.plane.specs.declared.meeting.Meeting.TheVariants.{Aligned, Apart, OtherA, OtherB, TargetA, TargetB, Crossed}

-- the end whose direction is zero, the last where no other is
abbrev pub end_met : Direction → Direction → Direction → Meeting
end_met other_a other_b target_a =
    cond (straight? other_a) OtherA (cond (straight? other_b) OtherB (cond (straight? target_a) TargetA TargetB))

abbrev pub meeting_by : Direction → Direction → Direction → Direction → Meeting
meeting_by other_a other_b target_a target_b =
    cond (zero_of other_a + zero_of other_b + (zero_of target_a + zero_of target_b) == 4) Aligned
    (cond (nat_le 2 (zero_of other_a + zero_of other_b + (zero_of target_a + zero_of target_b)) || (same? other_a other_b || same? target_a target_b)) Apart
    (cond (zero_of other_a + zero_of other_b + (zero_of target_a + zero_of target_b) == 0) Crossed
    (end_met other_a other_b target_a)))

-- how a target and another edge meet
unfoldable pub meeting : Edge → Edge → Meeting
meeting t o = meeting_by (direction (first t o)) (direction (second t o)) (direction (first o t)) (direction (second o t))

-- a point p with a type and a flag tells the marking m
abbrev pub Tells : Point → Bool → CrossType → Marking → Type 0
Tells p r type.Pure m = m ≡ on_both p r
Tells p r type.TargetEnd m = m ≡ on_other p r
Tells p r type.OtherEnd m = m ≡ on_target p r
Tells p r type.Overlay m = ⊥

abbrev pub Shows : CrossResult → Marking → Type 0
Shows c m = Tells (point_of c.point) c.is_round c.cross_type m

abbrev pub Answered : Edge → Edge → ℕ → Point → Bool → CrossType → Type 0
Answered t o s p r type.Pure = ((zeros t o == 4) ≡ false) × Tells p r type.Pure (marking t o s)
Answered t o s p r type.TargetEnd = ((zeros t o == 4) ≡ false) × Tells p r type.TargetEnd (marking t o s)
Answered t o s p r type.OtherEnd = ((zeros t o == 4) ≡ false) × Tells p r type.OtherEnd (marking t o s)
Answered t o s p r type.Overlay = (zeros t o ≡ 4) × (p ≡ record { x = pos 0; y = pos 0 }) × (r ≡ false)

-- the answer for a target and another edge: edges on one line are told apart from those that mark nothing
abbrev pub Answers : Edge → Edge → ℕ → Option CrossResult → Type 0
Answers t o s None = ((zeros t o == 4) ≡ false) × (marking t o s ≡ nothing)
Answers t o s (Some c) = Answered t o s (point_of c.point) c.is_round c.cross_type
