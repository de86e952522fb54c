use Rattle.std.proofs.Common.{refl}
use Rattle.plane.specs.PointOf.{point_of}
use Rattle.plane.specs.Models.{edge_of}
use Rattle.plane.proofs.MetMarks.{met_marks, met_as, answered}
use Rattle.plane.proofs.pair.Pair.cross.Goals as goal

pub middle_cross-requires : goal.middle_cross-requires
middle_cross-requires c = met_as (edge_of c.args.self.target.now) (edge_of c.args.self.other.now) _ c.in-Crossed.ensures

pub returns-in-Aligned : goal.returns-in-Aligned
returns-in-Aligned c =
    (met_as (edge_of c.args.self.target.now) (edge_of c.args.self.other.now) _ c.in-Aligned.ensures, refl, refl)

pub returns-in-Apart : goal.returns-in-Apart
returns-in-Apart c = met_marks (edge_of c.args.self.target.now) (edge_of c.args.self.other.now) c.args.radius.current _ c.in-Apart.ensures

pub returns-in-OtherA : goal.returns-in-OtherA
returns-in-OtherA c = met_marks (edge_of c.args.self.target.now) (edge_of c.args.self.other.now) c.args.radius.current _ c.in-OtherA.ensures

pub returns-in-OtherB : goal.returns-in-OtherB
returns-in-OtherB c = met_marks (edge_of c.args.self.target.now) (edge_of c.args.self.other.now) c.args.radius.current _ c.in-OtherB.ensures

pub returns-in-TargetA : goal.returns-in-TargetA
returns-in-TargetA c = met_marks (edge_of c.args.self.target.now) (edge_of c.args.self.other.now) c.args.radius.current _ c.in-TargetA.ensures

pub returns-in-TargetB : goal.returns-in-TargetB
returns-in-TargetB c = met_marks (edge_of c.args.self.target.now) (edge_of c.args.self.other.now) c.args.radius.current _ c.in-TargetB.ensures

pub returns-in-Crossed : goal.returns-in-Crossed
returns-in-Crossed c =
    let m = met_marks (edge_of c.args.self.target.now) (edge_of c.args.self.other.now) c.args.radius.current _ c.in-Crossed.ensures in
    answered (edge_of c.args.self.target.now) (edge_of c.args.self.other.now) c.args.radius.current (point_of c.middle_cross.result.point) c.middle_cross.result.is_round c.middle_cross.result.cross_type _ m.0 m.1 c.middle_cross.ensures
