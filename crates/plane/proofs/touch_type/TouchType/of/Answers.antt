use Rattle.plane.proofs.TouchKinds.{touch_kind, touch_end}
use Rattle.plane.proofs.touch_type.TouchType.of.Goals as goal

pub on_one_line-requires : goal.on_one_line-requires
on_one_line-requires c = touch_kind c.args.first.now c.args.second.now _ c.in-Aligned.ensures

pub returns-in-Apart : goal.returns-in-Apart
returns-in-Apart c = touch_kind c.args.first.now c.args.second.now _ c.in-Apart.ensures

pub returns-in-Crossed : goal.returns-in-Crossed
returns-in-Crossed c = touch_kind c.args.first.now c.args.second.now _ c.in-Crossed.ensures

pub returns-in_default : goal.returns-in_default
returns-in_default c = touch_end c.args.first.now c.args.second.now _ c.of.ensures c.in_default.not-Aligned c.in_default.not-Apart c.in_default.not-Crossed
