use Rattle.std.proofs.Common.{sym, ◌∙◌}
use Rattle.plane.specs.Models.{edge_of}
use Rattle.plane.proofs.EdgeOf.{proper_of}
use Rattle.plane.proofs.Touching.{as_overlay, as_equal, as_aligned_none}
use Rattle.plane.proofs.TouchKinds.{equal_yes, equal_no, any_between}
use Rattle.plane.proofs.touch_type.TouchType.on_one_line.Goals as goal

pub returns-then-is_equal : goal.returns-then-is_equal
returns-then-is_equal c =
    as_equal (edge_of c.args.pair.target.now) (edge_of c.args.pair.other.now) (proper_of c.args.pair.target.now)
    (equal_yes (edge_of c.args.pair.target.now) (edge_of c.args.pair.other.now) (sym c.is_equal.ensures ∙ c.if-is_equal.true))

pub returns-then-has_any : goal.returns-then-has_any
returns-then-has_any c =
    as_overlay (edge_of c.args.pair.target.now) (edge_of c.args.pair.other.now) (proper_of c.args.pair.target.now) (proper_of c.args.pair.other.now) c.requires
    (any_between (edge_of c.args.pair.target.now) (edge_of c.args.pair.other.now) _ _ _ _ _ c.has_any.ensures
    c.collinear.ensures.target_a c.collinear.ensures.target_b c.collinear.ensures.other_a c.collinear.ensures.other_b
    ∙ c.if-has_any.true)

pub returns : goal.returns
returns c =
    as_aligned_none (edge_of c.args.pair.target.now) (edge_of c.args.pair.other.now) (proper_of c.args.pair.target.now) (proper_of c.args.pair.other.now) c.requires
    (equal_no (edge_of c.args.pair.target.now) (edge_of c.args.pair.other.now) (sym c.is_equal.ensures ∙ c.if-is_equal.false))
    (any_between (edge_of c.args.pair.target.now) (edge_of c.args.pair.other.now) _ _ _ _ _ c.has_any.ensures
    c.collinear.ensures.target_a c.collinear.ensures.target_b c.collinear.ensures.other_a c.collinear.ensures.other_b
    ∙ c.if-has_any.false)
