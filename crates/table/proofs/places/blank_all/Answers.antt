-- What the blanking of all places comes to.
use Rattle.std.proofs.Common.{set, ◌∙◌, ap₂}
use Rattle.table.proofs.Fills.{fill_more, fill_all}
use Rattle.table.proofs.places.blank_all.Goals as goal

pub loop-place-preserved : goal.loop-place-preserved
loop-place-preserved g c =
    ap₂ (λ t v. set t c.loop-place.place-index v) c.loop-place.invariant c.blank.ensures
    ∙ fill_more c.loop-place.place-index g.R.Keyed.kind.blank c.args.table.now c.loop-place-test.true

pub returns : goal.returns
returns g c = fill_all c.loop-place.place-index g.R.Keyed.kind.blank c.args.table.now c.loop-place.table c.loop-place.invariant c.loop-place.auto.place-index-end c.loop-place-test.false
