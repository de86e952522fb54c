use Rattle.std.proofs.Common.{◌-◌, ◌<◌, length, ap, arith}
use Rattle.std.proofs.lemmas.List.{get_or_default}
use Rattle.grid.specs.Tables.{content}
use Rattle.grid.proofs.Links.{linking_none, linking_more, linking_narrow}
use Rattle.grid.proofs.linking.link.Goals as goal

pub loop-k-init : goal.loop-k-init
loop-k-init c = linking_none c.args.fragments.now

pub bounds-heads-column : goal.bounds-heads-column
bounds-heads-column c = linking_narrow (c.loop-k.k - 1) c.index-fragments-k.result c.loop-k.invariant c.requires.narrow (omega (arith, c.loop-k-test.true))

pub offset_bounds-heads-column : goal.offset_bounds-heads-column
offset_bounds-heads-column c = record { fits = omega (arith, bounds-heads-column c) }

pub loop-k-preserved : goal.loop-k-preserved
loop-k-preserved c =
    let h : c.loop-k.k - 1 < length c.loop-k.fragments = omega (arith, c.loop-k.auto.fragments, c.loop-k.auto.k, c.loop-k-test.true) in
    rw c.replace.ensures.after
    (linking_more c.args.fragments.now c.loop-k.fragments c.loop-k.heads c.loop-k.k (c.loop-k.k - 1) c.index-fragments-k.result _ c.loop-k.invariant (omega (arith, c.loop-k-test.true))
    (ap content (get_or_default c.loop-k.fragments (c.loop-k.k - 1) _ _ h)) c.replace.ensures.value
    (linking_narrow (c.loop-k.k - 1) c.index-fragments-k.result c.loop-k.invariant c.requires.narrow (omega (arith, c.loop-k-test.true))))
