use Rattle.std.proofs.Common.{sym, ◌∙◌, arith}
use Rattle.grid.specs.Models.{layout_of}
use Rattle.grid.proofs.Cursors.{met_placed, met_less, met_passes, met_fails}
use Rattle.grid.proofs.linked_table.LinkedTable.find.Goals as goal

pub returns-then-passes : goal.returns-then-passes
returns-then-passes c =
    let t = c.args.self.now in
    let l = layout_of t.layout in
    let at = c.loop-at-2.at in
    let s = c.loop-at-2.invariant in
    let i = c.in-Some.first in
    let j = c.in-Some-second.second in
    let d = c.index-self-first.result in
    let e = c.index-self-second.result in (
      met_placed t.table.now t.heads.now t.linked l c.args.stage at i j d e s.placed s.here c.in-Some-second.is,
      rw c.in_order.ensures
          (sym c.loop-at.invariant.same ∙ sym s.same ∙ met_passes t.table.now t.heads.now t.linked l c.args.stage at i j d e s.placed s.here c.in-Some-second.is (sym c.passes.ensures ∙ c.if-passes.true)),
    )

pub loop-at-2-preserved : goal.loop-at-2-preserved
loop-at-2-preserved c =
    let t = c.args.self.now in
    let l = layout_of t.layout in
    let at = c.loop-at-2.at in
    let s = c.loop-at-2.invariant in
    let i = c.in-Some.first in
    let j = c.in-Some-second.second in
    let d = c.index-self-first.result in
    let e = c.index-self-second.result in
    record {
      placed = met_placed t.table.now t.heads.now t.linked l c.args.stage at i j d e s.placed s.here c.in-Some-second.is;
      same = met_fails t.table.now t.heads.now t.linked l c.args.stage at i j d e s.placed s.here c.in-Some-second.is (sym c.passes.ensures ∙ c.if-passes.false) ∙ s.same;
      here = s.here;
      fewer = omega (arith, s.fewer, met_less t.table.now t.heads.now t.linked l c.args.stage at i j d e s.placed s.here c.in-Some-second.is);
    }
