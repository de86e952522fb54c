-- What placing one group after another leaves.
use Rattle.std.proofs.Common.{◌≡◌, ◌+◌, ◌-◌, ◌<◌, ◌≤◌, true, false, get_or, length, sym, refl, ◌∙◌, subst, ap₂, arith, rules, w32, to_z, of_z}
use borrow.Author.Differences.{ints}
use lib.Signed.{lt_z}
use Rattle.std.proofs.lemmas.Int.{to_z-of_z}
use Rattle.cutting.proofs.PlacingLoops.{placing_as, placing_none, placing_more, Turned, turned_back, turned_not, first_told, group_from, group_within, y_kept}
use Rattle.cutting.proofs.placing.place_marks.Goals as goal
use Rattle.cutting.proofs.placing.place_marks.Goals.{then-before-after, else-before-after}

pub loop-from-init : goal.loop-from-init
loop-from-init c = placing_none _ c.args.b.y c.args.marks.now

module _ (c : goal.After-index-marks-to) where
  group_turned : Turned (lt_z c.map_or-after.result c.loop-from.before) c.loop-from.marks c.if-before-after.marks c.loop-from.from (c.loop-from.from + c.group_len.result)
  group_turned =
      let t = c.loop-from.marks in
      let k = c.loop-from.from in
      let to = k + c.group_len.result in
      let within : to ≤ length t = group_within t k c.group_len.result c.loop-from.invariant.within c.group_len.ensures.within in
      let same : to_z w32 (of_z w32 c.map_or-after.result) ≡ c.map_or-after.result = to_z-of_z w32 c.map_or-after.result (omega (arith, ints)) in
      let test = ap₂ lt_z (sym same) (sym c.loop-from.before-is) in
      elim c.if-before-after.branch [
        | then-before-after w ↦
            subst (λ b. Turned b t c.if-before-after.marks k to) (sym (test ∙ w.if-before-after.true))
            (subst (λ u. Turned true t u k to) (sym w.marks-is) (turned_back t k to (omega arith) within w.reverse.new.self w.reverse.ensures.after))
        | else-before-after w ↦
            subst (λ b. Turned b t c.if-before-after.marks k to) (sym (test ∙ w.if-before-after.false))
            (subst (λ u. Turned false t u k to) (sym w.marks-is) (turned_not t k to (omega arith) within))
      ]

pub loop-from-preserved : goal.loop-from-preserved
loop-from-preserved c =
    let t = c.loop-from.marks in
    let k = c.loop-from.from in
    let to = k + c.group_len.result in
    let u = c.if-before-after.marks in
    let d = c.index-marks-to.result in
    let behind : k < to = omega arith in
    let within : to ≤ length t = group_within t k c.group_len.result c.loop-from.invariant.within c.group_len.ensures.within in
    let after = first_told t to c.args.b.y _ (y_kept c.args.b) c.get.result c.map_or-after.result _ c.map_or-after.ensures (λ m w. search rules) c.get.ensures.lookup.3 c.get.ensures.lookup.1 in
    placing_more _ c.args.b.y c.args.marks.now t k c.loop-from.before (placing_as c.loop-from.before-is c.loop-from.invariant) c.group_len.result to c.map_or-after.result u _ d
    refl behind within (group_from t k c.group_len.result c.group_len.ensures.group)
    after c.if-before-after.auto.marks (group_turned c) (y_kept (get_or u (to - 1) d).point)
