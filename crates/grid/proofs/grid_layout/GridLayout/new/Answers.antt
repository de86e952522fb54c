use Rattle.std.proofs.Common.{◌≡◌, ℕ, ◌-◌, ◌*◌, ◌/◌, ◌^◌, ◌<◌, ◌≤◌, max, eqb, pos, nat_abs, sym, ap, ◌∙◌, inl, inr, arith, pow_pos, w32, SFits, rules}
use borrow.Author.Differences.{ints}
use lib.Signed.{lt_z}
use Rattle.std.proofs.lemmas.Int.{to_z-of_z}
use Rattle.std.proofs.lemmas.Bool.{or_left, or_right, or_from, eq-eqb, ne_eqb}
use Rattle.finder.specs.Finders.{box_of}
use Rattle.grid.specs.Layouts.{ilog2, width}
use Rattle.grid.proofs.Columns.{power_single, power_many, layout_ext}
use Rattle.grid.proofs.Logs.{ilog2_is, ilog2_below}
use Rattle.grid.proofs.Sizes.{by_bits, difference_is}
use Rattle.grid.proofs.grid_layout.GridLayout.new.Goals as goal

pub returns-then-width-lt4 : goal.returns-then-width-lt4
returns-then-width-lt4 c =
    let m : SFits w32 c.args.extent.min_x = search rules in
    let k : SFits w32 c.args.extent.max_x = search rules in
    let w = difference_is c.args.extent.min_x c.args.extent.max_x m k in
    layout_ext (to_z-of_z w32 c.args.extent.min_x m) (sym (power_single (box_of c.args.extent) c.args.number
    (elim c.then-width-lt4.either [
      | inl h ↦ or_left (lt_z (width (box_of c.args.extent)) (pos 4)) (eqb c.args.number 0) (ap (λ z. lt_z z (pos 4)) (sym w) ∙ h)
      | inr h ↦ or_right (lt_z (width (box_of c.args.extent)) (pos 4)) (eqb c.args.number 0) (eq-eqb c.args.number 0 h.1)
    ])))

-- the power of many columns
reckoned : (w n i j d p : ℕ) → w < 2 ^ 64 → 2 ^ i ≤ w → w < 2 * 2 ^ i → n < 2 ^ 64 → 2 ^ j ≤ n → n < 2 * 2 ^ j → d ≡ i - j / 2 → p ≡ max d 1 → p ≡ max 1 (ilog2 w - ilog2 n / 2)
reckoned w n i j d p f a b g r s e h = omega (arith, ilog2_is w i f a b, ilog2_is n j g r s)

pub returns : goal.returns
returns c =
    let m : SFits w32 c.args.extent.min_x = search rules in
    let k : SFits w32 c.args.extent.max_x = search rules in
    let w = difference_is c.args.extent.min_x c.args.extent.max_x m k in
    let p = reckoned (nat_abs (by_bits c.args.extent.min_x c.args.extent.max_x)) c.args.number c.ilog2-log.result c.ilog2-half.result c.saturating_sub.result c.max.result
    (omega (arith, ints)) c.ilog2-log.ensures.power_le c.ilog2-log.ensures.next_power_gt c.ranges.number.fits c.ilog2-half.ensures.power_le c.ilog2-half.ensures.next_power_gt c.saturating_sub.ensures c.max.ensures in
    layout_ext (to_z-of_z w32 c.args.extent.min_x m)
    (p ∙ ap (λ z. max 1 (ilog2 (nat_abs z) - ilog2 c.args.number / 2)) w
    ∙ sym (power_many (box_of c.args.extent) c.args.number
    (or_from (lt_z (width (box_of c.args.extent)) (pos 4)) (eqb c.args.number 0) (ap (λ z. lt_z z (pos 4)) (sym w) ∙ c.if-width-lt4.false) (ne_eqb c.args.number 0 c.if-number-eq0.false))))

few : (w i d p : ℕ) → w < 2 ^ 32 → 2 ^ i ≤ w → w < 2 * 2 ^ i → d ≤ i → p ≡ max d 1 → p ≤ 32
few w i d p f a b e h =
    let s : 0 < w = omega (arith, pow_pos i) in
    let l : w < 2 ^ 64 = omega arith in
    omega (arith, ilog2_is w i l a b, ilog2_below w 32 s f)

pub invariant_of-result-2 : goal.invariant_of-result-2
invariant_of-result-2 c =
    let m : SFits w32 c.args.extent.min_x = search rules in
    let k : SFits w32 c.args.extent.max_x = search rules in
    record {
      narrow = few (nat_abs (by_bits c.args.extent.min_x c.args.extent.max_x)) c.ilog2-log.result c.saturating_sub.result c.max.result (omega (arith, ints)) c.ilog2-log.ensures.power_le c.ilog2-log.ensures.next_power_gt (omega (arith, c.saturating_sub.ensures)) c.max.ensures;
    }
