use Rattle.std.proofs.Common.{◌+◌, ◌*◌, ◌^◌, ◌<◌, min, length, drop, sym, ap, ◌∙◌, arith}
use Rattle.drawing.specs.Numbers.{value_after}
use Rattle.drawing.proofs.Numerals.{digits_more, value_more}
use Rattle.drawing.proofs.number.capped_value.Goals as goal

pub loop-byte-preserved : goal.loop-byte-preserved
loop-byte-preserved c =
    let bs = c.args.text.now in
    let i = c.loop-byte.byte-index in
    let in' : i < length bs = c.loop-byte-test.true in
    let old = c.loop-byte.invariant in
    let grown = c.min-value.ensures ∙ ap (λ x. min (10 * c.loop-byte.value + x) (2 ^ 32)) c.from.ensures in (
      digits_more bs i in' (sym c.is_ascii_digit.ensures.value ∙ c.if-not-is_ascii_digit.false) ∙ old.0,
      ap (λ n. min (value_after n (drop (i + 1) bs)) (2 ^ 32)) grown ∙ value_more (2 ^ 32) c.loop-byte.value bs i in' ∙ old.1,
      omega arith,
    )
