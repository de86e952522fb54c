use Rattle.std.proofs.Common.{◌≡◌, ◌^◌, ◌≤◌, min, drop}
use Rattle.std.specs.Str.{all_ascii_digits}
use Rattle.drawing.specs.Numbers.{numeral?, value, value_after}
use Rattle.drawing.proofs.number.capped_value.Given as goal

abbrev pub invariant-loop-byte : goal.invariant-loop-byte
invariant-loop-byte l =
    (all_ascii_digits (drop l.byte-index l.text) ≡ numeral? l.text)
    × (min (value_after l.value (drop l.byte-index l.text)) (2 ^ 32) ≡ min (value l.text) (2 ^ 32))
    × (l.value ≤ 2 ^ 32)
