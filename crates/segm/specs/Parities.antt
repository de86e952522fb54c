-- Counts that tell only whether they are odd.
use Rattle.std.specs.Prelude.{Bool, true, false, not}
use Rattle.segm.specs.declared.parity.Parity.{Parity}

abbrev pub even : Parity
even = record { odd = false }

abbrev pub differ : Bool → Bool → Bool
differ true b = not b
differ false b = b

-- odd if one of both is
abbrev pub one_of : Parity → Parity → Parity
one_of x y = record { odd = differ x.odd y.odd }
