-- The letters of touches.
use Rattle.std.specs.Prelude.{ℕ, List, codes}
use Rattle.plane.specs.declared.touch_type.TouchType.{TouchType}
use Rattle.plane.specs.declared.touch_type.TouchType.TheVariants.{Overlay, End, Inner}

abbrev pub letter : TouchType → List ℕ
letter Overlay = codes "V"
letter End = codes "D"
letter Inner = codes "I"
