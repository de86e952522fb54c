-- The list of exactly the marks that a test tells.
use Rattle.std.specs.Prelude.{◌≡◌, Bool, false, ◌||◌, List, [], ◌∷◌}
use Rattle.std.specs.Ordering.{is_eq}
use Rattle.table.specs.Listings.{Ordered}
use Rattle.segm.specs.Marks.{mark_order}
use Rattle.segm.specs.MarkKind.{mark_kind}
use Rattle.segm.specs.declared.line_mark.LineMark.{LineMark}

abbrev pub same_mark? : LineMark → LineMark → Bool
same_mark? m n = is_eq (mark_order m n)

abbrev pub holds? : List LineMark → LineMark → Bool
holds? [] m = false
holds? (n ∷ l) m = same_mark? m n || holds? l m

-- l lists the marks that P tells: in strict order, and just those
pub record Marked (P : LineMark → Bool) (l : List LineMark) : Type 0 where
  pub ordered : Ordered mark_kind l
  pub each : (m : LineMark) → holds? l m ≡ P m

-- the marks of P, and m
abbrev pub with_mark : LineMark → (LineMark → Bool) → LineMark → Bool
with_mark m P n = same_mark? n m || P n

-- a test has one list
abbrev pub MarksDetermine : Type 0
MarksDetermine = (P : LineMark → Bool) (l m : List LineMark) → Marked P l → Marked P m → l ≡ m
