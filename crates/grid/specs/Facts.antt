-- Where a walk stands is a fact: it holds in one way at most.
use Rattle.std.specs.Prelude.{◌≡◌, ℕ, List, Some, None, Option}
use mathlib.Core.HLevel.{⊥_prop, Π_prop, →_prop, ×_prop, Unit-prop}
use native.Mathlib.Bridge.{le_prop}
use native.Mathlib.Nat.{ℕ_set}
use Rattle.std.specs.Coded.{Coded-set, coded_ℕ, coded_option}
use Rattle.grid.specs.declared.fragment.Fragment.{Fragment}
use Rattle.grid.specs.declared.cursor.Cursor.{Cursor}
use Rattle.grid.specs.declared.cursor.Stage.{Stage}
use Rattle.grid.specs.declared.cursor.Stage.TheVariants.{Columns, Borders}
use Rattle.grid.specs.declared.cursor.WalkState.{WalkState}
use Rattle.grid.specs.declared.cursor.WalkState.TheVariants.{Filling, Column, Border, Done}
use Rattle.grid.specs.Tables.{Content, contents, Names, Leads, Linked, Placed, Stands, Standing}

pub names_prop : (ms : List Content) (c : ℕ) (j : Option ℕ) → IsProp (Names ms c j)
names_prop ms c None = Unit-prop
names_prop ms c (Some j) = ×_prop le_prop (ℕ_set _ _)

leads_prop : (ms : List Content) (c k : ℕ) (j : Option ℕ) → IsProp (Leads ms c k j)
leads_prop ms c k j x y = λ i. record {
  ahead = le_prop x.ahead y.ahead i;
  inside = names_prop ms c j x.inside y.inside i;
  skips = Π_prop (λ n. →_prop (→_prop (→_prop ⊥_prop))) x.skips y.skips i;
}

pub linked_prop : (qs : List Fragment) (heads : List (Option ℕ)) → IsProp (Linked qs heads)
linked_prop qs heads x y = λ i. record {
  short = le_prop x.short y.short i;
  starts = Π_prop (λ c. →_prop (leads_prop (contents qs) c 0 _)) x.starts y.starts i;
  goes_on = Π_prop (λ k. Π_prop (λ d. →_prop (leads_prop (contents qs) _ _ _))) x.goes_on y.goes_on i;
}

none_prop : (o : Option ℕ) → IsProp (o ≡ None)
none_prop o = Coded-set (coded_option coded_ℕ) o None

placed_prop : (stage : Stage) (ms : List Content) (at : Cursor) → IsProp (Placed stage ms at)
placed_prop stage ms at x y = λ i. record {
  few = le_prop x.few y.few i;
  first_in = names_prop ms _ at.first x.first_in y.first_in i;
  second_in = names_prop ms _ at.second x.second_in y.second_in i;
  beside = →_prop (none_prop at.second) x.beside y.beside i;
}

stands_prop : (ms : List Content) (state : WalkState) → IsProp (Stands ms state)
stands_prop ms Filling = Unit-prop
stands_prop ms (Column at) = placed_prop Columns ms at
stands_prop ms (Border at) = placed_prop Borders ms at
stands_prop ms Done = Unit-prop

pub standing_prop : (qs : List Fragment) (heads : List (Option ℕ)) (state : WalkState) → IsProp (Standing qs heads state)
standing_prop qs heads state x y = λ i. record {
  linked = →_prop (linked_prop qs heads) x.linked y.linked i;
  stands = stands_prop (contents qs) state x.stands y.stands i;
}
