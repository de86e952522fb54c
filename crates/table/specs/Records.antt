-- What an ordered table asks of its records: an order of keys, a joining of records with one key, and a blank.
use Rattle.std.specs.Prelude.{◌≡◌, Bool, true}
use Rattle.std.specs.declared.cmp.Ordering.TheVariants.{Less, Equal}
use Rattle.std.specs.declared.cmp.Ordering.{Ordering}
use Rattle.std.specs.Ordering.{ordering_reverse}

pub record RecordKind (R : Type 0) : Type 0 where
  -- how the keys of two records stand to each other
  pub order : R → R → Ordering
  -- what two records with one key make together
  pub joined : R → R → R
  -- a record that stands for nothing
  pub empty? : R → Bool
  -- what an unused place holds
  pub blank : R
  pub flip : (x y : R) → order x y ≡ ordering_reverse (order y x)
  pub trans : (x y z : R) → order x y ≡ Less → order y z ≡ Less → order x z ≡ Less
  pub alike : (x y z : R) → order x y ≡ Equal → order x z ≡ order y z
  pub keeps : (x y : R) → order x y ≡ Equal → order (joined x y) x ≡ Equal
  pub comm : (x y : R) → order x y ≡ Equal → joined x y ≡ joined y x
  pub assoc : (x y z : R) → order x y ≡ Equal → order y z ≡ Equal → joined (joined x y) z ≡ joined x (joined y z)
  pub neutral : (x y : R) → order x y ≡ Equal → empty? y ≡ true → joined x y ≡ x
