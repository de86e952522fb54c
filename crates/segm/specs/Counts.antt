-- What a kind of counts is: a commutative group with a test for its neutral count.
use Rattle.std.specs.Prelude.{◌≡◌, Bool, true}

pub record CountKind (X : Type 0) : Type 0 where
  pub sum : X → X → X
  pub inverse : X → X
  pub neutral : X
  pub empty? : X → Bool
  pub assoc : (x y z : X) → sum (sum x y) z ≡ sum x (sum y z)
  pub comm : (x y : X) → sum x y ≡ sum y x
  pub identity : (x : X) → sum x neutral ≡ x
  pub cancels : (x : X) → sum x (inverse x) ≡ neutral
  pub neutral_empty : empty? neutral ≡ true
  pub empty_neutral : (x : X) → empty? x ≡ true → x ≡ neutral
