-- Parity as a kind of counts, with the proofs of its laws: every count is its own inverse.
use Rattle.std.specs.Prelude.{◌≡◌, Bool, true, false, not, refl}
use Rattle.segm.specs.declared.parity.Parity.{Parity}
use Rattle.segm.specs.Counts.{CountKind}
use Rattle.segm.specs.Parities.{even, differ, one_of}

pub differ_assoc : (x y z : Bool) → differ (differ x y) z ≡ differ x (differ y z)
differ_assoc true true true = refl
differ_assoc true true false = refl
differ_assoc true false z = refl
differ_assoc false y z = refl

pub differ_comm : (x y : Bool) → differ x y ≡ differ y x
differ_comm true true = refl
differ_comm true false = refl
differ_comm false true = refl
differ_comm false false = refl

pub differ_false : (x : Bool) → differ x false ≡ x
differ_false true = refl
differ_false false = refl

pub differ_itself : (x : Bool) → differ x x ≡ false
differ_itself true = refl
differ_itself false = refl

pub not_odd : (b : Bool) → not b ≡ true → b ≡ false
not_odd true e = cc
not_odd false e = refl

abbrev pub parity_kind : CountKind Parity
parity_kind = record {
  sum = one_of;
  inverse = λ x. x;
  neutral = even;
  empty? = λ x. not x.odd;
  assoc = λ x y z. λ i. record { odd = differ_assoc x.odd y.odd z.odd i };
  comm = λ x y. λ i. record { odd = differ_comm x.odd y.odd i };
  identity = λ x. λ i. record { odd = differ_false x.odd i };
  cancels = λ x. λ i. record { odd = differ_itself x.odd i };
  neutral_empty = refl;
  empty_neutral = λ x e. λ i. record { odd = not_odd x.odd e i };
}
