-- What follows from the laws of a kind of counts.
use Rattle.std.proofs.Common.{◌≡◌, Bool, true, false, sym, refl, ap, ◌∙◌}
use Rattle.segm.specs.Counts.{CountKind}
use Rattle.segm.specs.Balance.{when}

module _ {C : Type 0} (K : CountKind C) where
  pub identity_left : (x : C) → K.sum K.neutral x ≡ x
  identity_left x = K.comm K.neutral x ∙ K.identity x

  -- an inverse is the only one
  inverse_only : (x y : C) → K.sum x y ≡ K.neutral → y ≡ K.inverse x
  inverse_only x y e =
      sym (identity_left y) ∙ ap (λ z. K.sum z y) (sym (K.cancels x) ∙ K.comm x (K.inverse x)) ∙ K.assoc (K.inverse x) x y
      ∙ ap (K.sum (K.inverse x)) e ∙ K.identity (K.inverse x)

  pub inverse_neutral : K.inverse K.neutral ≡ K.neutral
  inverse_neutral = sym (inverse_only K.neutral K.neutral (K.identity K.neutral))

  pub inverse_inverse : (x : C) → K.inverse (K.inverse x) ≡ x
  inverse_inverse x = sym (inverse_only (K.inverse x) x (K.comm (K.inverse x) x ∙ K.cancels x))

  pub sum_swap : (a b c d : C) → K.sum (K.sum a b) (K.sum c d) ≡ K.sum (K.sum a c) (K.sum b d)
  sum_swap a b c d =
      K.assoc a b (K.sum c d)
      ∙ ap (K.sum a) (sym (K.assoc b c d) ∙ ap (λ z. K.sum z d) (K.comm b c) ∙ K.assoc c b d)
      ∙ sym (K.assoc a c (K.sum b d))

  pub inverse_sum : (x y : C) → K.inverse (K.sum x y) ≡ K.sum (K.inverse x) (K.inverse y)
  inverse_sum x y =
      sym (inverse_only (K.sum x y) (K.sum (K.inverse x) (K.inverse y))
      (sum_swap x y (K.inverse x) (K.inverse y) ∙ ap (λ z. K.sum z (K.sum y (K.inverse y))) (K.cancels x)
      ∙ identity_left (K.sum y (K.inverse y)) ∙ K.cancels y))

  pub when_sum : (b : Bool) (x y : C) → when K b (K.sum x y) ≡ K.sum (when K b x) (when K b y)
  when_sum true x y = refl
  when_sum false x y = sym (K.identity K.neutral)

  pub when_neutral : (b : Bool) → when K b K.neutral ≡ K.neutral
  when_neutral true = refl
  when_neutral false = refl
