-- What is in a list.
use Rattle.std.proofs.Common.{◌⊎◌, List, [], ◌∷◌, ◌++◌, refl, inl, inr}
use Rattle.plane.specs.Rules.{In}

pub in_left : {X : Type 0} (p : X) (xs ys : List X) → In p xs → In p (xs ++ ys)
in_left p [] ys i = absurd i
in_left p (x ∷ xs) ys (inl e) = inl e
in_left p (x ∷ xs) ys (inr i) = inr (in_left p xs ys i)

pub in_right : {X : Type 0} (p : X) (xs ys : List X) → In p ys → In p (xs ++ ys)
in_right p [] ys i = i
in_right p (x ∷ xs) ys i = inr (in_right p xs ys i)

pub in_split : {X : Type 0} (p : X) (xs ys : List X) → In p (xs ++ ys) → In p xs ⊎ In p ys
in_split p [] ys i = inr i
in_split p (x ∷ xs) ys (inl e) = inl (inl e)
in_split {X} p (x ∷ xs) ys (inr i) = further (in_split p xs ys i)
  where
    further : In p xs ⊎ In p ys → In p (x ∷ xs) ⊎ In p ys
    further (inl h) = inl (inr h)
    further (inr h) = inr h

pub in_middle : {X : Type 0} (p : X) (xs ys : List X) → In p (xs ++ (p ∷ ys))
in_middle p [] ys = inl refl
in_middle p (x ∷ xs) ys = inr (in_middle p xs ys)
