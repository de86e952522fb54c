-- What holds of all that is in a list, and what is in the list of its images.
use Rattle.std.proofs.Common.{◌≡◌, ℕ, zero, suc, ◌<◌, List, [], ◌∷◌, map, length, get_or, sym, refl, ap, subst, inl, inr, arith}
use Rattle.std.specs.List.{AllByRecursion}
use Rattle.plane.specs.Rules.{In}

pub all_in : {X : Type 0} (P : X → Type 0) (l : List X) → AllByRecursion P l → (x : X) → In x l → P x
all_in P [] a x h = absurd h
all_in P (y ∷ l) a x (inl e) = subst P (sym e) a.0
all_in P (y ∷ l) a x (inr h) = all_in P l a.1 x h

pub all_from_in : {X : Type 0} (P : X → Type 0) (l : List X) → ((x : X) → In x l → P x) → AllByRecursion P l
all_from_in P [] h = tt
all_from_in P (y ∷ l) h = (h y (inl refl), all_from_in P l (λ x i. h x (inr i)))

pub in_at : {X : Type 0} (l : List X) (i : ℕ) (d : X) → i < length l → In (get_or l i d) l
in_at [] i d h = absurd (omega arith)
in_at (x ∷ l) zero d h = inl refl
in_at (x ∷ l) (suc i) d h = inr (in_at l i d (omega arith))

pub in_map : {X Y : Type 0} (f : X → Y) (l : List X) (x : X) → In x l → In (f x) (map f l)
in_map f [] x h = absurd h
in_map f (y ∷ l) x (inl e) = inl (ap f e)
in_map f (y ∷ l) x (inr h) = inr (in_map f l x h)

pub of_map : {X Y : Type 0} (f : X → Y) (l : List X) (y : Y) → In y (map f l) → (x : X) × In x l × (y ≡ f x)
of_map f [] y h = absurd h
of_map f (x ∷ l) y (inl e) = (x, inl refl, e)
of_map f (x ∷ l) y (inr h) = let w = of_map f l y h in (w.0, inr w.1, w.2)
