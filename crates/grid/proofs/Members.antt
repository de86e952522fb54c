-- What is in a list that is joined from others, kept by a test, or counted.
use Rattle.std.proofs.Common.{◌≡◌, ℕ, zero, suc, ◌+◌, ◌*◌, ◌<◌, ◌≤◌, Bool, true, false, cond, ◌⊎◌, List, [], ◌∷◌, length, filter, sym, refl, ap, ◌∙◌, subst, inl, inr, suc-mul, arith, length-append}
use mathlib.Core.Bool.{false≢true}
use Rattle.std.specs.List.{range_with_len, flat_map}
use Rattle.std.proofs.lemmas.List.Sums.{length-filter, count_by-le-length}
use Rattle.std.proofs.lemmas.Bool.{cases_eq}
use Rattle.plane.specs.Rules.{In}
use Rattle.finder.proofs.Members.{in_left, in_right, in_split}

module _ {X : Type 0} (x : X) where
  pub in_kept : (p : X → Bool) (xs : List X) → In x xs → p x ≡ true → In x (filter p xs)
  in_kept p [] h t = absurd h
  in_kept p (z ∷ xs) h t = go (p z) refl h (λ k. in_kept p xs k t)
    where
      go : (b : Bool) → p z ≡ b → (x ≡ z) ⊎ In x xs → (In x xs → In x (filter p xs)) → In x (cond b (z ∷ filter p xs) (filter p xs))
      go true e (inl i) r = inl i
      go true e (inr k) r = inr (r k)
      go false e (inl i) r = absurd (false≢true (sym e ∙ sym (ap p i) ∙ t))
      go false e (inr k) r = r k

  pub kept_in : (p : X → Bool) (xs : List X) → In x (filter p xs) → In x xs × (p x ≡ true)
  kept_in p [] h = absurd h
  kept_in p (z ∷ xs) h = go (p z) refl h (λ k. kept_in p xs k)
    where
      go : (b : Bool) → p z ≡ b → In x (cond b (z ∷ filter p xs) (filter p xs)) → (In x (filter p xs) → In x xs × (p x ≡ true)) → ((x ≡ z) ⊎ In x xs) × (p x ≡ true)
      go true e (inl i) r = (inl i, ap p i ∙ e)
      go true e (inr k) r = let w = r k in (inr w.0, w.1)
      go false e k r = let w = r k in (inr w.0, w.1)

pub length_kept : {X : Type 0} (p : X → Bool) (xs : List X) → length (filter p xs) ≤ length xs
length_kept p xs = omega (arith, length-filter p xs, count_by-le-length p xs)

module _ {X A : Type 0} (f : X → List A) where
  pub in_joined : (x : X) (a : A) (xs : List X) → In x xs → In a (f x) → In a (flat_map f xs)
  in_joined x a [] h i = absurd h
  in_joined x a (z ∷ xs) (inl e) i = in_left a (f z) (flat_map f xs) (subst (λ (w : X). In a (f w)) e i)
  in_joined x a (z ∷ xs) (inr h) i = in_right a (f z) (flat_map f xs) (in_joined x a xs h i)

  pub joined_in : (a : A) (xs : List X) → In a (flat_map f xs) → (x : X) × In x xs × In a (f x)
  joined_in a [] h = absurd h
  joined_in a (z ∷ xs) h = elim (in_split a (f z) (flat_map f xs) h) [ inl k ↦ (z, inl refl, k) | inr k ↦ let w = joined_in a xs k in (w.0, inr w.1, w.2) ]

  pub length_joined : (m : ℕ) → ((x : X) → length (f x) ≤ m) → (xs : List X) → length (flat_map f xs) ≤ length xs * m
  length_joined m h [] = omega arith
  length_joined m h (x ∷ xs) = omega (arith, length-append (f x) (flat_map f xs), h x, length_joined m h xs, suc-mul (length xs) m)

pub in_counting : (a n c : ℕ) → a ≤ c → c < a + n → In c (range_with_len a n)
in_counting a zero c h l = absurd (over h l)
  where
    over : a ≤ c → c < a + 0 → ⊥
    over h l = omega arith
in_counting a (suc n) c h l = elim (cases_eq c a) [ inl e ↦ inl e | inr e ↦ inr (in_counting (a + 1) n c (past e) (omega arith)) ]
  where
    past : (c ≡ a → ⊥) → a + 1 ≤ c
    past e = omega arith
