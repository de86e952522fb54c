-- The fields of a text: the parts before, between and after the marks of one kind.
use Rattle.std.specs.Prelude.{◌≡◌, ℕ, ◌<◌, cond, List, [], ◌∷◌, length, Some, None, Option, ◌==◌}
use Rattle.std.specs.Borrow.{Bor}

-- a byte more before the first field
abbrev pub onto : ℕ → List (List ℕ) → List (List ℕ)
onto b [] = (b ∷ []) ∷ []
onto b (f ∷ fs) = (b ∷ f) ∷ fs

-- the fields of a text that the byte m parts: one more than it has marks
abbrev pub fields : ℕ → List ℕ → List (List ℕ)
fields m [] = [] ∷ []
fields m (b ∷ bs) = cond (b == m) ([] ∷ fields m bs) (onto b (fields m bs))

-- the first field and what follows its mark; none where the text is its only field
abbrev pub Cuts : ℕ → List ℕ → Option (Bor (List ℕ) × Bor (List ℕ)) → Type 0
Cuts m bs None = fields m bs ≡ bs ∷ []
Cuts m bs (Some (f, rest)) = (fields m bs ≡ f.now ∷ fields m rest.now) × (length rest.now < length bs)
