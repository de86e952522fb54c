-- A loop that writes one value over a list.
use Rattle.std.proofs.Common.{◌≡◌, ℕ, zero, suc, ◌+◌, ◌<◌, ◌≤◌, List, [], ◌∷◌, ◌++◌, length, drop, set, replicate, refl, ap, ◌∙◌, add-one, arith}
use Rattle.std.proofs.lemmas.List.{append-nil, drop_all}

fill_suc : {X : Type 0} (i : ℕ) (v : X) (t : List X) → i < length t → set (replicate i v ++ drop i t) i v ≡ replicate (suc i) v ++ drop (suc i) t
fill_suc i v [] h = let no : ⊥ = omega arith in absurd no
fill_suc zero v (x ∷ t) h = refl
fill_suc (suc i) v (x ∷ t) h = ap (λ u. v ∷ u) (fill_suc i v t (omega arith))

pub fill_more : {X : Type 0} (i : ℕ) (v : X) (t : List X) → i < length t → set (replicate i v ++ drop i t) i v ≡ replicate (i + 1) v ++ drop (i + 1) t
fill_more i v t h = rw add-one (fill_suc i v t h)

pub fill_all : {X : Type 0} (i : ℕ) (v : X) (t s : List X) → s ≡ replicate i v ++ drop i t → i ≤ length t → length t ≤ i → s ≡ replicate (length t) v
fill_all i v t s e le ge =
    let q : i ≡ length t = omega arith in
    e ∙ ap (λ u. replicate i v ++ u) (drop_all i t ge) ∙ append-nil (replicate i v) ∙ ap (λ n. replicate n v) q
