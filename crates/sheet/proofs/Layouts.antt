-- A table with a list in its first places and blank places behind, told in the sheet's words and in the table's.
use Rattle.std.proofs.Common.{◌≡◌, ℕ, ◌-◌, ◌≤◌, List, ◌++◌, length, take, drop, replicate, sym, ap, ◌∙◌, take-append-drop, length-take-le, drop_at}

module _ {X : Type 0} (blank : X) where
  pub blank_behind : (t : List X) (n : ℕ) → n ≤ length t → t ≡ take n t ++ replicate (length t - length (take n t)) blank → drop n t ≡ replicate (length t - n) blank
  blank_behind t n le e =
      let m = length-take-le n t le in
      ap (drop n) e ∙ drop_at (take n t) (replicate (length t - length (take n t)) blank) n m ∙ ap (λ (k : ℕ). replicate (length t - k) blank) m

  pub laid_out : (t : List X) (n : ℕ) → n ≤ length t → drop n t ≡ replicate (length t - n) blank → t ≡ take n t ++ replicate (length t - length (take n t)) blank
  laid_out t n le e =
      let m = length-take-le n t le in
      sym (take-append-drop n t) ∙ ap (λ r. take n t ++ r) (e ∙ ap (λ (k : ℕ). replicate (length t - k) blank) (sym m))
