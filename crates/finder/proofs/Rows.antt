-- The list of all pairs: where it goes on, and that it is a walk.
use Rattle.std.proofs.Common.{◌≡◌, ℕ, zero, suc, ◌+◌, ◌-◌, ◌*◌, ◌^◌, ◌<◌, ◌≤◌, ltb, ◌⊎◌, List, [], ◌∷◌, ◌++◌, length, Some, sym, refl, ap, ◌∙◌, subst, ap₂, inl, inr, suc-mul, mul-le-mul, arith, length-append}
use Rattle.std.proofs.lemmas.Bool.{lt-ltb, le-ltb, cond-true, cond-false, cases_lt}
use Rattle.plane.specs.Edges.{Edge}
use Rattle.plane.specs.Rules.{In}
use Rattle.finder.specs.Finders.{Pair, Walk, first, rest}
use Rattle.finder.specs.Pairs.{row, rows, all_pairs, pairs_from}
use Rattle.finder.proofs.Members.{in_left, in_right, in_split}

-- ---- one pair after another
row_more : (i j n k : ℕ) → n - j ≡ suc k → row i j (n - j) ≡ (i, j) ∷ row i (j + 1) (n - (j + 1))
row_more i j n k e =
    let f : n - (j + 1) ≡ k = omega arith in
    ap (row i j) e ∙ ap (λ m. (i, j) ∷ row i (j + 1) m) (sym f)

row_next : (i j n : ℕ) → j < n → row i j (n - j) ≡ (i, j) ∷ row i (j + 1) (n - (j + 1))
row_next i j n h = row_more i j n (n - (j + 1)) (omega arith)

opened : (n i j : ℕ) → j < n → pairs_from n i j ≡ row i j (n - j) ++ rows n (i + 1) (n - (i + 1))
unfolding pairs_from
opened n i j h = cond-true (ltb j n) _ _ (lt-ltb j n h)

pub from_past : (n i j : ℕ) → n ≤ j → pairs_from n i j ≡ []
unfolding pairs_from
from_past n i j h = cond-false (ltb j n) _ _ (le-ltb j n h)

pub from_first : (n i j : ℕ) → j < n → first (pairs_from n i j) ≡ Some (i, j)
from_first n i j h = ap first (opened n i j h ∙ ap (λ x. x ++ rows n (i + 1) (n - (i + 1))) (row_next i j n h))

pub rest_past : (n i j : ℕ) → n ≤ j → pairs_from n i j ≡ rest (pairs_from n i j)
rest_past n i j h = from_past n i j h ∙ sym (ap rest (from_past n i j h))

pub rest_more : (n i j : ℕ) → j + 1 < n → pairs_from n i (j + 1) ≡ rest (pairs_from n i j)
rest_more n i j h =
    opened n i (j + 1) h ∙ sym (ap rest (opened n i j (omega arith) ∙ ap (λ x. x ++ rows n (i + 1) (n - (i + 1))) (row_next i j n (omega arith))))

-- the rows from i on are the pairs from (i, i + 1) on
rows_from : (n i : ℕ) → rows n i (n - i) ≡ pairs_from n i (i + 1)
rows_from n i = go (cases_lt (i + 1) n)
  where
    none : (m : ℕ) → n - i ≡ m → n ≤ i + 1 → rows n i m ≡ []
    none zero e h = refl
    none (suc k) e h =
        let a : n - (i + 1) ≡ 0 = omega arith in
        let b : k ≡ 0 = omega arith in
        ap₂ (λ x y. row i (i + 1) x ++ rows n (i + 1) y) a b

    go : ((i + 1) < n) ⊎ (n ≤ i + 1) → rows n i (n - i) ≡ pairs_from n i (i + 1)
    go (inl h) =
        let e : n - i ≡ suc (n - (i + 1)) = omega arith in
        ap (rows n i) e ∙ sym (opened n i (i + 1) h)
    go (inr h) = none (n - i) refl h ∙ sym (from_past n i (i + 1) h)

pub rest_last : (n i j : ℕ) → j < n → n ≤ j + 1 → pairs_from n (i + 1) (i + 2) ≡ rest (pairs_from n i j)
rest_last n i j h l =
    let z : n - (j + 1) ≡ 0 = omega arith in
    let two : i + 1 + 1 ≡ i + 2 = omega arith in
    sym (ap rest (opened n i j h ∙ ap (λ x. x ++ rows n (i + 1) (n - (i + 1))) (row_next i j n h ∙ ap (λ k. (i, j) ∷ row i (j + 1) k) z))
    ∙ rows_from n (i + 1) ∙ ap (pairs_from n (i + 1)) two)

pub from_start : (n : ℕ) → pairs_from n 0 1 ≡ all_pairs n
from_start n = sym (ap (rows n 0) (sym z) ∙ rows_from n 0 ∙ ap (pairs_from n 0) one)
  where
    z : n - 0 ≡ n
    z = omega arith

    one : 0 + 1 ≡ 1
    one = omega arith

-- ---- which pairs there are
in_row : (i j k t : ℕ) → t < k → In (i, j + t) (row i j k)
in_row i j zero t h = absurd (omega arith)
in_row i j (suc k) zero h = let e : j + 0 ≡ j = omega arith in inl (ap (λ m. (i, m)) e)
in_row i j (suc k) (suc t) h =
    let e : (j + 1) + t ≡ j + suc t = omega arith in
    inr (subst (λ m. In (i, m) (row i (j + 1) k)) e (in_row i (j + 1) k t (omega arith)))

row_in : (p : Pair) (i j k : ℕ) → In p (row i j k) → (p.0 ≡ i) × (j ≤ p.1) × (p.1 < j + k)
row_in p i j zero q = absurd q
row_in p i j (suc k) (inl e) =
    let x : p.0 ≡ i = ap (λ (z : Pair). z.0) e in
    let y : p.1 ≡ j = ap (λ (z : Pair). z.1) e in
    (x, omega arith, omega arith)
row_in p i j (suc k) (inr q) = let r = row_in p i (j + 1) k q in (r.0, omega (arith, r.1), omega (arith, r.2))

rows_in : (p : Pair) (n i k : ℕ) → In p (rows n i k) → (p.0 < p.1) × (p.1 < n)
rows_in p n i zero q = absurd q
rows_in p n i (suc k) q = go (in_split p (row i (i + 1) (n - (i + 1))) (rows n (i + 1) k) q) (rows_in p n (i + 1) k)
  where
    go : In p (row i (i + 1) (n - (i + 1))) ⊎ In p (rows n (i + 1) k) → (In p (rows n (i + 1) k) → (p.0 < p.1) × (p.1 < n)) → (p.0 < p.1) × (p.1 < n)
    go (inl r) f = let x = row_in p i (i + 1) (n - (i + 1)) r in (omega (arith, x.0, x.1), omega (arith, x.1, x.2))
    go (inr r) f = f r

in_rows : (n i k a b : ℕ) → i ≤ a → a < i + k → a < b → b < n → In (a, b) (rows n i k)
in_rows n i zero a b h l ab bn = absurd (omega arith)
in_rows n i (suc k) a b h l ab bn = go (cases_lt i a) (λ g. in_rows n (i + 1) k a b g (omega arith) ab bn)
  where
    go : (i < a) ⊎ (a ≤ i) → (i + 1 ≤ a → In (a, b) (rows n (i + 1) k)) → In (a, b) (rows n i (suc k))
    go (inl g) f = in_right (a, b) (row i (i + 1) (n - (i + 1))) (rows n (i + 1) k) (f (omega arith))
    go (inr g) f =
        let same : i ≡ a = omega arith in
        let at : (i + 1) + (b - (i + 1)) ≡ b = omega arith in
        let r : In (i, b) (row i (i + 1) (n - (i + 1))) = subst (λ m. In (i, m) (row i (i + 1) (n - (i + 1)))) at (in_row i (i + 1) (n - (i + 1)) (b - (i + 1)) (omega arith)) in
        in_left (a, b) (row i (i + 1) (n - (i + 1))) (rows n (i + 1) k) (subst (λ m. In (m, b) (row i (i + 1) (n - (i + 1)))) same r)

-- ---- how many there are
row_size : (i j k : ℕ) → length (row i j k) ≡ k
row_size i j zero = refl
row_size i j (suc k) = ap suc (row_size i (j + 1) k)

rows_size : (n i k : ℕ) → length (rows n i k) ≤ k * n
rows_size n i zero = omega arith
rows_size n i (suc k) =
    let a = row_size i (i + 1) (n - (i + 1)) in
    let b = rows_size n (i + 1) k in
    let e : suc k * n ≡ k * n + n = suc-mul k n in
    simp length-append (omega (arith, a, b, e))

pub all_walk : (es : List Edge) → length es ≤ 4096 → Walk es (all_pairs (length es))
all_walk es h = record {
  few = few (length es) (rows_size (length es) 0 (length es)) (mul-le-mul h h);
  numbered = λ p i. rows_in p (length es) 0 (length es) i;
  complete = λ i j lt lj t. ∣ in_rows (length es) 0 (length es) i j (omega arith) (omega arith) lt lj ∣₁;
}
  where
    few : (n : ℕ) → length (rows n 0 n) ≤ n * n → n * n ≤ 4096 * 4096 → length (rows n 0 n) ≤ 2 ^ 40
    few n a b = omega arith
