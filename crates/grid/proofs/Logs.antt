-- The binary logarithm, rounded down.
use Rattle.std.proofs.Common.{◌≡◌, ℕ, zero, suc, ◌*◌, ◌^◌, ◌<◌, ◌≤◌, leb, inl, inr, arith, pow-suc, pow_pos, pow_mono}
use Rattle.std.proofs.lemmas.Bool.{cond_both, leb-true, leb-false, cases_lt}
use Rattle.grid.specs.Layouts.{log_to, ilog2}

log_to_le : (k n : ℕ) → 0 < n → 2 ^ log_to k n ≤ n
unfolding log_to
log_to_le zero n h = omega arith
log_to_le (suc k) n h =
    cond_both (leb (2 ^ suc k) n) (suc k) (log_to k n) (λ j. 2 ^ j ≤ n) (λ e. leb-true (2 ^ suc k) n e) (λ e. log_to_le k n h)

log_to_lt : (k n : ℕ) → n < 2 ^ suc k → n < 2 ^ suc (log_to k n)
unfolding log_to
log_to_lt zero n h = h
log_to_lt (suc k) n h =
    cond_both (leb (2 ^ suc k) n) (suc k) (log_to k n) (λ j. n < 2 ^ suc j) (λ e. h) (λ e. log_to_lt k n (leb-false (2 ^ suc k) n e))

-- 2 ^ ilog2 n ≤ n < 2 ^ (ilog2 n + 1)
pub ilog2_le : (n : ℕ) → 0 < n → 2 ^ ilog2 n ≤ n
unfolding ilog2
ilog2_le n h = log_to_le 63 n h

pub ilog2_lt : (n : ℕ) → n < 2 ^ 64 → n < 2 ^ suc (ilog2 n)
unfolding ilog2
ilog2_lt n h = log_to_lt 63 n h

pub ilog2_below : (n m : ℕ) → 0 < n → n < 2 ^ m → ilog2 n < m
ilog2_below n m h l = elim (cases_lt (ilog2 n) m) [ inl i ↦ i | inr i ↦ absurd (over (pow_mono i)) ]
  where
    over : 2 ^ m ≤ 2 ^ ilog2 n → ⊥
    over j = omega (arith, ilog2_le n h)

-- no other number is the logarithm
pub ilog2_is : (n j : ℕ) → n < 2 ^ 64 → 2 ^ j ≤ n → n < 2 * 2 ^ j → j ≡ ilog2 n
ilog2_is n j h k m = same (ilog2_below n (suc j) some (omega (arith, pow-suc 2 j))) (elim (cases_lt (ilog2 n) j) [ inl i ↦ absurd (over (pow_mono i)) | inr i ↦ i ])
  where
    some : 0 < n
    some = omega (arith, pow_pos j)

    over : 2 ^ suc (ilog2 n) ≤ 2 ^ j → ⊥
    over i = omega (arith, ilog2_lt n h)

    same : {i : ℕ} → i < suc j → j ≤ i → j ≡ i
    same h k = omega arith
