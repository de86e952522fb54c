-- The whole numbers that a quotient is rounded and cut to, and how far they reach.
use Rattle.std.proofs.Common.{◌≡◌, ℕ, zero, suc, ◌+◌, ◌*◌, ◌/◌, ◌<◌, ◌≤◌, Bool, true, false, cond, ◌≢◌, ◌⊎◌, ℤ, pos, negsuc, ◌+ℤ◌, ◌-ℤ◌, ◌*ℤ◌, neg_ℤ, nat_abs, ◌≤ℤ◌, ◌<ℤ◌, sym, refl, ap, ◌∙◌, subst, inl, inr, arith}
use mathlib.Core.Bool.{beq}
use native.Mathlib.Nat as NatL
use native.Mathlib.Decide.{dec_le}
use borrow.Author.Differences.{ints}
use lib.IntN.{*ℤ_comm, neg_ℤ-neg_ℤ}
use lib.Signed.{lt_z}
use Rattle.std.proofs.lemmas.Int.{by_lt_z}
use Rattle.algebra.proofs.Laws.{neg_mul, mul_neg}
use Rattle.algebra.proofs.Ring.{⊝, ◌⊗◌, ◌⊖◌, ◌≐◌, ring₂, ring₃}
use Rattle.algebra.proofs.Order.{abs_mul, abs_neg, mul_nonneg}
use Rattle.plane.specs.Points.{InRange, Ranged}
use Rattle.plane.specs.Edges.{Edge, InSheet, direction, first, second}
use Rattle.plane.specs.Fractions.{numer, denom}
use Rattle.plane.specs.Rounding.{with_sign, nearest, cut, level?, taken, Nearest, Cut}
use Rattle.plane.specs.Rules.{Inner}
use Rattle.plane.specs.declared.direction.Direction.TheVariants.{Left, Right}
use Rattle.plane.proofs.Signs.{lt_le, neg_pos, by_sign, mul_below}
use Rattle.plane.proofs.Lines.{turn_is}
use Rattle.plane.proofs.Directions.{inner_not_straight, inner_crossed}
use Rattle.plane.proofs.Crossings.{numer_is, denom_is}

-- p is r d where r has the sign of n / d: p has the sign of n
abbrev Scaled : (n p : ℤ) (P : ℕ) → Type 0
Scaled n p P = ((n ≡ pos (nat_abs n)) × (p ≡ pos P)) ⊎ ((n ≡ neg_ℤ (pos (nat_abs n))) × (p ≡ neg_ℤ (pos P)))

same : (n d : ℤ) (q : ℕ) → beq (lt_z n (pos 0)) (lt_z d (pos 0)) ≡ true → Scaled n (pos q *ℤ d) (q * nat_abs d)
same (pos a) (pos b) q t = inl (refl, refl)
same (pos a) (negsuc b) q t = grind (arith, ints)
same (negsuc a) (pos b) q t = grind (arith, ints)
same (negsuc a) (negsuc b) q t = inr (refl, refl)

other : (n d : ℤ) (q : ℕ) → beq (lt_z n (pos 0)) (lt_z d (pos 0)) ≡ false → Scaled n (neg_ℤ (pos q) *ℤ d) (q * nat_abs d)
other (pos a) (pos b) q t = grind (arith, ints)
other (pos a) (negsuc b) q t = inl (refl, neg_mul (pos q) (negsuc b) ∙ neg_ℤ-neg_ℤ (pos (q * suc b)))
other (negsuc a) (pos b) q t = inr (refl, neg_mul (pos q) (pos b))
other (negsuc a) (negsuc b) q t = grind (arith, ints)

scaled_is : (n d : ℤ) (q : ℕ) → Scaled n (with_sign n d q *ℤ d) (q * nat_abs d)
scaled_is n d q = go (beq (lt_z n (pos 0)) (lt_z d (pos 0))) refl
  where
    go : (t : Bool) → beq (lt_z n (pos 0)) (lt_z d (pos 0)) ≡ t → Scaled n (cond t (pos q) (neg_ℤ (pos q)) *ℤ d) (q * nat_abs d)
    go true e = same n d q e
    go false e = other n d q e

-- the quotients, over the naturals
half_up : (m w q : ℕ) → 0 < w → q ≡ (2 * m + w) / (2 * w) → (2 * (q * w) ≤ 2 * m + w) × (2 * m < 2 * (q * w) + w)
half_up m w q h e = omega (arith, ap (λ (x : ℕ). x * w) e)

down : (m w q : ℕ) → 0 < w → q ≡ m / w → (q * w ≤ m) × (m < q * w + w)
down m w q h e = omega (arith, ap (λ (x : ℕ). x * w) e)

pub nearest_is : (n d : ℤ) → 0 < nat_abs d → Nearest n d (nearest n d)
nearest_is n d h =
    let q = (2 * nat_abs n + nat_abs d) / (2 * nat_abs d) in
    let f = half_up (nat_abs n) (nat_abs d) q h refl in
    let r = go n (nat_abs d) (with_sign n d q *ℤ d) (q * nat_abs d) (scaled_is n d q) f.0 f.1 in
    record { near = r.0; tie = r.1 }
  where
    go : (n : ℤ) (w : ℕ) (p : ℤ) (P : ℕ) → Scaled n p P → 2 * P ≤ 2 * nat_abs n + w → 2 * nat_abs n < 2 * P + w
        → (2 * nat_abs (p -ℤ n) ≤ w) × (2 * nat_abs (p -ℤ n) ≡ w → nat_abs n < nat_abs p)
    go n w p P (inl s) h g = (omega (arith, ints), λ t. omega (arith, ints))
    go n w p P (inr s) h g = (omega (arith, ints), λ t. omega (arith, ints))

pub cut_is : (n d : ℤ) → 0 < nat_abs d → Cut n d (cut n d)
cut_is n d h =
    let q = nat_abs n / nat_abs d in
    let f = down (nat_abs n) (nat_abs d) q h refl in
    let r = go n (nat_abs d) (with_sign n d q *ℤ d) (q * nat_abs d) (scaled_is n d q) f.0 f.1 in
    record { near = r.0; inward = r.1 }
  where
    go : (n : ℤ) (w : ℕ) (p : ℤ) (P : ℕ) → Scaled n p P → P ≤ nat_abs n → nat_abs n < P + w → (nat_abs (p -ℤ n) < w) × (nat_abs p ≤ nat_abs n)
    go n w p P (inl s) h g = (omega (arith, ints), omega (arith, ints))
    go n w p P (inr s) h g = (omega (arith, ints), omega (arith, ints))

-- 2 q w ≤ 2 x n + w and n < w give q ≤ x
stays : (x n w q : ℕ) → n < w → 2 * (q * w) ≤ 2 * (x * n) + w → q ≤ x
stays x n w q h g = go (dec_le q x)
  where
    go : Dec (q ≤ x) → q ≤ x
    go (yes p) = p
    go (no f) =
        let l : x + 1 ≤ q = omega arith in
        let m : n ≤ w = omega arith in
        absurd (omega (arith, NatL.mul-le-mul_right w l, NatL.mul-le-mul_left x m))

abs_with_sign : (n d : ℤ) (q : ℕ) → nat_abs (with_sign n d q) ≡ q
abs_with_sign n d q = go (beq (lt_z n (pos 0)) (lt_z d (pos 0)))
  where
    go : (t : Bool) → nat_abs (cond t (pos q) (neg_ℤ (pos q))) ≡ q
    go true = refl
    go false = abs_neg (pos q)

-- a part of a that is less than one whole is rounded to no more than a
pub nearest_size : (a n d : ℤ) → nat_abs n < nat_abs d → nat_abs (nearest (a *ℤ n) d) ≤ nat_abs a
nearest_size a n d h =
    let q = (2 * nat_abs (a *ℤ n) + nat_abs d) / (2 * nat_abs d) in
    let z : 0 < nat_abs d = omega arith in
    let f = half_up (nat_abs (a *ℤ n)) (nat_abs d) q z refl in
    rw (abs_with_sign (a *ℤ n) d q) (stays (nat_abs a) (nat_abs n) (nat_abs d) q h (go (nat_abs (a *ℤ n)) (nat_abs a * nat_abs n) (nat_abs d) (q * nat_abs d) (abs_mul a n) f.0))
  where
    go : (m k w p : ℕ) → m ≡ k → 2 * p ≤ 2 * m + w → 2 * p ≤ 2 * k + w
    go m k w p e g = omega arith

pub cut_size : (a n d : ℤ) → nat_abs n < nat_abs d → nat_abs (cut (a *ℤ n) d) ≤ nat_abs a
cut_size a n d h =
    let q = nat_abs (a *ℤ n) / nat_abs d in
    let z : 0 < nat_abs d = omega arith in
    let f = down (nat_abs (a *ℤ n)) (nat_abs d) q z refl in
    rw (abs_with_sign (a *ℤ n) d q) (stays (nat_abs a) (nat_abs n) (nat_abs d) q h (go (nat_abs (a *ℤ n)) (nat_abs a * nat_abs n) (nat_abs d) (q * nat_abs d) (abs_mul a n) f.0))
  where
    go : (m k w p : ℕ) → m ≡ k → p ≤ m → 2 * p ≤ 2 * k + w
    go m k w p e g = omega arith

-- both above 0, or both below
abbrev pub OneWay : ℤ → ℤ → Type 0
OneWay n d = ((pos 0 <ℤ n) × (pos 0 <ℤ d)) ⊎ ((n <ℤ pos 0) × (d <ℤ pos 0))

-- z is a, b or between them
abbrev pub Amid : ℤ → ℤ → ℤ → Type 0
Amid a b z = ((a ≤ℤ z) × (z ≤ℤ b)) ⊎ ((b ≤ℤ z) × (z ≤ℤ a))

ahead : (w d : ℤ) (q : ℕ) → ((pos 0 ≤ℤ w) × (pos 0 <ℤ d)) ⊎ ((w <ℤ pos 0) × (d <ℤ pos 0)) → with_sign w d q ≡ pos q
ahead w d q h = ap (λ (b : Bool). cond b (pos q) (neg_ℤ (pos q))) (test h)
  where
    test : ((pos 0 ≤ℤ w) × (pos 0 <ℤ d)) ⊎ ((w <ℤ pos 0) × (d <ℤ pos 0)) → beq (lt_z w (pos 0)) (lt_z d (pos 0)) ≡ true
    test (inl h) = grind (arith, ints)
    test (inr h) = grind (arith, ints)

back : (w d : ℤ) (q : ℕ) → ((w <ℤ pos 0) × (pos 0 <ℤ d)) ⊎ ((pos 0 ≤ℤ w) × (d <ℤ pos 0)) → with_sign w d q ≡ neg_ℤ (pos q)
back w d q h = ap (λ (b : Bool). cond b (pos q) (neg_ℤ (pos q))) (test h)
  where
    test : ((w <ℤ pos 0) × (pos 0 <ℤ d)) ⊎ ((pos 0 ≤ℤ w) × (d <ℤ pos 0)) → beq (lt_z w (pos 0)) (lt_z d (pos 0)) ≡ false
    test (inl h) = grind (arith, ints)
    test (inr h) = grind (arith, ints)

-- q with the sign of u n / d, where n / d is above 0: it has the sign of u
sign_of : (u n d : ℤ) (q : ℕ) → OneWay n d → ((pos 0 ≤ℤ u) × (with_sign (u *ℤ n) d q ≡ pos q)) ⊎ ((u ≤ℤ pos 0) × (with_sign (u *ℤ n) d q ≡ neg_ℤ (pos q)))
sign_of u n d q (inl o) =
    by_lt_z u (pos 0)
    (λ l. inr (lt_le l, back (u *ℤ n) d q (inl (subst (λ (z : ℤ). z <ℤ pos 0) (*ℤ_comm n u) (mul_below n u o.0 l), o.1))))
    (λ l. inl (l, ahead (u *ℤ n) d q (inl (mul_nonneg u n l (lt_le o.0), o.1))))
sign_of u n d q (inr o) =
    by_lt_z (pos 0) u
    (λ l. inl (lt_le l, ahead (u *ℤ n) d q (inr (mul_below u n l o.0, o.1))))
    (λ l. inr (l, back (u *ℤ n) d q (inr (both l, o.1))))
  where
    turned : (u : ℤ) → u ≤ℤ pos 0 → pos 0 ≤ℤ neg_ℤ u
    turned u l = omega (arith, ints)

    both : u ≤ℤ pos 0 → pos 0 ≤ℤ (u *ℤ n)
    both l = subst (λ (z : ℤ). pos 0 ≤ℤ z) (ring₂ (λ u n. ⊝ u ⊗ ⊝ n ≐ u ⊗ n) tt u n) (mul_nonneg (neg_ℤ u) (neg_ℤ n) (turned u l) (lt_le (neg_pos n o.0)))

toward : (a b n d : ℤ) (q : ℕ) → OneWay n d → q ≤ nat_abs (b -ℤ a) → Amid a b (a +ℤ with_sign ((b -ℤ a) *ℤ n) d q)
toward a b n d q o h = go (with_sign ((b -ℤ a) *ℤ n) d q) (sign_of (b -ℤ a) n d q o)
  where
    go : (z : ℤ) → ((pos 0 ≤ℤ (b -ℤ a)) × (z ≡ pos q)) ⊎ (((b -ℤ a) ≤ℤ pos 0) × (z ≡ neg_ℤ (pos q))) → Amid a b (a +ℤ z)
    go z (inl (l, e)) = inl (omega (arith, ints))
    go z (inr (l, e)) = inr (omega (arith, ints))

pub nearest_amid : (a b n d : ℤ) → nat_abs n < nat_abs d → OneWay n d → Amid a b (a +ℤ nearest ((b -ℤ a) *ℤ n) d)
nearest_amid a b n d h o =
    toward a b n d ((2 * nat_abs ((b -ℤ a) *ℤ n) + nat_abs d) / (2 * nat_abs d)) o
    (subst (λ (q : ℕ). q ≤ nat_abs (b -ℤ a)) (abs_with_sign ((b -ℤ a) *ℤ n) d _) (nearest_size (b -ℤ a) n d h))

pub cut_amid : (a b n d : ℤ) → nat_abs n < nat_abs d → OneWay n d → Amid a b (a +ℤ cut ((b -ℤ a) *ℤ n) d)
cut_amid a b n d h o =
    toward a b n d (nat_abs ((b -ℤ a) *ℤ n) / nat_abs d) o
    (subst (λ (q : ℕ). q ≤ nat_abs (b -ℤ a)) (abs_with_sign ((b -ℤ a) *ℤ n) d _) (cut_size (b -ℤ a) n d h))

-- the sign may be put into the numerator
opposite : (n d r : ℤ) → nat_abs (r *ℤ neg_ℤ d -ℤ neg_ℤ n) ≡ nat_abs (r *ℤ d -ℤ n)
opposite n d r = ap nat_abs (ring₃ (λ n d r. r ⊗ ⊝ d ⊖ ⊝ n ≐ ⊝ (r ⊗ d ⊖ n)) tt n d r) ∙ abs_neg (r *ℤ d -ℤ n)

pub nearest_neg : {n d r : ℤ} → Nearest n d r → Nearest (neg_ℤ n) (neg_ℤ d) r
nearest_neg {n} {d} {r} h = record {
  near = rw (opposite n d r, abs_neg d) h.near;
  tie = rw (opposite n d r, abs_neg d, mul_neg r d, abs_neg (r *ℤ d), abs_neg n) h.tie;
}

pub cut_neg : {n d r : ℤ} → Cut n d r → Cut (neg_ℤ n) (neg_ℤ d) r
cut_neg {n} {d} {r} h = record {
  near = rw (opposite n d r, abs_neg d) h.near;
  inward = rw (mul_neg r d, abs_neg (r *ℤ d), abs_neg n) h.inward;
}

-- less than one away from a whole number is that number
pub alone : (n d r q : ℤ) → nat_abs (r *ℤ d -ℤ n) < nat_abs d → q *ℤ d ≡ n → r ≡ q
alone n d r q h e =
    go r q (nat_abs (r -ℤ q)) (nat_abs d) refl (subst (λ (m : ℕ). m < nat_abs d) (ap nat_abs (apart d r q n e) ∙ abs_mul (r -ℤ q) d) h)
  where
    apart : (d r q n : ℤ) → q *ℤ d ≡ n → r *ℤ d -ℤ n ≡ (r -ℤ q) *ℤ d
    apart d r q n e = ap (λ (z : ℤ). r *ℤ d -ℤ z) (sym e) ∙ ring₃ (λ d r q. r ⊗ d ⊖ q ⊗ d ≐ (r ⊖ q) ⊗ d) tt d r q

    go : (r q : ℤ) (m w : ℕ) → nat_abs (r -ℤ q) ≡ m → m * w < w → r ≡ q
    go r q zero w e l = omega (arith, ints)
    go r q (suc m) w e l = absurd (omega arith)

pub nearest_alone : {n d r : ℤ} (q : ℤ) → 0 < nat_abs d → Nearest n d r → q *ℤ d ≡ n → r ≡ q
nearest_alone {n} {d} {r} q z h e = alone n d r q (go (nat_abs (r *ℤ d -ℤ n)) (nat_abs d) z h.near) e
  where
    go : (m w : ℕ) → 0 < w → 2 * m ≤ w → m < w
    go m w z h = omega arith

-- above 0 and below 0, either way round
abbrev Opposed : ℤ → ℤ → Type 0
Opposed x y = ((pos 0 <ℤ x) × (y <ℤ pos 0)) ⊎ ((x <ℤ pos 0) × (pos 0 <ℤ y))

two_sided : (x y : ℤ) → x ≢ pos 0 → y ≢ pos 0 → direction x ≢ direction y → Opposed x y
two_sided x y m n d =
    by_sign x (λ h. by_sign y (λ l. absurd (d (right x h ∙ sym (right y l)))) (λ z. absurd (n z)) (λ l. inr (h, l))) (λ z. absurd (m z))
    (λ h. by_sign y (λ l. inl (h, l)) (λ z. absurd (n z)) (λ l. absurd (d (left x h ∙ sym (left y l)))))
  where
    left : (x : ℤ) → pos 0 <ℤ x → direction x ≡ Left
    left (pos zero) h = absurd (omega (arith, ints))
    left (pos (suc i)) h = refl
    left (negsuc i) h = absurd (omega (arith, ints))

    right : (x : ℤ) → x <ℤ pos 0 → direction x ≡ Right
    right (pos i) h = absurd (omega (arith, ints))
    right (negsuc i) h = refl

inner_signs : (t o : Edge) → Inner t o → (nat_abs (numer t o) < nat_abs (denom t o)) × OneWay (numer t o) (denom t o)
inner_signs t o i =
    let n = inner_not_straight t o i in
    go (numer t o) (denom t o) (first o t) (second o t) (numer_is t o) (denom_is t o ∙ turn_is t o) (two_sided (first o t) (second o t) n.2 n.3 (inner_crossed i).two)
  where
    go : (n d p q : ℤ) → n ≡ p → d ≡ p -ℤ q → Opposed p q → (nat_abs n < nat_abs d) × OneWay n d
    go n d p q e f (inl h) = (omega (arith, ints), inl (omega (arith, ints)))
    go n d p q e f (inr h) = (omega (arith, ints), inr (omega (arith, ints)))

pub inner_denom : (t o : Edge) → Inner t o → (0 < nat_abs (denom t o)) × (nat_abs (numer t o) < nat_abs (denom t o))
inner_denom t o i = let l = (inner_signs t o i).0 in (omega arith, l)

-- the numerator and the denominator have one sign
pub inner_one_way : (t o : Edge) → Inner t o → OneWay (numer t o) (denom t o)
inner_one_way t o i = (inner_signs t o i).1

-- the taken point is in the box of the target
pub taken_amid_x : (t o : Edge) → Inner t o → Amid t.a.x t.b.x (taken t o).x
unfolding taken
taken_amid_x t o i = go (level? t)
  where
    go : (c : Bool) → Amid t.a.x t.b.x (t.a.x +ℤ cond c (cut ((t.b.x -ℤ t.a.x) *ℤ numer t o) (denom t o)) (nearest ((t.b.x -ℤ t.a.x) *ℤ numer t o) (denom t o)))
    go true = cut_amid t.a.x t.b.x (numer t o) (denom t o) (inner_denom t o i).1 (inner_one_way t o i)
    go false = nearest_amid t.a.x t.b.x (numer t o) (denom t o) (inner_denom t o i).1 (inner_one_way t o i)

pub taken_amid_y : (t o : Edge) → Inner t o → Amid t.a.y t.b.y (taken t o).y
unfolding taken
taken_amid_y t o i = nearest_amid t.a.y t.b.y (numer t o) (denom t o) (inner_denom t o i).1 (inner_one_way t o i)

pub taken_ranged : (t o : Edge) → InSheet t → InSheet o → Inner t o → Ranged (taken t o)
taken_ranged t o ht ho i = record {
  wide = go t.a.x t.b.x (taken t o).x ht.first.wide ht.second.wide (taken_amid_x t o i);
  high = go t.a.y t.b.y (taken t o).y ht.first.high ht.second.high (taken_amid_y t o i);
}
  where
    go : (a b z : ℤ) → InRange a → InRange b → Amid a b z → InRange z
    go a b z h g (inl l) = omega (arith, ints)
    go a b z h g (inr l) = omega (arith, ints)
