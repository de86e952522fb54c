-- A decision procedure for identities of polynomials over the integers, by computation.
use Rattle.std.proofs.Common.{◌≡◌, ℕ, zero, suc, Bool, true, false, cond, T, leb, List, [], ◌∷◌, ℤ, pos, negsuc, ◌+ℤ◌, ◌-ℤ◌, ◌*ℤ◌, neg_ℤ, sym, refl, ap, ◌∙◌, subst, arith, eqb→eq}
use Prim.Native.Nat.{compare, Ordering}
use borrow.Author.Differences.{ints}
use lib.Dec.{compare_is_eq}
use lib.IntN.{+ℤ_idl, +ℤ_idr, +ℤ_assoc, zero-*ℤ, *ℤ-zero}
use Rattle.algebra.proofs.Laws.{mul_assoc, mul_add, add_mul, neg_mul, one_mul, mul_one, mul_left_comm, add_left_comm, mul_swap}

infixl 6 ◌⊕◌ ◌⊖◌
infixl 7 ◌⊗◌
pub data Ex : Type 0 where
  v : ℕ → Ex
  k : ℤ → Ex
  ◌⊕◌ ◌⊖◌ ◌⊗◌ : Ex → Ex → Ex
  ⊝ : Ex → Ex

abbrev pub at : List ℤ → ℕ → ℤ
at [] i = pos 0
at (x ∷ ρ) zero = x
at (x ∷ ρ) (suc i) = at ρ i

abbrev pub value : List ℤ → Ex → ℤ
value ρ (v i) = at ρ i
value ρ (k c) = c
value ρ (e ⊕ f) = value ρ e +ℤ value ρ f
value ρ (e ⊖ f) = value ρ e -ℤ value ρ f
value ρ (e ⊗ f) = value ρ e *ℤ value ρ f
value ρ (⊝ e) = neg_ℤ (value ρ e)

-- ---- normal forms
pub data Poly : Type 0 where
  nil : Poly
  term : ℤ → List ℕ → Poly → Poly

abbrev pub insV : ℕ → List ℕ → List ℕ
insV x [] = x ∷ []
insV x (y ∷ ys) = cond (leb x y) (x ∷ y ∷ ys) (y ∷ insV x ys)

abbrev pub mulM : List ℕ → List ℕ → List ℕ
mulM [] n = n
mulM (x ∷ m) n = insV x (mulM m n)

abbrev pub and_then : Ordering → Ordering → Ordering
and_then Ordering.lt o = Ordering.lt
and_then Ordering.eq o = o
and_then Ordering.gt o = Ordering.gt

abbrev pub cmpM : List ℕ → List ℕ → Ordering
cmpM [] [] = Ordering.eq
cmpM [] (y ∷ ys) = Ordering.lt
cmpM (x ∷ xs) [] = Ordering.gt
cmpM (x ∷ xs) (y ∷ ys) = and_then (compare x y) (cmpM xs ys)

abbrev pub put : Ordering → ℤ → List ℕ → ℤ → List ℕ → Poly → Poly → Poly
put Ordering.lt c m d n p q = term c m (term d n p)
put Ordering.eq c m d n p q = term (c +ℤ d) n p
put Ordering.gt c m d n p q = term d n q

abbrev pub insT : ℤ → List ℕ → Poly → Poly
insT c m nil = term c m nil
insT c m (term d n p) = put (cmpM m n) c m d n p (insT c m p)

abbrev pub addP : Poly → Poly → Poly
addP nil q = q
addP (term c m p) q = insT c m (addP p q)

abbrev pub negP : Poly → Poly
negP nil = nil
negP (term c m p) = term (neg_ℤ c) m (negP p)

abbrev pub mulT : ℤ → List ℕ → Poly → Poly
mulT c m nil = nil
mulT c m (term d n p) = term (c *ℤ d) (mulM m n) (mulT c m p)

abbrev pub mulP : Poly → Poly → Poly
mulP nil q = nil
mulP (term c m p) q = addP (mulT c m q) (mulP p q)

abbrev pub norm : Ex → Poly
norm (v i) = term (pos 1) (i ∷ []) nil
norm (k c) = term c [] nil
norm (e ⊕ f) = addP (norm e) (norm f)
norm (e ⊖ f) = addP (norm e) (negP (norm f))
norm (e ⊗ f) = mulP (norm e) (norm f)
norm (⊝ e) = negP (norm e)

abbrev pub isZ : ℤ → Bool → Bool
isZ (pos zero) b = b
isZ (pos (suc n)) b = false
isZ (negsuc n) b = false

abbrev pub allZero : Poly → Bool
allZero nil = true
allZero (term c m p) = isZ c (allZero p)

-- the test that decides: it computes at expressions that are written out
abbrev pub vanishes : Ex → Bool
vanishes e = allZero (norm e)

-- ---- what they mean
valM : List ℤ → List ℕ → ℤ
valM ρ [] = pos 1
valM ρ (x ∷ m) = at ρ x *ℤ valM ρ m

val_p : List ℤ → Poly → ℤ
val_p ρ nil = pos 0
val_p ρ (term c m p) = c *ℤ valM ρ m +ℤ val_p ρ p

by_cond : {A : Type 0} (P : A → Type 0) (b : Bool) (x y : A) → P x → P y → P (cond b x y)
by_cond P true x y h g = h
by_cond P false x y h g = g

insV_ok : (ρ : List ℤ) (x : ℕ) (m : List ℕ) → valM ρ (insV x m) ≡ at ρ x *ℤ valM ρ m
unfolding valM
insV_ok ρ x [] = refl
insV_ok ρ x (y ∷ m) =
    by_cond (λ z. valM ρ z ≡ at ρ x *ℤ (at ρ y *ℤ valM ρ m)) (leb x y) (x ∷ y ∷ m) (y ∷ insV x m) refl
    (ap (λ z. at ρ y *ℤ z) (insV_ok ρ x m) ∙ mul_left_comm (at ρ y) (at ρ x) (valM ρ m))

mulM_ok : (ρ : List ℤ) (m n : List ℕ) → valM ρ (mulM m n) ≡ valM ρ m *ℤ valM ρ n
unfolding valM
mulM_ok ρ [] n = sym (one_mul (valM ρ n))
mulM_ok ρ (x ∷ m) n =
    insV_ok ρ x (mulM m n) ∙ ap (λ z. at ρ x *ℤ z) (mulM_ok ρ m n) ∙ sym (mul_assoc (at ρ x) (valM ρ m) (valM ρ n))

Eq : Ordering → Type 0 → Type 0
Eq Ordering.lt A = Unit {0}
Eq Ordering.eq A = A
Eq Ordering.gt A = Unit {0}

cmp_eq : (x y : ℕ) → Eq (compare x y) (x ≡ y)
unfolding Eq
cmp_eq x y = go (compare x y) refl
  where
    go : (o : Ordering) → compare x y ≡ o → Eq o (x ≡ y)
    go Ordering.lt e = tt
    go Ordering.eq e = eqb→eq x y (subst (λ (o : Ordering). T (compare_is_eq o)) (sym e) tt)
    go Ordering.gt e = tt

cmpM_eq : (m n : List ℕ) → Eq (cmpM m n) (m ≡ n)
unfolding Eq
cmpM_eq [] [] = refl
cmpM_eq [] (y ∷ ys) = tt
cmpM_eq (x ∷ xs) [] = tt
cmpM_eq (x ∷ xs) (y ∷ ys) = go (compare x y) (cmp_eq x y) (cmpM xs ys) (cmpM_eq xs ys)
  where
    both : x ≡ y → xs ≡ ys → x ∷ xs ≡ y ∷ ys
    both p q = cc

    go : (o : Ordering) → Eq o (x ≡ y) → (o' : Ordering) → Eq o' (xs ≡ ys) → Eq (and_then o o') (x ∷ xs ≡ y ∷ ys)
    go Ordering.lt p o' q = tt
    go Ordering.eq p Ordering.lt q = tt
    go Ordering.eq p Ordering.eq q = both p q
    go Ordering.eq p Ordering.gt q = tt
    go Ordering.gt p o' q = tt

put_ok : (ρ : List ℤ) (o : Ordering) (c : ℤ) (m : List ℕ) (d : ℤ) (n : List ℕ) (p q : Poly) → Eq o (m ≡ n) → val_p ρ q ≡ c *ℤ valM ρ m +ℤ val_p ρ p → val_p ρ (put o c m d n p q) ≡ c *ℤ valM ρ m +ℤ (d *ℤ valM ρ n +ℤ val_p ρ p)
unfolding val_p Eq
put_ok ρ Ordering.lt c m d n p q e h = refl
put_ok ρ Ordering.eq c m d n p q e h =
    ap (λ z. z +ℤ val_p ρ p) (add_mul c d (valM ρ n)) ∙ +ℤ_assoc (c *ℤ valM ρ n) (d *ℤ valM ρ n) (val_p ρ p)
    ∙ ap (λ (z : List ℕ). c *ℤ valM ρ z +ℤ (d *ℤ valM ρ n +ℤ val_p ρ p)) (sym e)
put_ok ρ Ordering.gt c m d n p q e h =
    ap (λ z. d *ℤ valM ρ n +ℤ z) h ∙ add_left_comm (d *ℤ valM ρ n) (c *ℤ valM ρ m) (val_p ρ p)

insT_ok : (ρ : List ℤ) (c : ℤ) (m : List ℕ) (p : Poly) → val_p ρ (insT c m p) ≡ c *ℤ valM ρ m +ℤ val_p ρ p
unfolding val_p
insT_ok ρ c m nil = refl
insT_ok ρ c m (term d n p) = put_ok ρ (cmpM m n) c m d n p (insT c m p) (cmpM_eq m n) (insT_ok ρ c m p)

addP_ok : (ρ : List ℤ) (p q : Poly) → val_p ρ (addP p q) ≡ val_p ρ p +ℤ val_p ρ q
unfolding val_p
addP_ok ρ nil q = sym (+ℤ_idl (val_p ρ q))
addP_ok ρ (term c m p) q =
    insT_ok ρ c m (addP p q) ∙ ap (λ z. c *ℤ valM ρ m +ℤ z) (addP_ok ρ p q) ∙ sym (+ℤ_assoc (c *ℤ valM ρ m) (val_p ρ p) (val_p ρ q))

negP_ok : (ρ : List ℤ) (p : Poly) → val_p ρ (negP p) ≡ neg_ℤ (val_p ρ p)
unfolding val_p
negP_ok ρ nil = refl
negP_ok ρ (term c m p) = ap (λ z. z +ℤ val_p ρ (negP p)) (neg_mul c (valM ρ m)) ∙ ap (λ z. neg_ℤ (c *ℤ valM ρ m) +ℤ z) (negP_ok ρ p) ∙ sums (c *ℤ valM ρ m) (val_p ρ p)
  where
    sums : (a b : ℤ) → neg_ℤ a +ℤ neg_ℤ b ≡ neg_ℤ (a +ℤ b)
    sums a b = omega (arith, ints)

mulT_ok : (ρ : List ℤ) (c : ℤ) (m : List ℕ) (p : Poly) → val_p ρ (mulT c m p) ≡ (c *ℤ valM ρ m) *ℤ val_p ρ p
unfolding val_p
mulT_ok ρ c m nil = sym (*ℤ-zero (c *ℤ valM ρ m))
mulT_ok ρ c m (term d n p) =
    ap (λ z. (c *ℤ d) *ℤ z +ℤ val_p ρ (mulT c m p)) (mulM_ok ρ m n)
    ∙ ap (λ z. z +ℤ val_p ρ (mulT c m p)) (mul_swap c d (valM ρ m) (valM ρ n))
    ∙ ap (λ z. (c *ℤ valM ρ m) *ℤ (d *ℤ valM ρ n) +ℤ z) (mulT_ok ρ c m p)
    ∙ sym (mul_add (c *ℤ valM ρ m) (d *ℤ valM ρ n) (val_p ρ p))

mulP_ok : (ρ : List ℤ) (p q : Poly) → val_p ρ (mulP p q) ≡ val_p ρ p *ℤ val_p ρ q
unfolding val_p
mulP_ok ρ nil q = sym (zero-*ℤ (val_p ρ q))
mulP_ok ρ (term c m p) q =
    addP_ok ρ (mulT c m q) (mulP p q)
    ∙ ap (λ z. z +ℤ val_p ρ (mulP p q)) (mulT_ok ρ c m q)
    ∙ ap (λ z. (c *ℤ valM ρ m) *ℤ val_p ρ q +ℤ z) (mulP_ok ρ p q)
    ∙ sym (add_mul (c *ℤ valM ρ m) (val_p ρ p) (val_p ρ q))

norm_ok : (ρ : List ℤ) (e : Ex) → val_p ρ (norm e) ≡ value ρ e
unfolding val_p valM
norm_ok ρ (v i) = +ℤ_idr (pos 1 *ℤ (at ρ i *ℤ pos 1)) ∙ one_mul (at ρ i *ℤ pos 1) ∙ mul_one (at ρ i)
norm_ok ρ (k c) = +ℤ_idr (c *ℤ pos 1) ∙ mul_one c
norm_ok ρ (e ⊕ f) = addP_ok ρ (norm e) (norm f) ∙ ap (λ z. z +ℤ val_p ρ (norm f)) (norm_ok ρ e) ∙ ap (λ z. value ρ e +ℤ z) (norm_ok ρ f)
norm_ok ρ (e ⊖ f) =
    addP_ok ρ (norm e) (negP (norm f)) ∙ ap (λ z. z +ℤ val_p ρ (negP (norm f))) (norm_ok ρ e)
    ∙ ap (λ z. value ρ e +ℤ z) (negP_ok ρ (norm f) ∙ ap neg_ℤ (norm_ok ρ f))
norm_ok ρ (e ⊗ f) = mulP_ok ρ (norm e) (norm f) ∙ ap (λ z. z *ℤ val_p ρ (norm f)) (norm_ok ρ e) ∙ ap (λ z. value ρ e *ℤ z) (norm_ok ρ f)
norm_ok ρ (⊝ e) = negP_ok ρ (norm e) ∙ ap neg_ℤ (norm_ok ρ e)

zero_ok : (ρ : List ℤ) (p : Poly) → T (allZero p) → val_p ρ p ≡ pos 0
unfolding val_p
zero_ok ρ nil t = refl
zero_ok ρ (term (pos zero) m p) t = ap (λ z. z +ℤ val_p ρ p) (zero-*ℤ (valM ρ m)) ∙ +ℤ_idl (val_p ρ p) ∙ zero_ok ρ p t
zero_ok ρ (term (pos (suc n)) m p) t = absurd t
zero_ok ρ (term (negsuc n) m p) t = absurd t

-- an identity holds if the difference of its sides vanishes: `ring ρ e f tt`
pub ring : (ρ : List ℤ) (e f : Ex) → T (vanishes (e ⊖ f)) → value ρ e ≡ value ρ f
ring ρ e f t = same (value ρ e) (value ρ f) (sym (norm_ok ρ (e ⊖ f)) ∙ zero_ok ρ (norm (e ⊖ f)) t)
  where
    same : (a b : ℤ) → a -ℤ b ≡ pos 0 → a ≡ b
    same a b h = omega (arith, ints)

-- the same with the variables as arguments: `ring₃ (λ a b c. left ≐ right) tt : (a b c : ℤ) → ..`
infix 4 ◌≐◌
pub record Eqn : Type 0 where
  pub lhs : Ex
  pub rhs : Ex

abbrev pub ◌≐◌ : Ex → Ex → Eqn
e ≐ f = record { lhs = e; rhs = f }

abbrev pub Says : List ℤ → Eqn → Type 0
Says ρ q = value ρ q.lhs ≡ value ρ q.rhs

abbrev pub Checks : Eqn → Type 0
Checks q = T (vanishes (q.lhs ⊖ q.rhs))

pub says : (ρ : List ℤ) (q : Eqn) → Checks q → Says ρ q
says ρ q t = ring ρ q.lhs q.rhs t

pub ring₂ : (q : Ex → Ex → Eqn) → Checks (q (v 0) (v 1)) → (a b : ℤ) → Says (a ∷ b ∷ []) (q (v 0) (v 1))
ring₂ q t a b = says (a ∷ b ∷ []) (q (v 0) (v 1)) t

pub ring₃ : (q : Ex → Ex → Ex → Eqn) → Checks (q (v 0) (v 1) (v 2)) → (a b c : ℤ) → Says (a ∷ b ∷ c ∷ []) (q (v 0) (v 1) (v 2))
ring₃ q t a b c = says (a ∷ b ∷ c ∷ []) (q (v 0) (v 1) (v 2)) t

pub ring₄ : (q : Ex → Ex → Ex → Ex → Eqn) → Checks (q (v 0) (v 1) (v 2) (v 3)) → (a b c d : ℤ) → Says (a ∷ b ∷ c ∷ d ∷ []) (q (v 0) (v 1) (v 2) (v 3))
ring₄ q t a b c d = says (a ∷ b ∷ c ∷ d ∷ []) (q (v 0) (v 1) (v 2) (v 3)) t

pub ring₅ : (q : Ex → Ex → Ex → Ex → Ex → Eqn) → Checks (q (v 0) (v 1) (v 2) (v 3) (v 4)) → (a b c d e : ℤ) → Says (a ∷ b ∷ c ∷ d ∷ e ∷ []) (q (v 0) (v 1) (v 2) (v 3) (v 4))
ring₅ q t a b c d e = says (a ∷ b ∷ c ∷ d ∷ e ∷ []) (q (v 0) (v 1) (v 2) (v 3) (v 4)) t

pub ring₆ : (q : Ex → Ex → Ex → Ex → Ex → Ex → Eqn) → Checks (q (v 0) (v 1) (v 2) (v 3) (v 4) (v 5)) → (a b c d e f : ℤ) → Says (a ∷ b ∷ c ∷ d ∷ e ∷ f ∷ []) (q (v 0) (v 1) (v 2) (v 3) (v 4) (v 5))
ring₆ q t a b c d e f = says (a ∷ b ∷ c ∷ d ∷ e ∷ f ∷ []) (q (v 0) (v 1) (v 2) (v 3) (v 4) (v 5)) t

pub ring₇ : (q : Ex → Ex → Ex → Ex → Ex → Ex → Ex → Eqn) → Checks (q (v 0) (v 1) (v 2) (v 3) (v 4) (v 5) (v 6)) → (a b c d e f g : ℤ) → Says (a ∷ b ∷ c ∷ d ∷ e ∷ f ∷ g ∷ []) (q (v 0) (v 1) (v 2) (v 3) (v 4) (v 5) (v 6))
ring₇ q t a b c d e f g = says (a ∷ b ∷ c ∷ d ∷ e ∷ f ∷ g ∷ []) (q (v 0) (v 1) (v 2) (v 3) (v 4) (v 5) (v 6)) t

pub ring₈ : (q : Ex → Ex → Ex → Ex → Ex → Ex → Ex → Ex → Eqn) → Checks (q (v 0) (v 1) (v 2) (v 3) (v 4) (v 5) (v 6) (v 7)) → (a b c d e f g h : ℤ) → Says (a ∷ b ∷ c ∷ d ∷ e ∷ f ∷ g ∷ h ∷ []) (q (v 0) (v 1) (v 2) (v 3) (v 4) (v 5) (v 6) (v 7))
ring₈ q t a b c d e f g h = says (a ∷ b ∷ c ∷ d ∷ e ∷ f ∷ g ∷ h ∷ []) (q (v 0) (v 1) (v 2) (v 3) (v 4) (v 5) (v 6) (v 7)) t
