-- What the rules mark, by the kind of a crossing.
use Rattle.std.proofs.Common.{◌≡◌, ℕ, ◌<◌, min, Bool, true, false, cond, ◌||◌, eqb, leb, ◌≢◌, ◌⊎◌, ◌++◌, Decides, refl, ap, ◌∙◌, inl, inr, arith}
use mathlib.Core.Bool.{or_comm, false≢true}
use Rattle.std.proofs.lemmas.Bool.Decides.{Decides-or, Decides-at, Decides-like}
use Rattle.plane.specs.Points.{Point}
use Rattle.plane.specs.Edges.{Edge, first, second, zeros, one_sided?, smaller?, Between, between?}
use Rattle.plane.specs.Rounding.{taken, zero?, on_lines?, reach, gap}
use Rattle.plane.specs.Rules.{Marking, nothing, listed, ends_between, overlaid, end_marked, snapped, inner_marked, marking, marked_on, some?, marked?, Inner}
use Rattle.plane.proofs.Tests.{clash, neither, both_false, decides_between, not_smaller, smaller_asym}
use Rattle.plane.proofs.Lines.{Aligned, aligned_sym}
use Rattle.plane.proofs.Directions.{four_aligned, aligned_four, Crossed, crossed_sym, crossed_by, crossed_sides, inner_crossed}
use Rattle.plane.proofs.Overlays.{Overlaps, overlaps_sym, first_of_second, second_of_second, first_of_first, second_of_first}

-- ---- the four kinds
pub data Kind (t o : Edge) : Type 0 where
  aligned : zeros t o ≡ 4 → Kind t o
  off : eqb (zeros t o) 4 ≡ false → (leb 2 (zeros t o) || one_sided? t o) ≡ true → Kind t o
  ending : zeros t o ≡ 1 → one_sided? t o ≡ false → Kind t o
  inner : Inner t o → Kind t o

pub kind : (t o : Edge) → Kind t o
kind t o = go (eqb (zeros t o) 4) refl (leb 2 (zeros t o) || one_sided? t o) refl (eqb (zeros t o) 1) refl
  where
    is : (n m : ℕ) → eqb n m ≡ true → n ≡ m
    is n m h = grind arith

    least : (n : ℕ) → leb 2 n ≡ false → eqb n 1 ≡ false → n ≡ 0
    least n h l = grind arith

    go : (i : Bool) → eqb (zeros t o) 4 ≡ i → (j : Bool) → (leb 2 (zeros t o) || one_sided? t o) ≡ j → (n : Bool) → eqb (zeros t o) 1 ≡ n → Kind t o
    go true a j b n c = aligned (is (zeros t o) 4 a)
    go false a true b n c = off a b
    go false a false b true c = ending (is (zeros t o) 1 c) (neither (leb 2 (zeros t o)) (one_sided? t o) b).1
    go false a false b false c =
        let w = neither (leb 2 (zeros t o)) (one_sided? t o) b in
        inner (record { none = least (zeros t o) w.0 c; two_sided = w.1 })

-- ---- the marking of each
abbrev counted : Edge → Edge → ℕ → ℕ → Bool → Marking
counted t o s n b =
    cond (eqb n 4) (overlaid t o) (cond (leb 2 n || b) nothing (cond (eqb n 1) (end_marked t o) (inner_marked t o s (taken t o))))

pub marking_aligned : (t o : Edge) (s : ℕ) → zeros t o ≡ 4 → marking t o s ≡ overlaid t o
unfolding marking
marking_aligned t o s z = ap (λ (n : ℕ). counted t o s n (one_sided? t o)) z

pub marking_off : (t o : Edge) (s : ℕ) → eqb (zeros t o) 4 ≡ false → (leb 2 (zeros t o) || one_sided? t o) ≡ true → marking t o s ≡ nothing
unfolding marking
marking_off t o s a b =
    ap (λ (i : Bool). cond i (overlaid t o) (cond (leb 2 (zeros t o) || one_sided? t o) nothing (cond (eqb (zeros t o) 1) (end_marked t o) (inner_marked t o s (taken t o))))) a
    ∙ ap (λ (j : Bool). cond j nothing (cond (eqb (zeros t o) 1) (end_marked t o) (inner_marked t o s (taken t o)))) b

pub marking_end : (t o : Edge) (s : ℕ) → zeros t o ≡ 1 → one_sided? t o ≡ false → marking t o s ≡ end_marked t o
unfolding marking
marking_end t o s z b = ap (λ (n : ℕ). counted t o s n (one_sided? t o)) z ∙ ap (λ (i : Bool). counted t o s 1 i) b

pub marking_inner : (t o : Edge) (s : ℕ) → Inner t o → marking t o s ≡ inner_marked t o s (taken t o)
unfolding marking
marking_inner t o s c = ap (λ (n : ℕ). counted t o s n (one_sided? t o)) c.none ∙ ap (λ (i : Bool). counted t o s 0 i) c.two_sided

-- ---- where something is marked
abbrev any? : Marking → Bool
any? m = some? m.target || some? m.other

some_listed : (i j : Bool) (p q : Point) → some? (listed i p ++ listed j q) ≡ (i || j)
some_listed true j p q = refl
some_listed false true p q = refl
some_listed false false p q = refl

pub decides_ends : (e g : Edge) → Decides (some? (ends_between e g)) (Between e g.a ⊎ Between e g.b)
decides_ends e g = Decides-at _ _ (some_listed (between? e g.a) (between? e g.b) g.a g.b)
    (Decides-or (between? e g.a) (between? e g.b) (decides_between e g.a) (decides_between e g.b))

pub decides_overlaps : (e g : Edge) → Decides (some? (ends_between e g) || some? (ends_between g e)) (Overlaps e g)
decides_overlaps e g = Decides-like (some? (ends_between e g) || some? (ends_between g e)) to from
    (Decides-or (some? (ends_between e g)) (some? (ends_between g e)) (decides_ends e g) (decides_ends g e))
  where
    to : (Between e g.a ⊎ Between e g.b) ⊎ (Between g e.a ⊎ Between g e.b) → Overlaps e g
    to (inl (inl h)) = first_of_second h
    to (inl (inr h)) = second_of_second h
    to (inr (inl h)) = first_of_first h
    to (inr (inr h)) = second_of_first h

    from : Overlaps e g → (Between e g.a ⊎ Between e g.b) ⊎ (Between g e.a ⊎ Between g e.b)
    from (first_of_second h) = inl (inl h)
    from (second_of_second h) = inl (inr h)
    from (first_of_first h) = inr (inl h)
    from (second_of_first h) = inr (inr h)

-- what the directions and the order must be
pub data Marks (e g : Edge) : Type 0 where
  in_line : Aligned e g → Overlaps e g → Marks e g
  across : Crossed e g → Marks e g

pub marks_sym : {e g : Edge} → Marks e g → Marks g e
marks_sym (in_line z h) = in_line (aligned_sym z) (overlaps_sym h)
marks_sym (across c) = across (crossed_sym c)

pub aligned_not : (e g : Edge) → Aligned e g → eqb (zeros e g) 4 ≡ false → ⊥
aligned_not e g z = go (zeros e g) (aligned_four e g z)
  where
    go : (n : ℕ) → n ≡ 4 → eqb n 4 ≡ false → ⊥
    go n h l = grind arith

-- crossing edges have one of the last two kinds
pub not_off : (e g : Edge) → Crossed e g → (leb 2 (zeros e g) || one_sided? e g) ≡ false
not_off e g c = both_false (leb 2 (zeros e g)) (one_sided? e g) (few (zeros e g) c.few) (crossed_sides e g c)
  where
    few : (n : ℕ) → n < 2 → leb 2 n ≡ false
    few n h = grind arith

not_four : (e g : Edge) → Crossed e g → ¬ (zeros e g ≡ 4)
not_four e g c z = omega (arith, c.few)

any_of : (i : Bool) (m n : Marking) → any? m ≡ true → any? n ≡ true → any? (cond i m n) ≡ true
any_of true m n a b = a
any_of false m n a b = b

end_any : (t o : Edge) → any? (end_marked t o) ≡ true
unfolding end_marked
end_any t o = any_of (zero? (first t o)) _ _ refl (any_of (zero? (second t o)) _ _ refl (any_of (zero? (first o t)) _ _ refl refl))

inner_any : (t o : Edge) (s : ℕ) (p : Point) → any? (inner_marked t o s p) ≡ true
unfolding inner_marked snapped
inner_any t o s p = any_of (on_lines? t o p) _ _ refl (any_of (leb (min (gap t p) (gap o p)) (reach s)) _ _ (any_of (leb (gap t p) (gap o p)) _ _ refl refl) refl)

pub decides_marking : (t o : Edge) (s : ℕ) → Decides (any? (marking t o s)) (Marks t o)
unfolding overlaid
decides_marking t o s = go (kind t o)
  where
    no : false ≡ true → Marks t o
    no e = absurd (false≢true e)

    go : Kind t o → Decides (any? (marking t o s)) (Marks t o)
    go (aligned z) = Decides-at _ _ (ap any? (marking_aligned t o s z))
        (Decides-like _ (in_line (four_aligned t o z)) (λ m. elim m [ in_line y h ↦ h | across c ↦ absurd (not_four t o c z) ]) (decides_overlaps t o))
    go (off a b) = Decides-at _ _ (ap any? (marking_off t o s a b))
        (no, λ m. elim m [ in_line y h ↦ absurd (aligned_not t o y a) | across c ↦ absurd (clash b (not_off t o c)) ])
    go (ending z b) = Decides-at _ _ (ap any? (marking_end t o s z b) ∙ end_any t o) (λ _. across (crossed_by t o (omega (arith, z)) b), λ _. refl)
    go (inner c) = Decides-at _ _ (ap any? (marking_inner t o s c) ∙ inner_any t o s (taken t o)) (λ _. across (inner_crossed c), λ _. refl)

-- distinct edges: one of them is the target
pub decides_marked : (e g : Edge) (s : ℕ) → e ≢ g → Decides (marked? e g s) (Marks e g)
unfolding marked_on
decides_marked e g s d = go (smaller? g e) refl (smaller? e g) refl
  where
    go : (i : Bool) → smaller? g e ≡ i → (j : Bool) → smaller? e g ≡ j
        → Decides (some? (cond i (marking g e s).other (marking e g s).target) || some? (cond j (marking e g s).other (marking g e s).target)) (Marks e g)
    go true a true b = absurd (clash b (smaller_asym g e a))
    go true a false b = Decides-at _ _ (or_comm (some? (marking g e s).other) (some? (marking g e s).target))
        (Decides-like (any? (marking g e s)) marks_sym marks_sym (decides_marking g e s))
    go false a true b = decides_marking e g s
    go false a false b = absurd (d (not_smaller e g b a))
