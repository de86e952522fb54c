-- What is held grows step by step.
use Rattle.std.proofs.Common.{◌≡◌, ℕ, ◌+◌, ◌<◌, ◌≤◌, true, List, [], ◌∷◌, length, get_or, take, is_err, Ok, Err, Result, sym, ap, ◌∙◌, ap₂, arith}
use Rattle.std.proofs.lemmas.List.{take_more}
use Rattle.std.proofs.lemmas.Result.{MatchResult-from_err}
use Rattle.table.specs.Contents.{Content}
use Rattle.plane.specs.Points.{Point}
use Rattle.segm.specs.Counts.{CountKind}
use Rattle.segm.specs.Balance.{brings, balance}
use Rattle.segm.specs.Corners.{ends_at, begins_of}
use Rattle.segm.specs.Held.{counts_at, Grown, Crowded, Grows}
use Rattle.segm.specs.declared.corner.Corner.{Corner}
use Rattle.segm.specs.declared.segment.Segment.{Segment}
use Rattle.segm.proofs.Totals.{total_append}

module _ {C : Type 0} (K : CountKind C) where
  pub grown_none : (part : Point → C) (i : ℕ) (t : Content (Corner C)) → ((p : Point) → part p ≡ K.neutral) → Grown K part i t t
  grown_none part i t e f n m held = record {
    sound = held.sound;
    each = λ p. held.each p ∙ sym (ap (K.sum (f p)) (e p) ∙ K.identity (f p));
    few = omega (arith, held.few);
    roomy = held.roomy;
  }

  pub grown_as : (part whole : Point → C) (i k : ℕ) (a b : Content (Corner C)) → ((p : Point) → part p ≡ whole p) → i ≤ k → Grown K part i a b → Grown K whole k a b
  grown_as part whole i k a b e le g f n m held = let t = g f n m held in record {
    sound = t.sound;
    each = λ p. t.each p ∙ ap (K.sum (f p)) (e p);
    few = omega (arith, t.few);
    roomy = t.roomy;
  }

  pub crowded_more : (i k : ℕ) (a : Content (Corner C)) → i ≤ k → Crowded K i a → Crowded K k a
  crowded_more i k a le h f n m held = omega (arith, h f n m held)

  pub grows_failed : {T E : Type 0} (part : Point → C) (i : ℕ) (a b : Content (Corner C)) (r : Result T E) → is_err r ≡ true → Crowded K i a → Grows K part i a b r
  grows_failed part i a b r e h = MatchResult-from_err r (λ _. Grown K part i a b) (λ _. Crowded K i a) e (λ _. h)

  -- one growth after another
  module _ (part rest whole : Point → C) (i j k : ℕ) (a b : Content (Corner C)) (e : (p : Point) → K.sum (part p) (rest p) ≡ whole p) (le : i + j ≤ k) where
    pub grown_then : (c : Content (Corner C)) → Grown K part i a b → Grown K rest j b c → Grown K whole k a c
    grown_then c g h f n m held = let t = h (λ p. K.sum (f p) (part p)) (n + i) m (g f n m held) in record {
      sound = t.sound;
      each = λ p. t.each p ∙ K.assoc (f p) (part p) (rest p) ∙ ap (K.sum (f p)) (e p);
      few = omega (arith, t.few);
      roomy = t.roomy;
    }

    pub crowded_then : Grown K part i a b → Crowded K j b → Crowded K k a
    crowded_then g h f n m held = omega (arith, h (λ p. K.sum (f p) (part p)) (n + i) m (g f n m held))

    pub grows_then : {T E : Type 0} (c : Content (Corner C)) (r : Result T E) → Grown K part i a b → Grows K rest j b c r → Grows K whole k a c r
    grows_then c (Ok x) g h = grown_then c g h
    grows_then c (Err x) g h = crowded_then g h

  -- the corners of a segment bring what it brings
  pub both_ends : (s : Segment C) (c d : Corner C) → c ≡ ends_at s → d ≡ begins_of K s → (p : Point) → K.sum (counts_at K p c) (counts_at K p d) ≡ brings K p s
  both_ends s c d e h p = ap₂ (λ u v. K.sum (counts_at K p u) (counts_at K p v)) e h

  pub balance_more : (l : List (Segment C)) (i : ℕ) (s : Segment C) → i < length l → s ≡ get_or l i s → (p : Point) → K.sum (balance K p (take i l)) (brings K p s) ≡ balance K p (take (i + 1) l)
  balance_more l i s lt e p =
      ap (λ (x : Segment C). K.sum (balance K p (take i l)) (brings K p x)) e
      ∙ ap (K.sum (balance K p (take i l))) (sym (K.identity (brings K p (get_or l i s))))
      ∙ sym (ap (balance K p) (take_more l i s lt) ∙ total_append K (brings K p) (take i l) (get_or l i s ∷ []))
