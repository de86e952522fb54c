-- Edges cut at the marks of all their crossings, none of them rounded: pieces that touch are equal.
use Rattle.std.proofs.Common.{◌≡◌, ℕ, Bool, true, false, eqb, ◌≢◌, ◌⊎◌, List, pos, sym, refl, ap, ◌∙◌, subst, inl, inr}
use mathlib.Core.Bool.{Bool-set}
use mathlib.Core.HLevel.{⊥_prop}
use mathlib.Core.Logic.{∥∥₁_elim, ∥∥₁_map}
use lib.IntN.{ℤ_set}
use Rattle.std.proofs.lemmas.Bool.{eqb-true}
use Rattle.plane.specs.Points.{Point, ◌≺◌, ◌≼◌, cross}
use Rattle.plane.specs.Edges.{Edge, Proper, Between, first, second, zeros, between?}
use Rattle.plane.specs.Fractions.{Frac, den, by, whole, Line, On, Within, IsEnd, TouchAt}
use Rattle.plane.specs.Rules.{In, marked_on, rounded?}
use Rattle.plane.proofs.Signs.{den_pos}
use Rattle.plane.proofs.Points.{weaken, same_le, split, ≺-≼, ≼-≺, apart, scale, unscale}
use Rattle.plane.proofs.Tests.{decides_between}
use Rattle.plane.proofs.Lines.{Aligned, aligned_sym, at_first, at_second, same_line}
use Rattle.plane.proofs.Directions.{four_aligned}
use Rattle.plane.proofs.Overlays.{within_or_end, whole_line, line_whole, own, whole_within, Overlaps, first_of_second, second_of_second, first_of_first, second_of_first, touch_order}
use Rattle.plane.proofs.Markings.{aligned_not}
use Rattle.plane.proofs.CrossingLaws.{exact_marks}
use Rattle.rounds.proofs.PairMarks.{aligned_mark, aligned_marked, crossed_marked}
use Rattle.rounds.proofs.Gaps.{path, OnPath, is_end, is_mark, in_path, mark_in_path, Gap}

-- ---- lines
aligned_by : (e g : Edge) → Proper e → first e g ≡ pos 0 → second e g ≡ pos 0 → Aligned e g
aligned_by e g pe za zb = record {
  ga = za;
  gb = zb;
  ea = line_whole g e.a (same_line e g (whole e.a) pe za zb (whole_line e e.a (at_first e.a e.b)));
  eb = line_whole g e.b (same_line e g (whole e.b) pe za zb (whole_line e e.b (at_second e.a e.b)));
}

-- a point of one line is on the other
carried : (e g : Edge) → Proper e → Aligned e g → (p : Point) → cross e.a e.b p ≡ pos 0 → cross g.a g.b p ≡ pos 0
carried e g pe z p h = line_whole g p (same_line e g (whole p) pe z.ga z.gb (whole_line e p h))

aligned_trans : (e g h : Edge) → Proper e → Proper g → Aligned e g → Aligned g h → Aligned e h
aligned_trans e g h pe pg y z = aligned_by e h pe (carried g e pg (aligned_sym y) h.a z.ga) (carried g e pg (aligned_sym y) h.b z.gb)

aligned? : (e g : Edge) → Dec (Aligned e g)
aligned? e g = go (eqb (zeros e g) 4) refl
  where
    go : (b : Bool) → eqb (zeros e g) 4 ≡ b → Dec (Aligned e g)
    go true h = yes (four_aligned e g (eqb-true (zeros e g) 4 h))
    go false h = no (λ z. aligned_not e g z h)

-- ---- order
≼_trans : {p q r : Point} → p ≼ q → q ≼ r → p ≼ r
≼_trans {p} {q} {r} h k = elim (split h) [ inl l ↦ weaken (≺-≼ l k) | inr e ↦ subst (λ (z : Point). z ≼ r) (sym e) k ]

scale_weak : (f : Frac) {p q : Point} → p ≼ q → by f p ≼ by f q
scale_weak f {p} {q} h = elim (split h) [ inl l ↦ weaken (scale (den f) (den_pos f.k) l) | inr e ↦ same_le (ap (λ (z : Point). by f z) e) ]

within_between : (e : Edge) (p : Point) → Within e (whole p) → Between e p
within_between e p w = record {
  from = subst (λ (z : Point). z ≺ p) (own e.a p) w.from;
  to = subst (λ (z : Point). p ≺ z) (own e.b p) w.to;
}

-- a whole point of an edge
record Lies (e : Edge) (p : Point) : Type 0 where
  line : cross e.a e.b p ≡ pos 0
  from : e.a ≼ p
  to : p ≼ e.b

-- numbered edges, and for each the marks of its crossings with all others, none of them rounded
pub record ExactCuts (s : ℕ) (I : Type 0) (es : I → Edge) (marks : I → List Point) : Type 0 where
  pub proper : (i : I) → Proper (es i)
  pub exact : (i k : I) → k ≢ i → rounded? (es i) (es k) s ≡ false
  pub only : (i : I) (m : Point) → In m (marks i) → ∥ ((k : I) × (k ≢ i) × In m (marked_on (es i) (es k) s)) ∥₁
  pub all : (i k : I) (m : Point) → k ≢ i → In m (marked_on (es i) (es k) s) → In m (marks i)

module _ (s : ℕ) (I : Type 0) (same? : (i j : I) → Dec (i ≡ j)) (es : I → Edge) (marks : I → List Point) (c : ExactCuts s I es marks) where
  abbrev Path : I → List Point
  Path i = path (es i) (marks i)

  mark_within : (i k : I) (m : Point) → k ≢ i → In m (marked_on (es i) (es k) s) → Within (es i) (whole m) × On (es k) (whole m)
  mark_within i k m n h = exact_marks (es i) (es k) s (c.proper i) (c.proper k) (c.exact i k n) m h

  pub mark_between : (i : I) (m : Point) → In m (marks i) → Between (es i) m
  mark_between i m h = (decides_between (es i) m).0
      (∥∥₁_elim (c.only i m h) (Bool-set (between? (es i) m) true) (λ w. (decides_between (es i) m).1 (within_between (es i) m (mark_within i w.0 m w.1 w.2).0)))

  pub mark_line : (i : I) (m : Point) → In m (marks i) → cross (es i).a (es i).b m ≡ pos 0
  mark_line i m h = ∥∥₁_elim (c.only i m h) (ℤ_set _ _) (λ w. line_whole (es i) m (mark_within i w.0 m w.1 w.2).0.line)

  path_lies : (i : I) (m : Point) → In m (Path i) → Lies (es i) m
  path_lies i m h = go (in_path (es i) (marks i) m h)
    where
      go : OnPath (es i) (marks i) m → Lies (es i) m
      go (is_end (inl e)) = subst (Lies (es i)) (sym e) (record { line = at_first (es i).a (es i).b; from = same_le refl; to = weaken (c.proper i) })
      go (is_end (inr e)) = subst (Lies (es i)) (sym e) (record { line = at_second (es i).a (es i).b; from = weaken (c.proper i); to = same_le refl })
      go (is_mark k) = record { line = mark_line i m k; from = weaken (mark_between i m k).from; to = weaken (mark_between i m k).to }

  -- a point of the path of i that is strictly inside the edge j of the same line is a mark of j
  becomes : (i j : I) → i ≢ j → Aligned (es i) (es j) → (m : Point) → In m (Path i) → Between (es j) m → ∥ In m (marks j) ∥₁
  becomes i j ne z m h b = go (in_path (es i) (marks i) m h)
    where
      at_j : (k : I) → k ≡ j → (m ≡ (es k).a) ⊎ (m ≡ (es k).b) → ⊥
      at_j k e (inl d) = apart b.from (sym (d ∙ ap (λ l. (es l).a) e))
      at_j k e (inr d) = apart b.to (d ∙ ap (λ l. (es l).b) e)

      of_third : (k : I) → k ≢ i → k ≢ j → In m (marked_on (es i) (es k) s) → Dec (Aligned (es j) (es k)) → In m (marked_on (es j) (es k) s)
      of_third k n l w (yes y) =
          aligned_marked (es j) (es k) s y m (aligned_mark (es i) (es k) s (aligned_trans (es i) (es j) (es k) (c.proper i) (c.proper j) z y) m w) b
      of_third k n l w (no y) =
          let line = carried (es i) (es j) (c.proper i) z m (path_lies i m h).line in
          let found = crossed_marked (es j) (es k) s (c.proper j) (c.proper k) (c.exact j k l) y (whole m) (whole_within (es j) m line b) (mark_within i k m n w).1 in
          subst (λ (p : Point). In p (marked_on (es j) (es k) s)) (sym (found.1 ∙ own found.0 m)) found.2

      third : (k : I) → k ≢ i → In m (marked_on (es i) (es k) s) → Dec (k ≡ j) → In m (marks j)
      third k n w (yes e) = absurd (at_j k e (aligned_mark (es i) (es k) s (subst (λ l. Aligned (es i) (es l)) (sym e) z) m w))
      third k n w (no l) = c.all j k m l (of_third k n l w (aligned? (es j) (es k)))

      go : OnPath (es i) (marks i) m → ∥ In m (marks j) ∥₁
      go (is_end d) = ∣ c.all j i m ne (aligned_marked (es j) (es i) s (aligned_sym z) m d b) ∣₁
      go (is_mark k) = ∥∥₁_map (c.only i m k) (λ w. third w.0 w.1 w.2 (same? w.0 j))

  abbrev OneLine : I → I → Type 0
  OneLine i j = (i ≡ j) ⊎ Aligned (es i) (es j)

  none_inside : (i j : I) → OneLine i j → (m : Point) → In m (Path i) → (q : Edge) → Gap (Path j) q → ¬ Between q m
  none_inside i j d m h q g b = go d (same? i j)
    where
      one : i ≡ j → ⊥
      one e = g.none m (subst (λ l. In m (Path l)) e h) b

      inside : Between (es j) m
      inside = record { from = ≼-≺ (path_lies j q.a g.from).from b.from; to = ≺-≼ b.to (path_lies j q.b g.to).to }

      go : OneLine i j → Dec (i ≡ j) → ⊥
      go (inl e) k = one e
      go (inr z) (yes e) = one e
      go (inr z) (no n) = ∥∥₁_elim (becomes i j n z m h inside) ⊥_prop (λ w. g.none m (mark_in_path (es j) (marks j) m w) b)

  -- ---- a common point of two pieces, strictly inside the first
  piece_aligned : (i : I) (p : Edge) → Gap (Path i) p → Aligned (es i) p
  piece_aligned i p g = aligned_by (es i) p (c.proper i) (path_lies i p.a g.from).line (path_lies i p.b g.to).line

  piece_line : (i : I) (p : Edge) (f : Frac) → Gap (Path i) p → Line p f → Line (es i) f
  piece_line i p f g h = let z = piece_aligned i p g in same_line p (es i) f g.step z.ea z.eb h

  piece_within : (i : I) (p : Edge) (f : Frac) → Gap (Path i) p → Within p f → Within (es i) f
  piece_within i p f g w = record {
    line = piece_line i p f g w.line;
    from = ≼-≺ (scale_weak f (path_lies i p.a g.from).from) w.from;
    to = ≺-≼ w.to (scale_weak f (path_lies i p.b g.to).to);
  }

  piece_on : (i : I) (p : Edge) (f : Frac) → Gap (Path i) p → On p f → On (es i) f
  piece_on i p f g o = record {
    line = piece_line i p f g o.line;
    from = ≼_trans (scale_weak f (path_lies i p.a g.from).from) o.from;
    to = ≼_trans o.to (scale_weak f (path_lies i p.b g.to).to);
  }

  one_line : (i j : I) (p q : Edge) → Gap (Path i) p → Gap (Path j) q → (f : Frac) → Within p f → On q f → OneLine i j
  one_line i j p q g h f w o = go (same? i j) (aligned? (es i) (es j))
    where
      cuts : i ≢ j → ¬ Aligned (es i) (es j) → ⊥
      cuts n z =
          let back : j ≢ i = λ e. n (sym e) in
          let found = crossed_marked (es i) (es j) s (c.proper i) (c.proper j) (c.exact i j back) z f (piece_within i p f g w) (piece_on j q f h o) in
          let m = found.0 in
          g.none m (mark_in_path (es i) (marks i) m (c.all i j m back found.2)) (record {
            from = unscale (den f) p.a m (den_pos f.k) (subst (λ (z : Point). by f p.a ≺ z) found.1 w.from);
            to = unscale (den f) m p.b (den_pos f.k) (subst (λ (z : Point). z ≺ by f p.b) found.1 w.to);
          })

      go : Dec (i ≡ j) → Dec (Aligned (es i) (es j)) → OneLine i j
      go (yes e) d = inl e
      go (no n) (yes z) = inr z
      go (no n) (no z) = absurd (cuts n z)

  one_line_sym : {i j : I} → OneLine i j → OneLine j i
  one_line_sym (inl e) = inl (sym e)
  one_line_sym (inr z) = inr (aligned_sym z)

  touch_one_line : (i j : I) (p q : Edge) → Gap (Path i) p → Gap (Path j) q → (f : Frac) → TouchAt p q f → OneLine i j
  touch_one_line i j p q g h f t = go (within_or_end t.here) (within_or_end t.there)
    where
      go : Within p f ⊎ IsEnd p f → Within q f ⊎ IsEnd q f → OneLine i j
      go (inl w) d = one_line i j p q g h f w t.there
      go (inr e) (inl w) = one_line_sym (one_line j i q p h g f w t.here)
      go (inr e) (inr d) = absurd (t.free (e, d))

  pub pieces_apart : (i j : I) (p q : Edge) → Gap (Path i) p → Gap (Path j) q → (f : Frac) → TouchAt p q f → p ≡ q
  pieces_apart i j p q g h f t = go (touch_order t)
    where
      d : OneLine i j
      d = touch_one_line i j p q g h f t

      go : (p ≡ q) ⊎ Overlaps p q → p ≡ q
      go (inl e) = e
      go (inr (first_of_second b)) = absurd (none_inside j i (one_line_sym d) q.a h.from p g b)
      go (inr (second_of_second b)) = absurd (none_inside j i (one_line_sym d) q.b h.to p g b)
      go (inr (first_of_first b)) = absurd (none_inside i j d p.a g.from q h b)
      go (inr (second_of_first b)) = absurd (none_inside i j d p.b g.to q h b)
