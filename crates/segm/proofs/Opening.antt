-- The corners of a table that holds the balance are the open points.
use Rattle.std.proofs.Common.{◌≡◌, ℕ, Bool, true, false, not, ◌||◌, List, [], ◌∷◌, map, length, take, Less, Equal, sym, refl, ap, ◌∙◌, subst, arith}
use Rattle.std.specs.Ordering.{is_eq}
use Rattle.std.specs.List.{AllByRecursion}
use Rattle.std.proofs.ByRecursion.{All-map, All-weaker}
use Rattle.std.proofs.lemmas.List.{length-map}
use Rattle.table.specs.Listings.{Ascending}
use Rattle.table.specs.Contents.{Content, records, Sound}
use Rattle.table.proofs.Orders.{is_equal}
use Rattle.plane.specs.Points.{Point, ◌≺◌}
use Rattle.plane.specs.PointOf.{point_of}
use Rattle.segm.specs.Counts.{CountKind}
use Rattle.segm.specs.Orders.{point_order}
use Rattle.segm.specs.OrderLaws.{Stands, points_ranked, point_total}
use Rattle.segm.specs.Balance.{when, total, balance}
use Rattle.segm.specs.CornerKind.{corner_kind, corner_order}
use Rattle.segm.specs.Held.{counts_at, Holds}
use Rattle.segm.specs.Open.{Rising, listed?, Open}
use Rattle.segm.specs.declared.corner.Corner.{Corner}
use Rattle.segm.specs.declared.segment.Segment.{Segment}
use Rattle.segm.proofs.Groups.{identity_left}

less_before : (p q : Point) → point_order p q ≡ Less → p ≺ q
less_before p q e = subst (λ o. Stands o p q) e (points_ranked p q)

module _ {C : Type 0} (K : CountKind C) where
  abbrev place_of : Corner C → Point
  place_of c = point_of c.point

  rising_corners : (l : List (Corner C)) → Ascending (corner_kind K) l → Rising (map place_of l)
  rising_corners [] h = tt
  rising_corners (c ∷ l) h = (
    All-map (λ q. place_of c ≺ q) place_of l (All-weaker (λ d. corner_order c d ≡ Less) _ (λ d e. less_before (place_of c) (place_of d) e) l h.0),
    rising_corners l h.1,
  )

  -- the point of the first corner is that of no other
  none_behind : (p q : Point) (l : List (Corner C)) → point_order p q ≡ Equal → AllByRecursion (λ d. point_order q (place_of d) ≡ Less) l → total K (counts_at K p) l ≡ K.neutral
  none_behind p q [] e h = refl
  none_behind p q (d ∷ l) e h =
      ap (λ o. K.sum (when K (is_eq o) d.count) (total K (counts_at K p) l)) (point_total.congr p q (place_of d) e ∙ h.0)
      ∙ identity_left K (total K (counts_at K p) l) ∙ none_behind p q l e h.1

  -- a point is listed where the corners count
  listed_counts : (p : Point) (l : List (Corner C)) → Ascending (corner_kind K) l → AllByRecursion (λ c. K.empty? c.count ≡ false) l
      → listed? (map place_of l) p ≡ not (K.empty? (total K (counts_at K p) l))
  listed_counts p [] h k = sym (ap not K.neutral_empty)
  listed_counts p (c ∷ l) h k = go (is_eq (point_order p (place_of c))) refl (listed_counts p l h.1 k.1)
    where
      go : (b : Bool) → is_eq (point_order p (place_of c)) ≡ b → listed? (map place_of l) p ≡ not (K.empty? (total K (counts_at K p) l))
          → (b || listed? (map place_of l) p) ≡ not (K.empty? (K.sum (when K b c.count) (total K (counts_at K p) l)))
      go true e rest =
          sym (ap (λ z. not (K.empty? z)) (ap (K.sum c.count) (none_behind p (place_of c) l (is_equal (point_order p (place_of c)) e) h.0) ∙ K.identity c.count)
          ∙ ap not k.0)
      go false e rest = rest ∙ sym (ap (λ z. not (K.empty? z)) (identity_left K (total K (counts_at K p) l)))

  pub holds_none : (t : Content (Corner C)) → Sound (corner_kind K) t → t.used ≡ 0 → Holds K (λ p. K.neutral) 0 t.room t
  holds_none t s e = record {
    sound = s;
    each = λ p. ap (λ (n : ℕ). total K (counts_at K p) (take n t.places)) e;
    few = omega (arith, e);
    roomy = refl;
  }

  pub open_held : (l : List (Segment C)) (f : Point → C) (n m k : ℕ) (t : Content (Corner C)) → Holds K f n m t → ((p : Point) → f p ≡ balance K p l) → length (records t) ≡ k → Open K l k
  open_held l f n m k t h e len = record {
    points = map place_of (records t);
    rising = rising_corners (records t) h.sound.ordered.ascending;
    just = λ p. listed_counts p (records t) h.sound.ordered.ascending h.sound.ordered.filled ∙ ap (λ z. not (K.empty? z)) (h.each p ∙ e p);
    many = length-map (records t) place_of ∙ len;
  }
