-- A corner that came to a sound table: what is held grows by its count, on at most one more place.
use Rattle.std.proofs.Common.{◌≡◌, ℕ, ◌+◌, ◌≤◌, true, List, length, Some, None, Ok, Err, Option, Result, Equal, refl, ap, ◌∙◌, arith}
use Rattle.std.specs.Ordering.{is_eq}
use Rattle.std.proofs.lemmas.List.{length-append, length-take-le}
use Rattle.table.specs.Records.{RecordKind}
use Rattle.table.specs.Listings.{record_at, joined_at}
use Rattle.table.specs.Contents.{Content, records, Sound, Came, Refused, Answers}
use Rattle.table.proofs.Edited.{placed, Edited}
use Rattle.table.proofs.Laws.{edited_from_listing}
use Rattle.table.proofs.Soundness.{sound_came}
use Rattle.plane.specs.Points.{Point}
use Rattle.plane.specs.PointOf.{point_of}
use Rattle.segm.specs.Counts.{CountKind}
use Rattle.segm.specs.Orders.{point_order}
use Rattle.segm.specs.OrderLaws.{equal_points}
use Rattle.segm.specs.Balance.{when}
use Rattle.segm.specs.Corners.{joined_corner}
use Rattle.segm.specs.CornerKind.{corner_kind, corner_order}
use Rattle.segm.specs.Held.{counts_at, Grown, Crowded, Grows}
use Rattle.segm.specs.declared.corner.Corner.{Corner}
use Rattle.segm.proofs.Groups.{when_sum, when_neutral}
use Rattle.segm.proofs.Totals.{total_listing}

placed_least : {X : Type 0} (o : Option X) (xs : List X) → length xs ≤ length (placed o xs)
placed_least None xs = omega arith
placed_least (Some x) xs = omega arith

placed_most : {X : Type 0} (o : Option X) (xs : List X) → length (placed o xs) ≤ length xs + 1
placed_most None xs = omega arith
placed_most (Some x) xs = omega arith

-- one record more at most
length_edited : {R : Type 0} (A : RecordKind R) (r : R) (xs ys : List R) → Edited A r xs ys → length ys ≤ length xs + 1
length_edited A r xs ys d =
    omega (
      arith,
      ap length d.was ∙ length-append d.low (placed d.here d.high),
      ap length d.is ∙ length-append d.low (placed (joined_at A d.here r) d.high),
      placed_least d.here d.high,
      placed_most (joined_at A d.here r) d.high,
    )

used_records : {R : Type 0} (A : RecordKind R) (t : Content R) → Sound A t → length (records t) ≡ t.used
used_records A t s = length-take-le t.used t.places (omega (arith, s.fits, s.roomy))

few_edited : {R : Type 0} (A : RecordKind R) (r : R) (before after : Content R) (n : ℕ) → Sound A before → Sound A after
    → Edited A r (records before) (records after) → before.used ≤ n → after.used ≤ n + 1
few_edited A r before after n s t d le =
    omega (arith, used_records A before s, used_records A after t, length_edited A r (records before) (records after) d)

module _ {C : Type 0} (K : CountKind C) where
  at_joined : (p : Point) (c d : Corner C) → corner_order c d ≡ Equal → counts_at K p (joined_corner K c d) ≡ K.sum (counts_at K p c) (counts_at K p d)
  at_joined p c d e =
      when_sum K (is_eq (point_order p (point_of c.point))) c.count d.count
      ∙ ap (λ (q : Point). K.sum (counts_at K p c) (when K (is_eq (point_order p q)) d.count)) (equal_points (point_of c.point) (point_of d.point) e)

  at_empty : (p : Point) (c : Corner C) → K.empty? c.count ≡ true → counts_at K p c ≡ K.neutral
  at_empty p c e =
      ap (when K (is_eq (point_order p (point_of c.point)))) (K.empty_neutral c.count e)
      ∙ when_neutral K (is_eq (point_order p (point_of c.point)))

  module _ (c : Corner C) (before after : Content (Corner C)) where
    came_grown : Came (corner_kind K) c before after → Grown K (λ p. counts_at K p c) 1 before after
    came_grown h f n m held =
        let o = held.sound.ordered in
        let l = h.listed (record_at (corner_kind K) (records before)) (record { ordered = o; each = λ k. refl }) in
        let s = sound_came (corner_kind K) c before after h held.sound in
        record {
          sound = s;
          each = λ p.
              total_listing K (corner_kind K) (counts_at K p) (at_joined p) (at_empty p) c (records before) (records after) o l
              ∙ ap (λ z. K.sum z (counts_at K p c)) (held.each p);
          few = few_edited (corner_kind K) c before after n held.sound s (edited_from_listing (corner_kind K) c (records before) (records after) o l) held.few;
          roomy = h.room ∙ held.roomy;
        }

    refused_crowded : Refused (corner_kind K) c before after → Crowded K 1 before
    refused_crowded h f n m held = omega (arith, (h.reason held.sound).full, held.few, held.roomy)

    pub corner_grows : {T E : Type 0} (a : Result T E) → Answers (corner_kind K) c before after a → Grows K (λ p. counts_at K p c) 1 before after a
    corner_grows (Ok x) h = came_grown h
    corner_grows (Err e) h = refused_crowded h
