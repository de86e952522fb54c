-- A table is sound in one way, so that its type can hold that it is.
use Rattle.std.specs.Prelude.{◌≡◌, ◌-◌, ◌≤◌, false, List, [], ◌∷◌, length, drop, replicate, refl}
use Rattle.std.specs.declared.cmp.Ordering.TheVariants.{Less}
use Rattle.std.specs.Ordering.{Ordering-set}
use Rattle.std.specs.List.{AllByRecursion}
use Rattle.table.specs.Records.{RecordKind}
use Rattle.table.specs.Listings.{Ascending, Ordered}
use Rattle.table.specs.Contents.{Content, records, Sound}
use denote.Struct.Props.{props}
use base.Stored.{Coded}
use mathlib.Core.Bool.{Bool-set}

module _ {R : Type 0} where
  pub each_once : (P : R → Type 0) → ((x : R) → IsProp (P x)) → (xs : List R) → IsProp (AllByRecursion P xs)
  each_once P one [] p q = refl
  each_once P one (x ∷ xs) p q = λ i. (one x p.0 q.0 i, each_once P one xs p.1 q.1 i)

module _ {R : Type 0} (K : RecordKind R) where
  pub ascending_once : (xs : List R) → IsProp (Ascending K xs)
  ascending_once [] p q = refl
  ascending_once (x ∷ xs) p q = λ i. (
    each_once (λ y. K.order x y ≡ Less) (λ y. Ordering-set (K.order x y) Less) xs p.0 q.0 i,
    ascending_once xs p.1 q.1 i,
  )

  pub ordered_once : (xs : List R) → IsProp (Ordered K xs)
  ordered_once xs p q = λ i. record {
    ascending = ascending_once xs p.ascending q.ascending i;
    filled = each_once (λ x. K.empty? x ≡ false) (λ x. Bool-set (K.empty? x) false) xs p.filled q.filled i;
  }

  pub sound_once : Coded R → (c : Content R) → IsProp (Sound K c)
  sound_once coded c p q =
      let fits : IsProp (c.used ≤ c.room) = hlevel props in
      let roomy : IsProp (c.room ≤ length c.places) = hlevel props in
      let blank : IsProp (drop c.used c.places ≡ replicate (length c.places - c.used) K.blank) = hlevel (props, coded) in
      λ i. record {
        fits = fits p.fits q.fits i;
        roomy = roomy p.roomy q.roomy i;
        ordered = ordered_once (records c) p.ordered q.ordered i;
        blank = blank p.blank q.blank i;
      }
