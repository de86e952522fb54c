-- A table is sound from its opening on.
use Rattle.std.proofs.Common.{◌≡◌, ℕ, ◌-◌, ◌≤◌, min, List, length, replicate, sym, refl, ap, ◌∙◌, subst, arith}
use Rattle.std.proofs.lemmas.List.{length-replicate}
use Rattle.table.specs.Records.{RecordKind}
use Rattle.table.specs.Listings.{record_at}
use Rattle.table.specs.Contents.{Content, content, records, Sound, unused, Came}

module _ {R : Type 0} (K : RecordKind R) where
  pub sound_unused : (n room : ℕ) → room ≤ n → Sound K (unused K n room)
  sound_unused n room le =
      let l = length-replicate n K.blank in
      let m : n ≡ length (replicate n K.blank) - 0 = omega arith in
      record { fits = omega arith; roomy = omega arith; ordered = record { ascending = tt; filled = tt }; blank = ap (λ k. replicate k K.blank) m }

  pub sound_is_unused : (c : Content R) (n room : ℕ) → room ≤ n → c ≡ unused K n room → Sound K c
  sound_is_unused c n room le e = subst (λ c. Sound K c) (sym e) (sound_unused n room le)

  -- blanked places, of which some may be used
  pub opened : (old places : List R) (asked room : ℕ) → places ≡ replicate (length old) K.blank → room ≡ min asked (length places) → content places 0 room ≡ unused K (length old) (min asked (length old))
  opened old places asked room e h =
      let l : length places ≡ length old = ap length e ∙ length-replicate (length old) K.blank in
      λ i. content (e i) 0 ((h ∙ ap (λ (n : ℕ). min asked n) l) i)

  pub sound_opened : (old places : List R) (asked room : ℕ) → places ≡ replicate (length old) K.blank → room ≡ min asked (length places) → Sound K (content places 0 room)
  sound_opened old places asked room e h = sound_is_unused (content places 0 room) (length old) (min asked (length old)) (omega arith) (opened old places asked room e h)

  pub sound_came : (r : R) (before after : Content R) → Came K r before after → Sound K before → Sound K after
  sound_came r before after h s = record {
    fits = h.fits;
    roomy = let le : before.room ≤ length before.places = s.roomy in let m = h.room in let l = h.long in omega arith;
    ordered = (h.listed (record_at K (records before)) (record { ordered = s.ordered; each = λ k. refl })).ordered;
    blank = h.blank s.blank;
  }
