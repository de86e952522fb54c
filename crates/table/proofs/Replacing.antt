-- What the records of another table leave where they take the place of those that were there.
use Rattle.std.proofs.Common.{◌≡◌, ℕ, ◌+◌, ◌-◌, ◌≤◌, List, ◌++◌, length, take, drop, replicate, sym, ap, ◌∙◌, ap₂, subst, arith}
use Rattle.std.proofs.lemmas.List.{take_at, drop_at, drop-drop, drop-replicate, length-append, length-drop, length-replicate, replicate-append-replicate, length-take-le}
use Rattle.table.specs.Records.{RecordKind}
use Rattle.table.specs.Contents.{Content, Replaced, Sound, content, unused}
use Rattle.table.proofs.Soundness.{sound_is_unused}
use borrow.Rule.Slice.PartMut.{put_mid, mid_of}

module _ {X : Type 0} where
  -- what is left behind m once more of it goes
  drop_further : (m n : ℕ) (t : List X) → m ≤ n → drop (n - m) (drop m t) ≡ drop n t
  drop_further m n t le = let e : m + (n - m) ≡ n = omega arith in drop-drop (n - m) m t ∙ ap (λ (k : ℕ). drop k t) e

  long_mid : (a k : ℕ) (t : List X) → a + k ≤ length t → length (mid_of a k t) ≡ k
  long_mid a k t le = length-take-le k (drop a t) (omega (arith, length-drop a t))

module _ {R : Type 0} (K : RecordKind R) where
  pub replaced_longer : (xs t : List R) (used : ℕ) → used ≤ length xs → length xs ≤ length t → Replaced K xs used t (xs ++ drop (length xs) t)
  replaced_longer xs t used le fits =
      let long : length (xs ++ drop (length xs) t) ≡ length t = omega (arith, length-append xs (drop (length xs) t), length-drop (length xs) t) in
      record {
        listed = take_at xs (drop (length xs) t) (length xs) (omega arith);
        blank = λ b.
            let n : length t - used - (length xs - used) ≡ length (xs ++ drop (length xs) t) - length xs = omega arith in
            drop_at xs (drop (length xs) t) (length xs) (omega arith) ∙ sym (drop_further used (length xs) t le) ∙ ap (drop (length xs - used)) b
            ∙ drop-replicate (length xs - used) (length t - used) K.blank ∙ ap (λ (m : ℕ). replicate m K.blank) n;
        long = long;
      }

  replaced_by : (xs blanks t : List R) (used : ℕ) → length xs ≤ used → used ≤ length t → blanks ≡ replicate (used - length xs) K.blank → Replaced K xs used t (xs ++ (blanks ++ drop used t))
  replaced_by xs blanks t used le fits e =
      let m = length-replicate (used - length xs) K.blank in
      let l : length blanks ≡ used - length xs = ap length e ∙ m in
      let long : length (xs ++ (blanks ++ drop used t)) ≡ length t = omega (arith, length-append xs (blanks ++ drop used t), length-append blanks (drop used t), length-drop used t) in
      record {
        listed = take_at xs (blanks ++ drop used t) (length xs) (omega arith);
        blank = λ b.
            let n : used - length xs + (length t - used) ≡ length (xs ++ (blanks ++ drop used t)) - length xs = omega arith in
            drop_at xs (blanks ++ drop used t) (length xs) (omega arith) ∙ ap₂ (λ u v. u ++ v) e b
            ∙ replicate-append-replicate (used - length xs) (length t - used) K.blank ∙ ap (λ (m : ℕ). replicate m K.blank) n;
        long = long;
      }

  pub replaced_shorter : (xs blanks t : List R) (used : ℕ) → length xs ≤ used → used ≤ length t
      → blanks ≡ replicate (length (mid_of (length xs) (used - length xs) (xs ++ drop (length xs) t))) K.blank
      → Replaced K xs used t (put_mid (length xs) (used - length xs) (xs ++ drop (length xs) t) blanks)
  replaced_shorter xs blanks t used le fits e =
      let m = long_mid (length xs) (used - length xs) (xs ++ drop (length xs) t) (omega (arith, length-append xs (drop (length xs) t), length-drop (length xs) t)) in
      let behind : drop (used - length xs) (drop (length xs) (xs ++ drop (length xs) t)) ≡ drop used t =
      ap (drop (used - length xs)) (drop_at xs (drop (length xs) t) (length xs) (omega arith)) ∙ drop_further (length xs) used t le in
      let front : take (length xs) (xs ++ drop (length xs) t) ≡ xs = take_at xs (drop (length xs) t) (length xs) (omega arith) in
      subst (λ ys. Replaced K xs used t ys) (sym (ap₂ (λ u v. u ++ (blanks ++ v)) front behind))
      (replaced_by xs blanks t used le fits (e ∙ ap (λ (n : ℕ). replicate n K.blank) m))

  -- the used places blanked, and all behind them blank before
  cleared : (blanks : List R) (c : Content R) → Sound K c → blanks ≡ replicate (length (take c.used c.places)) K.blank → blanks ++ drop c.used c.places ≡ replicate (length c.places) K.blank
  cleared blanks c s e =
      let le : c.used ≤ length c.places = let f = s.fits in let r = s.roomy in omega arith in
      let l : length (take c.used c.places) ≡ c.used = length-take-le c.used c.places le in
      let n : length (take c.used c.places) + (length c.places - c.used) ≡ length c.places = omega arith in
      ap₂ (λ u v. u ++ v) e s.blank ∙ replicate-append-replicate (length (take c.used c.places)) (length c.places - c.used) K.blank ∙ ap (λ (m : ℕ). replicate m K.blank) n

  pub sound_cleared : (blanks : List R) (c : Content R) → Sound K c → blanks ≡ replicate (length (take c.used c.places)) K.blank → Sound K (content (blanks ++ drop c.used c.places) 0 c.room)
  sound_cleared blanks c s e = sound_is_unused K _ (length c.places) c.room s.roomy (emptied blanks c s e)
    where
      emptied : (blanks : List R) (c : Content R) → Sound K c → blanks ≡ replicate (length (take c.used c.places)) K.blank → content (blanks ++ drop c.used c.places) 0 c.room ≡ unused K (length c.places) c.room
      emptied blanks c s e = ap (λ (t : List R). content t 0 c.room) (cleared blanks c s e)
