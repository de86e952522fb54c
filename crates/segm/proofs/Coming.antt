-- Marks that come to a table: they are told with those before, or there are more than it has room for.
use Rattle.std.proofs.Common.{◌≡◌, ℕ, Bool, true, false, cond, ◌||◌, List, [], ◌∷◌, ◌++◌, OnErr, Some, None, Ok, Err, Result, sym, refl, ap, ◌∙◌, subst, arith}
use mathlib.Core.Bool.{or-false, or_assoc, or_comm}
use Rattle.std.specs.Ordering.{is_eq}
use Rattle.std.proofs.lemmas.List.{length-take-le}
use Rattle.std.proofs.lemmas.Bool.{or_left, or_right}
use Rattle.table.specs.Contents.{Content, Refused, Sound, records}
use Rattle.table.specs.Listings.{record_at}
use Rattle.plane.specs.PointOf.{point_of}
use Rattle.segm.specs.MarkKind.{mark_kind, mark_itself}
use Rattle.segm.specs.Marked.{Marked, holds?, same_mark?, with_mark}
use Rattle.segm.specs.Spots.{Spot, spots, at?, at_one?, Come, Crowded, Overflow}
use Rattle.segm.specs.declared.line_mark.LineMark.{LineMark}

-- ---- another test
pub marked_as : (P Q : LineMark → Bool) (l : List LineMark) → ((m : LineMark) → P m ≡ Q m) → Marked P l → Marked Q l
marked_as P Q l same h = record { ordered = h.ordered; each = λ m. h.each m ∙ same m }

pub overflow_more : (P Q : LineMark → Bool) (n : ℕ) → ((m : LineMark) → P m ≡ true → Q m ≡ true) → Overflow P n → Overflow Q n
overflow_more P Q n more h = record {
  held = h.held;
  ordered = h.ordered;
  many = h.many;
  each = λ m e. more m (h.each m e);
  another = h.another;
  new = h.new;
  told = more h.another h.told;
}

-- ---- one mark
none_held : (l : List LineMark) (m : LineMark) → record_at mark_kind l m ≡ None → holds? l m ≡ false
none_held [] m e = refl
none_held (n ∷ l) m e = go (same_mark? m n) e (none_held l m)
  where
    go : (b : Bool) → cond b (Some n) (record_at mark_kind l m) ≡ None → (record_at mark_kind l m ≡ None → holds? l m ≡ false) → (b || holds? l m) ≡ false
    go true e rest = cc
    go false e rest = rest e

module _ (m : LineMark) where
  abbrev pub at_mark : List Spot
  at_mark = spots m.index (point_of m.point ∷ [])

  pub come_one : (k l : List LineMark) → ((P : LineMark → Bool) → Marked P k → Marked (with_mark m P) l) → Come at_mark k l
  come_one k l joined P h =
      marked_as (with_mark m P) (λ x. P x || at_one? at_mark x) l
      (λ x. or_comm (same_mark? x m) (P x) ∙ ap (λ b. P x || b) (sym (or-false (same_mark? x m)))) (joined P h)

  pub crowded_one : (before after : Content LineMark) → Sound mark_kind before → Refused mark_kind m before after → Crowded at_mark (records before) before.room
  crowded_one before after sound refused P h =
      let no = refused.reason sound in
      record {
        held = records before;
        ordered = h.ordered;
        many = length-take-le before.used before.places (omega (arith, sound.fits, sound.roomy)) ∙ no.full;
        each = λ x e. or_left (P x) (at_one? at_mark x) (sym (h.each x) ∙ e);
        another = m;
        new = none_held (records before) m no.new;
        told = or_right (P m) (at_one? at_mark m) (or_left (same_mark? m m) false (ap is_eq (mark_itself m)));
      }

-- ---- some spots after others
pub at_one_append : (ts us : List Spot) (m : LineMark) → at_one? (ts ++ us) m ≡ (at_one? ts m || at_one? us m)
at_one_append [] us m = refl
at_one_append (t ∷ ts) us m = ap (λ b. at? t m || b) (at_one_append ts us m) ∙ sym (or_assoc (at? t m) (at_one? ts m) (at_one? us m))

pub come_none : (l : List LineMark) → Come [] l l
come_none l P h = marked_as P _ l (λ m. sym (or-false (P m))) h

module _ (ts us : List Spot) where
  -- what tells of some spots and of others tells of all
  told_append : (P : LineMark → Bool) (m : LineMark) → ((P m || at_one? ts m) || at_one? us m) ≡ (P m || at_one? (ts ++ us) m)
  told_append P m = or_assoc (P m) (at_one? ts m) (at_one? us m) ∙ ap (λ b. P m || b) (sym (at_one_append ts us m))

  pub come_then : (k l m : List LineMark) → Come ts k l → Come us l m → Come (ts ++ us) k m
  come_then k l m first second P h =
      marked_as (λ n. (P n || at_one? ts n) || at_one? us n) (λ n. P n || at_one? (ts ++ us) n) m (told_append P)
      (second (λ n. P n || at_one? ts n) (first P h))

  pub crowded_then : (k l : List LineMark) (room left : ℕ) → left ≡ room → Come ts k l → Crowded us l left → Crowded (ts ++ us) k room
  crowded_then k l room left same first second P h =
      subst (Overflow (λ n. P n || at_one? (ts ++ us) n)) same
      (overflow_more (λ n. (P n || at_one? ts n) || at_one? us n) (λ n. P n || at_one? (ts ++ us) n) left (λ n e. sym (told_append P n) ∙ e)
      (second (λ n. P n || at_one? ts n) (first P h)))

  -- already the first were too many
  pub crowded_more : (k : List LineMark) (room : ℕ) → Crowded ts k room → Crowded (ts ++ us) k room
  crowded_more k room first P h =
      overflow_more (λ n. P n || at_one? ts n) (λ n. P n || at_one? (ts ++ us) n) room
      (λ n e. sym (told_append P n) ∙ or_left (P n || at_one? ts n) (at_one? us n) e) (first P h)

-- ---- what holds without regard to the variant
pub on_any_err : {T E C : Type 0} (r : Result T E) → C → OnErr r C
on_any_err (Ok x) h = tt
on_any_err (Err e) h = h
