-- Pieces joined into a table one after another.
use Rattle.std.proofs.Common.{◌≡◌, ◌+◌, ◌<◌, ◌≤◌, List, [], ◌∷◌, ◌++◌, length, IsErrAnd, Ok, Err, Result, MatchResult, sym, refl, ap, ◌∙◌, subst, arith}
use Rattle.std.proofs.lemmas.List.{append-nil, append_assoc, length-append, length-take-le}
use Rattle.table.specs.Contents.{Content, records, Sound, Came, Refused, Answers}
use Rattle.plane.specs.Edges.{Edge}
use Rattle.plane.specs.declared.fault.Fault.{Fault}
use Rattle.plane.specs.declared.fault.Fault.TheVariants.{PiecesFull}
use Rattle.segm.specs.Counts.{CountKind}
use Rattle.segm.specs.SegmentKind.{segment_kind}
use Rattle.segm.specs.Balance.{counts, count_at}
use Rattle.segm.specs.declared.segment.Segment.{Segment}
use Rattle.segm.proofs.Totals.{total_append}
use Rattle.segm.proofs.Adding.{came_adds}
use Rattle.rounds.proofs.Lists.{list_few}
use Rattle.cutting.specs.Cutting.{Keeps, Pieced, Brings, Joined, Crowded, Joins}

pub keeps_none : {R : Type 0} {a : Content R} → Keeps a a
keeps_none = record { room = refl; long = refl }

pub keeps_then : {R : Type 0} {a b c : Content R} → Keeps a b → Keeps b c → Keeps a c
keeps_then h j = record { room = j.room ∙ h.room; long = j.long ∙ h.long }

module _ {C : Type 0} (K : CountKind C) where
  count_push : (e : Edge) (ps : List (Segment C)) (s : Segment C) → K.sum (count_at K e ps) (counts K e s) ≡ count_at K e (ps ++ (s ∷ []))
  count_push e ps s = ap (K.sum (count_at K e ps)) (sym (K.identity (counts K e s))) ∙ sym (total_append K (counts K e) ps (s ∷ []))

  -- ---- one piece
  module _ (s : Segment C) (before after : Content (Segment C)) where
    came_joined : Came (segment_kind K) s before after → Joined K (s ∷ []) before after
    came_joined h = record { pieced = pieced; kept = record { room = h.room; long = h.long } }
      where
        pieced : (ps : List (Segment C)) → Pieced K ps before → Pieced K (ps ++ (s ∷ [])) after
        pieced ps p =
            let t = (came_adds K s before after p.counting.ordered h).still_counting (λ e. count_at K e ps) p.counting in
            record { counting = record { ordered = t.ordered; each = λ e. t.each e ∙ count_push e ps s } }

    refused_crowded : (f : Fault) → f ≡ PiecesFull → Sound (segment_kind K) before → Refused (segment_kind K) s before after → Crowded K (s ∷ []) before after f
    refused_crowded f told sound h = record { told = told; many = many; kept = subst (Keeps before) (sym h.same) keeps_none }
      where
        many : (ps : List (Segment C)) → Pieced K ps before → before.room < length ps + 1
        many ps p =
            let full = (h.reason sound).full in
            let long : length (records before) ≡ before.used = length-take-le before.used before.places (omega (arith, sound.fits, sound.roomy)) in
            omega (arith, list_few K ps (records before) p.counting)

    -- the table's answer, with its refusal told as a fault
    pub piece_joins : {T E : Type 0} (a : Result T E) (r : Result T Fault) (Told : E → Fault → Type 0) → Sound (segment_kind K) before → Answers (segment_kind K) s before after a
        → MatchResult a (λ x. r ≡ Ok x) (λ e. IsErrAnd r (Told e)) → ((e : E) (f : Fault) → Told e f → f ≡ PiecesFull) → Joins K (s ∷ []) before after r
    piece_joins (Ok x) (Ok y) Told sound h told full = came_joined h
    piece_joins (Ok x) (Err f) Told sound h told full = cc
    piece_joins (Err e) (Ok y) Told sound h told full = absurd told
    piece_joins (Err e) (Err f) Told sound h told full = refused_crowded f (full e f told) sound h

-- ---- one step after another
module _ {C : Type 0} {K : CountKind C} where
  pub joined_none : {t : Content (Segment C)} → Joined K [] t t
  joined_none {t} = record { pieced = λ ps p. subst (λ l. Pieced K l t) (sym (append-nil ps)) p; kept = keeps_none }

  module _ {xs ys whole : List (Segment C)} {a b c : Content (Segment C)} where
    pub joined_then : Joined K xs a b → Joined K ys b c → xs ++ ys ≡ whole → Joined K whole a c
    joined_then h j e = record {
      pieced = λ ps p. subst (λ l. Pieced K l c) (append_assoc ps xs ys ∙ ap (λ l. ps ++ l) e) (j.pieced (ps ++ xs) (h.pieced ps p));
      kept = keeps_then h.kept j.kept;
    }

    pub crowded_then : {f : Fault} → Joined K xs a b → Crowded K ys b c f → length xs + length ys ≤ length whole → Crowded K whole a c f
    crowded_then {f} h j le = record {
      told = j.told;
      many = λ ps p. omega (arith, le, h.kept.room, j.many (ps ++ xs) (h.pieced ps p), length-append ps xs);
      kept = keeps_then h.kept j.kept;
    }

  pub joins_then : {T : Type 0} {xs whole : List (Segment C)} {a b : Content (Segment C)} (ys : List (Segment C)) (c : Content (Segment C)) (r : Result T Fault) → Joined K xs a b → Joins K ys b c r → xs ++ ys ≡ whole → Joins K whole a c r
  joins_then ys c (Ok x) h j e = joined_then h j e
  joins_then {T} {xs} {whole} ys c (Err f) h j e = let long : length whole ≡ length xs + length ys = ap length (sym e) ∙ length-append xs ys in crowded_then h j (omega arith)

  pub joins_failed : {T : Type 0} {f : Fault} {more : List (Segment C)} {a c : Content (Segment C)} (r : Result T Fault) → Crowded K more a c f → IsErrAnd r (λ g. g ≡ f) → Joins K more a c r
  joins_failed {T} {f} {more} {a} {c} (Ok x) h told = absurd told
  joins_failed {T} {f} {more} {a} {c} (Err g) h told = subst (Crowded K more a c) (sym told) h

  pub brings_joins : {T : Type 0} (more : List (Segment C)) (a c : Content (Segment C)) (r : Result T Fault) → Joins K more a c r → Brings K more a c r
  brings_joins more a c (Ok x) h ps p = (h.pieced ps p, h.kept.room, h.kept.long)
  brings_joins more a c (Err f) h ps p = (h.told, h.many ps p)
