-- A slice that pieces are joined into by a table over it.
use Rattle.std.proofs.Common.{◌≡◌, ℕ, ◌+◌, ◌<◌, List, ◌++◌, length, Result, Ok, Err, IsErrAnd, MatchResult, min, sym, ap, ◌∙◌, subst, arith}
use Rattle.std.proofs.lemmas.List.{length-take-le}
use Rattle.table.specs.Contents.{Content, records, unused, Sound}
use Rattle.plane.specs.declared.fault.Fault.{Fault}
use Rattle.plane.specs.declared.fault.Fault.TheVariants.{PiecesFull}
use Rattle.segm.specs.Counts.{CountKind}
use Rattle.segm.specs.SegmentKind.{segment_kind}
use Rattle.segm.specs.Balance.{count_at, Counting}
use Rattle.segm.specs.declared.segment.Segment.{Segment}
use Rattle.cutting.specs.Cutting.{Pieced, PiecedIn, Brings}

module _ {C : Type 0} (K : CountKind C) (more ps : List (Segment C)) (room : ℕ) (before : List (Segment C)) (p : PiecedIn K ps room before 0)
    (opened t : Content (Segment C)) (is : opened ≡ unused (segment_kind K) (length before) (min room (length before))) where
  opened_room : opened.room ≡ room
  opened_room = let r = ap (λ (c : Content (Segment C)). c.room) is in let fits = p.roomy in omega arith

  opened_pieced : Pieced K ps opened
  opened_pieced = record { counting = subst (λ (c : Content (Segment C)). Counting K (λ e. count_at K e ps) (records c)) (sym is) p.counting }

  -- taken: what the table holds, the slice holds
  pub slice_pieced : {T : Type 0} (x : T) (after : List (Segment C)) (n : ℕ) → Brings K more opened t (Ok x) → Sound (segment_kind K) t → after ≡ t.places → n ≡ length (records t)
      → PiecedIn K (ps ++ more) room after n
  slice_pieced x after n brings sound same many =
      let b = brings ps opened_pieced in
      let f = sound.fits in let r = sound.roomy in
      let w = opened_room in let v = b.1 in
      let l : length (records t) ≡ t.used = length-take-le t.used t.places (omega arith) in
      let e : n ≡ t.used = many ∙ l in
      subst (λ (xs : List (Segment C)). PiecedIn K (ps ++ more) room xs n) (sym same)
      (subst (λ (m : ℕ). PiecedIn K (ps ++ more) room t.places m) (sym e)
      (record { counting = b.0.counting; fits = omega arith; roomy = omega arith; blank = sound.blank }))

  -- refused: there are more pieces than room
  pub slice_refused : (T : Type 0) (f : Fault) (r : Result ℕ Fault) (P : ℕ → Type 0) → Brings {C = C} K {T = T} more opened t (Err f) → IsErrAnd r (λ g. g ≡ f)
      → MatchResult r P (λ g. (g ≡ PiecesFull) × (room < length ps + length more))
  slice_refused T f (Ok n) P brings told = absurd told
  slice_refused T f (Err g) P brings told = let b = brings ps opened_pieced in let w = opened_room in (told ∙ b.0, omega (arith, b.1))
