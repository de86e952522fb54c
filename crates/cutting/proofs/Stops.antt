-- The pieces of an edge, joined from stop to stop.
use Rattle.std.proofs.Common.{◌≡◌, ℕ, ◌+◌, ◌<◌, ◌≤◌, List, [], ◌∷◌, ◌++◌, map, length, get_or, take, Result, sym, refl, ap, ◌∙◌, arith}
use Rattle.std.proofs.lemmas.List.{length_push, length-map, length-take-le, map_more, take_all}
use Rattle.table.specs.Contents.{Content}
use Rattle.plane.specs.declared.fault.Fault.{Fault}
use Rattle.plane.specs.declared.int_point.IntPoint.{IntPoint}
use Rattle.segm.specs.Counts.{CountKind}
use Rattle.segm.specs.Segments.{directed}
use Rattle.segm.specs.declared.line_mark.LineMark.{LineMark}
use Rattle.segm.specs.declared.segment.Segment.{Segment}
use Rattle.rounds.specs.Pieces.{pieces}
use Rattle.rounds.proofs.Numbers.{pieces_length}
use Rattle.cutting.specs.Cutting.{point_at, Joined, Crowded, Joins}
use Rattle.cutting.proofs.Joining.{joined_none, joined_then, crowded_then, joins_then}

-- the last point, or p where there is none
abbrev pub last_point : IntPoint → List IntPoint → IntPoint
last_point p [] = p
last_point p (q ∷ l) = last_point q l

last_push : (p : IntPoint) (l : List IntPoint) (q : IntPoint) → last_point p (l ++ (q ∷ [])) ≡ q
last_push p [] q = refl
last_push p (r ∷ l) q = last_push r l q

module _ {C : Type 0} (K : CountKind C) (count : C) where
  pieces_push : (p : IntPoint) (l : List IntPoint) (q : IntPoint)
      → pieces K count p (l ++ (q ∷ [])) ≡ pieces K count p l ++ (directed K (record { a = last_point p l; b = q; count = count }) ∷ [])
  pieces_push p [] q = refl
  pieces_push p (r ∷ l) q = ap (λ u. directed K (record { a = p; b = r; count = count }) ∷ u) (pieces_push r l q)

  module _ (p : IntPoint) (stops : List LineMark) where
    abbrev passed : ℕ → List IntPoint
    passed k = map point_at (take k stops)

    -- the pieces up to the first k stops are joined, and the next piece begins at `from`
    pub record Passed (k : ℕ) (from : IntPoint) (before after : Content (Segment C)) : Type 0 where
      pub at : from ≡ last_point p (passed k)
      pub joined : Joined K (pieces K count p (passed k)) before after

    pub passed_none : {t : Content (Segment C)} → Passed 0 p t t
    passed_none = record { at = refl; joined = joined_none }

    module _ (k : ℕ) (from : IntPoint) {a b : Content (Segment C)} (h : Passed k from a b) (piece : Segment C) where
      next : (q : IntPoint) → piece ≡ directed K (record { a = from; b = q; count = count }) → pieces K count p (passed k) ++ (piece ∷ []) ≡ pieces K count p (passed k ++ (q ∷ []))
      next q is =
          ap (λ s. pieces K count p (passed k) ++ (s ∷ [])) (is ∙ ap (λ (u : IntPoint). directed K (record { a = u; b = q; count = count })) h.at)
          ∙ sym (pieces_push p (passed k) q)

      pub passed_more : {c : Content (Segment C)} (s : LineMark) → k < length stops → s ≡ get_or stops k s → piece ≡ directed K (record { a = from; b = s.point; count = count })
          → Joined K (piece ∷ []) b c → Passed (k + 1) s.point a c
      passed_more s lt is made j =
          let more : passed k ++ (s.point ∷ []) ≡ passed (k + 1) = ap (λ (m : LineMark). passed k ++ (m.point ∷ [])) is ∙ sym (map_more point_at stops k s lt) in
          record {
            at = sym (last_push p (passed k) s.point) ∙ ap (last_point p) more;
            joined = joined_then h.joined j (next s.point made ∙ ap (pieces K count p) more);
          }

      pub passed_crowded : {c : Content (Segment C)} {f : Fault} (q : IntPoint) → k < length stops → Crowded K (piece ∷ []) b c f → Crowded K (pieces K count p (map point_at stops ++ (q ∷ []))) a c f
      passed_crowded q lt j =
          crowded_then h.joined j (omega (
            arith,
            pieces_length K count p (passed k),
            pieces_length K count p (map point_at stops ++ (q ∷ [])),
            length-map (take k stops) point_at,
            length-take-le k stops (omega arith),
            length_push (map point_at stops) q,
            length-map stops point_at,
          ))

      pub passed_joins : {T : Type 0} (c : Content (Segment C)) (r : Result T Fault) (q : IntPoint) → length stops ≤ k → piece ≡ directed K (record { a = from; b = q; count = count })
          → Joins K (piece ∷ []) b c r → Joins K (pieces K count p (map point_at stops ++ (q ∷ []))) a c r
      passed_joins c r q le made j = joins_then (piece ∷ []) c r h.joined j (next q made ∙ ap (λ l. pieces K count p (map point_at l ++ (q ∷ []))) (take_all k stops le))
