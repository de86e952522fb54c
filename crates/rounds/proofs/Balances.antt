-- Cutting edges at points, whichever these are and in whatever order, keeps the balance of every point.
use Rattle.std.proofs.Common.{◌≡◌, ℕ, suc, Bool, true, false, List, [], ◌∷◌, ◌++◌, sym, refl, ap, ◌∙◌}
use Rattle.std.specs.Ordering.{is_eq}
use Rattle.plane.specs.Points.{Point}
use Rattle.plane.specs.PointOf.{point_of}
use Rattle.plane.specs.declared.int_point.IntPoint.{IntPoint}
use Rattle.segm.specs.Counts.{CountKind}
use Rattle.segm.specs.Orders.{point_order}
use Rattle.segm.specs.Segments.{directed}
use Rattle.segm.specs.Balance.{when, brings, balance}
use Rattle.segm.specs.declared.line_mark.LineMark.{LineMark}
use Rattle.segm.specs.declared.segment.Segment.{Segment}
use Rattle.segm.proofs.Groups.{identity_left}
use Rattle.segm.proofs.Brings.{brings_directed}
use Rattle.segm.proofs.Totals.{total_append}
use Rattle.rounds.specs.Placing.{placed}
use Rattle.rounds.specs.Pieces.{points_on, pieces, cut, cut_from}

module _ {C : Type 0} (K : CountKind C) where
  -- what ends and begins at one place cancels out
  when_cancels : (b : Bool) (c : C) → K.sum (when K b (K.inverse c)) (when K b c) ≡ K.neutral
  when_cancels true c = K.comm (K.inverse c) c ∙ K.cancels c
  when_cancels false c = K.identity K.neutral

  -- (m - f) + (l - m) is l - f
  across : (f m l n : C) → K.sum n m ≡ K.neutral → K.sum (K.sum m f) (K.sum l n) ≡ K.sum l f
  across f m l n e =
      K.comm (K.sum m f) (K.sum l n) ∙ K.assoc l n (K.sum m f)
      ∙ ap (K.sum l) (sym (K.assoc n m f) ∙ ap (λ c. K.sum c f) e ∙ identity_left K f)

  module _ (z : Point) (c : C) where
    abbrev way : IntPoint → IntPoint → Segment C
    way p q = record { a = p; b = q; count = c }

    -- two ways in a row bring what the one way brings
    ways_bring : (p q r : IntPoint) → K.sum (brings K z (way p q)) (brings K z (way q r)) ≡ brings K z (way p r)
    ways_bring p q r =
        across _ (when K (is_eq (point_order z (point_of q))) c) _ (when K (is_eq (point_order z (point_of q))) (K.inverse c))
        (when_cancels (is_eq (point_order z (point_of q))) c)

    pub path_balance : (p : IntPoint) (l : List IntPoint) (q : IntPoint) → balance K z (pieces K c p (l ++ (q ∷ []))) ≡ brings K z (way p q)
    path_balance p [] q = K.identity (brings K z (directed K (way p q))) ∙ brings_directed K z (way p q)
    path_balance p (r ∷ l) q =
        ap (K.sum (brings K z (directed K (way p r)))) (path_balance r l q)
        ∙ ap (λ d. K.sum d (brings K z (way r q))) (brings_directed K z (way p r))
        ∙ ways_bring p r q

  pub cut_balance : (z : Point) (i : ℕ) (ms : List LineMark) (l : List (Segment C)) → balance K z (cut_from K i ms l) ≡ balance K z l
  cut_balance z i ms [] = refl
  cut_balance z i ms (s ∷ l) =
      total_append K (brings K z) (cut K s (points_on i ms)) (cut_from K (suc i) ms l)
      ∙ ap (λ d. K.sum d (balance K z (cut_from K (suc i) ms l))) (path_balance z s.count s.a (placed s.a s.b (points_on i ms)) s.b)
      ∙ ap (K.sum (brings K z s)) (cut_balance z (suc i) ms l)
