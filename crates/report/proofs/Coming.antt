-- Marks that come to a table, one after another.
use Rattle.std.proofs.Common.{◌≡◌, ℕ, suc, ◌+◌, ◌<◌, ◌≤◌, Bool, false, ◌||◌, List, [], ◌∷◌, ◌++◌, map, length, get_or, take, sym, refl, ap, ◌∙◌, subst, append_assoc, append-nil, zero-add, arith}
use Rattle.std.proofs.Math.Bool.{or_assoc, or-false}
use lib.ListN.{length-map}
use Rattle.std.proofs.lemmas.List.{take_all, map_more, length-take-le}
use Rattle.plane.specs.Points.{Point}
use Rattle.plane.specs.Edges.{Edge}
use Rattle.plane.specs.Models.{edge_of}
use Rattle.plane.specs.Rules.{marked_on, rounded?}
use Rattle.plane.specs.declared.x_segment.XSegment.{XSegment}
use Rattle.drawing.specs.declared.drawn_edge.DrawnEdge.{DrawnEdge}
use Rattle.segm.specs.Marked as listing
use Rattle.segm.specs.Spots.{spots, at_one?, Come}
use Rattle.segm.specs.declared.line_mark.LineMark.{LineMark}
use Rattle.segm.proofs.Coming.{come_none, come_then}
use Rattle.table.specs.Contents.{Content, records, Sound, unused}
use Rattle.segm.specs.MarkKind.{mark_kind}
use Rattle.report.specs.Marks.{edge_in, edges_of, marks_on, rounded_on?, all_marks, any_rounded?, Marked}

module _ (s i : ℕ) (e : Edge) where
  marks_push : (gs : List Edge) (g : Edge) → marks_on s i e (gs ++ g ∷ []) ≡ marks_on s i e gs ++ spots i (marked_on e g s)
  marks_push [] g = append-nil (spots i (marked_on e g s))
  marks_push (h ∷ gs) g = ap (λ l. spots i (marked_on e h s) ++ l) (marks_push gs g) ∙ sym (append_assoc (spots i (marked_on e h s)) (marks_on s i e gs) (spots i (marked_on e g s)))

  rounded_push : (gs : List Edge) (g : Edge) → rounded_on? s e (gs ++ g ∷ []) ≡ (rounded_on? s e gs || rounded? e g s)
  rounded_push [] g = or-false (rounded? e g s)
  rounded_push (h ∷ gs) g = ap (λ b. rounded? e h s || b) (rounded_push gs g) ∙ sym (or_assoc (rounded? e h s) (rounded_on? s e gs) (rounded? e g s))

  -- marks and flag after the crossings with the first j edges
  pub record Crossed (xs : List DrawnEdge) (j : ℕ) (before after : List LineMark) (rounded : Bool) : Type 0 where
    pub marks : Come (marks_on s i e (edges_of (take j xs))) before after
    pub flag : rounded ≡ rounded_on? s e (edges_of (take j xs))

  pub crossed_none : (xs : List DrawnEdge) (l : List LineMark) → Crossed xs 0 l l false
  crossed_none xs l = record { marks = come_none l; flag = refl }

  -- y is edge j, and ps the points that its crossing marks on e
  pub crossed_more : (xs : List DrawnEdge) (j : ℕ) (y : DrawnEdge) (ps : List Point) (k l m : List LineMark) (rounded round : Bool)
      → j < length xs → y ≡ get_or xs j y → ps ≡ marked_on e (edge_in y) s → round ≡ rounded? e (edge_in y) s
      → Come (spots i ps) l m → Crossed xs j k l rounded → Crossed xs (j + 1) k m (rounded || round)
  crossed_more xs j y ps k l m rounded round low is on told added h =
      let gs = edges_of (take j xs) in
      let next : edges_of (take (j + 1) xs) ≡ gs ++ edge_in y ∷ [] = map_more edge_in xs j y low ∙ ap (λ x. gs ++ edge_in x ∷ []) (sym is) in
      let all : marks_on s i e gs ++ spots i ps ≡ marks_on s i e (edges_of (take (j + 1) xs)) =
      ap (λ l. marks_on s i e gs ++ spots i l) on ∙ sym (marks_push gs (edge_in y)) ∙ ap (marks_on s i e) (sym next) in
      record {
        marks = subst (λ ts. Come ts k m) all (come_then (marks_on s i e gs) (spots i ps) k l m h.marks added);
        flag = (λ t. h.flag t || told t) ∙ sym (rounded_push gs (edge_in y)) ∙ ap (rounded_on? s e) (sym next);
      }

  pub crossed_all : (xs : List DrawnEdge) (j : ℕ) (k l : List LineMark) (rounded : Bool) → length xs ≤ j → Crossed xs j k l rounded
      → Come (marks_on s i e (edges_of xs)) k l × (rounded ≡ rounded_on? s e (edges_of xs))
  crossed_all xs j k l rounded past h =
      let whole : edges_of (take j xs) ≡ edges_of xs = ap edges_of (take_all j xs past) in
      (subst (λ gs. Come (marks_on s i e gs) k l) whole h.marks, h.flag ∙ ap (rounded_on? s e) whole)

module _ (s : ℕ) (gs : List Edge) where
  all_push : (i : ℕ) (es : List Edge) (e : Edge) → all_marks s gs i (es ++ e ∷ []) ≡ all_marks s gs i es ++ marks_on s (i + length es) e gs
  all_push i [] e = append-nil (marks_on s i e gs) ∙ ap (λ (n : ℕ). marks_on s n e gs) (omega arith)
  all_push i (h ∷ es) e =
      let same : suc i + length es ≡ i + suc (length es) = omega arith in
      ap (λ l. marks_on s i h gs ++ l) (all_push (suc i) es e ∙ ap (λ (n : ℕ). all_marks s gs (suc i) es ++ marks_on s n e gs) same)
      ∙ sym (append_assoc (marks_on s i h gs) (all_marks s gs (suc i) es) (marks_on s (i + suc (length es)) e gs))

  any_push : (es : List Edge) (e : Edge) → any_rounded? s gs (es ++ e ∷ []) ≡ (any_rounded? s gs es || rounded_on? s e gs)
  any_push [] e = or-false (rounded_on? s e gs)
  any_push (h ∷ es) e = ap (λ b. rounded_on? s h gs || b) (any_push es e) ∙ sym (or_assoc (rounded_on? s h gs) (any_rounded? s gs es) (rounded_on? s e gs))

  -- marks and flag after the crossings of the first i edges
  pub record Kept (xs : List DrawnEdge) (i : ℕ) (before after : List LineMark) (rounded : Bool) : Type 0 where
    pub marks : Come (all_marks s gs 0 (edges_of (take i xs))) before after
    pub flag : rounded ≡ any_rounded? s gs (edges_of (take i xs))

  pub kept_none : (xs : List DrawnEdge) (l : List LineMark) → Kept xs 0 l l false
  kept_none xs l = record { marks = come_none l; flag = refl }

  -- x is edge i
  pub kept_more : (xs : List DrawnEdge) (i : ℕ) (x : DrawnEdge) (k l m : List LineMark) (rounded round : Bool)
      → i < length xs → x ≡ get_or xs i x → Come (marks_on s i (edge_in x) gs) l m → round ≡ rounded_on? s (edge_in x) gs
      → Kept xs i k l rounded → Kept xs (i + 1) k m (rounded || round)
  kept_more xs i x k l m rounded round low is come told h =
      let es = edges_of (take i xs) in
      let next : edges_of (take (i + 1) xs) ≡ es ++ edge_in x ∷ [] = map_more edge_in xs i x low ∙ ap (λ y. es ++ edge_in y ∷ []) (sym is) in
      let number : 0 + length es ≡ i = zero-add (length es) ∙ length-map (take i xs) edge_in ∙ length-take-le i xs (omega arith) in
      let all : all_marks s gs 0 es ++ marks_on s i (edge_in x) gs ≡ all_marks s gs 0 (edges_of (take (i + 1) xs)) =
      ap (λ (n : ℕ). all_marks s gs 0 es ++ marks_on s n (edge_in x) gs) (sym number) ∙ sym (all_push 0 es (edge_in x)) ∙ ap (all_marks s gs 0) (sym next) in
      record {
        marks = subst (λ ts. Come ts k m) all (come_then (all_marks s gs 0 es) (marks_on s i (edge_in x) gs) k l m h.marks come);
        flag = (λ t. h.flag t || told t) ∙ sym (any_push es (edge_in x)) ∙ ap (any_rounded? s gs) (sym next);
      }

  pub kept_all : (xs : List DrawnEdge) (i : ℕ) (k l : List LineMark) (rounded : Bool) → length xs ≤ i → Kept xs i k l rounded
      → Come (all_marks s gs 0 (edges_of xs)) k l × (rounded ≡ any_rounded? s gs (edges_of xs))
  kept_all xs i k l rounded past h =
      let whole : edges_of (take i xs) ≡ edges_of xs = ap edges_of (take_all i xs past) in
      (subst (λ es. Come (all_marks s gs 0 es) k l) whole h.marks, h.flag ∙ ap (any_rounded? s gs) whole)

-- marks that come to an empty table are just those that it then lists
pub marked_all : (s : ℕ) (es : List Edge) (t : Content LineMark) (n room : ℕ) (l ms : List LineMark) (rounded : Bool) → t ≡ unused mark_kind n room → Sound mark_kind t
    → Come (all_marks s es 0 es) (records t) l → rounded ≡ any_rounded? s es es → ms ≡ l → Marked s es ms rounded
marked_all s es t n room l ms rounded is sound come told copied =
    let none : listing.Marked (λ m. false) (records t) = record { ordered = sound.ordered; each = λ m. ap (λ (c : Content LineMark). listing.holds? (records c) m) is } in
    record { marks = subst (listing.Marked (at_one? (all_marks s es 0 es))) (sym copied) (come (λ m. false) none); flag = told }

pub marked_as : (s t : ℕ) (xs ys : List XSegment) (ms : List LineMark) (rounded : Bool) → s ≡ t → xs ≡ ys → Marked s (map edge_of xs) ms rounded → Marked t (map edge_of ys) ms rounded
marked_as s t xs ys ms rounded same also h = subst (λ (p : ℕ × List XSegment). Marked p.0 (map edge_of p.1) ms rounded) (λ k. (same k, also k)) h
