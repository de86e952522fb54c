-- Reading the lines of edges, one after another.
use Rattle.std.proofs.Common.{◌≡◌, ℕ, suc, ◌+◌, ◌<◌, ◌≤◌, List, [], ◌∷◌, ◌++◌, length, Ok, Err, Result, sym, refl, ap, ◌∙◌, append_assoc, arith}
use Rattle.std.proofs.lemmas.List.{length_push, map_push}
use Rattle.std.proofs.lemmas.Bool.{cond-true, cond-false, le-leb, lt-leb}
use Rattle.drawing.specs.declared.drawn_edge.DrawnEdge.{DrawnEdge}
use Rattle.drawing.specs.declared.reason.Reason.{Reason}
use Rattle.drawing.specs.declared.reason.Reason.TheVariants.{TooManyEdges}
use Rattle.drawing.specs.Lines.{edge_line, head_line, Drawn, drawn_as}
use Rattle.drawing.specs.Drawings.{lines, Bad, before, edge_then, edges_from, with_edges, drawing_from, drawn}
use Rattle.drawing.proofs.Fields.{fields_some}

-- what line n says, before what the lines after it say
pub edges_next : (n : ℕ) (line after : List ℕ) → edges_from n (line ∷ lines after) ≡ edge_then n (edge_line line) (edges_from (suc n) (lines after))
edges_next n line after =
    let some = fields_some 10 after in
    ap (λ l. edges_from n (line ∷ l)) some.2 ∙ ap (λ l. edge_then n (edge_line line) (edges_from (suc n) l)) (sym some.2)

-- edges before others
abbrev grown : List Drawn → Result (List Drawn) Bad → Result (List Drawn) Bad
grown es (Ok fs) = Ok (es ++ fs)
grown es (Err f) = Err f

grown_more : (es : List Drawn) (e : Drawn) (said : Result (List Drawn) Bad) → grown es (before e said) ≡ grown (es ++ e ∷ []) said
grown_more es e (Ok fs) = ap (λ l. Ok l) (sym (append_assoc es (e ∷ []) fs))
grown_more es e (Err f) = refl

-- the edges read so far, before what the rest says, are what the text says
pub record Sofar (text : List ℕ) (edges : List DrawnEdge) (rest : List ℕ) : Type 0 where
  pub same : edges_from 2 (lines text) ≡ grown (drawn edges) (edges_from (length edges + 2) (lines rest))
  pub few : length edges ≤ 4096

module _ {text rest : List ℕ} {edges : List DrawnEdge} (old : Sofar text edges rest) where
  module _ (line after : List ℕ) (cut : lines rest ≡ line ∷ lines after) where
    -- what the text says, by what the next line does
    by_next : (said : Result Drawn Reason) → said ≡ edge_line line
        → edges_from 2 (lines text) ≡ grown (drawn edges) (edge_then (length edges + 2) said (edges_from (suc (length edges + 2)) (lines after)))
    by_next said e =
        let n = length edges + 2 in
        old.same
        ∙ ap (λ l. grown (drawn edges) (edges_from n l)) cut
        ∙ ap (grown (drawn edges)) (edges_next n line after)
        ∙ ap (λ x. grown (drawn edges) (edge_then n x (edges_from (suc n) (lines after)))) (sym e)

    -- the line says an edge, and there is room for it
    pub one_more : (d : DrawnEdge) → Ok (drawn_as d) ≡ edge_line line → length edges < 4096 → Sofar text (edges ++ d ∷ []) after
    one_more d e room =
        let n = length edges + 2 in
        let rest_says = edges_from (suc n) (lines after) in
        let low : n ≤ 4097 = omega arith in
        let number : suc n ≡ length (edges ++ d ∷ []) + 2 = omega (arith, length_push edges d) in
        record {
          same =
              by_next (Ok (drawn_as d)) e
              ∙ ap (grown (drawn edges)) (cond-true _ (before (drawn_as d) rest_says) (Err (n, TooManyEdges)) (le-leb n 4097 low))
              ∙ grown_more (drawn edges) (drawn_as d) rest_says
              ∙ ap (λ es. grown es rest_says) (sym (map_push drawn_as edges d))
              ∙ ap (λ k. grown (drawn (edges ++ d ∷ [])) (edges_from k (lines after))) number;
          few = omega (arith, length_push edges d);
        }

    pub full : (d : DrawnEdge) → Ok (drawn_as d) ≡ edge_line line → 4096 ≤ length edges → edges_from 2 (lines text) ≡ Err (length edges + 2, TooManyEdges)
    full d e room =
        let n = length edges + 2 in
        let high : 4097 < n = omega arith in
        by_next (Ok (drawn_as d)) e
        ∙ ap (grown (drawn edges)) (cond-false _ (before (drawn_as d) (edges_from (suc n) (lines after))) (Err (n, TooManyEdges)) (lt-leb n 4097 high))

    pub refused : (f : Reason) → Err f ≡ edge_line line → edges_from 2 (lines text) ≡ Err (length edges + 2, f)
    refused f e = by_next (Err f) e

-- a text that has a line
pub drawing_is : (head rest : List ℕ) → drawing_from (head ∷ lines rest) ≡ with_edges (head_line head) (edges_from 2 (lines rest))
drawing_is head rest =
    let some = fields_some 10 rest in
    ap (λ l. drawing_from (head ∷ l)) some.2 ∙ ap (λ l. with_edges (head_line head) (edges_from 2 l)) (sym some.2)
