-- The text of a drawing is read as that drawing, and a text that is read as one is its text.
use Rattle.std.proofs.Common.{◌≡◌, ℕ, suc, ◌+◌, ◌^◌, ◌<◌, ◌≤◌, leb, ◌⊎◌, List, [], ◌∷◌, ◌++◌, map, length, ℤ, Ok, Err, decimal, Result, sym, refl, ap, ◌∙◌, inl, inr, ⊎_elim, append_assoc, arith}
use Rattle.std.specs.Fmt.{signed_decimal}
use Rattle.std.specs.List.{flat_map, AllByRecursion}
use Rattle.std.proofs.lemmas.Bool.{cases_Bool, cond-true, cond-false, le-leb, leb-true}
use Rattle.plane.specs.Points.{InRange}
use Rattle.drawing.specs.declared.drawing.Drawing.{Drawing}
use Rattle.drawing.specs.declared.fault.DrawingFault.{DrawingFault}
use Rattle.drawing.specs.declared.fault.DrawingFault.TheVariants.{Line, Memory}
use Rattle.drawing.specs.declared.reason.Reason.{Reason}
use Rattle.drawing.specs.Lines.{head_line, edge_line, Drawn}
use Rattle.drawing.specs.Drawings.{lines, Bad, edge_then, last_line, edges_from, with_edges, drawing_from, drawing_of, drawn_in, Tells}
use Rattle.drawing.specs.Texts.{head_text, Ends, Sound, edge_text, drawn_with_ends, drawing_text, DrawingWritten, OnlyDrawing}
use Rattle.drawing.proofs.Fields.{Free, rejoined, rejoined_fields}
use Rattle.drawing.proofs.Drawings.{edges_next, drawing_is}
use Rattle.drawing.proofs.Texts.{fields_cut, free_decimal, free_signed, free_append, free_cons, mag_small, edge_read, head_read, edge_was, head_was}

abbrev ended : List ℕ → List ℕ
ended line = line ++ (10 ∷ [])

abbrev edge_lines : List Ends → List ℕ
edge_lines cs = flat_map (λ c. ended (edge_text c)) cs

-- no LF stands in a line
head_free : (e : ℕ) → e < 2 ^ 32 → Free 10 (head_text e) (length (head_text e))
head_free e fits =
    free_append 10 (decimal e) (9 ∷ 80 ∷ []) (free_decimal 10 (omega arith) e (omega arith))
    (free_cons 10 9 (80 ∷ []) (λ is. omega arith) (free_cons 10 80 [] (λ is. omega arith) (λ k none. absurd (omega arith))))

edge_free : (c : Ends) → Sound c → Free 10 (edge_text c) (length (edge_text c))
edge_free c sound =
    let no_tab : ◌≡◌ {A = ℕ} 9 10 → ⊥ = λ is. omega arith in
    let free : (z : ℤ) → InRange z → Free 10 (signed_decimal z) (length (signed_decimal z)) = λ z small. free_signed 10 (omega arith) z (mag_small z small) in
    free_append 10 (signed_decimal c.p.x) _ (free c.p.x sound.first.wide) (free_cons 10 9 _ no_tab
    (free_append 10 (signed_decimal c.p.y) _ (free c.p.y sound.first.high) (free_cons 10 9 _ no_tab
    (free_append 10 (signed_decimal c.q.x) _ (free c.q.x sound.second.wide) (free_cons 10 9 _ no_tab
    (free c.q.y sound.second.high))))))

line_cut : (line rest : List ℕ) → Free 10 line (length line) → lines (ended line ++ rest) ≡ line ∷ lines rest
line_cut line rest free = ap lines (append_assoc line (10 ∷ []) rest) ∙ fields_cut 10 line rest free

edges_read : (n : ℕ) (cs : List Ends) → AllByRecursion Sound cs → n + length cs ≤ 4098 → edges_from n (lines (edge_lines cs)) ≡ Ok (map drawn_with_ends cs)
edges_read n [] sound few = refl
edges_read n (c ∷ cs) (sound, more) few =
    ap (edges_from n) (line_cut (edge_text c) (edge_lines cs) (edge_free c sound))
    ∙ edges_next n (edge_text c) (edge_lines cs)
    ∙ (λ i. edge_then n (edge_read c sound i) (edges_read (suc n) cs more (omega arith) i))
    ∙ cond-true _ _ _ (le-leb n 4097 (omega arith))

drawing_read : (e : ℕ) (cs : List Ends) → e < 2 ^ 32 → AllByRecursion Sound cs → length cs ≤ 4096 → drawing_of (drawing_text e cs) ≡ Ok (e, map drawn_with_ends cs)
drawing_read e cs fits sound few =
    ap drawing_from (line_cut (head_text e) (edge_lines cs) (head_free e fits))
    ∙ drawing_is (head_text e) (edge_lines cs)
    ∙ (λ i. with_edges (head_read e fits i) (edges_read 2 cs sound (omega arith) i))

-- what the lines from number n on were
record LinesWere (n : ℕ) (ls : List (List ℕ)) (es : List Drawn) : Type 0 where
  ends : List Ends
  sound : AllByRecursion Sound ends
  few : (length ends ≡ 0) ⊎ (n + length ends ≤ 4098)
  whole : rejoined 10 ls ≡ edge_lines ends
  edges : es ≡ map drawn_with_ends ends

-- an edge and others
record ThenWas (n : ℕ) (said : Result Drawn Reason) (rest : Result (List Drawn) Bad) (es : List Drawn) : Type 0 where
  edge : Drawn
  others : List Drawn
  here : said ≡ Ok edge
  there : rest ≡ Ok others
  room : n ≤ 4097
  all : es ≡ edge ∷ others

then_was : (n : ℕ) (said : Result Drawn Reason) (rest : Result (List Drawn) Bad) (es : List Drawn) → edge_then n said rest ≡ Ok es → ThenWas n said rest es
then_was n (Err f) rest es is = cc
then_was n (Ok e) (Err f) es is =
    ⊎_elim (λ room. cc (sym (cond-true _ _ _ room) ∙ is))
    (λ none. cc (sym (cond-false _ _ _ none) ∙ is))
    (cases_Bool (leb n 4097))
then_was n (Ok e) (Ok others) es is =
    ⊎_elim
    (λ room.
    let made = sym (cond-true _ _ _ room) ∙ is in
    record { edge = e; others = others; here = refl; there = refl; room = leb-true n 4097 room; all = cc })
    (λ none. cc (sym (cond-false _ _ _ none) ∙ is))
    (cases_Bool (leb n 4097))

last_was : (n : ℕ) (l : List ℕ) (es : List Drawn) → last_line n l ≡ Ok es → (l ≡ []) × (es ≡ [])
last_was n [] es is = (refl, cc)
last_was n (b ∷ bs) es is = cc

lines_were : (n : ℕ) (ls : List (List ℕ)) (es : List Drawn) → edges_from n ls ≡ Ok es → LinesWere n ls es
lines_were n [] es is = record { ends = []; sound = tt; few = inl refl; whole = refl; edges = cc }
lines_were n (l ∷ []) es is =
    let was = last_was n l es is in
    record { ends = []; sound = tt; few = inl refl; whole = was.0; edges = was.1 }
lines_were n (l ∷ m ∷ ls) es is =
    let was = then_was n (edge_line l) (edges_from (suc n) (m ∷ ls)) es is in
    let line = edge_was l was.edge was.here in
    let rest = lines_were (suc n) (m ∷ ls) was.others was.there in
    record {
      ends = line.ends ∷ rest.ends;
      sound = (line.sound, rest.sound);
      few = inr (⊎_elim (λ none. omega (arith, was.room)) (λ few. omega arith) rest.few);
      whole = (λ i. line.text i ++ (10 ∷ rest.whole i)) ∙ sym (append_assoc (edge_text line.ends) (10 ∷ []) (edge_lines rest.ends));
      edges = was.all ∙ (λ i. line.edge i ∷ rest.edges i);
    }

with_was : (head : Result ℕ Reason) (rest : Result (List Drawn) Bad) (e : ℕ) (es : List Drawn) → with_edges head rest ≡ Ok (e, es) → (head ≡ Ok e) × (rest ≡ Ok es)
with_was (Ok n) (Ok others) e es is = let same : ◌≡◌ {A = ℕ × List Drawn} (n, others) (e, es) = cc in (ap (λ x. Ok x.0) same, ap (λ x. Ok x.1) same)
with_was (Ok n) (Err f) e es is = cc
with_was (Err f) rest e es is = cc

drawing_was : (text : List ℕ) (e : ℕ) (es : List Drawn) → drawing_of text ≡ Ok (e, es) → DrawingWritten text e es
drawing_was text e es is = by (lines text) (rejoined_fields 10 text) is
  where
    by : (ls : List (List ℕ)) → rejoined 10 ls ≡ text → drawing_from ls ≡ Ok (e, es) → DrawingWritten text e es
    by [] of said = cc
    by (l ∷ []) of said = cc
    by (l ∷ m ∷ ls) of said =
        let was = with_was (head_line l) (edges_from 2 (m ∷ ls)) e es said in
        let rest = lines_were 2 (m ∷ ls) es was.1 in
        record {
          ends = rest.ends;
          sound = rest.sound;
          few = ⊎_elim (λ none. omega arith) (λ few. omega arith) rest.few;
          whole =
              sym of ∙ (λ i. head_was l e was.0 i ++ (10 ∷ rest.whole i))
              ∙ sym (append_assoc (head_text e) (10 ∷ []) (edge_lines rest.ends));
          edges = rest.edges;
        }

-- what a reading tells of a text is exact
pub drawing_only : (text : List ℕ) (r : Result Drawing DrawingFault) → Tells r (drawing_of text) → OnlyDrawing text r
drawing_only text (Ok d) told = drawing_was text d.exponent (drawn_in d) told
drawing_only text (Err (Line n f)) told = λ e cs fits sound few is. cc (sym told ∙ ap drawing_of is ∙ drawing_read e cs fits sound few)
drawing_only text (Err Memory) told = tt
