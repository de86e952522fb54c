-- What is written is read, and what is read was written.
use Rattle.std.proofs.Common.{◌≡◌, ℕ, zero, suc, ◌^◌, ◌<◌, ◌≤◌, true, false, ◌&&◌, List, [], ◌∷◌, ◌++◌, length, ℤ, pos, negsuc, nat_abs, is_ok, Ok, Err, decimal, Result, sym, refl, ap, ◌∙◌, subst, ⊎_elim, arith}
use lib.Signed.{mag}
use Rattle.std.specs.Fmt.{signed_decimal}
use Rattle.std.specs.Str.{bytes_eq}
use Rattle.std.proofs.lemmas.Slice.Eq.{bytes_eq-Decides}
use Rattle.std.proofs.lemmas.Fmt.{digits_decimal, digits_value-decimal}
use Rattle.std.proofs.lemmas.Str.Parse.{not_in_digits}
use Rattle.std.proofs.lemmas.Int.{ints}
use Rattle.std.proofs.lemmas.Bool.{and_from, and_parts, both_ways, cases_Bool, cond-true, cond-false, eq-eqb, false≢true, leb-true, lt-ltb, ne_eqb, or_from, or_parts}
use Rattle.plane.specs.Points.{Point, Ranged, before?}
use Rattle.drawing.specs.declared.drawn_edge.DrawnEdge.{DrawnEdge}
use Rattle.drawing.specs.declared.number.NumberFault.{NumberFault}
use Rattle.drawing.specs.declared.number.NumberFault.TheVariants.{Form, TooLarge}
use Rattle.drawing.specs.declared.reason.Reason.{Reason}
use Rattle.drawing.specs.Numbers.{value, unsigned_of, signed_of, signed_value, OnlyDecimal, OnlySigned}
use Rattle.drawing.specs.Fields.{onto, fields}
use Rattle.drawing.specs.Lines.{parts, exponent_of, head_of, head_line, together, two_points, ranged?, apart?, Drawn, drawn_between, drawn_as, edge_from, point, edge_with, edge_line, read_as}
use Rattle.drawing.specs.Texts.{head_text, Ends, Sound, edge_text, drawn_with_ends, EdgeWritten, OnlyHead, OnlyEdge}
use Rattle.drawing.proofs.Fields.{Free, fields_one, rejoined, rejoined_fields}
use Rattle.drawing.proofs.Lines.{ranged_is, not_before_itself}
use Rattle.drawing.proofs.Readings.{own, numeral_decimal, signed_reads, unsigned_only, signed_only}

-- a field and its mark
pub fields_cut : (m : ℕ) (f rest : List ℕ) → Free m f (length f) → fields m (f ++ (m ∷ rest)) ≡ f ∷ fields m rest
fields_cut m [] rest free = cond-true _ _ _ (eq-eqb m m refl)
fields_cut m (b ∷ f) rest free =
    cond-false _ _ _ (ne_eqb b m (free 0 (omega arith)))
    ∙ ap (onto b) (fields_cut m f rest (λ k low. free (suc k) (omega arith)))

-- a byte that is no digit and no minus is not in a number
module _ (m : ℕ) (low : m < 45) where
  pub free_decimal : (n : ℕ) → n < 2 ^ 64 → Free m (decimal n) (length (decimal n))
  free_decimal n fits = not_in_digits own (decimal n) m (digits_decimal own n fits) (λ h. omega (arith, h.0))

  pub free_signed : (z : ℤ) → mag z < 2 ^ 31 → Free m (signed_decimal z) (length (signed_decimal z))
  free_signed (pos n) fits k within e = free_decimal n (omega arith) k within e
  free_signed (negsuc n) fits zero within e = omega arith
  free_signed (negsuc n) fits (suc k) within e = free_decimal (suc n) (omega arith) k (omega arith) e

pub free_append : (m : ℕ) (f g : List ℕ) → Free m f (length f) → Free m g (length g) → Free m (f ++ g) (length (f ++ g))
free_append m [] g free_f free_g k within e = free_g k within e
free_append m (b ∷ f) g free_f free_g zero within e = free_f 0 (omega arith) e
free_append m (b ∷ f) g free_f free_g (suc k) within e =
    free_append m f g (λ i low. free_f (suc i) (omega arith)) free_g k (omega arith) e

pub free_cons : (m b : ℕ) (f : List ℕ) → (b ≡ m → ⊥) → Free m f (length f) → Free m (b ∷ f) (length (b ∷ f))
free_cons m b f other free zero within e = other e
free_cons m b f other free (suc k) within e = free k (omega arith) e

pub mag_small : (z : ℤ) → nat_abs z ≤ 524288 → mag z < 2 ^ 31
mag_small (pos n) small = omega arith
mag_small (negsuc n) small = omega arith

signed_back : (z : ℤ) → mag z < 2 ^ 31 → signed_of (signed_decimal z) ≡ Ok z
signed_back z fits =
    let reads = signed_reads z fits in
    cond-true _ _ _ reads.0
    ∙ cond-true _ _ _ (lt-ltb (mag (signed_value (signed_decimal z))) (2 ^ 31) (omega (arith, ap mag reads.1)))
    ∙ ap (λ x. Ok x) reads.1

unsigned_back : (n : ℕ) → n < 2 ^ 32 → unsigned_of (decimal n) ≡ Ok n
unsigned_back n fits =
    let worth = digits_value-decimal own n (omega arith) in
    cond-true _ _ _ (numeral_decimal n (omega arith))
    ∙ cond-true _ _ _ (lt-ltb (value (decimal n)) (2 ^ 32) (omega (arith, worth)))
    ∙ ap (λ x. Ok x) worth

-- numbers that fit, written and read back
module _ (px py qx qy : ℤ) (fit_px : mag px < 2 ^ 31) (fit_py : mag py < 2 ^ 31) (fit_qx : mag qx < 2 ^ 31) (fit_qy : mag qy < 2 ^ 31) where
  abbrev four : List ℕ
  four = signed_decimal px ++ (9 ∷ (signed_decimal py ++ (9 ∷ (signed_decimal qx ++ (9 ∷ signed_decimal qy)))))

  four_parts : parts four ≡ signed_decimal px ∷ signed_decimal py ∷ signed_decimal qx ∷ signed_decimal qy ∷ []
  four_parts =
      fields_cut 9 (signed_decimal px) (signed_decimal py ++ (9 ∷ (signed_decimal qx ++ (9 ∷ signed_decimal qy)))) (free_signed 9 (omega arith) px fit_px)
      ∙ ap (λ l. signed_decimal px ∷ l) (fields_cut 9 (signed_decimal py) (signed_decimal qx ++ (9 ∷ signed_decimal qy)) (free_signed 9 (omega arith) py fit_py)
      ∙ ap (λ l. signed_decimal py ∷ l) (fields_cut 9 (signed_decimal qx) (signed_decimal qy) (free_signed 9 (omega arith) qx fit_qx)
      ∙ ap (λ l. signed_decimal qx ∷ l) (fields_one 9 (signed_decimal qy) (free_signed 9 (omega arith) qy fit_qy))))

  four_read : two_points (parts four) ≡ Ok ((px, py), (qx, qy))
  four_read =
      ap two_points four_parts
      ∙ (λ i. together (together (signed_back px fit_px i) (signed_back py fit_py i)) (together (signed_back qx fit_qx i) (signed_back qy fit_qy i)))

same_from_apart : (p q : Point) → apart? p q ≡ false → p ≡ q
same_from_apart p q none =
    let no = or_parts (before? p q) (before? q p) none in
    let across : p.x ≡ q.x = grind (arith, ints) in
    let height : p.y ≡ q.y = grind (arith, ints) in
    λ i. record { x = across i; y = height i }

-- the line of two different points within range says their edge
pub edge_read : (c : Ends) → Sound c → edge_line (edge_text c) ≡ Ok (drawn_with_ends c)
edge_read c sound =
    let in_p = sound.first in
    let in_q = sound.second in
    ap edge_with (four_read c.p.x c.p.y c.q.x c.q.y
    (mag_small c.p.x in_p.wide) (mag_small c.p.y in_p.high) (mag_small c.q.x in_q.wide) (mag_small c.q.y in_q.high))
    ∙ cond-true _ _ _ (and_from _ _ (ranged_is c.p in_p) (ranged_is c.q in_q))
    ∙ cond-true _ _ _ (⊎_elim (λ is. is) (λ none. absurd (sound.different (same_from_apart c.p c.q none))) (cases_Bool (apart? c.p c.q)))

pub head_read : (e : ℕ) → e < 2 ^ 32 → head_line (head_text e) ≡ Ok e
head_read e fits =
    ap head_of (fields_cut 9 (decimal e) (80 ∷ []) (free_decimal 9 (omega arith) e (omega arith)))
    ∙ ap exponent_of (unsigned_back e fits)

pub err_is_not_ok : {X Y : Type 0} (f : Y) (x : X) → ◌≡◌ {A = Result X Y} (Err f) (Ok x) → ⊥
err_is_not_ok f x e = false≢true (ap is_ok e)

together_ok : {X Y : Type 0} (a : Result X NumberFault) (b : Result Y NumberFault) (c : X × Y) → together a b ≡ Ok c → (a ≡ Ok c.0) × (b ≡ Ok c.1)
together_ok (Ok a) (Ok b) c e = let same : (a, b) ≡ c = cc in (ap (λ x. Ok x.0) same, ap (λ x. Ok x.1) same)
together_ok (Ok a) (Err f) c e = cc
together_ok (Err f) (Ok b) c e = cc
together_ok (Err Form) (Err g) c e = cc
together_ok (Err TooLarge) (Err g) c e = cc

signed_was : (bs : List ℕ) (z : ℤ) → signed_of bs ≡ Ok z → bs ≡ signed_decimal z
signed_was bs z e = subst (OnlySigned bs) e (signed_only bs)

unsigned_was : (bs : List ℕ) (n : ℕ) → unsigned_of bs ≡ Ok n → bs ≡ decimal n
unsigned_was bs n e = subst (OnlyDecimal bs) e (unsigned_only bs)

-- fields that read as two points are their four numbers
points_were : (fs : List (List ℕ)) (c : (ℤ × ℤ) × (ℤ × ℤ)) → two_points fs ≡ Ok c → rejoined 9 fs ≡ edge_text (record { p = point c.0; q = point c.1 })
points_were [] c e = cc
points_were (a ∷ []) c e = cc
points_were (a ∷ b ∷ []) c e = cc
points_were (a ∷ b ∷ d ∷ []) c e = cc
points_were (a ∷ b ∷ d ∷ f ∷ []) c e =
    let halves = together_ok (together (signed_of a) (signed_of b)) (together (signed_of d) (signed_of f)) c e in
    let first = together_ok (signed_of a) (signed_of b) c.0 halves.0 in
    let second = together_ok (signed_of d) (signed_of f) c.1 halves.1 in
    λ i. signed_was a c.0.0 first.0 i ++ (9 ∷ (signed_was b c.0.1 first.1 i
    ++ (9 ∷ (signed_was d c.1.0 second.0 i ++ (9 ∷ signed_was f c.1.1 second.1 i)))))
points_were (a ∷ b ∷ d ∷ f ∷ g ∷ fs) c e = cc

ranged_was : (p : Point) → ranged? p ≡ true → Ranged p
ranged_was p is = let both = and_parts _ _ is in record { wide = leb-true _ _ both.0; high = leb-true _ _ both.1 }

-- an edge that is made of two points
from_was : (p q : Point) (e : Drawn) → edge_from p q ≡ Ok e → Sound (record { p = p; q = q }) × (e ≡ drawn_between p q)
from_was p q e is =
    ⊎_elim
    (λ ranged. ⊎_elim
    (λ apart.
    let in_both = and_parts (ranged? p) (ranged? q) ranged in
    let made = sym is ∙ cond-true _ _ _ ranged ∙ cond-true _ _ _ apart in (
      record {
        first = ranged_was p in_both.0;
        second = ranged_was q in_both.1;
        different = λ same. both_ways (apart? p q) (ap (apart? p) (sym same) ∙ or_from _ _ (not_before_itself p) (not_before_itself p)) apart;
      },
      cc,
    ))
    (λ none. cc (sym (cond-true _ _ _ ranged ∙ cond-false _ _ _ none) ∙ is))
    (cases_Bool (apart? p q)))
    (λ none. cc (sym (cond-false _ _ _ none) ∙ is))
    (cases_Bool (ranged? p && ranged? q))

-- a line that says an edge is the text of two such points
pub edge_was : (line : List ℕ) (e : Drawn) → edge_line line ≡ Ok e → EdgeWritten line e
edge_was line e is = by (two_points (parts line)) refl is
  where
    by : (r : Result ((ℤ × ℤ) × (ℤ × ℤ)) NumberFault) → two_points (parts line) ≡ r → edge_with r ≡ Ok e → EdgeWritten line e
    by (Ok c) points said =
        let was = from_was (point c.0) (point c.1) e said in
        record {
          ends = record { p = point c.0; q = point c.1 };
          sound = was.0;
          text = sym (rejoined_fields 9 line) ∙ points_were (parts line) c points;
          edge = was.1;
        }
    by (Err f) points said = cc

-- a first line that says an exponent is its text
pub head_was : (line : List ℕ) (e : ℕ) → head_line line ≡ Ok e → line ≡ head_text e
head_was line e is = sym (rejoined_fields 9 line) ∙ by (parts line) is
  where
    exponent_was : (r : Result ℕ NumberFault) → exponent_of r ≡ Ok e → r ≡ Ok e
    exponent_was (Ok n) said = ap (λ x. Ok x) (cc)
    exponent_was (Err f) said = cc

    by : (fs : List (List ℕ)) → head_of fs ≡ Ok e → rejoined 9 fs ≡ head_text e
    by [] said = cc
    by (a ∷ []) said = cc
    by (a ∷ b ∷ []) said =
        ⊎_elim
        (λ letter.
        let number = exponent_was (unsigned_of a) (sym (cond-true _ _ _ letter) ∙ said) in
        λ i. unsigned_was a e number i ++ (9 ∷ (bytes_eq-Decides b (80 ∷ [])).0 letter i))
        (λ other. cc (sym (cond-false _ _ _ other) ∙ said))
        (cases_Bool (bytes_eq b (80 ∷ [])))
    by (a ∷ b ∷ c ∷ fs) said = cc

-- what a reading says of a line is exact
pub head_only : (line : List ℕ) (r : Result ℕ Reason) → r ≡ head_line line → OnlyHead line r
head_only line (Ok e) said = head_was line e (sym said)
head_only line (Err f) said = λ e fits is. cc (said ∙ ap head_line is ∙ head_read e fits)

pub edge_only : (line : List ℕ) (r : Result DrawnEdge Reason) → read_as r ≡ edge_line line → OnlyEdge line r
edge_only line (Ok d) said = edge_was line (drawn_as d) (sym said)
edge_only line (Err f) said = λ c sound is. cc (said ∙ ap edge_line is ∙ edge_read c sound)
