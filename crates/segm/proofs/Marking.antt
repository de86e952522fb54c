-- A mark that came to a table in order is held, and so are just those that were.
use Rattle.std.proofs.Common.{◌≡◌, Bool, true, false, cond, ◌||◌, List, [], ◌∷◌, is_some, IfSome, IfOk, Some, None, Ok, Err, Option, Result, Equal, sym, refl, ap, ◌∙◌}
use Rattle.table.specs.Listings.{record_at, joined_at}
use Rattle.table.specs.Contents.{Content, records, Came, Answers}
use Rattle.table.proofs.Orders.{found}
use Rattle.table.proofs.Laws.{same_values}
use Rattle.segm.specs.Marks.{mark_order}
use Rattle.segm.specs.MarkKind.{mark_kind, equal_marks}
use Rattle.segm.specs.Marked.{same_mark?, holds?, Marked, with_mark, MarksDetermine}
use Rattle.segm.specs.declared.line_mark.LineMark.{LineMark}

holds_found : (l : List LineMark) (m : LineMark) → holds? l m ≡ is_some (record_at mark_kind l m)
holds_found [] m = refl
holds_found (n ∷ l) m = go (same_mark? m n) (holds_found l m)
  where
    go : (b : Bool) → holds? l m ≡ is_some (record_at mark_kind l m) → (b || holds? l m) ≡ is_some (cond b (Some n) (record_at mark_kind l m))
    go true rest = refl
    go false rest = rest

some_joined : (o : Option LineMark) (m : LineMark) → is_some (joined_at mark_kind o m) ≡ true
some_joined None m = refl
some_joined (Some n) m = refl

some_with : (m n : LineMark) (f : LineMark → Option LineMark) (b : Bool) → is_some (cond b (joined_at mark_kind (f n) m) (f n)) ≡ (b || is_some (f n))
some_with m n f true = some_joined (f n) m
some_with m n f false = refl

pub came_marked : (m : LineMark) (before after : Content LineMark) → Came mark_kind m before after → (P : LineMark → Bool) → Marked P (records before) → Marked (with_mark m P) (records after)
came_marked m before after h P q =
    let f = record_at mark_kind (records before) in
    let l = h.listed f (record { ordered = q.ordered; each = λ k. refl }) in
    record {
      ordered = l.ordered;
      each = λ n.
          holds_found (records after) n ∙ ap is_some (l.each n) ∙ some_with m n f (same_mark? n m)
          ∙ ap (λ b. same_mark? n m || b) (sym (holds_found (records before) n) ∙ q.each n);
    }

pub joined_marked : (m : LineMark) (before after : Content LineMark) {T E : Type 0} (a : Result T E)
    → Answers mark_kind m before after a
    → IfOk a (λ _. (P : LineMark → Bool) → Marked P (records before) → Marked (with_mark m P) (records after))
joined_marked m before after (Ok x) h = came_marked m before after h
joined_marked m before after (Err e) h = tt

same_found : (k : LineMark) (o p : Option LineMark) → IfSome o (λ x. (mark_order k x ≡ Equal) × (false ≡ false)) → IfSome p (λ x. (mark_order k x ≡ Equal) × (false ≡ false)) → is_some o ≡ is_some p → o ≡ p
same_found k None None f g e = refl
same_found k None (Some n) f g e = cc
same_found k (Some m) None f g e = cc
same_found k (Some m) (Some n) f g e = ap Some (sym (equal_marks k m f.0) ∙ equal_marks k n g.0)

pub marks_determine : MarksDetermine
marks_determine P l m p q =
    same_values mark_kind l m p.ordered.ascending q.ordered.ascending
    (λ k. same_found k (record_at mark_kind l k) (record_at mark_kind m k) (found mark_kind l k p.ordered.filled) (found mark_kind m k q.ordered.filled)
    (sym (holds_found l k) ∙ p.each k ∙ sym (q.each k) ∙ holds_found m k))
