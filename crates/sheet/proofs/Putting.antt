-- A put, from what the table's insertion says.
use Rattle.std.proofs.Common.{◌≡◌, ℕ, Bool, true, false, cond, not, ◌&&◌, ◌||◌, leb, List, [], ◌∷◌, length, Some, None, Ok, Err, sym, refl, ap, ◌∙◌, subst, arith, length-take-le}
use Rattle.std.specs.Ordering.{is_eq}
use Rattle.std.proofs.lemmas.Bool.{both_ways, leb-true, le-leb, and_parts}
use Rattle.table.specs.Contents as table
use Rattle.table.specs.Contents.{Content, Came, Refused, records}
use Rattle.table.specs.Listings.{record_at}
use Rattle.plane.specs.Points.{Point, before?}
use Rattle.plane.specs.Edges.{Edge}
use Rattle.plane.specs.Models.{edge_between}
use Rattle.plane.specs.declared.fault.Fault.{Fault}
use Rattle.plane.specs.declared.fault.Fault.TheVariants.{EndsEqual, CoordinateOutside, CountEmpty, SheetFull}
use Rattle.finder.specs.Finders.{in_range?}
use Rattle.segm.specs.Counts.{CountKind}
use Rattle.segm.specs.Orders.{point_order, edge_order}
use Rattle.segm.specs.Segments.{ends_of}
use Rattle.segm.specs.SegmentKind.{segment_kind}
use Rattle.segm.specs.Balance.{when, counts, count_at}
use Rattle.segm.specs.declared.segment.Segment.{Segment}
use Rattle.segm.proofs.Adding.{came_adds}
use Rattle.segm.proofs.Groups.{inverse_inverse, inverse_neutral}
use Rattle.history.specs.Sheets.{Page, Sound, changed, edge_places, listed?, put_refusal, put_count, put_counts, Put}
use Rattle.history.specs.declared.sheet_state.SheetState.TheVariants.{Raw}
use Rattle.sheet.specs.Models.{early_refusal}

-- the last check, behind those that do not look at the sheet
late : (a b c d : Bool) → cond a (Some EndsEqual) (cond b (Some CoordinateOutside) (cond c (Some CountEmpty) None)) ≡ None
    → cond a (Some EndsEqual) (cond b (Some CoordinateOutside) (cond c (Some CountEmpty) (cond d (Some SheetFull) None))) ≡ cond d (Some SheetFull) None
late true b c d e = absurd (let z : ◌≡◌ {A = ℕ} 0 1 = cc e in omega arith)
late false true c d e = absurd (let z : ◌≡◌ {A = ℕ} 0 1 = cc e in omega arith)
late false false true d e = absurd (let z : ◌≡◌ {A = ℕ} 0 1 = cc e in omega arith)
late false false false d e = refl

early : (a b c d : Bool) (f : Fault) → cond a (Some EndsEqual) (cond b (Some CoordinateOutside) (cond c (Some CountEmpty) None)) ≡ Some f
    → cond a (Some EndsEqual) (cond b (Some CoordinateOutside) (cond c (Some CountEmpty) (cond d (Some SheetFull) None))) ≡ Some f
early true b c d f e = e
early false true c d f e = e
early false false true d f e = e
early false false false d f e = absurd (let z : ◌≡◌ {A = ℕ} 0 1 = cc e in omega arith)

not_empty : (a b c : Bool) → cond a (Some EndsEqual) (cond b (Some CoordinateOutside) (cond c (Some CountEmpty) None)) ≡ None → c ≡ false
not_empty true b c e = absurd (let z : ◌≡◌ {A = ℕ} 0 1 = cc e in omega arith)
not_empty false true c e = absurd (let z : ◌≡◌ {A = ℕ} 0 1 = cc e in omega arith)
not_empty false false true e = absurd (let z : ◌≡◌ {A = ℕ} 0 1 = cc e in omega arith)
not_empty false false false e = refl

module _ {C : Type 0} (K : CountKind C) where
  -- a key that no edge of the list has
  unlisted : (e : Edge) (s : Segment C) (l : List (Segment C)) → ends_of s ≡ e → listed? e l ≡ false → record_at (segment_kind K) l s ≡ None
  unlisted e s [] is h = refl
  unlisted e s (x ∷ l) is h = go (is_eq (edge_order (ends_of s) (ends_of x))) (ap (λ (y : Edge). is_eq (edge_order y (ends_of x))) is) h (unlisted e s l is)
    where
      go : (b : Bool) → b ≡ is_eq (edge_order e (ends_of x)) → (is_eq (edge_order e (ends_of x)) || listed? e l) ≡ false
          → (listed? e l ≡ false → record_at (segment_kind K) l s ≡ None) → cond b (Some x) (record_at (segment_kind K) l s) ≡ None
      go true t n f = absurd (both_ways true (ap (λ c. c || listed? e l) t ∙ n) refl)
      go false t n f = f (ap (λ c. c || listed? e l) t ∙ n)

  absent_unlisted : (e : Edge) (s : Segment C) (l : List (Segment C)) → ends_of s ≡ e → record_at (segment_kind K) l s ≡ None → listed? e l ≡ false
  absent_unlisted e s [] is h = refl
  absent_unlisted e s (x ∷ l) is h = go (is_eq (edge_order (ends_of s) (ends_of x))) (ap (λ (y : Edge). is_eq (edge_order y (ends_of x))) is) h (absent_unlisted e s l is)
    where
      go : (b : Bool) → b ≡ is_eq (edge_order e (ends_of x)) → cond b (Some x) (record_at (segment_kind K) l s) ≡ None
          → (record_at (segment_kind K) l s ≡ None → listed? e l ≡ false) → (is_eq (edge_order e (ends_of x)) || listed? e l) ≡ false
      go true t n f = absurd (let z : ◌≡◌ {A = ℕ} 0 1 = cc n in omega arith)
      go false t n f = ap (λ c. c || listed? e l) (sym t) ∙ f n

  -- an inverse is empty only where the count is
  kept_filled : (c : C) → K.empty? c ≡ false → (b : Bool) → K.empty? (cond b (K.inverse c) c) ≡ false
  kept_filled c h false = h
  kept_filled c h true = go (K.empty? (K.inverse c)) refl
    where
      go : (b : Bool) → K.empty? (K.inverse c) ≡ b → b ≡ false
      go false e = refl
      go true e =
          let none : c ≡ K.neutral = sym (inverse_inverse K c) ∙ ap K.inverse (K.empty_neutral (K.inverse c) e) ∙ inverse_neutral K in
          absurd (both_ways (K.empty? c) h (ap K.empty? none ∙ K.neutral_empty))

  module _ (p q : Point) (c : C) (g : Segment C) (s : Page C) (edges edges' : Content (Segment C)) where
    -- what is known of the table as the put begins
    pub record Begun : Type 0 where
      pub sound : Sound K s
      pub listed : s.edges ≡ records edges
      pub room : edges.room ≡ edge_places s.lengths
      pub table_sound : table.Sound (segment_kind K) edges
      pub passed : early_refusal K p q c ≡ None
      pub ends : ends_of g ≡ edge_between p q
      pub counts_as : g.count ≡ put_count K p q c

    filled : Begun → K.empty? g.count ≡ false
    filled b = ap K.empty? b.counts_as ∙ kept_filled c (not_empty (is_eq (point_order p q)) (not (in_range? p && in_range? q)) (K.empty? c) b.passed) (before? q p)

    abbrev full? : Bool
    full? = not (listed? (edge_between p q) s.edges) && leb (edge_places s.lengths) (length s.edges)

    refusal_is : Begun → put_refusal K p q c s ≡ cond full? (Some SheetFull) None
    refusal_is b = late (is_eq (point_order p q)) (not (in_range? p && in_range? q)) (K.empty? c) full? b.passed

    as_counted : Begun → (x : Edge) → counts K x g ≡ put_counts K p q c x
    as_counted b x = λ i. when K (is_eq (edge_order x (b.ends i))) (b.counts_as i)

    used_is : Begun → length s.edges ≡ edges.used
    used_is b =
        let t = b.table_sound in
        let f = t.fits in let r = t.roomy in
        ap length b.listed ∙ length-take-le edges.used edges.places (omega arith)

    pub put_ended : (after : Page C) → Begun → Came (segment_kind K) g edges edges' → after ≡ changed s (records edges') Raw s.start → Put K p q c s after (Ok tt)
    put_ended after b h is =
        let adds = came_adds K g edges edges' b.table_sound.ordered h in
        let fresh = adds.still_counting (λ x. count_at K x (records edges)) (record { ordered = b.table_sound.ordered; each = λ x. refl }) in (
          refusal_is b ∙ none full? refl,
          record {
            list = records edges';
            counting = record {
              ordered = fresh.ordered;
              each = λ x. fresh.each x ∙ (λ i. K.sum (count_at K x (sym b.listed i)) (as_counted b x i));
            };
            leaves = is;
          },
        )
      where
        none : (x : Bool) → full? ≡ x → cond x (Some SheetFull) None ≡ None
        none false e = refl
        none true e =
            let two = and_parts (not (listed? (edge_between p q) s.edges)) (leb (edge_places s.lengths) (length s.edges)) e in
            let le = leb-true (edge_places s.lengths) (length s.edges) two.1 in
            let n = used_is b in let r = b.room in let t = b.table_sound in let f = t.fits in
            absurd (h.found b.table_sound.ordered (record {
              new = subst (λ l. record_at (segment_kind K) l g ≡ None) b.listed (unlisted (edge_between p q) g s.edges b.ends (no_of _ two.0));
              filled = filled b;
              full = omega arith;
            }))
          where
            no_of : (x : Bool) → not x ≡ true → x ≡ false
            no_of true e = absurd (both_ways true (sym e) refl)
            no_of false e = refl

    -- a put that finds no place
    pub put_full : Begun → Refused (segment_kind K) g edges edges' → put_refusal K p q c s ≡ Some SheetFull
    put_full b h =
        let no = h.reason b.table_sound in
        let n = used_is b in let r = b.room in
        let filled_up = no.full in
        let new : listed? (edge_between p q) s.edges ≡ false = absent_unlisted (edge_between p q) g s.edges b.ends (subst (λ l. record_at (segment_kind K) l g ≡ None) (sym b.listed) no.new) in
        let le : leb (edge_places s.lengths) (length s.edges) ≡ true = le-leb (edge_places s.lengths) (length s.edges) (omega arith) in
        refusal_is b ∙ (λ i. cond (not (new i) && le i) (Some SheetFull) None)

    pub put_refused : (after : Page C) (f : Fault) → Begun → Refused (segment_kind K) g edges edges' → f ≡ SheetFull → after ≡ s → Put K p q c s after (Err f)
    put_refused after f b h is same = (put_full b h ∙ ap Some (sym is), same)

  -- a put that is refused by the checks that do not look at the sheet
  pub put_early : (p q : Point) (c : C) (s : Page C) (f : Fault) → early_refusal K p q c ≡ Some f → put_refusal K p q c s ≡ Some f
  put_early p q c s f e =
      early (is_eq (point_order p q)) (not (in_range? p && in_range? q)) (K.empty? c)
      (not (listed? (edge_between p q) s.edges) && leb (edge_places s.lengths) (length s.edges)) f e
