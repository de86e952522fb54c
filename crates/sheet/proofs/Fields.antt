-- A sheet whose fields keep what they are to keep is held.
use Rattle.std.proofs.Common.{◌≡◌, ℕ, ◌-◌, min, List, [], ◌∷◌, ◌++◌, length, drop, replicate, sym, refl, ap, ◌∙◌, subst, inl, inr, arith}
use Rattle.std.proofs.lemmas.List.{length-take-le, length-replicate}
use Rattle.table.specs.Contents.{Content, records}
use Rattle.table.specs.Contents as table
use Rattle.plane.specs.PointOf.{point_of}
use Rattle.plane.specs.Edges.{Proper}
use Rattle.plane.specs.Rules.{In}
use Rattle.plane.proofs.Tests.{before_yes, before_true}
use Rattle.segm.specs.Counts.{CountKind}
use Rattle.segm.specs.Marks.{blank_mark}
use Rattle.segm.specs.Segments.{ends_of, blank_segment}
use Rattle.segm.specs.SegmentKind.{segment_kind}
use Rattle.segm.specs.declared.line_mark.LineMark.{LineMark}
use Rattle.segm.specs.declared.segment.Segment.{Segment}
use Rattle.history.specs.Sheets.{Page, Sound, tables_of}
use Rattle.history.specs.declared.sheet_state.SheetState.{SheetState}
use Rattle.sheet.specs.Fields.{AllProper, Fields}
use Rattle.sheet.specs.Models.{Held, page_in}
use Rattle.sheet.specs.declared.sheet.Sheet.{Sheet}
use Rattle.segm.specs.declared.winding.WindingCount.{Ghosts}
use Rattle.table.specs.declared.keyed.Keyed.{Ghosts as Keys}
use Rattle.table.specs.Tables.{content_of}
use Rattle.sheet.specs.Rounding.{Lies}
use Rattle.sheet.proofs.Layouts.{laid_out}

module _ {C : Type 0} where
  all_in : (l : List (Segment C)) → AllProper l → (e : Segment C) → In e l → Proper (ends_of e)
  all_in [] h e i = absurd i
  all_in (s ∷ l) h e (inl is) = subst (λ x. Proper (ends_of x)) (sym is) (before_yes (point_of s.a) (point_of s.b) h.0)
  all_in (s ∷ l) h e (inr further) = all_in l h.1 e further

  pub proper_all : (l : List (Segment C)) → ((e : Segment C) → In e l → Proper (ends_of e)) → AllProper l
  proper_all [] h = tt
  proper_all (s ∷ l) h = (before_true (point_of s.a) (point_of s.b) (h s (inl refl)), proper_all l (λ e i. h e (inr i)))

module _ {C : Type 0} (K : CountKind C) where
  -- what a sound table holds: its records, and blank places
  laid : (t : Content (Segment C)) → table.Sound (segment_kind K) t → t.places ≡ records t ++ replicate (length t.places - length (records t)) (blank_segment K)
  laid t s = laid_out (blank_segment K) t.places t.used (let f = s.fits in let r = s.roomy in omega arith) s.blank

  blank_all : (t : Content (Segment C)) → table.Sound (segment_kind K) t → t.used ≡ 0 → t.places ≡ replicate (length t.places) (blank_segment K)
  blank_all t s e =
      let same : length t.places - 0 ≡ length t.places = omega arith in
      subst (λ (n : ℕ). drop n t.places ≡ replicate (length t.places - n) (blank_segment K)) e s.blank ∙ ap (λ (n : ℕ). replicate n (blank_segment K)) same

  module _ (edges spare : Content (Segment C)) (marks : List LineMark) (state : SheetState) (e start step : ℕ) (f : Fields K edges spare marks) where
    abbrev page : Page C
    page = page_in edges spare marks state e start step

    pub page_sound : Sound K page
    page_sound =
        let s = f.edges_sound in
        let fits = s.fits in let r = f.edge_room in let w = s.roomy in
        let many : length (records edges) ≡ edges.used = length-take-le edges.used edges.places (omega arith) in
        record { ordered = s.ordered; proper = all_in (records edges) f.proper; few = omega arith }

    pub page_tables : record { edges = edges.places; spare = spare.places; marks = marks } ≡ tables_of K page
    page_tables = λ i. record {
      edges = laid edges f.edges_sound i;
      spare = blank_all spare f.spare_sound f.emptied i;
      marks = f.unmarked i;
    }

    pub page_lies : Lies K page edges spare marks e
    page_lies = record {
      sound = page_sound;
      listed = refl;
      emptied = f.emptied;
      edge_room = f.edge_room;
      spare_room = f.spare_room ∙ f.edge_room;
      edge_length = refl;
      spare_length = refl;
      mark_length = refl;
      exponent = refl;
    }

  -- a refused round leaves them as they were, but that the marks are blanked
  pub fields_kept : (edges spare edges' spare' : Content (Segment C)) (marks marks' : List LineMark) → Fields K edges spare marks → table.Sound (segment_kind K) edges' → table.Sound (segment_kind K) spare' → edges' ≡ edges → spare' ≡ spare
      → marks' ≡ replicate (length marks) blank_mark → Fields K edges' spare' marks'
  fields_kept edges spare edges' spare' marks marks' f sound sound' e g blank = record {
    edges_sound = sound;
    spare_sound = sound';
    proper = subst (λ (t : Content (Segment C)). AllProper (records t)) (sym e) f.proper;
    emptied = ap (λ (t : Content (Segment C)). t.used) g ∙ f.emptied;
    edge_room = ap (λ (t : Content (Segment C)). t.room) e ∙ f.edge_room ∙ sym (λ i. min (min (length (e i).places) (length (g i).places)) 4096);
    spare_room = ap (λ (t : Content (Segment C)). t.room) g ∙ f.spare_room ∙ sym (ap (λ (t : Content (Segment C)). t.room) e);
    unmarked = blank ∙ ap (λ (n : ℕ). replicate n blank_mark) (sym (ap length blank ∙ length-replicate (length marks) blank_mark));
  }

  -- where the sheet lies in the tables again, they are as they are to be
  pub fields_after : (t : Page C) (edges spare : Content (Segment C)) (marks marks' : List LineMark) (e : ℕ) → Lies K t edges spare marks e → table.Sound (segment_kind K) edges → table.Sound (segment_kind K) spare
      → marks' ≡ replicate (length marks) blank_mark → Fields K edges spare marks'
  fields_after t edges spare marks marks' e lies sound sound' blank = record {
    edges_sound = sound;
    spare_sound = sound';
    proper = subst AllProper lies.listed (proper_all t.edges lies.sound.proper);
    emptied = lies.emptied;
    edge_room = lies.edge_room ∙ sym (λ i. min (min (lies.edge_length i) (lies.spare_length i)) 4096);
    spare_room = lies.spare_room ∙ sym lies.edge_room;
    unmarked = blank ∙ ap (λ (n : ℕ). replicate n blank_mark) (sym (ap length blank ∙ length-replicate (length marks) blank_mark));
  }

module _ {C : Type 0} {W : Ghosts C} {G : Keys (Segment C)} (K : CountKind C) (s : Sheet C W G) where
  pub fields_of : table.Sound (segment_kind K) (content_of s.edges) → table.Sound (segment_kind K) (content_of s.spare) → Fields K (content_of s.edges) (content_of s.spare) s.marks.now
  fields_of p q = record { edges_sound = p; spare_sound = q; proper = s.proper; emptied = s.emptied; edge_room = s.edge_room; spare_room = s.spare_room; unmarked = s.unmarked }

  -- a sheet is held by its type
  pub held_of : table.Sound (segment_kind K) (content_of s.edges) → table.Sound (segment_kind K) (content_of s.spare) → Held K s
  held_of p q =
      let f = fields_of p q in
      record {
        sound = page_sound K (content_of s.edges) (content_of s.spare) s.marks.now s.state s.radius.current s.start s.radius.step f;
        tables = page_tables K (content_of s.edges) (content_of s.spare) s.marks.now s.state s.radius.current s.start s.radius.step f;
      }
