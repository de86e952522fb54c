use Rattle.std.proofs.Common.{◌≡◌, ℕ, ◌+◌, ◌-◌, ◌<◌, ◌≤◌, min, Bool, false, List, [], ◌∷◌, ◌++◌, length, take, drop, ◌≤ℤ◌, None, Err, Option, sym, ap, ◌∙◌, subst, arith, length-take, length-drop}
use borrow.Rule.Slice.PartMut.{put_mid, same_len_mid}
use Rattle.std.proofs.lemmas.Slice.{take-put_mid}
use Rattle.std.proofs.lemmas.List.{map-append}
use mathlib.Core.Logic.{∥∥₁_map}
use Rattle.std.proofs.lemmas.Result.{err_from_is_err_and}
use Rattle.plane.specs.Edges.{Edge}
use Rattle.plane.specs.Models.{plain_point, edge_of}
use Rattle.plane.specs.declared.fault.Fault.{Fault}
use Rattle.plane.specs.declared.fault.Fault.TheVariants.{FinderFull}
use Rattle.plane.specs.declared.x_segment.XSegment.{XSegment}
use Rattle.finder.specs.Finders.{Meaning, box_of, show_answer, show_after, with_shown}
use Rattle.finder.specs.Checks.{early_refusal}
use Rattle.grid.specs.Layouts.{Layout, layout, most_columns}
use Rattle.grid.specs.Rectangles.{first_column, last_column, fragments}
use Rattle.grid.specs.Grid.{grid_need}
use Rattle.grid.specs.Meanings.{grid_meaning}
use Rattle.grid.specs.Models.{layout_of}
use Rattle.grid.specs.Tables.{Lies, Content, content, contents, edges_in, laid_one, most_fragments, coming_pairs, walking?}
use Rattle.grid.specs.declared.fragment.Fragment.{Fragment}
use Rattle.grid.specs.declared.grid_layout.GridLayout.{GridLayout}
use Rattle.grid.specs.declared.laid_edge.LaidEdge.{LaidEdge}
use Rattle.grid.specs.declared.fragment_buffer.FragmentBuffer.{FragmentBuffer}
use Rattle.grid.proofs.Placing.{columns_ordered, last_few, lies_by}
use Rattle.finder.proofs.Refusals.{Passed, early_passed, refusal_early, refusal_full, refusal_none}
use Rattle.grid.proofs.Sounds.{known_layout, known_shown, known_room, known_few, known_wide, known_need, known_idle, edges_more, sound_more, need_push}
use Rattle.grid.proofs.fragment_buffer.methods.FragmentBufferFinder.show.Goals as goal

-- the shared checks see the state and the number of edges shown
at_shown : (g : FragmentBuffer) (b : Bool) (e : Edge) (o : Option Fault) → b ≡ walking? g.state → early_refusal b g.intake.announced g.intake.shown (box_of g.intake.extent) e ≡ o
    → early_refusal (walking? g.state) g.intake.announced (length (grid_meaning g).shown) (box_of g.intake.extent) e ≡ o
at_shown g b e o w h =
    ap (λ (t : Bool). early_refusal t g.intake.announced (length (grid_meaning g).shown) (box_of g.intake.extent) e) (sym w)
    ∙ ap (λ (n : ℕ). early_refusal b g.intake.announced n (box_of g.intake.extent) e) (known_shown g) ∙ h

-- ---- an edge that the checks let pass
module _ (g : FragmentBuffer) (b : Bool) (s : XSegment) (e : Edge) (h : early_refusal b g.intake.announced g.intake.shown (box_of g.intake.extent) e ≡ None) (is : edge_of s ≡ e) where
  passed : Passed b g.intake.announced g.intake.shown (box_of g.intake.extent) e
  passed = early_passed b g.intake.announced g.intake.shown (box_of g.intake.extent) e h

  lies : Lies (box_of g.intake.extent) (edge_of s)
  lies = subst (λ (x : Edge). Lies (box_of g.intake.extent) x) (sym is) (lies_by (box_of g.intake.extent) e passed.ordered passed.inside)

  begins : (layout_of g.layout).left ≤ℤ s.a.x
  begins = subst (λ (l : Layout). l.left ≤ℤ s.a.x) (sym (known_layout g)) lies.begins

  few : last_column (layout_of g.layout) (edge_of s) < most_columns
  few = subst (λ (l : Layout). last_column l (edge_of s) < most_columns) (sym (known_layout g)) (last_few (box_of g.intake.extent) g.intake.announced (edge_of s) (known_few g) (known_wide g) lies)

  ordered : first_column (layout_of g.layout) (edge_of s) ≤ last_column (layout_of g.layout) (edge_of s)
  ordered = columns_ordered (layout_of g.layout) (edge_of s) lies.proper begins

  -- the need with the edge
  needs_more : (k : ℕ) → k ≡ fragments (layout_of g.layout) (edge_of s) → grid_need (box_of g.intake.extent) g.intake.announced ((grid_meaning g).shown ++ e ∷ []) ≡ g.used + k
  needs_more k f =
      need_push (box_of g.intake.extent) g.intake.announced (grid_meaning g).shown e
      ∙ ap (λ (n : ℕ). n + fragments (layout (box_of g.intake.extent) g.intake.announced) e) (known_need g)
      ∙ ap (λ (x : Edge). g.used + fragments (layout (box_of g.intake.extent) g.intake.announced) x) (sym is)
      ∙ ap (λ (l : Layout). g.used + fragments l (edge_of s)) (sym (known_layout g))
      ∙ ap (λ (n : ℕ). g.used + n) (sym f)

-- the edge over the columns is the edge
module _ (t : LaidEdge) (g : GridLayout) (s : XSegment) (over : t.layout ≡ g) (same : t.s ≡ s) where
  fragments_of : fragments (layout_of t.layout) (edge_of t.s) ≡ fragments (layout_of g) (edge_of s)
  fragments_of = ap (λ (g : GridLayout). fragments (layout_of g) (edge_of t.s)) over ∙ ap (λ (s : XSegment). fragments (layout_of g) (edge_of s)) same

  laid_of : (i : ℕ) → laid_one (layout_of t.layout) i (edge_of t.s) ≡ laid_one (layout_of g) i (edge_of s)
  laid_of i = ap (λ (g : GridLayout). laid_one (layout_of g) i (edge_of t.s)) over ∙ ap (λ (s : XSegment). laid_one (layout_of g) i (edge_of s)) same

-- the meaning with one more edge
shown_after : (g : FragmentBuffer) (e : Edge) (table : List Fragment) (used : ℕ) → edges_in (layout_of g.layout) (contents (take used table)) ≡ (grid_meaning g).shown ++ e ∷ []
    → walking? g.state ≡ false → length table ≡ length g.fragments.now
    → ◌≡◌ {A = Meaning}
    (record { box = box_of g.intake.extent; announced = g.intake.announced; shown = edges_in (layout_of g.layout) (contents (take used table)); coming = coming_pairs (layout_of g.layout) (contents (take used table)) g.state; walking = walking? g.state; capacity = min (length table) most_fragments })
    (with_shown e (grid_meaning g))
shown_after g e table used s w k = λ i. record {
  box = box_of g.intake.extent;
  announced = g.intake.announced;
  shown = s i;
  coming = (known_idle g (contents (take used table)) w ∙ sym (known_idle g (contents (take g.used g.fragments.now)) w)) i;
  walking = walking? g.state;
  capacity = ap (λ (n : ℕ). min n most_fragments) k i;
}

pub returns-in_err-s : goal.returns-in_err-s
returns-in_err-s c =
    let g = c.args.self.now in
    let e : Edge = record { a = plain_point c.args.a; b = plain_point c.args.b } in
    let p = err_from_is_err_and c.from_residual.result c.from_residual.ensures.1 in
    let r = refusal_early grid_need (grid_meaning g) e _ (at_shown g c.is_walking.result e _ c.is_walking.ensures c.in_err-s.ensures) in
    record { answers = p.1 ∙ ap Err p.2 ∙ sym (ap show_answer r); leaves = sym (ap (λ x. show_after x e (grid_meaning g)) r) }

pub new-laid-requires : goal.new-laid-requires
new-laid-requires c =
    let g = c.args.self.now in
    let e : Edge = record { a = plain_point c.args.a; b = plain_point c.args.b } in
    let w = c.in_ok-s.ensures in
    record { begins = begins g c.is_walking.result c.in_ok-s.s e w.0 w.1; few = few g c.is_walking.result c.in_ok-s.s e w.0 w.1 }

pub overflow_sub-capacity : goal.overflow_sub-capacity
overflow_sub-capacity c = omega (arith, known_room c.args.self.now, c.min-capacity.ensures)

pub returns-then-capacity-self : goal.returns-then-capacity-self
returns-then-capacity-self c =
    let g = c.args.self.now in
    let e : Edge = record { a = plain_point c.args.a; b = plain_point c.args.b } in
    let w = c.in_ok-s.ensures in
    let k = c.count-count.ensures ∙ fragments_of c.new-laid.result g.layout c.in_ok-s.s c.new-laid.ensures.over c.new-laid.ensures.edge in
    let n = needs_more g c.is_walking.result c.in_ok-s.s e w.0 w.1 c.count-count.result k in
    let r = refusal_full grid_need (grid_meaning g) e (at_shown g c.is_walking.result e None c.is_walking.ensures w.0) (omega (arith, n, known_room g, c.min-capacity.ensures, c.if-capacity-self.true)) in
    record { answers = sym (ap show_answer r ∙ ap (λ k. Err (FinderFull k)) (known_shown g)); leaves = sym (ap (λ x. show_after x e (grid_meaning g)) r) }

-- ---- the places behind those in use
module _ (used count : ℕ) (table : List Fragment) (room : used + count ≤ length table) where
  part_long : length (take (used + count - used) (drop used table)) ≡ count
  part_long = omega (arith, length-take (used + count - used) (drop used table), length-drop used table)

  module _ (places : List Fragment) (long : length places ≡ length (take (used + count - used) (drop used table))) where
    same_long : length (put_mid used (used + count - used) table places) ≡ length table
    same_long = same_len_mid used (used + count - used) table places long

    laid_behind : (ms : List Content) → contents places ≡ ms → contents (take (used + count) (put_mid used (used + count - used) table places)) ≡ contents (take used table) ++ ms
    laid_behind ms is =
        ap contents (take-put_mid used (used + count - used) table places (used + count) (omega (arith, long, part_long)) (omega (arith, room)))
        ∙ map-append content (take used table) places ∙ ap (λ (ns : List Content). contents (take used table) ++ ns) is

pub invariant_of-self : goal.invariant_of-self
invariant_of-self c =
    let g = c.args.self.now in
    let e : Edge = record { a = plain_point c.args.a; b = plain_point c.args.b } in
    let w = c.in_ok-s.ensures in
    let b = c.is_walking.result in
    let s = c.in_ok-s.s in
    let k = c.count-count.result in
    let room : g.used + k ≤ min (length g.fragments.now) most_fragments = omega (arith, known_room g, c.min-capacity.ensures, c.if-capacity-self.false) in
    let few : g.used + k ≤ length g.fragments.now = omega arith in
    let long = same_long g.used k g.fragments.now few c.lay.new.places c.lay.auto.places in
    let laid = laid_behind g.used k g.fragments.now few c.lay.new.places c.lay.auto.places _ (c.lay.ensures ∙ laid_of c.new-laid.result g.layout s c.new-laid.ensures.over c.new-laid.ensures.edge g.intake.shown) in
    record {
      sound = ∥∥₁_map g.sound (λ t.
          sound_more (edge_of s) k t (sym c.is_walking.ensures ∙ (passed g b s e w.0 w.1).filling)
          (passed g b s e w.0 w.1).below (lies g b s e w.0 w.1) (ordered g b s e w.0 w.1) (omega (arith, room, long)) laid);
    }

pub returns : goal.returns
returns c =
    let g = c.args.self.now in
    let e : Edge = record { a = plain_point c.args.a; b = plain_point c.args.b } in
    let w = c.in_ok-s.ensures in
    let b = c.is_walking.result in
    let s = c.in_ok-s.s in
    let k = c.count-count.result in
    let few : g.used + k ≤ length g.fragments.now = omega (arith, known_room g, c.min-capacity.ensures, c.if-capacity-self.false) in
    let laid = laid_behind g.used k g.fragments.now few c.lay.new.places c.lay.auto.places _ (c.lay.ensures ∙ laid_of c.new-laid.result g.layout s c.new-laid.ensures.over c.new-laid.ensures.edge g.intake.shown) in
    let n = needs_more g b s e w.0 w.1 k (c.count-count.ensures ∙ fragments_of c.new-laid.result g.layout s c.new-laid.ensures.over c.new-laid.ensures.edge) in
    let r = refusal_none grid_need (grid_meaning g) e (at_shown g b e None c.is_walking.ensures w.0) (omega (arith, n, known_room g, c.min-capacity.ensures, c.if-capacity-self.false)) in
    let p = sym c.is_walking.ensures ∙ (passed g b s e w.0 w.1).filling in
    let shown = edges_more (layout_of g.layout) (contents (take g.used g.fragments.now)) _ g.intake.shown (edge_of s) (ordered g b s e w.0 w.1) laid ∙ ap (λ (x : Edge). (grid_meaning g).shown ++ x ∷ []) w.1 in
    record {
      answers = sym (ap show_answer r);
      leaves = shown_after g e _ (g.used + k) shown p (same_long g.used k g.fragments.now few c.lay.new.places c.lay.auto.places) ∙ sym (ap (λ x. show_after x e (grid_meaning g)) r);
    }
