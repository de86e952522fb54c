-- What is known of a grid from what its table holds.
use Rattle.std.proofs.Common.{◌≡◌, ℕ, suc, ◌+◌, ◌^◌, ◌<◌, ◌≤◌, min, false, cond, List, [], ◌∷◌, ◌++◌, length, take, Option, ℤ, pos, ◌<ℤ◌, filter, sym, refl, ap, ◌∙◌, subst, zero-add, arith, length-take}
use mathlib.Core.Bool.{false≢true}
use mathlib.Core.HLevel.{Π_prop, →_prop, ×_prop, Σ_set}
use mathlib.Core.Logic.{∥∥₁_elim, ∥∥₁_prop}
use mathlib.Core.List.{is_set}
use native.Mathlib.Bridge.{le_prop}
use native.Mathlib.Nat.{ℕ_set}
use lib.Dec.{T_prop}
use lib.IntN.{ℤ_set}
use lib.Signed.{lt_z}
use Rattle.std.specs.List.{range_with_len, flat_map, AllByRecursion}
use Rattle.std.proofs.ByRecursion.{All-get_or, All-push, All-weaker}
use Rattle.std.proofs.lemmas.List.{length-map, length_push}
use Rattle.std.proofs.lemmas.List.Sums.{sum_by_push}
use Rattle.plane.specs.Edges.{Edge}
use Rattle.finder.specs.Finders.{Pair, Box, Walk, MayCome, box_of}
use Rattle.grid.specs.Layouts.{Layout, layout, width, border, most_columns}
use Rattle.grid.specs.Rectangles.{first_column, last_column, fragments}
use Rattle.grid.specs.Grid.{Part, on_border?, ends_inside?, parts, pairs_with, pairs_among, grid_need, column_pairs, border_pairs, grid_pairs}
use Rattle.grid.specs.declared.fragment.Fragment.{Fragment}
use Rattle.grid.specs.declared.cursor.Stage.TheVariants.{Columns, Borders}
use Rattle.grid.specs.declared.cursor.WalkState.{WalkState}
use Rattle.grid.specs.declared.cursor.WalkState.TheVariants.{Filling, Column, Border, Done}
use Rattle.grid.specs.declared.fragment_buffer.FragmentBuffer.{FragmentBuffer}
use Rattle.grid.specs.Models.{layout_of}
use Rattle.grid.specs.Meanings.{grid_meaning, grid_walks}
use Rattle.grid.specs.Tables.{Lies, Content, content, contents, blank_content, listed, edges_in, laid_one, laid, Narrow, most_fragments, limit, tail_pairs, stage_pairs, walking?, coming_pairs, ready_pairs, Stands, Standing, Sound}
use Rattle.grid.proofs.Columns.{layout_ext}
use Rattle.grid.specs.Facts.{standing_prop}
use Rattle.grid.proofs.Laid.{listed_laid, length_laid, laid_push, edges_append, edges_one, laid_below}
use Rattle.grid.proofs.Placing.{last_few}
use Rattle.grid.proofs.Walks.{grid_walk}

pub sound_empty : {table : List Fragment} {shown n : ℕ} {b : Box} {l : Layout} {heads : List (Option ℕ)} → shown ≡ 0 → n ≤ 4096 → width b <ℤ pos (2 ^ 32) → l ≡ layout b n → Sound table 0 shown n b l heads Filling
unfolding edges_in laid
sound_empty z h w e = record { room = omega arith; holds = refl; counts = sym z; below = omega (arith, z); few = h; wide = w; layout_is = e; lies = tt; stands = record { linked = λ t. absurd (false≢true t); stands = tt } }

-- ---- one more edge
idle_pairs : (l : Layout) (ms : List Content) (state : WalkState) → walking? state ≡ false → coming_pairs l ms state ≡ []
unfolding coming_pairs
idle_pairs l ms Filling e = refl
idle_pairs l ms (Column at) e = absurd (false≢true (sym e))
idle_pairs l ms (Border at) e = absurd (false≢true (sym e))
idle_pairs l ms Done e = absurd (false≢true (sym e))

idle_stands : (ms : List Content) (state : WalkState) → walking? state ≡ false → Stands ms state
idle_stands ms Filling e = tt
idle_stands ms (Column at) e = absurd (false≢true (sym e))
idle_stands ms (Border at) e = absurd (false≢true (sym e))
idle_stands ms Done e = tt

pub edges_more : (l : Layout) (ms ns : List Content) (i : ℕ) (e : Edge) → first_column l e ≤ last_column l e → ns ≡ ms ++ laid_one l i e → edges_in l ns ≡ edges_in l ms ++ e ∷ []
edges_more l ms ns i e h s = ap (edges_in l) s ∙ edges_append l ms (laid_one l i e) ∙ ap (λ (es : List Edge). edges_in l ms ++ es) (edges_one l i e h)

pub sound_more : {table table' : List Fragment} {used shown n : ℕ} {b : Box} {l : Layout} {heads : List (Option ℕ)} {state : WalkState} (e : Edge) (k : ℕ)
    → Sound table used shown n b l heads state → walking? state ≡ false → shown < n → Lies b e → first_column l e ≤ last_column l e → used + k ≤ min (length table') most_fragments
    → contents (take (used + k) table') ≡ contents (take used table) ++ laid_one l shown e → Sound table' (used + k) (shown + 1) n b l heads state
sound_more {table} {table'} {used} {shown} {n} {b} {l} {heads} {state} e k s idle few w o room is = record {
  room = room;
  holds = is ∙ ap (λ (ms : List Content). ms ++ laid_one l shown e) s.holds ∙ ap (λ (i : ℕ). laid l 0 es ++ laid_one l i e) (sym s.counts ∙ sym (zero-add (length es))) ∙ sym (laid_push l 0 es e) ∙ ap (laid l 0) (sym more);
  counts = ap length more ∙ length_push es e ∙ ap (λ (i : ℕ). i + 1) s.counts;
  below = omega arith;
  few = s.few;
  wide = s.wide;
  layout_is = s.layout_is;
  lies = subst (λ (es : List Edge). AllByRecursion (Lies b) es) (sym more) (All-push (Lies b) es e s.lies w);
  stands = record { linked = λ t. absurd (false≢true (sym idle ∙ t)); stands = idle_stands (contents (take (used + k) table')) state idle };
}
  where
    es : List Edge
    es = edges_in l (contents (take used table))

    more : edges_in l (contents (take (used + k) table')) ≡ es ++ e ∷ []
    more = edges_more l (contents (take used table)) (contents (take (used + k) table')) shown e o is

-- ---- a walk changes links alone
pub sound_walked : {table table' : List Fragment} {used shown n : ℕ} {b : Box} {l : Layout} {heads heads' : List (Option ℕ)} {state state' : WalkState}
    → Sound table used shown n b l heads state → contents (take used table') ≡ contents (take used table) → length table' ≡ length table → Standing (take used table') heads' state'
    → Sound table' used shown n b l heads' state'
sound_walked {table} {table'} {used} {shown} {n} {b} {l} s e k stands = record {
  room = omega (arith, s.room);
  holds = e ∙ s.holds ∙ ap (λ (ms : List Content). laid l 0 (edges_in l ms)) (sym e);
  counts = ap (λ (ms : List Content). length (edges_in l ms)) e ∙ s.counts;
  below = s.below;
  few = s.few;
  wide = s.wide;
  layout_is = s.layout_is;
  lies = subst (λ (ms : List Content). AllByRecursion (Lies b) (edges_in l ms)) (sym e) s.lies;
  stands = stands;
}

-- ---- the pairs of what is laid
module _ (l : Layout) (ms : List Content) (es : List Edge) (h : ms ≡ laid l 0 es) where
  laid_parts : (c : ℕ) → listed c ms ≡ parts l es c
  laid_parts c = ap (listed c) h ∙ listed_laid l c 0 es

  column_same : (c : ℕ) → stage_pairs l Columns ms c ≡ column_pairs l es c
  unfolding stage_pairs tail_pairs column_pairs
  column_same c = ap pairs_among (laid_parts c)

  border_same : (c : ℕ) → stage_pairs l Borders ms c ≡ border_pairs l es c
  unfolding stage_pairs tail_pairs border_pairs
  border_same c =
      ap (λ (ps : List Part). flat_map (λ v. pairs_with ends_inside? v ps) (filter (on_border? (border l (suc c))) (listed (suc c) ms))) (laid_parts c)
      ∙ ap (λ (ps : List Part). flat_map (λ v. pairs_with ends_inside? v (parts l es c)) (filter (on_border? (border l (suc c))) ps)) (laid_parts (suc c))

  all_same : flat_map (stage_pairs l Columns ms) (range_with_len 0 (limit Columns)) ++ flat_map (stage_pairs l Borders ms) (range_with_len 0 (limit Borders))
      ≡ flat_map (column_pairs l es) (range_with_len 0 most_columns) ++ flat_map (border_pairs l es) (range_with_len 0 (limit Borders))
  all_same = λ i. flat_map (λ c. column_same c i) (range_with_len 0 most_columns) ++ flat_map (λ c. border_same c i) (range_with_len 0 (limit Borders))

-- ---- a grid
lt_prop : {a b : ℤ} → IsProp (a <ℤ b)
lt_prop {a} {b} x y = λ i. record { lt = T_prop (lt_z a b) x.lt y.lt i }

walk_prop : (es : List Edge) (ps : List Pair) → IsProp (Walk es ps)
walk_prop es ps x y = λ i. record {
  few = le_prop x.few y.few i;
  numbered = Π_prop (λ p. →_prop (×_prop le_prop le_prop)) x.numbered y.numbered i;
  complete = Π_prop (λ a. Π_prop (λ b. →_prop (→_prop (→_prop ∥∥₁_prop)))) x.complete y.complete i;
}

module _ (g : FragmentBuffer) where
  pub known_layout : layout_of g.layout ≡ layout (box_of g.intake.extent) g.intake.announced
  known_layout = layout_ext
      (∥∥₁_elim g.sound (ℤ_set _ _) (λ s. ap (λ (l : Layout). l.left) s.layout_is))
      (∥∥₁_elim g.sound (ℕ_set _ _) (λ s. ap (λ (l : Layout). l.power) s.layout_is))

  pub known_shown : length (grid_meaning g).shown ≡ g.intake.shown
  known_shown = ∥∥₁_elim g.sound (ℕ_set _ _) (λ s. s.counts)

  pub known_room : g.used ≤ (grid_meaning g).capacity
  known_room = ∥∥₁_elim g.sound le_prop (λ s. s.room)

  pub known_few : g.intake.announced ≤ 4096
  known_few = ∥∥₁_elim g.sound le_prop (λ s. s.few)

  pub known_below : g.intake.shown ≤ g.intake.announced
  known_below = ∥∥₁_elim g.sound le_prop (λ s. s.below)

  pub known_wide : width (box_of g.intake.extent) <ℤ pos (2 ^ 32)
  known_wide = ∥∥₁_elim g.sound lt_prop (λ s. s.wide)

  pub known_standing : Standing (take g.used g.fragments.now) g.heads g.state
  known_standing = ∥∥₁_elim g.sound (standing_prop (take g.used g.fragments.now) g.heads g.state) (λ s. s.stands)

  pub known_need : grid_need (box_of g.intake.extent) g.intake.announced (grid_meaning g).shown ≡ g.used
  unfolding grid_need
  known_need = ∥∥₁_elim g.sound (ℕ_set _ _) go
    where
      go : Sound g.fragments.now g.used g.intake.shown g.intake.announced (box_of g.intake.extent) (layout_of g.layout) g.heads g.state
          → grid_need (box_of g.intake.extent) g.intake.announced (grid_meaning g).shown ≡ g.used
      go s =
          sym (length_laid (layout (box_of g.intake.extent) g.intake.announced) 0 (grid_meaning g).shown)
          ∙ ap (λ (l : Layout). length (laid l 0 (grid_meaning g).shown)) (sym s.layout_is)
          ∙ sym (ap length s.holds) ∙ length-map (take g.used g.fragments.now) content ∙ length-take g.used g.fragments.now ∙ omega (arith, s.room)

  pub known_pairs : flat_map (stage_pairs (layout_of g.layout) Columns (contents (take g.used g.fragments.now))) (range_with_len 0 (limit Columns))
      ++ flat_map (stage_pairs (layout_of g.layout) Borders (contents (take g.used g.fragments.now))) (range_with_len 0 (limit Borders))
      ≡ grid_pairs (box_of g.intake.extent) g.intake.announced (grid_meaning g).shown
  unfolding grid_pairs
  known_pairs = ∥∥₁_elim g.sound (is_set (Σ_set ℕ_set (λ _. ℕ_set)) _ _) (λ s.
      all_same (layout_of g.layout) (contents (take g.used g.fragments.now)) (grid_meaning g).shown s.holds
      ∙ ap (λ (l : Layout). flat_map (column_pairs l (grid_meaning g).shown) (range_with_len 0 most_columns) ++ flat_map (border_pairs l (grid_meaning g).shown) (range_with_len 0 (limit Borders))) s.layout_is)

  pub known_walk : Walk (grid_meaning g).shown (grid_pairs (box_of g.intake.extent) g.intake.announced (grid_meaning g).shown)
  known_walk = ∥∥₁_elim g.sound (walk_prop _ _) (λ s.
      grid_walk (box_of g.intake.extent) g.intake.announced (grid_meaning g).shown s.few (omega (arith, s.counts, s.below)) s.wide s.lies)

  pub known_narrow : Narrow (contents (take g.used g.fragments.now))
  known_narrow = ∥∥₁_elim g.sound (Π_prop (λ k. →_prop le_prop)) (λ s k h.
      All-get_or (λ (q : Content). q.column < most_columns) (contents (take g.used g.fragments.now)) k blank_content h
      (subst (λ (ms : List Content). AllByRecursion (λ q. q.column < most_columns) ms) (sym s.holds)
      (laid_below (layout_of g.layout) 0 most_columns (grid_meaning g).shown
      (All-weaker (Lies (box_of g.intake.extent)) (λ e. last_column (layout_of g.layout) e < most_columns) (λ e l.
      subst (λ (l : Layout). last_column l e < most_columns) (sym s.layout_is) (last_few (box_of g.intake.extent) g.intake.announced e s.few s.wide l))
      (grid_meaning g).shown s.lies))))

  -- what a walk may give
  pub may_come : MayCome grid_walks (grid_meaning g) (ready_pairs (layout_of g.layout) (contents (take g.used g.fragments.now)) g.state)
  unfolding ready_pairs
  may_come = go g.state
    where
      go : (st : WalkState)
          → cond (walking? st) (coming_pairs (layout_of g.layout) (contents (take g.used g.fragments.now)) st ≡ ready_pairs (layout_of g.layout) (contents (take g.used g.fragments.now)) st)
          (grid_walks (box_of g.intake.extent) g.intake.announced (grid_meaning g).shown (ready_pairs (layout_of g.layout) (contents (take g.used g.fragments.now)) st)
          × Walk (grid_meaning g).shown (ready_pairs (layout_of g.layout) (contents (take g.used g.fragments.now)) st))
      go Filling = (known_pairs, subst (λ (ps : List Pair). Walk (grid_meaning g).shown ps) (sym known_pairs) known_walk)
      go (Column at) = refl
      go (Border at) = refl
      go Done = refl

  -- with a walk not begun, nothing comes
  pub known_idle : (ms : List Content) → walking? g.state ≡ false → coming_pairs (layout_of g.layout) ms g.state ≡ []
  known_idle ms e = idle_pairs (layout_of g.layout) ms g.state e

-- the need grows with the fragments of the edge
pub need_push : (b : Box) (n : ℕ) (es : List Edge) (e : Edge) → grid_need b n (es ++ e ∷ []) ≡ grid_need b n es + fragments (layout b n) e
unfolding grid_need
need_push b n es e = sum_by_push (λ e. fragments (layout b n) e) es e
