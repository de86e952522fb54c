-- The worked sheets compute.
use Rattle.std.proofs.Common.{◌≡◌, zero, suc, ◌+◌, ◌≤◌, Bool, true, false, ◌||◌, ◌↔◌, List, [], ◌∷◌, length, Err, sym, refl, ap, ◌∙◌, subst, arith, lit<, lit≤, length-take}
use mathlib.Core.Bool.{false≢true}
use lib.Signed.{le_z_yes, lt_z_yes}
use Rattle.std.specs.Ordering.{is_eq}
use Rattle.std.specs.List.{AllByRecursion}
use Rattle.table.specs.Listings.{Reordered, same, swap, then}
use Rattle.plane.specs.Edges.{Edge}
use Rattle.plane.specs.Rounding.{taken}
use Rattle.plane.specs.Rules.{overlaid, end_marked, snapped, inner_marked, marking, marked_on, rounded?}
use Rattle.plane.specs.declared.fault.Fault.TheVariants.{MarksFull, PiecesFull}
use Rattle.plane.proofs.Tests.{before_yes}
use Rattle.finder.specs.Finders.{Pair, Walk}
use Rattle.finder.specs.Boxes.{with_point, edges_box}
use Rattle.finder.specs.Pairs.{all_pairs}
use Rattle.finder.proofs.Rows.{all_walk}
use Rattle.grid.specs.Layouts.{log_to, ilog2, power_of, column}
use Rattle.grid.specs.Rectangles.{last_column}
use Rattle.grid.specs.Grid.{grid_need, grid_pairs}
use Rattle.grid.specs.Tables.{Lies}
use Rattle.grid.proofs.Walks.{grid_walk}
use Rattle.grid.proofs.Worked.{worked}
use Rattle.segm.specs.Balance.{when, counts, count_at}
use Rattle.segm.specs.Booleans.{none_of, sum_of}
use Rattle.segm.specs.BooleanKind.{boolean_kind}
use Rattle.segm.specs.Orders.{edge_order}
use Rattle.segm.specs.MarkKind.{mark_kind}
use Rattle.segm.specs.Marked.{holds?, same_mark?}
use Rattle.segm.specs.Segments.{ends_of}
use Rattle.segm.specs.SegmentKind.{segment_kind}
use Rattle.segm.specs.Spots.{at_one?}
use Rattle.segm.specs.declared.boolean.ShapeCountBoolean.{ShapeCountBoolean}
use Rattle.segm.specs.declared.line_mark.LineMark.{LineMark}
use Rattle.segm.specs.declared.segment.Segment.{Segment}
use Rattle.segm.proofs.Groups.{identity_left}
use Rattle.rounds.specs.Marks.{Told, MarksOf, SomeRounded}
use Rattle.rounds.specs.Pieces.{cut_from}
use Rattle.rounds.specs.Spots.{all_spots, any_rounded?}
use Rattle.rounds.proofs.Apart.{ordered_distinct, segments_sheet}
use Rattle.rounds.proofs.PairMarksTold.{told_exactly, some_exactly}
use Rattle.history.specs.Rounds.{Use, Shown, Round, state_after, exponent_after, marks_full, pieces_full}
use Rattle.history.specs.Sheets.{Lengths, Page, ends, edge_places, mark_places}
use Rattle.sheet.specs.Worked.{segment, edge, once, back, mark, places, pairs_use, grid_use, answer, Cuts, diagonals, DiagonalsCut, sloping, levelled, ending, opposed, WorkedSheets}
use Rattle.sheet.proofs.Tested.{ordered?, in_order, sound?, is_sound, total_reordered}

-- ---- what a round leaves of a sheet that is written out, from the spots of the pairs of any walk
module _ (u : Use) (s : Page ShapeCountBoolean) (sound : sound? boolean_kind s ≡ true)
    (shown : Shown u s) (ps : List Pair) (walk : Walk (ends s) ps)
    (ms : List LineMark) (ordered : ordered? mark_kind ms ≡ true) (spots : (m : LineMark) → holds? ms m ≡ at_one? (all_spots s.exponent (ends s) ps) m)
    (marks_fit : length ms ≤ mark_places s.lengths) (pieces_fit : length s.edges + length ms ≤ edge_places s.lengths)
    (b : Bool) (flag : b ≡ any_rounded? s.exponent (ends s) ps)
    (l : List (Segment ShapeCountBoolean)) (after : ordered? (segment_kind boolean_kind) l ≡ true) where
  told : (m : LineMark) → (at_one? (all_spots s.exponent (ends s) ps) m ≡ true) ↔ Told s.exponent (ends s) m
  told =
      let w = is_sound boolean_kind s sound in
      told_exactly s.exponent (ends s) (segments_sheet boolean_kind s.edges w.proper) (ordered_distinct boolean_kind s.edges w.ordered) ps walk

  some : (any_rounded? s.exponent (ends s) ps ≡ true) ↔ SomeRounded s.exponent (ends s)
  some =
      let w = is_sound boolean_kind s sound in
      some_exactly s.exponent (ends s) (segments_sheet boolean_kind s.edges w.proper) (ordered_distinct boolean_kind s.edges w.ordered) ps walk

  marked : MarksOf s.exponent (ends s) ms
  marked = record { ordered = in_order mark_kind ms ordered; each = λ m. (λ e. (told m).0 (sym (spots m) ∙ e), λ w. spots m ∙ (told m).1 w) }

  cuts : ((e : Edge) → count_at boolean_kind e l ≡ count_at boolean_kind e (cut_from boolean_kind 0 ms s.edges))
      → Cuts u s ms (answer (length ps) (length ms) b) l (state_after (length ms) b) (exponent_after (length ms) s.exponent s.step)
  cuts counts = record {
    marked = marked;
    round = record {
      shown = shown;
      pairs = ps;
      walk = walk;
      taken = refl;
      marks = ms;
      marked = marked;
      marks_fit = marks_fit;
      pieces_fit = pieces_fit;
      number = refl;
      flag = (λ e. some.0 (sym flag ∙ e), λ w. flag ∙ some.1 w);
      list = l;
      cut = record { ordered = in_order (segment_kind boolean_kind) l after; each = counts };
      leaves = refl;
    };
  }

  -- no two pieces have the same ends
  cuts_apart : Reordered l (cut_from boolean_kind 0 ms s.edges)
      → Cuts u s ms (answer (length ps) (length ms) b) l (state_after (length ms) b) (exponent_after (length ms) s.exponent s.step)
  cuts_apart r = cuts (λ e. total_reordered boolean_kind (counts boolean_kind e) r)

pairs_shown : (s : Page ShapeCountBoolean) → length (ends s) ≤ 4096 → Shown pairs_use s
pairs_shown s few j h = omega (arith, length-take (j + 1) (ends s))

-- ---- the diagonals
diagonals_cut : (n : Lengths) → sound? boolean_kind (diagonals n) ≡ true → 2 ≤ mark_places n → 4 ≤ edge_places n → DiagonalsCut n
unfolding taken overlaid end_marked snapped inner_marked marking marked_on rounded?
diagonals_cut n sound marks pieces =
    cuts_apart pairs_use (diagonals n) sound (pairs_shown (diagonals n) (lit≤ tt)) (all_pairs 2) (all_walk _ (lit≤ tt)) _ refl (λ m. refl) marks pieces false refl _ refl
    (same _ (then (same _ (swap _ _ _)) (swap _ _ _)))

diagonals_marked : MarksOf 0 (ends (diagonals (places 4 2))) (mark 0 4 4 ∷ mark 1 4 4 ∷ [])
diagonals_marked = (diagonals_cut (places 4 2) refl (lit≤ tt) (lit≤ tt)).marked

pieces_refused : Round boolean_kind pairs_use (diagonals (places 3 2)) (diagonals (places 3 2)) (Err PiecesFull)
pieces_refused = (refl, pieces_full (pairs_shown (diagonals (places 3 2)) (lit≤ tt)) (mark 0 4 4 ∷ mark 1 4 4 ∷ []) diagonals_marked (lit≤ tt) (lit< tt))

marks_refused : Round boolean_kind pairs_use (diagonals (places 4 1)) (diagonals (places 4 1)) (Err MarksFull)
marks_refused = (
  refl,
  marks_full (pairs_shown (diagonals (places 4 1)) (lit≤ tt)) (record {
    held = mark 0 4 4 ∷ [];
    ordered = in_order mark_kind (mark 0 4 4 ∷ []) refl;
    many = refl;
    each = λ m h. (diagonals_marked.each m).0 (more (same_mark? m (mark 0 4 4)) (same_mark? m (mark 1 4 4)) h);
    another = mark 1 4 4;
    new = refl;
    told = (diagonals_marked.each (mark 1 4 4)).0 refl;
  }),
)
  where
    more : (b c : Bool) → (b || false) ≡ true → (b || (c || false)) ≡ true
    more true c h = refl
    more false c h = absurd (false≢true h)

-- ---- an end inside a vertical
ending_pairs : grid_pairs (edges_box (ends ending)) 3 (ends ending) ≡ (0, 2) ∷ []
unfolding with_point
ending_pairs = worked.at_border

ending_lies : AllByRecursion (Lies (edges_box (ends ending))) (ends ending)
unfolding with_point
ending_lies = (
  record { proper = before_yes _ _ refl; begins = le_z_yes tt; ends = le_z_yes tt },
  (
    record { proper = before_yes _ _ refl; begins = le_z_yes tt; ends = le_z_yes tt },
    (record { proper = before_yes _ _ refl; begins = le_z_yes tt; ends = le_z_yes tt }, tt),
  ),
)

ending_walk : Walk (ends ending) ((0, 2) ∷ [])
unfolding with_point
ending_walk = subst (Walk (ends ending)) ending_pairs (grid_walk (edges_box (ends ending)) 3 (ends ending) (lit≤ tt) (lit≤ tt) (lt_z_yes tt) ending_lies)

ending_shown : Shown grid_use ending
unfolding log_to ilog2 power_of column last_column grid_need with_point
ending_shown zero h = lit≤ tt
ending_shown (suc zero) h = lit≤ tt
ending_shown (suc (suc zero)) h = lit≤ tt
ending_shown (suc (suc (suc j))) h = absurd (omega (arith, h))

-- ---- counts against each other
opposite : (b : Bool) (c : ShapeCountBoolean) → c ≡ sum_of (when boolean_kind b once) (sum_of (when boolean_kind b back) c)
opposite true c = sym (identity_left boolean_kind c) ∙ boolean_kind.assoc once back c
opposite false c = sym (identity_left boolean_kind (sum_of none_of c) ∙ identity_left boolean_kind c)

pub worked_sheets : WorkedSheets
unfolding taken overlaid end_marked snapped inner_marked marking marked_on rounded?
worked_sheets = record {
  crossed = diagonals_cut (places 16 16) refl (lit≤ tt) (lit≤ tt);
  far =
      cuts_apart pairs_use (sloping 0) refl (pairs_shown (sloping 0) (lit≤ tt)) (all_pairs 3) (all_walk _ (lit≤ tt)) _ refl (λ m. refl) (lit≤ tt) (lit≤ tt) true refl _ refl
      (same _ (then (same _ (then (swap _ _ _) (then (same _ (swap _ _ _)) (swap _ _ _)))) (swap _ _ _)));
  near =
      cuts_apart pairs_use (sloping 5) refl (pairs_shown (sloping 5) (lit≤ tt)) (all_pairs 3) (all_walk _ (lit≤ tt)) _ refl (λ m. refl) (lit≤ tt) (lit≤ tt) true refl _ refl
      (same _ (swap _ _ _));
  cut_off =
      cuts_apart pairs_use levelled refl (pairs_shown levelled (lit≤ tt)) (all_pairs 2) (all_walk _ (lit≤ tt)) _ refl (λ m. refl) (lit≤ tt) (lit≤ tt) true refl _ refl
      (same _ (then (same _ (swap _ _ _)) (swap _ _ _)));
  at_border =
      (ending_pairs, cuts grid_use ending refl ending_shown ((0, 2) ∷ []) ending_walk _ refl (λ m. refl) (lit≤ tt) (lit≤ tt) false refl _ refl (λ e. refl));
  vanished =
      cuts pairs_use opposed refl (pairs_shown opposed (lit≤ tt)) (all_pairs 2) (all_walk _ (lit≤ tt)) _ refl (λ m. refl) (lit≤ tt) (lit≤ tt) false refl _ refl
      (λ e. ap (sum_of (counts boolean_kind e (edge 0 0 2 0))) (opposite (is_eq (edge_order e (ends_of (edge 2 0 6 0)))) (count_at boolean_kind e (segment back 6 0 9 0 ∷ []))));
  grids = worked;
  rooms = (diagonals_cut (places 4 2) refl (lit≤ tt) (lit≤ tt), pieces_refused, marks_refused);
}
