-- A walk from state to state: what a search through columns and borders makes of the pairs to come.
use Rattle.std.proofs.Common.{◌≡◌, ℕ, true, List, ◌++◌, get_or, take, Some, None, Option, sym, refl, ap, ◌∙◌, arith}
use Rattle.std.specs.List.{range_with_len, flat_map}
use Rattle.finder.specs.Finders.{Pair, first, rest}
use Rattle.grid.specs.Layouts.{Layout}
use Rattle.grid.specs.declared.fragment.Fragment.{Fragment}
use Rattle.grid.specs.declared.cursor.Cursor.{Cursor}
use Rattle.grid.specs.declared.cursor.Found.{Found}
use Rattle.grid.specs.declared.cursor.Step.{Step}
use Rattle.grid.specs.declared.cursor.Stage.TheVariants.{Columns, Borders}
use Rattle.grid.specs.declared.cursor.WalkState.{WalkState}
use Rattle.grid.specs.declared.cursor.WalkState.TheVariants.{Filling, Column, Border, Done}
use Rattle.grid.specs.Tables.{Content, contents, Linked, limit, stage_pairs, walking?, Begun, Finds, coming_pairs, ready_pairs, Started, Stepped, Walked}
use Rattle.grid.proofs.Cursors.{begun_all}

module _ (qs : List Fragment) (heads : List (Option ℕ)) (l : Layout) (w : Linked qs heads) where
  border_all : List Pair
  border_all = flat_map (stage_pairs l Borders (contents qs)) (range_with_len 0 (limit Borders))

  pub started : (at : Cursor) → Begun l Columns (contents qs) 0 (get_or heads 0 None) at → Started qs l (Column at)
  unfolding coming_pairs border_all
  started at b = record { comes = ap (λ (ps : List Pair). ps ++ border_all) (begun_all qs heads w l Columns 0 at (omega arith) b); stands = b.placed; walks = refl }

  pub column_some : (at : Cursor) (f : Found) → Finds l Columns (contents qs) at (Some f) → Stepped qs l (Column at) (record { state = Column f.at; pair = Some f.pair })
  unfolding coming_pairs border_all
  column_some at f (p, e) =
      let s = ap (λ (ps : List Pair). ps ++ border_all) e in
      record { gives = sym (ap first s); leaves = sym (ap rest s); stands = p; walks = refl }

  -- no column has more: the borders begin
  pub column_none : (at next : Cursor) (step : Step) → Finds l Columns (contents qs) at None → Begun l Borders (contents qs) 0 (get_or heads 1 None) next → Stepped qs l (Border next) step → Stepped qs l (Column at) step
  unfolding coming_pairs border_all
  column_none at next step e b s = record { gives = s.gives ∙ ap first same; leaves = s.leaves ∙ ap rest same; stands = s.stands; walks = s.walks }
    where
      same : coming_pairs l (contents qs) (Border next) ≡ coming_pairs l (contents qs) (Column at)
      same = begun_all qs heads w l Borders 0 next (omega arith) b ∙ sym (ap (λ (ps : List Pair). ps ++ border_all) e)

pub border_some : (qs : List Fragment) (l : Layout) (at : Cursor) (f : Found) → Finds l Borders (contents qs) at (Some f) → Stepped qs l (Border at) (record { state = Border f.at; pair = Some f.pair })
unfolding coming_pairs
border_some qs l at f (p, e) = record { gives = sym (ap first e); leaves = sym (ap rest e); stands = p; walks = refl }

pub border_none : (qs : List Fragment) (l : Layout) (at : Cursor) → Finds l Borders (contents qs) at None → Stepped qs l (Border at) (record { state = Done; pair = None })
unfolding coming_pairs
border_none qs l at e = record { gives = sym (ap first e); leaves = sym (ap rest e); stands = tt; walks = refl }

-- nothing more
pub over : (qs : List Fragment) (l : Layout) → Stepped qs l Done (record { state = Done; pair = None })
unfolding coming_pairs
over qs l = record { gives = refl; leaves = refl; stands = tt; walks = refl }

-- ---- a call of a walk
pub walked_begun : (used : ℕ) (l : Layout) (entry exit : List Fragment) (heads : List (Option ℕ)) (begun : WalkState) (step : Step) → contents (take used exit) ≡ contents (take used entry)
    → Linked (take used exit) heads → Started (take used exit) l begun → Stepped (take used exit) l begun step → Walked used l Filling entry exit heads step
unfolding ready_pairs
walked_begun used l entry exit heads begun step e w a b = record {
  same = e;
  gives = b.gives ∙ ap first ready;
  leaves = b.leaves ∙ ap rest ready;
  stands = record { linked = λ t. w; stands = b.stands };
  walks = b.walks;
}
  where
    ready : coming_pairs l (contents (take used exit)) begun ≡ ready_pairs l (contents (take used entry)) Filling
    ready = a.comes ∙ ap (λ (ms : List Content). ready_pairs l ms Filling) e

pub walked_on : (used : ℕ) (l : Layout) (table : List Fragment) (heads : List (Option ℕ)) (state : WalkState) (step : Step) → (state ≡ Filling → ⊥) → Linked (take used table) heads
    → Stepped (take used table) l state step → Walked used l state table table heads step
unfolding ready_pairs
walked_on used l table heads state step n w b = record {
  same = refl;
  gives = b.gives ∙ ap first (ready state n);
  leaves = b.leaves ∙ ap rest (ready state n);
  stands = record { linked = λ t. w; stands = b.stands };
  walks = b.walks;
}
  where
    ready : (state : WalkState) → (state ≡ Filling → ⊥) → coming_pairs l (contents (take used table)) state ≡ ready_pairs l (contents (take used table)) state
    ready Filling n = absurd (n refl)
    ready (Column at) n = refl
    ready (Border at) n = refl
    ready Done n = refl

-- a walk that is not to begin anew is on
pub walks_on : (state : WalkState) → (state ≡ Filling → ⊥) → walking? state ≡ true
walks_on Filling n = absurd (n refl)
walks_on (Column at) n = refl
walks_on (Border at) n = refl
walks_on Done n = refl
