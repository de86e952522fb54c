use Rattle.std.proofs.Common.{◌≡◌, ℕ, ◌≤◌, min, List, ◌++◌, length, take, sym, ap, ◌∙◌, subst, arith, length-take}
use borrow.Rule.Slice.PartMut.{post_of}
use Rattle.std.proofs.lemmas.List.{take_at}
use Rattle.grid.specs.declared.cursor.WalkState.{WalkState}
use Rattle.grid.specs.declared.fragment.Fragment.{Fragment}
use Rattle.grid.specs.Models.{layout_of}
use Rattle.grid.specs.Tables.{contents, most_fragments, Linked, Walked}
use Rattle.grid.proofs.Steps.{walked_begun, walked_on, walks_on}
use Rattle.grid.proofs.fragment_buffer.methods.walk.Goals as goal

-- the part of the table that is used, linked, and what stands behind it
part_is : (used : ℕ) (table part behind : List Fragment) → used ≤ min (length table) most_fragments → length part ≡ length (take used table) → take used (part ++ behind) ≡ part
part_is used table part behind h e = take_at part behind used (omega (arith, length-take used table))

pub returns-in-Filling : goal.returns-in-Filling
returns-in-Filling c =
    let used = c.args.used in
    let entry = c.args.fragments.now in
    let exit : List Fragment = c.link.new.fragments ++ post_of 0 used entry in
    let l = layout_of c.args.layout in
    let p = part_is used entry c.link.new.fragments (post_of 0 used entry) c.requires.room c.link.auto.fragments in
    let same : contents (take used exit) ≡ contents (take used entry) = ap contents p ∙ c.link.ensures.same in
    let linked : Linked (take used exit) c.link.result = subst (λ (qs : List Fragment). Linked qs c.link.result) (sym p) c.link.ensures.linked in
    subst (λ (state : WalkState). Walked used l state entry exit c.link.result c.step.result) (sym c.in-Filling.is)
    (walked_begun used l entry exit c.link.result c.first_state.result c.step.result same linked c.first_state.ensures c.step.ensures)

pub returns : goal.returns
returns c =
    walked_on c.args.used (layout_of c.args.layout) c.args.fragments.now c.args.heads.now c.args.state c.step-2.result c.in_default.not-Filling
    (c.requires.stands.linked (walks_on c.args.state c.in_default.not-Filling)) c.step-2.ensures
