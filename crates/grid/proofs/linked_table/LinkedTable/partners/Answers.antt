use Rattle.std.proofs.Common.{◌≡◌, ℕ, suc, ◌+◌, ◌^◌, ◌<◌, Bool, List, Some, None, length, get_or, ℤ, sym, ap, ◌∙◌, subst, add-one, arith, w64, to_z, of_z}
use lib.Signed.{mag}
use Rattle.std.proofs.lemmas.List.{length-map}
use Rattle.std.proofs.lemmas.Int.{to_z-of_z}
use Rattle.plane.specs.Models.{edge_of}
use Rattle.grid.specs.Layouts.{Layout, border}
use Rattle.grid.specs.Rectangles.{stands_at?}
use Rattle.grid.specs.Grid.{on_border?}
use Rattle.grid.specs.declared.cursor.Stage.{Stage}
use Rattle.grid.specs.declared.fragment.Fragment.{Fragment}
use Rattle.grid.specs.Models.{layout_of}
use Rattle.grid.specs.Tables.{Content, content, contents, blank_content, Names, first_of, limit, Partnered}
use Rattle.grid.proofs.Links.{content_at}
use Rattle.grid.proofs.Cursors.{partnered_columns, partnered_border, partnered_none}
use Rattle.grid.proofs.linked_table.LinkedTable.partners.Goals as goal

-- the test of a vertical on the border, as the code makes it
tested : (l : Layout) (qs : List Fragment) (c i : ℕ) (q : Fragment) (z : ℤ) (b : Bool) → i < length qs → mag z < 2 ^ 63 → z ≡ border l (c + 1)
    → b ≡ stands_at? (to_z w64 (of_z w64 z)) (edge_of (get_or qs i q).x_segment) → on_border? (border l (suc c)) (get_or (contents qs) i blank_content).part ≡ b
tested l qs c i q z b h f is t =
    ap (λ (m : Content). stands_at? (border l (suc c)) m.part.edge) (content_at qs i q h)
    ∙ ap (λ (x : ℤ). stands_at? x (edge_of (get_or qs i q).x_segment)) (ap (border l) (sym (add-one c)) ∙ sym is ∙ sym (to_z-of_z w64 z (record { sfits = f })))
    ∙ sym t

pub returns-in-Columns : goal.returns-in-Columns
returns-in-Columns c =
    let qs = c.args.self.now.table.now in
    let s = c.in-Columns.is in
    subst (λ (stage : Stage). Partnered (layout_of c.args.self.now.layout) stage (contents qs) c.args.column c.args.first (get_or qs c.args.first c.index-self-first.result).next) (sym s)
    (partnered_columns qs c.args.self.now.heads.now c.args.self.now.linked (layout_of c.args.self.now.layout) c.args.column c.args.first c.index-self-first.result
    (subst (λ (stage : Stage). Names (contents qs) (first_of stage c.args.column) (Some c.args.first)) s c.requires.named))

pub returns-then-stands_at : goal.returns-then-stands_at
returns-then-stands_at c =
    let qs = c.args.self.now.table.now in
    let l = layout_of c.args.self.now.layout in
    let s = c.in-Borders.is in
    let k = subst (λ (stage : Stage). c.args.column < limit stage) s c.requires.few in
    let h : c.args.first < length qs = omega (arith, c.requires.named.0, length-map qs content) in
    subst (λ (stage : Stage). Partnered l stage (contents qs) c.args.column c.args.first (get_or c.args.self.now.heads.now c.args.column None)) (sym s)
    (partnered_border qs c.args.self.now.heads.now c.args.self.now.linked l c.args.column c.args.first (omega arith)
    (tested l qs c.args.column c.args.first c.index-self-first.result c.pos.result c.stands_at.result h c.pos.type_inv c.pos.ensures c.stands_at.ensures ∙ c.if-stands_at.true))

pub returns-else-stands_at : goal.returns-else-stands_at
returns-else-stands_at c =
    let qs = c.args.self.now.table.now in
    let l = layout_of c.args.self.now.layout in
    let s = c.in-Borders.is in
    let h : c.args.first < length qs = omega (arith, c.requires.named.0, length-map qs content) in
    subst (λ (stage : Stage). Partnered l stage (contents qs) c.args.column c.args.first None) (sym s)
    (partnered_none l (contents qs) c.args.column c.args.first
    (tested l qs c.args.column c.args.first c.index-self-first.result c.pos.result c.stands_at.result h c.pos.type_inv c.pos.ensures c.stands_at.ensures ∙ c.if-stands_at.false))
