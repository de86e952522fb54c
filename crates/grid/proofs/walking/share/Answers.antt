use Rattle.std.proofs.Common.{◌≡◌, Bool, true, ◌&&◌, ap, ◌∙◌, w32, SFits, rules}
use lib.Signed.{le_z}
use Rattle.std.proofs.lemmas.Int.{to_z-of_z}
use Rattle.grid.proofs.walking.share.Goals as goal

pub returns-then-overlap : goal.returns-then-overlap
returns-then-overlap c =
    let r = c.args.r in
    let s = c.args.s in
    let i : SFits w32 r.min_x = search rules in
    let j : SFits w32 r.max_x = search rules in
    let k : SFits w32 s.min_x = search rules in
    let m : SFits w32 s.max_x = search rules in
    let n : SFits w32 r.min_y = search rules in
    let o : SFits w32 r.max_y = search rules in
    let p : SFits w32 s.min_y = search rules in
    let q : SFits w32 s.max_y = search rules in
    let y : c.overlap-then-overlap.result ≡ (le_z r.min_y s.max_y && le_z s.min_y r.max_y) = simp to_z-of_z at c.overlap-then-overlap.ensures in
    let x : true ≡ (le_z r.min_x s.max_x && le_z s.min_x r.max_x) = simp to_z-of_z at c.if-overlap.ensures in
    y ∙ ap (λ (b : Bool). b && (le_z r.min_y s.max_y && le_z s.min_y r.max_y)) x
