-- What `replace` leaves.
use Rattle.std.proofs.Common.{◌-◌, ◌++◌, length, drop, replicate, subst, sym, ap, ◌∙◌, arith}
use Rattle.table.specs.Contents.{Replaced}
use Rattle.table.proofs.Replacing.{replaced_longer, replaced_shorter}
use borrow.Rule.Slice.PartMut.{put_mid, mid_of}
use Rattle.table.proofs.places.replace.Goals as goal

pub returns-then-count-used : goal.returns-then-count-used
returns-then-count-used g c =
    let K = g.R.Keyed.kind in
    let xs = c.args.records.now in
    let t = c.args.table.now in
    let e = c.copy_from_slice.ensures.after in
    subst (λ ys. Replaced K xs c.args.used t (put_mid (length xs) (c.args.used - length xs) (ys ++ drop (length xs) t) c.blank_all.new.table)) (sym e)
    (replaced_shorter K xs c.blank_all.new.table t c.args.used (omega arith) c.requires.used
    (c.blank_all.ensures ∙ ap (λ ys. replicate (length (mid_of (length xs) (c.args.used - length xs) (ys ++ drop (length xs) t))) K.blank) e))

pub returns-else-count-used : goal.returns-else-count-used
returns-else-count-used g c =
    let K = g.R.Keyed.kind in
    let xs = c.args.records.now in
    let t = c.args.table.now in
    subst (λ ys. Replaced K xs c.args.used t (ys ++ drop (length xs) t)) (sym c.copy_from_slice.ensures.after) (replaced_longer K xs t c.args.used (omega arith) c.requires.fits)
