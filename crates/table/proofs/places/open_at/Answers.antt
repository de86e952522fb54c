-- What `open_at` ensures.
use Rattle.std.proofs.Common.{◌+◌, take, drop, set, ap, ◌∙◌}
use Rattle.table.proofs.Moves.{opened}
use Rattle.table.proofs.places.open_at.Goals as goal

pub returns : goal.returns
returns g c =
    let s = opened c.args.table.now c.args.used c.args.i c.args.r c.requires.within c.requires.fits in
    let e = c.copy_within.ensures.after in
    record {
      records = ap (λ l. take (c.args.used + 1) (set l c.args.i c.args.r)) e ∙ s.front;
      rest = ap (λ l. drop (c.args.used + 1) (set l c.args.i c.args.r)) e ∙ s.back;
    }
