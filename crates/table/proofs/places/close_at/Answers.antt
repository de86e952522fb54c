-- What `close_at` ensures.
use Rattle.std.proofs.Common.{◌-◌, ◌∷◌, take, drop, set, ap, ◌∙◌}
use Rattle.table.proofs.Moves.{closed}
use Rattle.table.proofs.places.close_at.Goals as goal

pub returns : goal.returns
returns g c =
    let s = closed c.args.table.now c.args.used c.args.i c.blank.result c.requires.within c.requires.fits in
    let e = c.copy_within.ensures.after in
    record {
      records = ap (λ l. take (c.args.used - 1) (set l (c.args.used - 1) c.blank.result)) e ∙ s.front;
      rest = ap (λ l. drop (c.args.used - 1) (set l (c.args.used - 1) c.blank.result)) e ∙ s.back ∙ ap (λ b. b ∷ drop c.args.used c.args.table.now) c.blank.ensures;
    }
