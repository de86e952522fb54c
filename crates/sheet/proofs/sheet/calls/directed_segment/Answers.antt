use Rattle.std.proofs.Common.{rules, ◌≡◌, ℤ, ap}
use Rattle.plane.specs.Points.{Point}
use Rattle.plane.specs.Models.{plain_point}
use Rattle.sheet.proofs.Directing.{directed_ok, filled_is}
use Rattle.sheet.proofs.sheet.calls.directed_segment.Goals as goal

pub returns : goal.returns
returns g c =
    directed_ok g.C.WindingCount.kind (plain_point c.args.a) (plain_point c.args.b) c.args.count c.in_ok-first.first c.in_ok-second.second c.create.result
    (λ same. let x : ◌≡◌ {A = ℤ} ((plain_point c.args.a).x) ((plain_point c.args.b).x) = ap (λ (p : Point). p.x) same in let y : ◌≡◌ {A = ℤ} ((plain_point c.args.a).y) ((plain_point c.args.b).y) = ap (λ (p : Point). p.y) same in search rules)
    c.in_ok-first.ensures c.in_ok-second.ensures (filled_is _ c.if-not-is_not_empty.ensures) c.create.ensures.ends
