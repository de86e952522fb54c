use Rattle.std.proofs.Common.{◌≡◌, Bool, cond, ℤ, ◌*ℤ◌, sym, ap, ◌∙◌, w64, SFits}
use Rattle.std.proofs.lemmas.Int.{to_z-of_z}
use Rattle.plane.specs.Rounding.{nearest, cut}
use Rattle.plane.proofs.Fits.{off64, part64}
use Rattle.plane.proofs.Taken.{zero_bits, some_bits}
use Rattle.plane.proofs.ratio.Ratio.along_x.Goals as goal

pub returns-then-offset-eq0 : goal.returns-then-offset-eq0
returns-then-offset-eq0 c =
    let fx = off64 c.args.offset.x c.args.offset.wide in
    let fy = off64 c.args.offset.y c.args.offset.high in
    let fn = part64 c.args.self.n c.args.self.n_small in
    let fd = part64 c.args.self.d c.args.self.d_small in
    let fr : SFits w64 c.times-run.result = record { sfits = c.times-run.type_inv } in
    let fq : SFits w64 c.cut_quotient.result = record { sfits = c.cut_quotient.type_inv } in
    let r : c.times-run.result ≡ c.args.offset.x *ℤ c.args.self.n = simp to_z-of_z at c.times-run.ensures.value in
    let q : c.cut_quotient.result ≡ cut c.times-run.result c.args.self.d = simp to_z-of_z at c.cut_quotient.ensures in
    to_z-of_z w64 c.cut_quotient.result fq ∙ q ∙ ap (λ (z : ℤ). cut z c.args.self.d) r
    ∙ sym (ap (λ (b : Bool). cond b (cut (c.args.offset.x *ℤ c.args.self.n) c.args.self.d) (nearest (c.args.offset.x *ℤ c.args.self.n) c.args.self.d)) (zero_bits c.args.offset.y c.if-offset-eq0.true fy))

pub returns-else-offset-eq0 : goal.returns-else-offset-eq0
returns-else-offset-eq0 c =
    let fx = off64 c.args.offset.x c.args.offset.wide in
    let fn = part64 c.args.self.n c.args.self.n_small in
    let fd = part64 c.args.self.d c.args.self.d_small in
    let fr : SFits w64 c.times-run.result = record { sfits = c.times-run.type_inv } in
    let fq : SFits w64 c.nearest_quotient.result = record { sfits = c.nearest_quotient.type_inv } in
    let r : c.times-run.result ≡ c.args.offset.x *ℤ c.args.self.n = simp to_z-of_z at c.times-run.ensures.value in
    let q : c.nearest_quotient.result ≡ nearest c.times-run.result c.args.self.d = simp to_z-of_z at c.nearest_quotient.ensures in
    to_z-of_z w64 c.nearest_quotient.result fq ∙ q ∙ ap (λ (z : ℤ). nearest z c.args.self.d) r
    ∙ sym (ap (λ (b : Bool). cond b (cut (c.args.offset.x *ℤ c.args.self.n) c.args.self.d) (nearest (c.args.offset.x *ℤ c.args.self.n) c.args.self.d)) (some_bits c.args.offset.y c.if-offset-eq0.false))
