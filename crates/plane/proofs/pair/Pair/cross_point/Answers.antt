use Rattle.std.proofs.Common.{◌≡◌, ◌+ℤ◌, ◌∙◌, w64, SFits}
use Rattle.std.proofs.lemmas.Int.{to_z-of_z}
use Rattle.plane.specs.Points.{Point}
use Rattle.plane.specs.Models.{edge_of}
use Rattle.plane.specs.Rounding.{taken}
use Rattle.plane.proofs.EdgeOf.{sheet_of}
use Rattle.plane.proofs.Taken.{taken_by, moved_ranged}
use Rattle.plane.proofs.pair.Pair.cross_point.Goals as goal

at_taken : (c : goal.After-along_y) → ◌≡◌ {A = Point} (record { x = c.args.self.target.now.a.x +ℤ c.along_x.result; y = c.args.self.target.now.a.y +ℤ c.along_y.result }) (taken (edge_of c.args.self.target.now) (edge_of c.args.self.other.now))
at_taken c =
    taken_by (edge_of c.args.self.target.now) (edge_of c.args.self.other.now) _ _ _ _ c.along_x.result c.along_y.result
    c.between-along.ensures.x c.between-along.ensures.y c.part-part.ensures.n c.part-part.ensures.d c.along_x.ensures c.along_y.ensures

pub moved-requires : goal.moved-requires
moved-requires c =
    let fx : SFits w64 c.along_x.result = record { sfits = c.along_x.type_inv } in
    let fy : SFits w64 c.along_y.result = record { sfits = c.along_y.type_inv } in
    let r = moved_ranged (edge_of c.args.self.target.now) (edge_of c.args.self.other.now) _ (sheet_of c.args.self.target.now) (sheet_of c.args.self.other.now) c.requires (at_taken c) in
    record { x_in_range = simp to_z-of_z r.wide; y_in_range = simp to_z-of_z r.high }

pub returns : goal.returns
returns c =
    let fx : SFits w64 c.along_x.result = record { sfits = c.along_x.type_inv } in
    let fy : SFits w64 c.along_y.result = record { sfits = c.along_y.type_inv } in
    (simp to_z-of_z at c.moved.ensures) ∙ at_taken c.before
