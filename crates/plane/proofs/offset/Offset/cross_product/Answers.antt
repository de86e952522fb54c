use Rattle.std.proofs.Common.{◌≡◌, ◌^◌, ◌≤◌, ◌*ℤ◌, nat_abs, arith, w64, SFits}
use Rattle.std.proofs.lemmas.Int.{to_z-of_z}
use Rattle.plane.proofs.Fits.{diff64, off64, room}
use Rattle.plane.proofs.offset.Offset.cross_product.Goals as goal

-- what the two products are, with no bits between
record Two (c : goal.After-times-2) : Type 0 where
  f : SFits w64 c.times.result
  g : SFits w64 c.times-2.result
  m : nat_abs c.times.result ≤ 2 ^ 40
  n : nat_abs c.times-2.result ≤ 2 ^ 40
  p : c.times.result ≡ c.args.self.x *ℤ c.args.v.y
  q : c.times-2.result ≡ c.args.self.y *ℤ c.args.v.x

two : (c : goal.After-times-2) → Two c
two c =
    let bx = off64 c.args.self.x c.args.self.wide in
    let by = off64 c.args.self.y c.args.self.high in
    let cx = off64 c.args.v.x c.args.v.wide in
    let cy = off64 c.args.v.y c.args.v.high in
    record {
      f = record { sfits = c.times.type_inv };
      g = record { sfits = c.times-2.type_inv };
      m = room c.times.result c.args.v.y (2 ^ 20) (simp to_z-of_z at c.times.ensures.size) c.args.v.high;
      n = room c.times-2.result c.args.v.x (2 ^ 20) (simp to_z-of_z at c.times-2.ensures.size) c.args.v.wide;
      p = simp to_z-of_z at c.times.ensures.value;
      q = simp to_z-of_z at c.times-2.ensures.value;
    }

pub overflow_sub-result : goal.overflow_sub-result
overflow_sub-result c =
    let t = two c in
    let f = t.f in
    let g = t.g in
    simp to_z-of_z (diff64 c.times.result c.times-2.result (2 ^ 40) t.m t.n (omega arith)).0

pub returns : goal.returns
returns c =
    let t = two c in
    let f = t.f in
    let g = t.g in
    let d = diff64 c.times.result c.times-2.result (2 ^ 40) t.m t.n (omega arith) in
    let h = d.0 in
    record { value = simp to_z-of_z (cc (t.p, t.q)); size = simp to_z-of_z d.1 }
