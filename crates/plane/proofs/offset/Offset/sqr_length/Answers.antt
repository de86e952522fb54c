use Rattle.std.proofs.Common.{◌≡◌, ◌*◌, ◌^◌, ◌≤◌, nat_abs, arith}
use Rattle.std.proofs.lemmas.Int.{to_z-of_z}
use Rattle.plane.proofs.Fits.{off64, square_le}
use Rattle.plane.proofs.offset.Offset.sqr_length.Goals as goal

-- the two magnitudes, with no bits between
record Two (c : goal.After-unsigned_abs-dy) : Type 0 where
  m : c.unsigned_abs-dx.result ≡ nat_abs c.args.self.x
  n : c.unsigned_abs-dy.result ≡ nat_abs c.args.self.y
  p : c.unsigned_abs-dx.result * c.unsigned_abs-dx.result ≤ 2 ^ 40
  q : c.unsigned_abs-dy.result * c.unsigned_abs-dy.result ≤ 2 ^ 40

two : (c : goal.After-unsigned_abs-dy) → Two c
two c =
    let fx = off64 c.args.self.x c.args.self.wide in
    let fy = off64 c.args.self.y c.args.self.high in
    let m : c.unsigned_abs-dx.result ≡ nat_abs c.args.self.x = simp to_z-of_z at c.unsigned_abs-dx.ensures.value in
    let n : c.unsigned_abs-dy.result ≡ nat_abs c.args.self.y = simp to_z-of_z at c.unsigned_abs-dy.ensures.value in
    let wide = c.args.self.wide in
    let high = c.args.self.high in
    record {
      m = m;
      n = n;
      p = square_le c.unsigned_abs-dx.result (omega arith);
      q = square_le c.unsigned_abs-dy.result (omega arith);
    }

pub overflow_add-result : goal.overflow_add-result
overflow_add-result c = let t = two c in omega (arith, t.p, t.q)

pub returns : goal.returns
returns c = let t = two c in record { value = cc (t.m, t.n); size = omega (arith, t.p, t.q) }
