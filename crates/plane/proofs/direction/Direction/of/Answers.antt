use Rattle.std.proofs.Common.{ap, ◌∙◌, w64, SFits}
use Rattle.std.proofs.lemmas.Int.{to_z-of_z}
use Rattle.plane.specs.PointOf.{point_of}
use Rattle.plane.specs.Edges.{direction}
use Rattle.plane.proofs.Turns.{is_left, is_straight, is_right, product_is}
use Rattle.plane.proofs.direction.Direction.of.Goals as goal

pub returns-then-product-gt0 : goal.returns-then-product-gt0
returns-then-product-gt0 c =
    let f : SFits w64 c.cross_product-product.result = record { sfits = c.cross_product-product.type_inv } in
    is_left c.cross_product-product.result (simp to_z-of_z at c.if-product-gt0.true)
    ∙ ap direction (product_is _ _ _ _ _ (point_of c.args.a) (point_of c.args.b) (point_of c.args.c) c.cross_product-product.ensures.value c.between.ensures.x c.between.ensures.y c.between-2.ensures.x c.between-2.ensures.y)

pub returns-then-product-lt0 : goal.returns-then-product-lt0
returns-then-product-lt0 c =
    let f : SFits w64 c.cross_product-product.result = record { sfits = c.cross_product-product.type_inv } in
    is_right c.cross_product-product.result (simp to_z-of_z at c.if-product-lt0.true)
    ∙ ap direction (product_is _ _ _ _ _ (point_of c.args.a) (point_of c.args.b) (point_of c.args.c) c.cross_product-product.ensures.value c.between.ensures.x c.between.ensures.y c.between-2.ensures.x c.between-2.ensures.y)

pub returns-else-product-lt0 : goal.returns-else-product-lt0
returns-else-product-lt0 c =
    let f : SFits w64 c.cross_product-product.result = record { sfits = c.cross_product-product.type_inv } in
    is_straight c.cross_product-product.result (simp to_z-of_z at c.if-product-gt0.false) (simp to_z-of_z at c.if-product-lt0.false)
    ∙ ap direction (product_is _ _ _ _ _ (point_of c.args.a) (point_of c.args.b) (point_of c.args.c) c.cross_product-product.ensures.value c.between.ensures.x c.between.ensures.y c.between-2.ensures.x c.between-2.ensures.y)
