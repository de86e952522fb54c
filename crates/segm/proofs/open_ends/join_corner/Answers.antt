-- What the table's insertion says of corners.
use Rattle.table.specs.Tables.{content_of}
use Rattle.segm.proofs.Corners.{corner_grows}
use Rattle.segm.proofs.open_ends.join_corner.Goals as goal

pub returns : goal.returns
returns g c = corner_grows g.C.WindingCount.kind c.args.corner (content_of c.args.corners.now) _ c.insert.result c.insert.ensures.answer
