-- What the table's insertion says of segments.
use Rattle.table.specs.Tables.{content_of}
use Rattle.segm.proofs.Adding.{joined_adds}
use Rattle.segm.proofs.Counting.{counting_determined}
use Rattle.segm.proofs.joining.join_segment.Goals as goal

pub returns : goal.returns
returns g c =
    let K = g.C.WindingCount.kind in
    record {
      answer = c.insert.ensures.answer;
      adds = joined_adds K c.args.s (content_of c.args.edges.now) _ c.insert.result c.insert.ensures.answer c.args.edges.now.sound.ordered;
      determined = counting_determined K;
      same = c.insert.ensures.same;
    }
