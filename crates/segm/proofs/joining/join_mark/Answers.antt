-- What the table's insertion says of marks.
use Rattle.table.specs.Tables.{content_of}
use Rattle.segm.proofs.Marking.{joined_marked, marks_determine}
use Rattle.segm.proofs.joining.join_mark.Goals as goal

pub returns : goal.returns
returns c = record {
  answer = c.insert.ensures.answer;
  marked = joined_marked c.args.m (content_of c.args.marks.now) _ c.insert.result c.insert.ensures.answer;
  determined = marks_determine;
  same = c.insert.ensures.same;
}
