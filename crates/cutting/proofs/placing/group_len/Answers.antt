-- How many marks are passed.
use Rattle.std.proofs.Common.{not, int_lt, ap, ◌∙◌, rules}
use borrow.Author.Tests.{tests}
use Rattle.std.specs.List.{prefix_len}
use Rattle.std.proofs.lemmas.List.{get_or_read}
use Rattle.std.proofs.lemmas.List.Folds.{length-prefix_len}
use Rattle.std.proofs.lemmas.Iterator.{YieldsList-from_slice}
use Rattle.std.proofs.lemmas.Iterator.Consumers.{count_from_yields_List, YieldsList-at}
use Rattle.std.proofs.lemmas.Iterator.Search.{YieldsList-from_take_while}
use Rattle.segm.specs.Marks.{blank_mark}
use Rattle.segm.specs.declared.line_mark.LineMark.{LineMark}
use Rattle.cutting.proofs.placing.group_len.Goals as goal

pub returns-clause-group : goal.returns-clause-group
returns-clause-group c =
    let t = c.args.marks.now in
    let first = c.index-marks-0.result in
    let passes = λ (w m : LineMark). not (int_lt w.point.x m.point.x) in
    let count = count_from_yields_List c.take_while.result c.count.result c.count.ensures.ran
    (YieldsList-from_take_while _ (passes first) (YieldsList-at c.take_while.ensures.source (YieldsList-from_slice t c.iter.ensures.rest)) c.take_while.ensures.closure c.take_while.ensures.done (λ x b q k. search (rules, tests))) in
    count ∙ length-prefix_len (passes first) t ∙ ap (λ (w : LineMark). prefix_len (passes w) t) (get_or_read t 0 first c.requires c.index-marks-0.is blank_mark)
