use Rattle.std.proofs.Common.{rules, ◌≡◌, Ok, IsErrAnd, MatchResult}
use Rattle.std.proofs.lemmas.Result.{MatchResult-weaker}
use Rattle.plane.specs.declared.fault.Fault.TheVariants.{MarksFull}
use Rattle.finder.specs.Finders.{box_of}
use Rattle.table.specs.Tables.{records_of}
use Rattle.marking.specs.Gathering.{Gathered, Unpieced, use_of}
use Rattle.marking.proofs.Noting.{at_refusal, refused_as}
use Rattle.marking.proofs.GatheredMarks.{gather_refused, gather_done}
use Rattle.marking.proofs.gathering.gather_into.Goals as goal

pub returns-in_err-fill-clause-marks : goal.returns-in_err-fill-clause-marks
returns-in_err-fill-clause-marks g c s sound edges exponent empty room =
    let F = g.F.Finder in
    let u = use_of F.need (F.meaning c.args.finder.now) in
    let f = c.in_err-fill.field-0.0 in
    at_refusal c.from_residual.result f (Gathered F.walks u s (records_of c.args.marks.now)) (Unpieced u s) c.from_residual.ensures.1
    (gather_refused g.C.WindingCount.kind u s sound (box_of c.extent_of.result) c.args.edges.now edges
    c.extent_of.ensures.least c.extent_of.ensures.value f c.in_err-fill.ensures.by_need)

pub returns-clause-marks : goal.returns-clause-marks
returns-clause-marks g c s sound edges exponent empty room =
    let F = g.F.Finder in
    let u = use_of F.need (F.meaning c.args.finder.now) in
    let r = c.mark_pairs.result in
    let o = c.map_err.result in
    let marks = records_of c.mark_pairs.new.marks in
    let turned : MatchResult r (λ x. o ≡ Ok x) (λ _. IsErrAnd o (λ d. d ≡ MarksFull)) = MatchResult-weaker r c.map_err.ensures.cases (λ x w. w) (λ e w. search rules) in
    refused_as r o MarksFull (Gathered F.walks u s marks) (Unpieced u s) turned
    (gather_done g.C.WindingCount.kind u s sound (box_of c.extent_of.result) F.walks (F.meaning c.fill.new.finder) (F.meaning c.mark_pairs.new.finder) marks c.args.marks.now.room r
    c.args.edges.now c.args.radius.current edges exponent room
    (record {
      least = c.extent_of.ensures.least;
      value = c.extent_of.ensures.value;
      is = c.in_ok-fill.ensures.filled.0;
      by_need = c.in_ok-fill.ensures.by_need;
      noted = λ proper. c.mark_pairs.ensures.marks proper empty;
    }))
