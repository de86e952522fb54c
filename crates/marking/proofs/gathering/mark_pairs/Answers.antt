use Rattle.std.proofs.Common.{◌∙◌, map, arith}
use Rattle.std.proofs.lemmas.List.{length-map}
use Rattle.segm.specs.Segments.{ends_of}
use Rattle.rounds.specs.Marks.{MoreMarks}
use Rattle.table.specs.Tables.{content_of}
use Rattle.marking.proofs.Noting.{at_refusal}
use Rattle.marking.proofs.PairSpots.{kept_more, kept_over, pair_numbers}
use Rattle.marking.proofs.gathering.mark_pairs.Goals as goal

pub mark_pair-requires : goal.mark_pair-requires
mark_pair-requires g c =
    let F = g.F.Finder in
    let k = c.loop-i in
    let xs = c.args.edges.now in
    let w = pair_numbers F.walks (F.meaning c.args.finder.now) c.args.radius.current xs (content_of c.args.marks.now)
    (F.meaning k.finder) (F.meaning c.next.new.self) c.next.result c.next.ensures (content_of k.marks) k.is_rounded k.pairs k.invariant.0
    c.in-Some.i c.in-Some.j c.in-Some.is c.requires.shown c.requires.filling in
    let size = length-map xs ends_of in
    record { first = omega (arith, w.0, w.1, size); second = omega (arith, w.1, size) }

pub returns-in_err-is_rounded-clause-marks : goal.returns-in_err-is_rounded-clause-marks
returns-in_err-is_rounded-clause-marks g c proper empty =
    let F = g.F.Finder in
    let k = c.loop-i in
    let s = c.args.radius.current in
    let xs = c.args.edges.now in
    let entry = content_of c.args.marks.now in
    at_refusal c.from_residual.result c.in_err-is_rounded.field-0.0 _ (λ _. MoreMarks s (map ends_of xs) entry.room) c.from_residual.ensures.1
    (kept_over F.walks (F.meaning c.args.finder.now) s xs entry
    (F.meaning k.finder) (F.meaning c.next.new.self) c.next.result c.next.ensures (content_of k.marks) k.is_rounded k.pairs k.invariant.0
    c.in-Some.i c.in-Some.j c.in-Some.is c.requires.shown c.requires.filling c.in_err-is_rounded.ensures.notes proper empty)

pub overflow_add-pairs : goal.overflow_add-pairs
overflow_add-pairs g c =
    let F = g.F.Finder in
    let k = c.loop-i in
    let w = pair_numbers F.walks (F.meaning c.args.finder.now) c.args.radius.current c.args.edges.now (content_of c.args.marks.now)
    (F.meaning k.finder) (F.meaning c.next.new.self) c.next.result c.next.ensures (content_of k.marks) k.is_rounded k.pairs k.invariant.0
    c.in-Some.i c.in-Some.j c.in-Some.is c.requires.shown c.requires.filling in
    omega (arith, w.2)

pub loop-i-preserved : goal.loop-i-preserved
loop-i-preserved g c =
    let F = g.F.Finder in
    let k = c.loop-i in (
      kept_more F.walks (F.meaning c.args.finder.now) c.args.radius.current c.args.edges.now (content_of c.args.marks.now)
          (F.meaning k.finder) (F.meaning c.next.new.self) c.next.result c.next.ensures (content_of k.marks) k.is_rounded k.pairs k.invariant.0
          c.in-Some.i c.in-Some.j c.in-Some.is (content_of c.mark_pair.new.marks) c.in_ok-is_rounded.field-0
          c.mark_pair.ensures.size c.in_ok-is_rounded.ensures.notes c.in_ok-is_rounded.ensures.flag,
      c.mark_pair.ensures.same ∙ k.invariant.1,
    )
