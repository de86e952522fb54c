use Rattle.std.proofs.Common.{sym, ap, ◌∙◌}
use Rattle.segm.specs.BooleanKind.{same_counts}
use Rattle.report.specs.Directed.{subject_count}
use Rattle.report.proofs.open_ends.direct.Goals as goal
use Rattle.report.proofs.open_ends.direct.Goals.{then-drawn, else-drawn}

pub returns : goal.returns
returns c =
    let d = c.args.drawn in
    ap (λ k. record { a = d.edge.a; b = d.edge.b; count = k })
    (same_counts _ (subject_count d.is_turned)
    (elim c.if-drawn.branch [
      | then-drawn w ↦ w.subj-is ∙ sym (ap (λ t. (subject_count t).subj) w.if-drawn.true)
      | else-drawn w ↦ w.subj-is ∙ sym (ap (λ t. (subject_count t).subj) w.if-drawn.false)
    ])
    (elim c.if-drawn.branch [
      | then-drawn w ↦ sym (ap (λ t. (subject_count t).clip) w.if-drawn.true)
      | else-drawn w ↦ sym (ap (λ t. (subject_count t).clip) w.if-drawn.false)
    ]))
