use Rattle.std.proofs.Common.{◌≡◌, [], ◌∷◌, pos, neg_ℤ, Some, None, Err, sym, ap, ◌∙◌, arith, rules}
use Rattle.std.proofs.lemmas.Bool.Decides.{Decides-eqb}
use Rattle.std.proofs.lemmas.Int.{ints}
use Rattle.std.proofs.lemmas.Slice.Eq.{strip_prefix_is}
use Rattle.drawing.specs.declared.number.NumberFault.TheVariants.{Form}
use Rattle.drawing.specs.Numbers.{signed_of}
use Rattle.drawing.proofs.Readings.{narrow, cut_some, minus_some, plain_some, signed_exact}
use Rattle.drawing.proofs.number.read_signed.Goals as goal
use Rattle.drawing.proofs.number.read_signed.Goals.{After-map_err, in-None+in_ok-capped_value-in-None, in-Some+in_ok-value-in-Some+in_default}

pub returns-in_err-capped_value-in-None-clause-written : goal.returns-in_err-capped_value-in-None-clause-written
returns-in_err-capped_value-in-None-clause-written c = signed_exact c.args.text.now c.from_residual.result (search rules)

pub returns-in_err-value-in-Some-clause-written : goal.returns-in_err-value-in-Some-clause-written
returns-in_err-value-in-Some-clause-written c = signed_exact c.args.text.now c.from_residual-in_err-value-in-Some.result (search rules)

pub returns-in-0-clause-written : goal.returns-in-0-clause-written
returns-in-0-clause-written c = signed_exact c.args.text.now (Err Form) (search rules)

-- the number of the digits, or the one below 0, as one of 32 bits
said_of : (c : After-map_err) → c.map_err.result ≡ signed_of c.args.text.now
said_of c =
    let cut : c.map_err.result ≡ narrow c.match-strip_prefix.number = search rules in
    cut ∙ elim c.match-strip_prefix.branch [
      | in-None+in_ok-capped_value-in-None w ↦ (
          let other = strip_prefix_is Decides-eqb c.args.text.now (45 ∷ []) None w.in-None.ensures.cases in
          let n = w.in_ok-capped_value-in-None.field-0 in
          let got = cut_some c.args.text.now n w.in_ok-capped_value-in-None.ensures in
          let same : c.match-strip_prefix.number ≡ pos n = omega (arith, ints, got.1) in
          ap narrow same ∙ plain_some c.args.text.now other n w.in_ok-capped_value-in-None.ensures)
      | in-Some+in_ok-value-in-Some+in_default w ↦ (
          let front = strip_prefix_is Decides-eqb c.args.text.now (45 ∷ []) (Some w.in-Some.digits) w.in-Some.ensures.cases in
          let n = w.in_ok-value-in-Some.value in
          let got = cut_some w.in-Some.digits.now n w.in_ok-value-in-Some.ensures in
          let same : c.match-strip_prefix.number ≡ neg_ℤ (pos n) = omega (arith, ints, got.1) in
          ap narrow same ∙ minus_some w.in-Some.digits.now n w.in_ok-value-in-Some.ensures (omega arith) ∙ sym (ap signed_of front))
    ]

pub returns : goal.returns
returns c =
    let said = said_of (goal.at.returns c).After-map_err in
    record { value = said; written = signed_exact c.args.text.now c.map_err.result said }
