-- What a search found.
use Rattle.std.proofs.Common.{rules, ◌≡◌, ◌-◌, length, Some, sym, arith}
use Rattle.std.proofs.lemmas.Fn.{always_returns_same}
use Rattle.std.proofs.lemmas.Option.{get_or_from_slice_get}
use Rattle.std.specs.List.{slice_get}
use Rattle.table.proofs.Searches.{some_last, parts_at_end, searched}
use Rattle.table.proofs.places.search.Goals as goal

pub returns-in-Less : goal.returns-in-Less
returns-in-Less g c =
    let e : Some c.in-Some.last.now ≡ slice_get c.args.records.now (length c.args.records.now - 1) = c.in-Some.ensures.value in
    (omega arith, parts_at_end g.R.Keyed.kind c.args.records.now c.args.r c.in-Some.last.now (some_last c.args.records.now c.in-Some.last.now e) (λ d. get_or_from_slice_get c.args.records.now (length c.args.records.now - 1) c.in-Some.last.now d (sym e)) (sym c.in-Less.ensures))

pub returns-in-Greater : goal.returns-in-Greater
returns-in-Greater g c =
    searched g.R.Keyed.kind c.args.records.now c.args.r c.binary_search_by.result c.binary_search_by.ensures.bound
    (c.binary_search_by.ensures.position (λ x. g.R.Keyed.kind.order x c.args.r) (always_returns_same _ _ _ (λ a r f' h. (search rules, search rules))))
