use Rattle.std.proofs.Common.{◌≡◌, List, map, fold, Bor, Iter, sym, ap, ◌∙◌, subst, arith, rules, of_calls}
use Rattle.std.specs.Iterator.{AlwaysYields}
use Rattle.std.proofs.lemmas.Fn.{fronts, fold_over, slice_gives}
use Rattle.std.proofs.lemmas.List.{length-map}
use Rattle.plane.specs.Edges.{Edge}
use Rattle.finder.specs.Finders.{edge_at, box_of}
use Rattle.finder.specs.Boxes.{point_box, with_edge}
use Rattle.finder.proofs.Boxes.{box_all, box_least, grown_more}
use Rattle.finder.proofs.Showing.{edge_at_map}
use Rattle.finder.proofs.filling.extent_of.Goals as goal

-- the items of a slice's iterator
yields : {X : Type 0} (s : Iter X) (xs : List X) → s.rest.now ≡ xs → AlwaysYields fronts (λ y. y.now) s xs
yields s xs e = subst (λ l. AlwaysYields fronts (λ y. y.now) s l) e (slice_gives s)

pub returns : goal.returns
returns g c =
    let edge = g.E.EdgeRecord.edge in
    let xs = c.args.edges.now in
    let es = map edge xs in
    let item = c.in-Some.ensures.item in
    let begins = c.at-around.ensures ∙ ap point_box (c.first_end.ensures ∙ ap (λ (e : Edge). e.a) (edge_at_map edge xs 0 c.in-Some.first.now item.3.0 item.1)) in
    let reckoned = fold_over fronts (λ (y : Bor g.row.E.Denot). y.now) _ (λ ys a. box_of a ≡ fold with_edge (point_box (edge_at es 0).a) (map edge ys)) _
    (λ ys a x b f' h k. let one : box_of b ≡ with_edge (box_of a) (edge x.now) = search (rules, of_calls) in (one ∙ ap (λ z. with_edge z (edge x.now)) h ∙ sym (grown_more edge _ ys x.now), search (rules, of_calls)))
    c.iter.result xs c.at-around.result c.fold.result (yields c.iter.result xs c.iter.ensures.rest) begins c.fold.ensures.ran in
    let all = reckoned ∙ box_all es (let n = length-map xs edge in let some = item.3.0 in omega arith) in
    record { value = all; least = box_least es _ all }
