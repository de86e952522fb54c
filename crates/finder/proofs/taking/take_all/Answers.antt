use Rattle.std.proofs.Common.{[], ◌∷◌, ◌++◌, ◌∙◌}
use Rattle.std.proofs.lemmas.Fn.{FoldsTo-push}
use Rattle.finder.specs.Finders.{Pair}
use Rattle.finder.proofs.Walking.{came_more, came_all, number_more}
use Rattle.finder.proofs.taking.take_all.Goals as goal

pub loop-i-preserved : goal.loop-i-preserved
loop-i-preserved g c =
    let F = g.F.Finder in
    let v = c.loop-i.invariant in
    let p : Pair = (c.in-Some.i, c.in-Some.j) in
    record {
      done = v.done ++ (p ∷ []);
      came = came_more F.walks (F.meaning c.loop-i.finder) (F.meaning c.next.new.self) c.next.result c.next.ensures (F.meaning c.args.finder.now) v.done v.came p c.in-Some.is;
      visited = FoldsTo-push _ c.args.visitor.now v.done c.loop-i.visitor p c.visit.new.self v.visited c.visit.ensures;
      counted = c.saturating_add-taken.ensures ∙ number_more v.done p c.loop-i.taken v.counted;
    }

pub returns : goal.returns
returns g c =
    let F = g.F.Finder in
    let v = c.loop-i.invariant in
    let all = came_all F.walks (F.meaning c.loop-i.finder) (F.meaning c.next.new.self) c.next.result c.next.ensures (F.meaning c.args.finder.now) v.done v.came c.in_default.is in
    record { took = record { pairs = v.done; allowed = all.0; number = v.counted; leaves = all.1 }; visited = v.visited }
