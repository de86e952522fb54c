-- How many edges the all-pairs finder has been shown, and which pairs it has ahead.
use Rattle.std.proofs.Common.{◌≡◌, ℕ, ◌≤◌, false, cond, List, [], length, Some, None, Option, is_some, sym, refl, ap, ◌∙◌, subst, arith, length-take}
use Rattle.std.specs.Option.{unwrap_or}
use Rattle.std.proofs.lemmas.List.{length-map}
use Rattle.finder.specs.declared.all_pairs.AllPairs.{AllPairs}
use Rattle.finder.specs.Finders.{Pair, Walk, MayCome}
use Rattle.finder.specs.Pairs.{pairs_meaning, pairs_from, pairs_walks, all_pairs, coming_from}
use Rattle.finder.proofs.Rows.{from_start, all_walk}

pub shown_size : (s : AllPairs) → length (pairs_meaning s).shown ≡ s.intake.shown
shown_size s = simp (length-map, length-take) (omega (arith, s.within))

-- before a walk none comes
pub none_coming : (n : ℕ) (o : Option Pair) → is_some o ≡ false → coming_from n o ≡ []
none_coming n None e = refl
none_coming n (Some p) e = cc

module _ (s : AllPairs) where
  all : pairs_from s.intake.shown 0 1 ≡ all_pairs (length (pairs_meaning s).shown)
  all = from_start s.intake.shown ∙ ap all_pairs (sym (shown_size s))

  few : length (pairs_meaning s).shown ≤ 4096
  few = let size = shown_size s in omega (arith, size, s.below, s.few)

  from_pair : Pair → List Pair
  from_pair p = pairs_from s.intake.shown p.0 p.1

  comes : (o : Option Pair) → cond (is_some o) (coming_from s.intake.shown o ≡ from_pair (unwrap_or o (0, 1))) ((from_pair (unwrap_or o (0, 1)) ≡ all_pairs (length (pairs_meaning s).shown)) × Walk (pairs_meaning s).shown (from_pair (unwrap_or o (0, 1))))
  unfolding from_pair
  comes None = (all, subst (Walk (pairs_meaning s).shown) (sym all) (all_walk (pairs_meaning s).shown few))
  comes (Some p) = refl

  -- the pairs that may come begin with the pair ahead, a walk with (0, 1)
  pub may_come : (p : Pair) → p ≡ unwrap_or s.ahead (0, 1) → MayCome pairs_walks (pairs_meaning s) (pairs_from s.intake.shown p.0 p.1)
  unfolding from_pair
  may_come p e = subst (λ q. MayCome pairs_walks (pairs_meaning s) (from_pair q)) (sym e) (comes s.ahead)
