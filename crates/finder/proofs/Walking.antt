-- Taking pairs one by one: an invariant and a measure for every loop that does so.
use Rattle.std.proofs.Common.{◌≡◌, ℕ, ◌+◌, ◌-◌, ◌^◌, ◌<◌, min, Bool, true, false, cond, ◌⊎◌, List, [], ◌∷◌, ◌++◌, length, Some, None, Option, sym, refl, ap, ◌∙◌, subst, inl, inr, append_assoc, append-nil, arith, length-append}
use Rattle.std.proofs.lemmas.Bool.{both_ways}
use Rattle.finder.specs.Finders.{Pair, Meaning, Walks, Walk, MayCome, Next, first, rest, walking_on}
use Rattle.finder.specs.Taking.{number_of, Took}
use Rattle.finder.proofs.Members.{in_middle}

-- how many pairs may still be taken
abbrev pub pairs_left : Meaning → ℕ
pairs_left m = cond m.walking (length m.coming) (2 ^ 40 + 1)

-- the pairs `done` were taken from a finder that meant `before` and means `m` now: none was asked for yet, or those to come follow them
abbrev pub Came : Walks → Meaning → Meaning → List Pair → Type 0
Came walks before m done =
    ((m ≡ before) × (done ≡ [])) ⊎ (MayCome walks before (done ++ m.coming) × (m ≡ walking_on m.coming before))

pub came_none : (walks : Walks) (m : Meaning) → Came walks m m []
came_none walks m = inl (refl, refl)

-- what came in a walk from its beginning
pub begun : (walks : Walks) (m : Meaning) (ps : List Pair) → m.walking ≡ false → MayCome walks m ps → walks m.box m.announced m.shown ps × Walk m.shown ps
begun walks m ps f h = go m.walking f h
  where
    go : (b : Bool) → b ≡ false → cond b (m.coming ≡ ps) (walks m.box m.announced m.shown ps × Walk m.shown ps) → walks m.box m.announced m.shown ps × Walk m.shown ps
    go true f h = absurd (both_ways true f refl)
    go false f h = h

-- ---- one call of next
module _ (walks : Walks) (m m' : Meaning) (r : Option Pair) (n : Next walks m m' r) where
  -- the pairs that were there to be given, where one was
  record Given (p : Pair) : Type 0 where
    pub others : List Pair
    pub allowed : MayCome walks m (p ∷ others)
    pub leaves : m' ≡ walking_on others m

  given : (p : Pair) → r ≡ Some p → Given p
  given p is = go n.pairs n.allowed n.answers n.leaves
    where
      go : (ps : List Pair) → MayCome walks m ps → r ≡ first ps → m' ≡ walking_on (rest ps) m → Given p
      go [] allowed answers leaves = let e = sym answers ∙ is in absurd (cc e)
      go (q ∷ qs) allowed answers leaves =
          let both = sym answers ∙ is in
          let same : q ≡ p = cc both in
          record { others = qs; allowed = subst (λ x. MayCome walks m (x ∷ qs)) same allowed; leaves = leaves }

  -- none was left
  record Over : Type 0 where
    pub allowed : MayCome walks m []
    pub leaves : m' ≡ walking_on [] m

  over : r ≡ None → Over
  over is = go n.pairs n.allowed n.answers n.leaves
    where
      go : (ps : List Pair) → MayCome walks m ps → r ≡ first ps → m' ≡ walking_on (rest ps) m → Over
      go [] allowed answers leaves = record { allowed = allowed; leaves = leaves }
      go (q ∷ qs) allowed answers leaves = let e = sym is ∙ answers in absurd (cc e)

  -- the measure falls
  pub falls : (p : Pair) → r ≡ Some p → pairs_left m' < pairs_left m
  falls p is = let g = given p is in subst (λ x. pairs_left x < pairs_left m) (sym g.leaves) (less m.walking g.others g.allowed)
    where
      less : (w : Bool) (ps : List Pair) → cond w (m.coming ≡ p ∷ ps) (walks m.box m.announced m.shown (p ∷ ps) × Walk m.shown (p ∷ ps)) → length ps < cond w (length m.coming) (2 ^ 40 + 1)
      less true ps e = let l = ap length e in omega (arith, l)
      less false ps w = let l = w.1.few in omega (arith, l)

  -- ---- in a loop that began at `before`
  module _ (before : Meaning) (done : List Pair) (came : Came walks before m done) where
    onwards : (ps : List Pair) → MayCome walks m ps → MayCome walks before (done ++ ps)
    onwards ps h = go came
      where
        go : Came walks before m done → MayCome walks before (done ++ ps)
        go (inl (e, d)) = subst (λ x. MayCome walks before (x ++ ps)) (sym d) (subst (λ x. MayCome walks x ps) e h)
        go (inr (w, e)) =
            let at : m.coming ≡ ps = subst (λ x. MayCome walks x ps) e h in
            subst (λ x. MayCome walks before (done ++ x)) at w

    walks_on : (ps : List Pair) → walking_on ps m ≡ walking_on ps before
    walks_on ps = go came
      where
        go : Came walks before m done → walking_on ps m ≡ walking_on ps before
        go (inl (e, d)) = ap (walking_on ps) e
        go (inr (w, e)) = ap (walking_on ps) e

    pub came_more : (p : Pair) → r ≡ Some p → Came walks before m' (done ++ (p ∷ []))
    came_more p is =
        let g = given p is in
        let after : m' ≡ walking_on g.others before = g.leaves ∙ walks_on g.others in
        let left : m'.coming ≡ g.others = ap (λ (x : Meaning). x.coming) after in
        let whole : MayCome walks before ((done ++ (p ∷ [])) ++ g.others) = subst (MayCome walks before) (sym (append_assoc done (p ∷ []) g.others)) (onwards (p ∷ g.others) g.allowed) in
        inr (subst (λ x. MayCome walks before ((done ++ (p ∷ [])) ++ x)) (sym left) whole, after ∙ ap (λ x. walking_on x before) (sym left))

    pub came_all : r ≡ None → MayCome walks before done × (m' ≡ walking_on [] before)
    came_all is =
        let o = over is in
        (subst (MayCome walks before) (append-nil done) (onwards [] o.allowed), o.leaves ∙ walks_on [])

    -- the numbers of a pair, in a walk from its beginning
    pub numbers : (p : Pair) → r ≡ Some p → before.walking ≡ false → (p.0 < p.1) × (p.1 < length before.shown) × (length done < 2 ^ 40)
    numbers p is f =
        let g = given p is in
        let w = (begun walks before (done ++ (p ∷ g.others)) f (onwards (p ∷ g.others) g.allowed)).1 in
        let at = w.numbered p (in_middle p done g.others) in
        (at.0, at.1, omega (arith, simp length-append at w.few))

-- the number is exact in a walk from its beginning
pub took_exactly : (walks : Walks) (before after : Meaning) (n : ℕ) (t : Took walks before after n) → before.walking ≡ false → n ≡ length t.pairs
took_exactly walks before after n t f = let few = (begun walks before t.pairs f t.allowed).1.few in omega (arith, few, t.number)

pub number_more : (ps : List Pair) (p : Pair) (n : ℕ) → n ≡ number_of ps → min (n + 1) (2 ^ 64 - 1) ≡ number_of (ps ++ (p ∷ []))
number_more ps p n e = simp length-append (omega (arith, e))
