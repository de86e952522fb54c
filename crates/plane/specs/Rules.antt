-- What the crossing of two edges marks on either, by the four directions.
use Rattle.std.specs.Prelude.{◌≡◌, ℕ, min, Bool, true, false, cond, ◌||◌, ◌⊎◌, List, [], ◌∷◌, ◌++◌, ◌==◌, nat_le}
use Rattle.plane.specs.Points.{Point}
use Rattle.plane.specs.Edges.{Edge, first, second, zeros, one_sided?, smaller?, between?}
use Rattle.plane.specs.Rounding.{taken, zero?, on_lines?, reach, gap, nearer}

-- the marks on the target and on the other edge, and whether the crossing was rounded
pub record Marking : Type 0 where
  pub target : List Point
  pub other : List Point
  pub rounded : Bool

abbrev pub nothing : Marking
nothing = record { target = []; other = []; rounded = false }

abbrev pub on_both : Point → Bool → Marking
on_both p r = record { target = p ∷ []; other = p ∷ []; rounded = r }

abbrev pub on_target : Point → Bool → Marking
on_target p r = record { target = p ∷ []; other = []; rounded = r }

abbrev pub on_other : Point → Bool → Marking
on_other p r = record { target = []; other = p ∷ []; rounded = r }

abbrev pub listed : Bool → Point → List Point
listed true p = p ∷ []
listed false p = []

-- the ends of g that are strictly between those of e
abbrev pub ends_between : Edge → Edge → List Point
ends_between e g = listed (between? e g.a) g.a ++ listed (between? e g.b) g.b

-- four zeros
unfoldable pub overlaid : Edge → Edge → Marking
overlaid t o = record { target = ends_between t o; other = ends_between o t; rounded = false }

-- one zero: that end is marked on its partner
unfoldable pub end_marked : Edge → Edge → Marking
end_marked t o =
    cond (zero? (first t o)) (on_target o.a false)
    (cond (zero? (second t o)) (on_target o.b false)
    (cond (zero? (first o t)) (on_other t.a false) (on_other t.b false)))

-- a rounded crossing at p: near an end of either edge, the nearest end is marked on its partner, of two edges as near the target's
unfoldable pub snapped : Edge → Edge → Point → ℕ → Marking
snapped t o p r =
    cond (nat_le (min (gap t p) (gap o p)) r)
    (cond (nat_le (gap t p) (gap o p)) (on_other (nearer t p) true) (on_target (nearer o p) true))
    (on_both p true)

-- no zero, with p taken for the crossing
unfoldable pub inner_marked : Edge → Edge → ℕ → Point → Marking
inner_marked t o s p = cond (on_lines? t o p) (on_both p false) (snapped t o p (reach s))

-- what the rules mark of a target and another edge at the snap exponent s
unfoldable pub marking : Edge → Edge → ℕ → Marking
marking t o s =
    cond (zeros t o == 4) (overlaid t o)
    (cond (nat_le 2 (zeros t o) || one_sided? t o) nothing
    (cond (zeros t o == 1) (end_marked t o) (inner_marked t o s (taken t o))))

-- the smaller edge of a pair is the target: the marks on e of its crossing with g
unfoldable pub marked_on : Edge → Edge → ℕ → List Point
marked_on e g s = cond (smaller? g e) (marking g e s).other (marking e g s).target

unfoldable pub rounded? : Edge → Edge → ℕ → Bool
rounded? e g s = cond (smaller? g e) (marking g e s).rounded (marking e g s).rounded

abbrev pub some? : List Point → Bool
some? [] = false
some? (p ∷ l) = true

-- something is marked on one of the two
abbrev pub marked? : Edge → Edge → ℕ → Bool
marked? e g s = some? (marked_on e g s) || some? (marked_on g e s)

-- no direction is zero, and the ends of either edge are on two sides of the other
pub record Inner (e g : Edge) : Type 0 where
  pub none : zeros e g ≡ 0
  pub two_sided : one_sided? e g ≡ false

abbrev pub target_of : Edge → Edge → Edge
target_of e g = cond (smaller? g e) g e

abbrev pub other_of : Edge → Edge → Edge
other_of e g = cond (smaller? g e) e g

-- p is in the list
abbrev pub In : {X : Type 0} → X → List X → Type 0
In p [] = ⊥
In p (q ∷ l) = (p ≡ q) ⊎ In p l
