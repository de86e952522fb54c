-- Three crossings worked out by hand.
use Rattle.std.specs.Prelude.{◌≡◌, ℕ, true, [], ◌∷◌, pos}
use Rattle.plane.specs.Points.{Point}
use Rattle.plane.specs.Edges.{Edge}
use Rattle.plane.specs.Rules.{marked_on, rounded?}

abbrev pub point : ℕ → ℕ → Point
point x y = record { x = pos x; y = pos y }

-- from (0,0) to (10,3), and from (0,2) to (10,1): their lines meet at (5, 1.5)
abbrev pub rising : Edge
rising = record { a = point 0 0; b = point 10 3 }

abbrev pub falling : Edge
falling = record { a = point 0 2; b = point 10 1 }

-- from (0,3) to (10,3), and from (1,0) to (4,5): their lines meet at (2.8, 3)
abbrev pub level : Edge
level = record { a = point 0 3; b = point 10 3 }

abbrev pub steep : Edge
steep = record { a = point 1 0; b = point 4 5 }

pub record WorkedCrossings : Type 0 where
  -- with the exponent 0 no end is near: (5,2) on both, rounded
  pub far : (marked_on rising falling 0 ≡ point 5 2 ∷ []) × (marked_on falling rising 0 ≡ point 5 2 ∷ []) × (rounded? rising falling 0 ≡ true)
  -- with the exponent 5 the end (0,2) is near: it on the first edge alone
  pub near : (marked_on rising falling 5 ≡ point 0 2 ∷ []) × (marked_on falling rising 5 ≡ []) × (rounded? rising falling 5 ≡ true)
  -- on a level target x is cut towards the first end
  pub cut_off : (marked_on level steep 0 ≡ point 2 3 ∷ []) × (marked_on steep level 0 ≡ point 2 3 ∷ []) × (rounded? level steep 0 ≡ true)
