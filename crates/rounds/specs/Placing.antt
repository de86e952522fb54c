-- The marks of an edge in cutting order: groups of equal x from left to right, each reversed if the y just before it exceeds the y just after it.
use Rattle.std.specs.Prelude.{cond, List, [], ◌∷◌, ◌++◌, reverse, ℤ, int_lt}
use Rattle.plane.specs.declared.int_point.IntPoint.{IntPoint}

-- the y of the last point, or y where there is none
abbrev pub last_y : ℤ → List IntPoint → ℤ
last_y y [] = y
last_y y (p ∷ l) = last_y p.y l

-- a group, given last point first, between the ys before and after it
abbrev pub settled : ℤ → List IntPoint → ℤ → List IntPoint
settled before group after = cond (int_lt after before) group (reverse group)

-- points in order, behind an open group of the x w that has the y `before` before it; `end` is the y after all
abbrev pub place : ℤ → ℤ → List IntPoint → List IntPoint → ℤ → List IntPoint
place before w group [] end = settled before group end
place before w group (p ∷ l) end =
    cond (int_lt w p.x)
    (settled before group p.y ++ place (last_y before (settled before group p.y)) p.x (p ∷ []) l end)
    (place before w (p ∷ group) l end)

-- the same with no group open yet
abbrev pub place_all : ℤ → List IntPoint → ℤ → List IntPoint
place_all before [] end = []
place_all before (p ∷ l) end = place before p.x (p ∷ []) l end

-- points in order, placed on the edge from a to b
abbrev pub placed : IntPoint → IntPoint → List IntPoint → List IntPoint
placed a b l = place_all a.y l b.y
