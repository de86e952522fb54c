-- Where an edge has fragments, and the rectangle of each.
use Rattle.std.specs.Prelude.{ℕ, suc, ◌+◌, ◌-◌, ◌*◌, ◌/◌, Bool, cond, ◌&&◌, ℤ, pos, ◌+ℤ◌, ◌-ℤ◌, ◌==◌, int_le, nat_le, unsigned_abs}
use Rattle.plane.specs.Edges.{Edge}
use Rattle.finder.specs.Finders.{Box}
use Rattle.grid.specs.Layouts.{Layout, column, border}

-- an edge's width and height
abbrev pub run : Edge → ℕ
run e = unsigned_abs (e.b.x -ℤ e.a.x)

abbrev pub rise : Edge → ℕ
rise e = unsigned_abs (e.b.y -ℤ e.a.y)

abbrev pub vertical? : Edge → Bool
vertical? e = run e == 0

-- a vertical at x
abbrev pub stands_at? : ℤ → Edge → Bool
stands_at? x e = vertical? e && unsigned_abs (e.a.x -ℤ x) == 0

-- fragments stand in each column from that of the first x to that of the second x - 1; a vertical has one, in the column of its x
abbrev pub first_column : Layout → Edge → ℕ
first_column l e = column l e.a.x

unfoldable pub last_column : Layout → Edge → ℕ
last_column l e = cond (vertical? e) (column l e.a.x) (column l (e.b.x -ℤ pos 1))

unfoldable pub in_column? : Layout → ℕ → Edge → Bool
in_column? l c e = nat_le (first_column l e) c && nat_le c (last_column l e)

abbrev pub fragments : Layout → Edge → ℕ
fragments l e = suc (last_column l e) - first_column l e

-- the height of e at border i, times its width
abbrev pub climb : Layout → Edge → ℕ → ℕ
climb l e i = rise e * unsigned_abs (border l i -ℤ e.a.x)

-- that height rounded down and rounded up
unfoldable pub low : Layout → Edge → ℕ → ℕ
low l e i = climb l e i / run e

unfoldable pub high : Layout → Edge → ℕ → ℕ
high l e i = (climb l e i + (run e - 1)) / run e

-- from x to x', and from the height h to the height h'; heights are counted from the first end of e towards its second
unfoldable pub spanned : Edge → ℤ → ℤ → ℕ → ℕ → Box
spanned e x x' h h' =
    cond (int_le e.a.y e.b.y)
    (record { left = x; right = x'; bottom = e.a.y +ℤ pos h; top = e.a.y +ℤ pos h' })
    (record { left = x; right = x'; bottom = e.a.y -ℤ pos h'; top = e.a.y -ℤ pos h })

-- the rectangle of the fragment of e in column c, between ends and borders
unfoldable pub rect : Layout → ℕ → Edge → Box
rect l c e =
    spanned e
    (cond (c == first_column l e) e.a.x (border l c))
    (cond (c == last_column l e) e.b.x (border l (suc c)))
    (cond (c == first_column l e) 0 (low l e c))
    (cond (c == last_column l e) (rise e) (high l e (suc c)))
