-- The words of the last two lines of a report.
use Rattle.std.specs.Prelude.{ℕ, cond, List, ◌++◌, codes, decimal, ◌==◌}
use Rattle.report.specs.declared.summary.Summary.{Summary}

-- a number and its noun, for one and for any other number
abbrev pub counted : ℕ → List ℕ → List ℕ → List ℕ
counted n one more = decimal n ++ (codes " " ++ cond (n == 1) one more)

-- how many points are open
abbrev pub open_words : ℕ → List ℕ
open_words n = counted n (codes "open end") (codes "open ends")

abbrev pub summed : Summary → List ℕ
summed s =
    counted s.edges (codes "edge") (codes "edges") ++ (codes ", "
    ++ (counted s.pairs (codes "pair") (codes "pairs") ++ (codes ", "
    ++ (counted s.touches (codes "touch") (codes "touches") ++ (codes ", "
    ++ (counted s.marks (codes "mark") (codes "marks") ++ (codes ", "
    ++ cond s.is_rounded (codes "rounded") (codes "exact"))))))))
