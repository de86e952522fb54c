-- How the grid lays columns over a box.
use Rattle.std.specs.Prelude.{ℕ, zero, suc, ◌-◌, ◌*◌, ◌/◌, ◌^◌, max, Bool, cond, ◌||◌, ℤ, pos, ◌+ℤ◌, ◌-ℤ◌, ◌==◌, int_lt, nat_le, unsigned_abs}
use Rattle.finder.specs.Finders.{Box}

-- the largest k up to a limit with 2 ^ k ≤ n, or 0
unfoldable pub log_to : ℕ → ℕ → ℕ
log_to zero n = 0
log_to (suc k) n = cond (nat_le (2 ^ suc k) n) (suc k) (log_to k n)

-- the binary logarithm of a number of 64 bits, rounded down: the largest k with 2 ^ k ≤ n
unfoldable pub ilog2 : ℕ → ℕ
ilog2 n = log_to 63 n

abbrev pub width : Box → ℤ
width b = b.right -ℤ b.left

-- there is one column alone: the box is narrow or turned inside out, or no edge is announced
abbrev pub single? : Box → ℕ → Bool
single? b n = int_lt (width b) (pos 4) || n == 0

-- columns are 2 ^ power wide; a single one is wider than any box
unfoldable pub power_of : Box → ℕ → ℕ
power_of b n = cond (single? b n) 32 (max 1 (ilog2 (unsigned_abs (width b)) - ilog2 n / 2))

-- the columns begin at left
pub record Layout : Type 0 where
  pub left : ℤ
  pub power : ℕ

abbrev pub layout : Box → ℕ → Layout
layout b n = record { left = b.left; power = power_of b n }

-- the column of an x from left on
unfoldable pub column : Layout → ℤ → ℕ
column l x = unsigned_abs (x -ℤ l.left) / 2 ^ l.power

-- the border where column i begins
unfoldable pub border : Layout → ℕ → ℤ
border l i = l.left +ℤ pos (i * 2 ^ l.power)

-- 4096 edges have no more columns
abbrev pub most_columns : ℕ
most_columns = 128
