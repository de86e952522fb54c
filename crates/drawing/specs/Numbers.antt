-- Which bytes are a number, and which number it is.
use Rattle.std.specs.Prelude.{◌≡◌, ℕ, ◌+◌, ◌-◌, ◌*◌, ◌^◌, ◌<◌, Bool, false, cond, not, ◌&&◌, List, [], ◌∷◌, ℤ, pos, neg_ℤ, Ok, Err, decimal, Result, MatchResult, ◌==◌, nat_lt}
use Rattle.std.specs.Int.Signed.{mag}
use Rattle.std.specs.Fmt.{signed_decimal}
use Rattle.std.specs.Str.{all_ascii_digits}
use Rattle.drawing.specs.declared.number.NumberFault.{NumberFault}
use Rattle.drawing.specs.declared.number.NumberFault.TheVariants.{Form, TooLarge}

-- one digit or more, the first of several not a zero
abbrev pub numeral? : List ℕ → Bool
numeral? [] = false
numeral? (b ∷ []) = all_ascii_digits (b ∷ [])
numeral? (b ∷ c ∷ bs) = not (b == 48) && all_ascii_digits (b ∷ c ∷ bs)

-- the number that digits write, after those of n
abbrev pub value_after : ℕ → List ℕ → ℕ
value_after n [] = n
value_after n (b ∷ bs) = value_after (10 * n + (b - 48)) bs

abbrev pub value : List ℕ → ℕ
value bs = value_after 0 bs

-- bytes as an unsigned number
abbrev pub unsigned_of : List ℕ → Result ℕ NumberFault
unsigned_of bs =
    cond (numeral? bs) (cond (nat_lt (value bs) (2 ^ 32)) (Ok (value bs)) (Err TooLarge)) (Err Form)

-- a numeral, or a minus and a numeral other than `0`
abbrev pub signed_numeral? : List ℕ → Bool
signed_numeral? [] = false
signed_numeral? (b ∷ bs) = cond (b == 45) (numeral? bs && not (value bs == 0)) (numeral? (b ∷ bs))

abbrev pub signed_value : List ℕ → ℤ
signed_value [] = pos 0
signed_value (b ∷ bs) = cond (b == 45) (neg_ℤ (pos (value bs))) (pos (value (b ∷ bs)))

-- a signed number has 32 bits: `mag` is n at both n and -(n + 1)
abbrev pub signed_of : List ℕ → Result ℤ NumberFault
signed_of bs =
    cond (signed_numeral? bs)
    (cond (nat_lt (mag (signed_value bs)) (2 ^ 31)) (Ok (signed_value bs)) (Err TooLarge))
    (Err Form)

-- r is the number whose decimal form is bs, and a fault where no number of 32 bits has that form
abbrev pub OnlyDecimal : List ℕ → Result ℕ NumberFault → Type 0
OnlyDecimal bs r = MatchResult r (λ n. bs ≡ decimal n) (λ _. (n : ℕ) → n < 2 ^ 32 → ¬ (bs ≡ decimal n))

abbrev pub OnlySigned : List ℕ → Result ℤ NumberFault → Type 0
OnlySigned bs r = MatchResult r (λ z. bs ≡ signed_decimal z) (λ _. (z : ℤ) → mag z < 2 ^ 31 → ¬ (bs ≡ signed_decimal z))
