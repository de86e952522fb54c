-- What the places of a table hold, and what becomes of them when a record comes.
use Rattle.std.specs.Prelude.{◌≡◌, ℕ, ◌-◌, ◌≤◌, false, List, length, take, drop, replicate, None, Option, Result, MatchResult}
use Rattle.table.specs.Records.{RecordKind}
use Rattle.table.specs.Listings.{Ordered, Listing, record_at, with_record}

-- all places, how many from the first on are used, and how many may be
pub record Content (R : Type 0) : Type 0 where
  pub places : List R
  pub used : ℕ
  pub room : ℕ

module _ {R : Type 0} where
  abbrev pub content : List R → ℕ → ℕ → Content R
  content places used room = record { places = places; used = used; room = room }

  abbrev pub records : Content R → List R
  records c = take c.used c.places

  -- every unused place is blank
  abbrev pub BlankBehind : RecordKind R → Content R → Type 0
  BlankBehind K c = drop c.used c.places ≡ replicate (length c.places - c.used) K.blank

  -- no more is used than may be, the records are in order, and all other places are blank
  pub record Sound (K : RecordKind R) (c : Content R) : Type 0 where
    pub fits : c.used ≤ c.room
    pub roomy : c.room ≤ length c.places
    pub ordered : Ordered K (records c)
    pub blank : BlankBehind K c

  -- n blank places, of which `room` may be used
  abbrev pub unused : RecordKind R → ℕ → ℕ → Content R
  unused K n room = content (replicate n K.blank) 0 room

  -- r finds no place: its key is new, it is not empty, and all the room is used
  pub record NoPlace (K : RecordKind R) (r : R) (c : Content R) : Type 0 where
    pub new : record_at K (records c) r ≡ None
    pub filled : K.empty? r ≡ false
    pub full : c.used ≡ c.room

  -- r came: what the records listed is joined with r at its key, and all else is as it was
  pub record Came (K : RecordKind R) (r : R) (before after : Content R) : Type 0 where
    pub listed : (f : R → Option R) → Listing K f (records before) → Listing K (with_record K r f) (records after)
    pub blank : BlankBehind K before → BlankBehind K after
    pub found : Ordered K (records before) → ¬ NoPlace K r before
    pub fits : after.used ≤ after.room
    pub long : length after.places ≡ length before.places
    pub room : after.room ≡ before.room

  -- r found no place, and nothing has changed
  pub record Refused (K : RecordKind R) (r : R) (before after : Content R) : Type 0 where
    pub same : after ≡ before
    pub reason : Sound K before → NoPlace K r before

  -- what a coming of r answers, and leaves
  abbrev pub Answers : {T E : Type 0} → RecordKind R → R → Content R → Content R → Result T E → Type 0
  Answers K r before after a = MatchResult a (λ _. Came K r before after) (λ _. Refused K r before after)

  -- other records stand in the first places, and all behind them are blank if those behind the first `used` ones were
  pub record Replaced (K : RecordKind R) (xs : List R) (used : ℕ) (before after : List R) : Type 0 where
    pub listed : take (length xs) after ≡ xs
    pub blank : drop used before ≡ replicate (length before - used) K.blank → drop (length xs) after ≡ replicate (length after - length xs) K.blank
    pub long : length after ≡ length before

  -- a table takes the records of another, which is left with blank places
  pub record TookOver (K : RecordKind R) (before other after left : Content R) : Type 0 where
    pub listed : records after ≡ records other
    pub room : after.room ≡ before.room
    pub long : length after.places ≡ length before.places
    pub emptied : left ≡ unused K (length other.places) other.room
