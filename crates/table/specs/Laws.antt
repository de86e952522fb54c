-- What holds of the listings of every kind of record.
use Rattle.std.specs.Prelude.{◌≡◌, List, Option}
use Rattle.table.specs.Records.{RecordKind}
use Rattle.table.specs.Listings.{Listing, gathered, Reordered}

pub record ListingLaws {R : Type 0} (K : RecordKind R) : Type 0 where
  -- a function has one listing
  pub determined : (f : R → Option R) (xs ys : List R) → Listing K f xs → Listing K f ys → xs ≡ ys
  -- records joined in any order leave one list
  pub any_order : (rs ss xs ys : List R) → Reordered rs ss → Listing K (gathered K rs) xs → Listing K (gathered K ss) ys → xs ≡ ys
