-- What an ordered table holds.
use Rattle.std.specs.Prelude.{ℕ, List}
use Rattle.table.specs.Contents.{Content, content, records}
use Rattle.table.specs.declared.keyed.Keyed.{Ghosts}
use Rattle.table.specs.declared.ordered_table.OrderedTable.{OrderedTable}

module _ {R : Type 0} {G : Ghosts R} where
  abbrev pub content_of : OrderedTable R G → Content R
  content_of t = content t.places.now t.used t.room

  abbrev pub records_of : OrderedTable R G → List R
  records_of t = records (content_of t)

  -- what tells the slice that the table stands on: while it is the same, what the table holds is what the slice holds
  abbrev pub places_name : OrderedTable R G → ℕ
  places_name t = t.places.ghost_name
