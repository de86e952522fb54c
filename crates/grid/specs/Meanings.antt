-- What the column grid means as a finder.
use Rattle.std.specs.Prelude.{◌≡◌, min, length, take}
use Rattle.finder.specs.Finders.{Meaning, Walks, box_of}
use Rattle.grid.specs.Grid.{grid_pairs}
use Rattle.grid.specs.Models.{layout_of}
use Rattle.grid.specs.Tables.{contents, edges_in, most_fragments, coming_pairs, walking?}
use Rattle.grid.specs.declared.fragment_buffer.FragmentBuffer.{FragmentBuffer}

abbrev pub grid_meaning : FragmentBuffer → Meaning
grid_meaning g = record {
  box = box_of g.intake.extent;
  announced = g.intake.announced;
  shown = edges_in (layout_of g.layout) (contents (take g.used g.fragments.now));
  coming = coming_pairs (layout_of g.layout) (contents (take g.used g.fragments.now)) g.state;
  walking = walking? g.state;
  capacity = min (length g.fragments.now) most_fragments;
}

-- one list alone may come
abbrev pub grid_walks : Walks
grid_walks b n es ps = ps ≡ grid_pairs b n es
