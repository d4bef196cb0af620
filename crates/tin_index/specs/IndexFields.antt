-- What the fields of an index keep. Only its own functions see them.
use Rattle.std.specs.Prelude.{length}
use Rattle.tin_base.specs.Triangulation.{Triangulation}
use Rattle.tin_index.specs.Boxes.{AreBoxesOf, IsRound}
use Rattle.tin_index.specs.Stars.{AreStarsTo}
use Rattle.tin_index.specs.declared.indexes.TinIndex.TheInside.{Inside}

abbrev pub view_of : Inside → Triangulation
view_of index = index.tin

pub record HasInvariant (index : Inside) : Type 0 where
  pub round : IsRound index.tin (length index.tin.corners) index.round
  pub boxes : AreBoxesOf index.tin (length index.tin.triangles) index.grid.boxes
  pub stars : AreStarsTo index.tin (length index.tin.triangles) index.stars
