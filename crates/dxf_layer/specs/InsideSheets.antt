-- The sheet of a drawing as the code reads it: by the walk over its entities, with the edits in the order in which the
-- code brings them. Only private functions speak of it.
use Rattle.std.specs.Prelude.{ℕ, List, Option, Result, Ok}
use Rattle.sheet_base.specs.declared.flags.How.{How}
use Rattle.sheet_base.specs.declared.faults.LayerFault.{LayerFault}
use Rattle.sheet_base.specs.Sheets.{Contents}
use Rattle.dxf_pairs.specs.declared.pairs.Pair.{Pair}
use Rattle.dxf_layer.specs.Drawings.{contents_of_seed}
use Rattle.sheet_base.specs.Faults.{and_then}
use Rattle.dxf_entities.specs.Seeds.{seed_of}
use Rattle.dxf_layer.specs.InsideEditOrder.{in_order}
use Rattle.dxf_entities.specs.SectionPlaces.{entities_of}
use Rattle.dxf_layer.specs.InsideWalks.{free, walk_of}
use Rattle.dxf_entities.specs.Shapes.{Shape, with_shapes}

abbrev pub put_in_order : Contents → Contents
put_in_order whole = record {
  paths = whole.paths;
  points = whole.points;
  heights = whole.heights;
  edits = in_order whole.edits;
  inexact = whole.inexact;
  dropped = whole.dropped;
}

abbrev pub walked_sheet_of : Option Pair → List Shape → Contents
walked_sheet_of seed shapes = put_in_order (with_shapes (contents_of_seed seed) shapes)

abbrev pub walked_of_pairs : List ℕ → How → List Pair → Result Contents LayerFault
walked_of_pairs bytes how pairs =
    let seed = seed_of bytes pairs in
    and_then (λ shapes. Ok (walked_sheet_of seed shapes)) (walk_of bytes how seed free (entities_of bytes pairs))
