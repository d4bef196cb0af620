-- The sheet of a drawing, or why it has none.
use Rattle.std.specs.Prelude.{ℕ, List, [], length, Option, Result, Ok, Err}
use Rattle.sheet_base.specs.declared.flags.How.{How}
use Rattle.sheet_base.specs.declared.faults.LayerFault.{LayerFault}
use Rattle.sheet_base.specs.declared.faults.LayerFault.TheVariants as faults
use Rattle.sheet_base.specs.Sheets.{Contents}
use Rattle.dxf_pairs.specs.declared.pairs.Pair.{Pair}
use Rattle.dxf_pairs.specs.declared.faults.PairFault.{PairFault}
use Rattle.dxf_pairs.specs.declared.faults.PairFault.TheVariants as pairs
use Rattle.dxf_pairs.specs.Pairs.{drawing}
use Rattle.dxf_layer.specs.EditOrder.{by_place}
use Rattle.dxf_entities.specs.Fields.{once, in_turn}
use Rattle.dxf_entities.specs.Seeds.{seed_of, seed_edits}
use Rattle.dxf_entities.specs.Items.{items_of}
use Rattle.dxf_entities.specs.Kinds.{shapes_of_item}
use Rattle.dxf_entities.specs.Shapes.{Shape, with_shapes}

-- the refusals of pairs, by the same names
abbrev pub refusal_of_pairs : PairFault → LayerFault
refusal_of_pairs pairs.Binary = faults.Binary
refusal_of_pairs (pairs.Code line) = faults.Code line
refusal_of_pairs (pairs.Odd line) = faults.Odd line
refusal_of_pairs pairs.NoEof = faults.NoEof
refusal_of_pairs pairs.NoMemory = faults.NoMemory

-- what is read before the first item: the next handle
abbrev pub contents_of_seed : Option Pair → Contents
contents_of_seed seed = record {
  paths = [];
  points = [];
  heights = [];
  edits = seed_edits seed;
  inexact = 0;
  dropped = 0;
}

-- the sheet of what is read of this many bytes: all edits are in order of the text
abbrev pub contents_in_order : ℕ → Contents → Contents
contents_in_order size whole = record {
  paths = whole.paths;
  points = whole.points;
  heights = whole.heights;
  edits = by_place size whole.edits;
  inexact = whole.inexact;
  dropped = whole.dropped;
}

abbrev pub sheet_of : ℕ → Option Pair → List Shape → Contents
sheet_of size seed shapes = contents_in_order size (with_shapes (contents_of_seed seed) shapes)

-- the items of the sections ENTITIES are read in order, by the next handle of the sections HEADER
abbrev pub sheet_of_pairs : List ℕ → How → List Pair → Result Contents LayerFault
sheet_of_pairs bytes how pairs =
    let seed = seed_of bytes pairs in
    once (in_turn (shapes_of_item bytes how seed) (items_of bytes pairs)) (λ shapes.
    Ok (sheet_of (length bytes) seed shapes))

abbrev pub from_pairs : List ℕ → How → Result (List Pair) PairFault → Result Contents LayerFault
from_pairs bytes how (Ok pairs) = sheet_of_pairs bytes how pairs
from_pairs bytes how (Err fault) = Err (refusal_of_pairs fault)

-- the sheet of the bytes, or the first fault
abbrev pub drawing_sheet : How → List ℕ → Result Contents LayerFault
drawing_sheet how bytes = from_pairs bytes how (drawing bytes)
