-- How a layer ends: it is read and carried, or this is why not. Each layer has one of these ends, and only one.
use Rattle.std.specs.Prelude.{◌≡◌, ◌⊎◌, ℕ, ◌≤◌, ◌^◌, List, length, drop, Result, Ok, Err}
use Rattle.sheet_base.specs.declared.edits.Edit.{Edit}
use Rattle.sheet_base.specs.declared.faults.LayerFault.{LayerFault}
use Rattle.sheet_base.specs.declared.flags.How.{How}
use Rattle.sheet_base.specs.Sheets.{Contents}
use Rattle.sheet_base.specs.ImageFits.{Runs}
use Rattle.tin_base.specs.declared.pieces.Piece.{Piece}
use Rattle.tin_base.specs.Triangulation.{Triangulation}
use Rattle.tin_base.specs.Limits.{IsWithinLimits}
use Rattle.tin_base.specs.Soundness.{IsSound}
use Rattle.carry_map.specs.declared.faults.CarryFault.{CarryFault}
use Rattle.carry_map.specs.declared.faults.CarryFault.TheVariants.{Layer, Outside, TooMany, NoMemory}
use Rattle.carry_map.specs.declared.layers.Carried.{Carried}
use Rattle.carry_map.specs.declared.limits.TheConstants.{MOST_PIECES}
use Rattle.carry_map.specs.Layers.{IsLayerCarried, IsLayerOutside, IsLayerTooMany, IsBackAsPieces}

-- ---- it ends
-- the layer of these bytes is carried after some pieces, there are then at most `most`, and what is written is read
-- back, unless the format excepts it
pub record HasLayer (reads : List ℕ → Contents → Type 0) (writes : Contents → Runs → Edit → List ℕ)
    (reads_back : Contents → Runs → Type 0) (tin : Triangulation) (bytes : List ℕ) (layer most : ℕ)
    (before : List Piece) : Type 0 where
  pub carried : Carried
  pub after : List Piece
  pub is_carried : IsLayerCarried tin bytes (reads bytes) writes layer before after carried
  pub few : length after ≤ most
  pub back : IsBackAsPieces tin bytes reads reads_back carried.text (drop (length before) after)

-- its first segment that is not carried is outside, or its pieces find no room after this many
abbrev pub LacksLayer : (Contents → Type 0) → Triangulation → ℕ → ℕ → ℕ → Type 0
LacksLayer reads tin layer old most =
    ((path number : ℕ) × IsLayerOutside tin reads layer old most path number)
    ⊎ IsLayerTooMany tin reads layer old most

-- For each sound triangulation, and for a format: bytes that are read as a sheet have the one or the other
abbrev pub LayerEndExists : (How → List ℕ → Contents → Type 0) → (List ℕ → How → Contents → Runs → Edit → List ℕ)
    → (How → List ℕ → Contents → Runs → Type 0) → Type 0
LayerEndExists reads text reads_back =
    (tin : Triangulation) → IsSound tin → IsWithinLimits tin → (how : How) (bytes : List ℕ) → length bytes ≤ 2 ^ 26
    → (sheet : Contents) → reads how bytes sheet → (layer most : ℕ) (before : List Piece) → length before ≤ most
    → most ≤ MOST_PIECES
    → HasLayer (reads how) (text bytes how) (reads_back how bytes) tin bytes layer most before
    ⊎ LacksLayer (reads how bytes) tin layer (length before) most

-- ---- and in one way
-- The end of a layer after some pieces, where memory does not run out and there may be `most` pieces. It is carried,
-- and these are all pieces then. Or the format refuses its bytes. Or its first segment that is not carried is outside,
-- or its pieces find no room.
abbrev pub IsLayerEnd : (Contents → Type 0) → (LayerFault → Type 0) → (Contents → Runs → Edit → List ℕ)
    → Triangulation → List ℕ → ℕ → ℕ → List Piece → Result (Carried × List Piece) CarryFault → Type 0
IsLayerEnd reads refuses writes tin bytes layer most before (Ok (carried, after)) =
    IsLayerCarried tin bytes reads writes layer before after carried × (length after ≤ most)
IsLayerEnd reads refuses writes tin bytes layer most before (Err (Layer fault)) = refuses fault
IsLayerEnd reads refuses writes tin bytes layer most before (Err (Outside path segment)) =
    IsLayerOutside tin reads layer (length before) most path segment
IsLayerEnd reads refuses writes tin bytes layer most before (Err TooMany) =
    IsLayerTooMany tin reads layer (length before) most
IsLayerEnd reads refuses writes tin bytes layer most before (Err NoMemory) = ⊥

-- For each sound triangulation, and for a format that reads and refuses bytes so and writes these texts: two ends of
-- the same bytes are one. They have the same numbers, text and pieces, or the same fault at one place
abbrev pub LayerEndIsOne : (How → List ℕ → Contents → Type 0) → (How → List ℕ → LayerFault → Type 0)
    → (List ℕ → How → Contents → Runs → Edit → List ℕ) → Type 0
LayerEndIsOne reads refuses text =
    (tin : Triangulation) → IsSound tin → (how : How) (bytes : List ℕ) (layer most : ℕ) (before : List Piece)
    → (end other : Result (Carried × List Piece) CarryFault)
    → IsLayerEnd (reads how bytes) (refuses how bytes) (text bytes how) tin bytes layer most before end
    → IsLayerEnd (reads how bytes) (refuses how bytes) (text bytes how) tin bytes layer most before other
    → end ≡ other
