-- Why a layer is not carried, from the fault of carrying it.
use Rattle.std.proofs.Common.{◌≡◌, ◌≢◌, ℕ, List, Some, Err, IsErrOf, refl}
use Rattle.std.proofs.Common.{arith}
use Rattle.carry_map.specs.declared.faults.CarryFault.{CarryFault}
use Rattle.carry_map.specs.declared.faults.CarryFault.TheVariants.{Layer as Unread, Outside as CarryOutside, TooMany}
use Rattle.carry_map.specs.declared.faults.CarryFault.TheVariants.{NoMemory as CarryMemory}
use Rattle.carry_map.specs.declared.layers.Kept.{Kept}
use Rattle.carry_map.specs.declared.limits.TheConstants.{MOST_PIECES}
use Rattle.carry_map.specs.Layers.{IsLayerOutside, IsLayerTooMany}
use Rattle.sheet_base.specs.declared.faults.LayerFault.{LayerFault}
use Rattle.sheet_base.specs.Sheets.{Contents}
use Rattle.tin_base.specs.Triangulation.{Triangulation}
use Rattle.sheet_base.specs.declared.flags.How.{How}
use Rattle.job_words.specs.declared.formats.Format.{Format}
use Rattle.job_words.specs.Formats.{format_by_name}
use Rattle.layer_formats.specs.LayerOutcomes.{IsLayerText, LacksLayerText}
use Rattle.runs.specs.declared.status.Status.TheVariants.{Read as ReadStatus}
use Rattle.runs.specs.declared.refusal.Refusal.{Refusal}
use Rattle.runs.specs.declared.refusal.Refusal.TheVariants.{LayersLong, Layer, Outside, TooManyPieces}
use Rattle.runs.specs.declared.refusal.Refusal.TheVariants.{NoMemory}
use Rattle.runs.specs.Refusals.{status_of}
use Rattle.runs.proofs.Faults.{of_layer, layer_not_read}
use Rattle.migrate_mode.specs.RunContents.{of_carrying, IsUncarriedAs, IsOfLayers, AddsNone}

-- the fault of an answer
abbrev IsFault : CarryFault → CarryFault → Type 0
IsFault fault other = IsErrOf {T = Kept} (Err fault) other

module _ (reads : List ℕ → Contents → Type 0) (refuses : List ℕ → LayerFault → Type 0) (tin : Triangulation)
    (text : List ℕ) (number before : ℕ) where
  pub uncarried_as : (fault : CarryFault) → ((f : LayerFault) → IsFault fault (Unread f) → refuses text f)
      → ((path segment : ℕ) → IsFault fault (CarryOutside path segment)
      → IsLayerOutside tin (reads text) number before MOST_PIECES path segment)
      → (IsFault fault TooMany → IsLayerTooMany tin (reads text) number before MOST_PIECES)
      → IsUncarriedAs reads refuses tin text number before (of_carrying number fault)
  uncarried_as (Unread fault) layer outside many = (refl, layer fault refl)
  uncarried_as (CarryOutside path segment) layer outside many = (refl, outside path segment refl)
  uncarried_as TooMany layer outside many = many refl
  uncarried_as CarryMemory layer outside many = tt

-- ---- the refusals that layers have
-- of a layer that is read: no file of it is missing or long
pub record IsOfRead (refusal : Refusal) : Type 0 where
  pub of_layers : IsOfLayers refusal
  pub not_read : status_of refusal ≢ ReadStatus
  pub not_long : refusal ≢ LayersLong

of_uncarried : (reads : List ℕ → Contents → Type 0) (refuses : List ℕ → LayerFault → Type 0) (tin : Triangulation)
    (text : List ℕ) (number before : ℕ) (refusal : Refusal)
    → IsUncarriedAs reads refuses tin text number before refusal → IsOfRead refusal
of_uncarried reads refuses tin text number before (Layer layer fault) why = grind (arith, layer_not_read, of_layer)
of_uncarried reads refuses tin text number before (Outside layer path segment) why =
    record { of_layers = tt; not_read = λ e. cc; not_long = λ e. cc }
of_uncarried reads refuses tin text number before TooManyPieces why =
    record { of_layers = tt; not_read = λ e. cc; not_long = λ e. cc }
of_uncarried reads refuses tin text number before NoMemory why =
    record { of_layers = tt; not_read = λ e. cc; not_long = λ e. cc }
of_uncarried reads refuses tin text number before refusal why = absurd why

pub of_none : (how : How) (tin : Triangulation) (number : ℕ) (name bytes : List ℕ) (before : ℕ) (refusal : Refusal)
    → AddsNone how tin number name bytes before refusal → IsOfRead refusal
of_none how tin number name bytes before refusal none =
    of_uncarried (IsLayerText how none.format) (LacksLayerText how none.format) tin bytes number before refusal none.why

-- a layer of a known format may always be refused because memory ran out
pub none_by_memory : (how : How) (tin : Triangulation) (number : ℕ) (name bytes : List ℕ) (before : ℕ) (format : Format)
    → format_by_name name ≡ Some format → AddsNone how tin number name bytes before NoMemory
none_by_memory how tin number name bytes before format suffix = record { format = format; suffix = suffix; why = tt }
