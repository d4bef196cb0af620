-- That memory runs out is no fault of a text.
use Rattle.std.proofs.Common.{inl, inr, ℕ, ◌+◌, Bool, List, [], ◌∷◌, length, arith}
use Rattle.sheet_base.specs.declared.faults.LayerFault.TheVariants.{NoMemory}
use Rattle.wkt_layer.specs.Tokens.{Placed, tokens_of}
use Rattle.wkt_layer.specs.Faults.{IsFaultBehind, IsLineFault}
use Rattle.wkt_layer.specs.Layers.{IsFirstLineFault, geometry_lines, IsWktRefusedBy}

none_behind : (exact : Bool) (front rest : List Placed) (end : ℕ) → IsFaultBehind exact front rest end NoMemory → ⊥
none_behind exact front (next ∷ more) end is = is
none_behind exact front [] end is = cc

none_in_line : (exact : Bool) (line : List Placed) (end : ℕ) → IsLineFault exact line end NoMemory → ⊥
none_in_line exact [] end is = is
none_in_line exact (first ∷ more) end is = grind (arith, none_behind)

none_in_lines : (exact : Bool) (at : ℕ) (lines : List (List ℕ)) → IsFirstLineFault exact at lines NoMemory → ⊥
none_in_lines exact at [] is = is
none_in_lines exact at (line ∷ lines) (inl here) = none_in_line exact (tokens_of at line) (at + length line) here
none_in_lines exact at (line ∷ lines) (inr (here, is, rest)) = none_in_lines exact (at + length line + 1) lines rest

pub no_memory_fault : (exact : Bool) (bytes : List ℕ) → IsWktRefusedBy exact bytes NoMemory → ⊥
no_memory_fault exact bytes is = none_in_lines exact 0 (geometry_lines bytes) is
