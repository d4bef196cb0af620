-- The fields of an entity, looked up by code, and what their values are compared with.
use Rattle.std.specs.Prelude.{ℕ, ◌*◌, ℤ, pos, Bool, false, ◌&&◌, not, if◌then◌else◌, List, [], ◌∷◌, ◌++◌, filter}
use Rattle.std.specs.Prelude.{take_while, int_lt, Option, None, Some, Result, Ok, Err}
use Rattle.std.specs.Ordering.{int_eq}
use Rattle.mm_decimal.specs.AnswerValues.{millimetres_of}
use Rattle.mm_decimal.specs.declared.numerals.MmRead.{MmRead}
use Rattle.mm_decimal.specs.declared.numerals.NumFault.{NumFault}
use Rattle.sheet_base.specs.declared.faults.LayerFault.{LayerFault}
use Rattle.sheet_base.specs.declared.faults.LayerFault.TheVariants.{Count, Number, Inexact}
use Rattle.sheet_base.specs.Faults.{and_then}
use Rattle.dxf_pairs.specs.declared.pairs.Pair.{Pair}
use Rattle.dxf_pairs.specs.Groups.{value_in}
use Rattle.dxf_entities.specs.declared.fields.Read.{Read}
use Rattle.dxf_entities.specs.Entities.{Entity, is_coded}

-- in the order of reading: once the first is read, what is made of it
abbrev pub once : {A B : Type 0} → Result A LayerFault → (A → Result B LayerFault) → Result B LayerFault
once first f = and_then f first

-- what is made of each, one after the other, or the first fault
abbrev pub in_turn : {A B : Type 0} → (A → Result (List B) LayerFault) → List A → Result (List B) LayerFault
in_turn f [] = Ok []
in_turn f (item ∷ items) = once (f item) (λ here. once (in_turn f items) (λ more. Ok (here ++ more)))

-- the fields of an entity are its pairs before the first code of 1000 or more
abbrev pub entity_fields : Entity → List Pair
entity_fields entity = take_while (λ pair. int_lt pair.code (pos 1000)) entity.pairs

-- one field or none; a second one is refused at its line
abbrev pub at_most_one : List Pair → Result (Option Pair) LayerFault
at_most_one [] = Ok None
at_most_one (pair ∷ []) = Ok (Some pair)
at_most_one (pair ∷ second ∷ pairs) = Err (Count second.line)

-- the field of the code, looked up
abbrev pub field_at : ℤ → Entity → Result (Option Pair) LayerFault
field_at code entity = at_most_one (filter (is_coded code) (entity_fields entity))

abbrev pub is_there : Entity → Option Pair → Result Pair LayerFault
is_there entity None = Err (Count entity.head.line)
is_there entity (Some pair) = Ok pair

-- the field of the code, which is wanted: where it is missing, the entity is refused
abbrev pub wanted_at : ℤ → Entity → Result Pair LayerFault
wanted_at code entity = once (field_at code entity) (is_there entity)

abbrev pub read_of : Bool → Pair → Result MmRead NumFault → Result Read LayerFault
read_of exact pair (Err fault) = Err (Number pair.value fault)
read_of exact pair (Ok read) =
    if exact && not read.exact then Err (Inexact pair.value)
    else Ok (record { pair = pair; mm = read.mm; lost = not read.exact })

-- the coordinate of a field
abbrev pub coordinate_of : List ℕ → Bool → Pair → Result Read LayerFault
coordinate_of bytes exact pair = read_of exact pair (millimetres_of (value_in bytes pair))

-- the coordinate of a wanted field
abbrev pub coordinate_from : List ℕ → Bool → ℤ → Entity → Result Read LayerFault
coordinate_from bytes exact code entity = once (wanted_at code entity) (coordinate_of bytes exact)

abbrev pub is_exactly : ℤ → Result MmRead NumFault → Bool
is_exactly mm (Ok read) = read.exact && int_eq read.mm mm
is_exactly mm (Err fault) = false

-- the value is a numeral of just this number
abbrev pub equals_number : List ℕ → ℕ → Pair → Bool
equals_number bytes number pair = is_exactly (pos (1000 * number)) (millimetres_of (value_in bytes pair))

-- the field, where it is there, equals this number
abbrev pub there_as : List ℕ → ℕ → Option Pair → Bool
there_as bytes number None = false
there_as bytes number (Some pair) = equals_number bytes number pair

-- the field is there and not zero
abbrev pub not_zero : List ℕ → Option Pair → Bool
not_zero bytes None = false
not_zero bytes (Some pair) = not (equals_number bytes 0 pair)

abbrev pub line_unless_zero : List ℕ → Option Pair → Result (Option ℕ) LayerFault
line_unless_zero bytes None = Ok None
line_unless_zero bytes (Some pair) = if equals_number bytes 0 pair then Ok None else Ok (Some pair.line)

-- the line of the field of the code, where it is there and not zero
abbrev pub not_zero_line : List ℕ → ℤ → Entity → Result (Option ℕ) LayerFault
not_zero_line bytes code entity = once (field_at code entity) (line_unless_zero bytes)

abbrev pub refused_at : (ℕ → LayerFault) → Result (Option ℕ) LayerFault → Result (Unit {0}) LayerFault
refused_at fault (Ok None) = Ok tt
refused_at fault (Ok (Some line)) = Err (fault line)
refused_at fault (Err other) = Err other

-- the field of the code is missing or zero, or else this fault at its line
abbrev pub zero_at : List ℕ → (ℕ → LayerFault) → ℤ → Entity → Result (Unit {0}) LayerFault
zero_at bytes fault code entity = refused_at fault (not_zero_line bytes code entity)
