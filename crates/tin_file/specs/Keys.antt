-- Members by their keys, and texts by what they say (PROJ manual, tinshift; RFC 8259 for what a text says).
use Rattle.std.specs.Prelude.{ℕ, Bool, true, false, codes, List, [], ◌∷◌, Result, Ok, Err, if◌then◌else◌}
use Rattle.jtext.specs.Characters.{units_of}
use Rattle.jtext.specs.Values.{Json, Elements, Members, numeral, quoted, array, object, no_element, element, no_member}
use Rattle.jtext.specs.Values.{member}
use Rattle.jtext.specs.Lookups.{are_same}
use Rattle.tin_file.specs.declared.faults.Top.{Top}
use Rattle.tin_file.specs.declared.faults.Top.TheVariants as tops
use Rattle.tin_file.specs.declared.faults.TinFault.{TinFault}
use Rattle.tin_file.specs.declared.faults.TinFault.TheVariants.{Key}

-- the key as it is in the format
abbrev pub key_of : Top → List ℕ
key_of tops.Whole = codes "top"
key_of tops.FileType = codes "file_type"
key_of tops.FormatVersion = codes "format_version"
key_of tops.Strategy = codes "fallback_strategy"
key_of tops.Components = codes "transformed_components"
key_of tops.VerticesColumns = codes "vertices_columns"
key_of tops.TrianglesColumns = codes "triangles_columns"
key_of tops.Vertices = codes "vertices"
key_of tops.Triangles = codes "triangles"

-- the value is a text that says this, with its escapes resolved
abbrev pub says : Json → List ℕ → Bool
says (quoted chars) text = are_same (units_of chars) text
says value text = false

abbrev pub is_object : Json → Bool
is_object (object blank members) = true
is_object value = false

abbrev pub is_number : Json → Bool
is_number (numeral text) = true
is_number value = false

abbrev pub is_array : Json → Bool
is_array (array blank elements) = true
is_array value = false

abbrev pub is_text : Json → Bool
is_text (quoted chars) = true
is_text value = false

-- the elements of an array, in order
abbrev pub values_in : Elements → List Json
values_in no_element = []
values_in (element before value after rest) = value ∷ values_in rest

-- the values of the members whose key says this, in order
abbrev pub values_of : List ℕ → Members → List Json
values_of key no_member = []
values_of key (member before name behind ahead value after rest) =
    if are_same (units_of name) key then value ∷ values_of key rest else values_of key rest

-- the one value there is
abbrev pub the_one : Top → List Json → Result Json TinFault
the_one which (value ∷ []) = Ok value
the_one which values = Err (Key which)

-- the value of a member that has to be there once
abbrev pub needed_value : Top → Members → Result Json TinFault
needed_value which members = the_one which (values_of (key_of which) members)

-- the elements of the value, where it is an array
abbrev pub list_of : Top → Json → Result (List Json) TinFault
list_of which (array blank elements) = Ok (values_in elements)
list_of which value = Err (Key which)

-- the fault, or else what follows
abbrev pub when_passed : {B : Type 0} → Result (Unit {0}) TinFault → Result B TinFault → Result B TinFault
when_passed (Ok passed) next = next
when_passed (Err fault) next = Err fault

-- the fault, or else what is made of the value
abbrev pub and_then : {A B : Type 0} → (A → Result B TinFault) → Result A TinFault → Result B TinFault
and_then f (Ok value) = f value
and_then f (Err fault) = Err fault

-- the elements of an array that has to be there once
abbrev pub needed_list : Top → Members → Result (List Json) TinFault
needed_list which members = and_then (list_of which) (needed_value which members)
