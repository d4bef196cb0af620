-- Members of an object by their names, with escapes resolved (RFC 8259, sections 4, 7 and 8.3).
use Rattle.std.specs.Prelude.{ℕ, Bool, List, [], ◌∷◌, Option, Some, None, Result, Ok, Err, if◌then◌else◌}
use Rattle.jtext.specs.Characters.{Char, units_of}
use Rattle.jtext.specs.Values.{Json, Members, no_member, member}
use Rattle.jtext.specs.Nodes.{element_start, member_start, next_place}
use Rattle.jtext.specs.Lookups.{are_same}
use Rattle.sheet_base.specs.declared.faults.LayerFault.{LayerFault}
use Rattle.sheet_base.specs.declared.faults.LayerFault.TheVariants.{Repeat}

-- a member: where its key begins, the key, where its value begins, and the value
pub record Member : Type 0 where
  pub key_start : ℕ
  pub key : List Char
  pub start : ℕ
  pub value : Json

-- the members whose text begins at this place, in order
abbrev pub members_at : ℕ → Members → List Member
members_at place no_member = []
members_at place (member before key behind ahead value after rest) =
    let start = member_start place before key behind ahead in
    record { key_start = element_start place before; key = key; start = start; value = value }
    ∷ members_at (next_place start value after) rest

-- the key says this name
abbrev pub is_named : List ℕ → Member → Bool
is_named name one = are_same (units_of one.key) name

-- the members of this name, in order
abbrev pub all_named : List ℕ → List Member → List Member
all_named name [] = []
all_named name (one ∷ members) = if is_named name one then one ∷ all_named name members else all_named name members

-- none or one; a second one is refused at its key
abbrev pub at_most_one : List Member → Result (Option Member) LayerFault
at_most_one [] = Ok None
at_most_one (one ∷ []) = Ok (Some one)
at_most_one (one ∷ second ∷ more) = Err (Repeat second.key_start)

-- the one member of this name, where it is there at most once
abbrev pub find_member : List ℕ → List Member → Result (Option Member) LayerFault
find_member name members = at_most_one (all_named name members)
