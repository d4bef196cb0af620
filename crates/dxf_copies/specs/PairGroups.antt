-- The groups that stand for a pair in a written drawing.
use Rattle.std.specs.Prelude.{ℕ, Bool, ◌&&◌, ◌==◌, nat_lt, nat_le, if◌then◌else◌, List, [], ◌∷◌, ◌++◌, flat_map, filter}
use Rattle.std.specs.Prelude.{Option, None, Some}
use Rattle.std.specs.List.{find, list_any}
use Rattle.sheet_base.specs.declared.edits.Edit.{Edit}
use Rattle.dxf_pairs.specs.declared.pairs.Pair.{Pair}
use Rattle.dxf_pairs.specs.Groups.{Group, groups_of, value_in}
use Rattle.dxf_copies.specs.Rendering.{Reading, text_of}

-- an edit that replaces whole pairs, or none, begins where this pair begins
abbrev pub begins_at : Pair → Edit → Bool
begins_at pair edit = edit.start == pair.start

-- an edit that replaces whole pairs has this one among them
abbrev pub covers : Pair → Edit → Bool
covers pair edit = nat_le edit.start pair.start && nat_lt pair.start edit.end

abbrev pub is_of_value : Pair → Edit → Bool
is_of_value pair edit = edit.start == pair.value

-- the text in the place of a pair's value, where an edit replaces it
abbrev pub value_with : Reading → Pair → Option Edit → List ℕ
value_with read pair None = value_in read.bytes pair
value_with read pair (Some edit) = text_of read edit

abbrev pub kept_group : Reading → Pair → List Group
kept_group read pair =
    if list_any (covers pair) read.sheet.edits then [] else
    record { code = pair.code; value = value_with read pair (find (is_of_value pair) read.sheet.edits) } ∷ []

-- the groups that stand for a pair: those of the texts that begin where it begins, and its own, unless an edit replaces
-- it
abbrev pub groups_for : Reading → Pair → List Group
groups_for read pair = flat_map (λ (edit : Edit). groups_of (text_of read edit))
    (filter (begins_at pair) read.sheet.edits) ++ kept_group read pair
