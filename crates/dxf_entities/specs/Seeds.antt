-- The next handle of a drawing: the value of the pair of code 5 that directly follows the first pair `9 $HANDSEED` in a
-- section HEADER.
use Rattle.std.specs.Prelude.{ℕ, pos, ◌&&◌, if◌then◌else◌, codes, List, [], ◌∷◌, filter_map, Option, None, Some}
use Rattle.sheet_base.specs.declared.edits.Edit.{Edit}
use Rattle.sheet_base.specs.declared.edits.What.TheVariants.{NextHandle}
use Rattle.dxf_pairs.specs.declared.pairs.Pair.{Pair}
use Rattle.dxf_pairs.specs.Groups.{value_in}
use Rattle.dxf_entities.specs.Entities.{is_coded, has_both}
use Rattle.dxf_entities.specs.Handles.{is_handle}
use Rattle.dxf_entities.specs.Sections.{Section, sections_named}
use Rattle.dxf_entities.specs.Shapes.{value_edit}

-- the first of these pairs, where it is the next handle
abbrev pub as_seed : List ℕ → List Pair → Option Pair
as_seed bytes [] = None
as_seed bytes (pair ∷ pairs) = if is_coded (pos 5) pair && is_handle (value_in bytes pair) then Some pair else None

-- the pairs after the first one that names the next handle, where one of these does
abbrev pub behind_name : List ℕ → List Pair → Option (List Pair)
behind_name bytes [] = None
behind_name bytes (pair ∷ pairs) =
    if has_both bytes (pos 9) (codes "$HANDSEED") pair then Some pairs else behind_name bytes pairs

-- the next handle by the pairs after its name, in the first section that has it
abbrev pub first_seed : List ℕ → List (List Pair) → Option Pair
first_seed bytes [] = None
first_seed bytes (pairs ∷ others) = as_seed bytes pairs

-- the pair of the next handle, where the drawing gives one
abbrev pub seed_of : List ℕ → List Pair → Option Pair
seed_of bytes pairs = first_seed bytes (filter_map (λ (section : Section). behind_name bytes section.pairs)
    (sections_named bytes (codes "HEADER") pairs))

-- the value of the next handle is replaced
abbrev pub seed_edits : Option Pair → List Edit
seed_edits None = []
seed_edits (Some pair) = value_edit NextHandle pair ∷ []
