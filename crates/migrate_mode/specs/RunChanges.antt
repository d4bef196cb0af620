-- The changes of a run's pieces, and how a run that has written all ends by them and by those of sides.
use Rattle.std.specs.Prelude.{◌≤◌, Bool, true, false, List, [], ◌∷◌, length, Option, None, Some}
use Rattle.tin_base.specs.declared.pieces.Change.{Change}
use Rattle.tin_base.specs.declared.pieces.Piece.{Piece}
use Rattle.tin_base.specs.Triangulation.{Triangulation}
use Rattle.topo_check.specs.Changes.{AreChanges}
use Rattle.ring_side.specs.declared.kinds.SideChange.{SideChange}
use Rattle.migrate_mode.specs.declared.change_lists.TheConstants.{MOST_CHANGES}
use Rattle.runs.specs.declared.status.Status.{Status}
use Rattle.runs.specs.Status.{end_of}

-- these are the changes of the pieces, and not too many to be listed
pub record AreListed (tin : Triangulation) (pieces : List Piece) (changes : List Change) : Type 0 where
  pub are_changes : AreChanges tin pieces changes
  pub few : length changes ≤ MOST_CHANGES

-- whether there is a change
abbrev pub is_some_change : List Change → Bool
is_some_change [] = false
is_some_change (change ∷ changes) = true

-- whether there is a change or, where sides were asked for, one of these
abbrev pub is_some_listed : List Change → Option (List SideChange) → Bool
is_some_listed changes None = is_some_change changes
is_some_listed changes (Some []) = is_some_change changes
is_some_listed changes (Some (side ∷ sides)) = true

-- the status of a run that has written all, by what it lists
abbrev pub end_with : List Change → Option (List SideChange) → Status
end_with changes sides = end_of (is_some_listed changes sides)
