-- The invariant of the loop of `groups_of` in src/groups.rt.
use Rattle.std.proofs.Common.{◌≡◌, ◌++◌, drop}
use Rattle.std.specs.Prelude.{All, flat_map}
use Rattle.ring_side.specs.SideChanges.{spots_layers, spots_of}
use Rattle.ring_side.specs.InsideGroups.{IsGroup, spots_in}
use Rattle.ring_side.proofs.groups.groups_of.Given as goal

abbrev pub invariant-loop-layer : goal.invariant-loop-layer
invariant-loop-layer l = All (λ group. IsGroup l.sheets group) l.groups.items
    × (flat_map spots_in l.groups.items ++ spots_layers l.layer (drop l.layer l.sheets) ≡ spots_of l.sheets)
