-- The invariant of the loop of `add_layer_groups` in src/groups.rt.
use Rattle.std.proofs.Common.{◌≡◌, ◌++◌, drop}
use Rattle.std.specs.Prelude.{All, flat_map}
use Rattle.ring_side.specs.SideChanges.{spots_paths, sheet_at}
use Rattle.ring_side.specs.InsideGroups.{IsGroup, spots_in}
use Rattle.ring_side.proofs.groups.add_layer_groups.Given as goal

abbrev pub invariant-loop-path : goal.invariant-loop-path
invariant-loop-path l = All (λ group. IsGroup l.sheets group) l.groups.items
    × (flat_map spots_in l.groups.items ++ spots_paths l.layer l.path (drop l.path (sheet_at l.sheets l.layer).paths)
    ≡ flat_map spots_in l.initial.groups.items ++ spots_paths l.layer 0 (sheet_at l.sheets l.layer).paths)
