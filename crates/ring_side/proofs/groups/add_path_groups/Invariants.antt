-- The invariant of the loop of `add_path_groups` in src/groups.rt, and its measure.
use Rattle.std.proofs.Common.{◌≡◌, ◌-◌, ◌≤◌, ◌++◌}
use Rattle.std.specs.Prelude.{All, flat_map}
use Rattle.ring_side.specs.SideChanges.{spots_run}
use Rattle.ring_side.specs.InsideGroups.{IsGroup, spots_in}
use Rattle.ring_side.proofs.groups.add_path_groups.Given as goal

abbrev pub invariant-loop-first : goal.invariant-loop-first
invariant-loop-first l = (l.first ≤ l.count) × All (λ group. IsGroup l.sheets group) l.groups.items
    × (flat_map spots_in l.groups.items ++ spots_run l.layer l.path l.first (l.count - l.first)
    ≡ flat_map spots_in l.initial.groups.items ++ spots_run l.layer l.path 0 l.count)

abbrev pub decreases-loop-first : goal.decreases-loop-first
decreases-loop-first l = l.count - l.first
