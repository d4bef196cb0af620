-- The invariants of `Asked::tell_among` in src/level_partners.rt.
use Rattle.std.proofs.Common.{◌≤◌, length}
use Rattle.cell_grid.specs.InsideLevelPartners.{DoesTell, IsToldFrom}
use Rattle.cell_grid.proofs.level_partners.PartnerSearch.tell_among.Given as goal

abbrev pub decreases-loop-left : goal.decreases-loop-left
decreases-loop-left l = l.left

-- those after what is left are reported
abbrev pub invariant-loop-left : goal.invariant-loop-left
invariant-loop-left l = (l.left ≤ length l.numbers)
    × DoesTell (IsToldFrom l.self l.boxes.boxes l.window.index l.numbers l.left) l.initial.found.items l.found.items
