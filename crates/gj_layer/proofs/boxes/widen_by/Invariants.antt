-- The invariant of the loop of `widen_by` in src/boxes.rt.
use Rattle.std.proofs.Common.{◌≡◌, ◌-◌, take, drop}
use Rattle.sheet_base.specs.ImageFits.{positions_in}
use Rattle.gj_layer.specs.InsideBoxes.{widened_by}
use Rattle.gj_layer.proofs.boxes.widen_by.Given as goal

-- the box so far with the images that are left is that of all
abbrev pub invariant-loop-number : goal.invariant-loop-number
invariant-loop-number l =
    widened_by l.bounds (take (l.past - l.number) (drop l.number (positions_in l.images)))
    ≡ widened_by l.fn.bounds (take (l.past - l.first) (drop l.first (positions_in l.images)))
