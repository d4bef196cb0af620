-- The invariant of the loop of `bounds_of` in src/boxes.rt.
use Rattle.std.proofs.Common.{◌≡◌, drop}
use Rattle.std.specs.Prelude.{None, flat_map}
use Rattle.gj_layer.specs.Texts.{row_positions}
use Rattle.gj_layer.specs.InsideBoxes.{widened_by}
use Rattle.gj_layer.proofs.boxes.bounds_of.Given as goal

abbrev pub invariant-loop-row : goal.invariant-loop-row
invariant-loop-row l = widened_by l.bounds (flat_map (row_positions l.images) (drop l.row-index l.rows))
    ≡ widened_by None (flat_map (row_positions l.images) l.rows)
