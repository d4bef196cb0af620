-- The invariant and the measure of the loop of `read` in src/lines.rt.
use Rattle.std.proofs.Common.{◌≡◌, ℕ, ◌+◌, ◌≤◌, List, [], length}
use Rattle.std.specs.Prelude.{flat_map}
use Rattle.wkt_layer.specs.Paths.{Path}
use Rattle.wkt_layer.specs.Layers.{geometry_lines}
use Rattle.wkt_layer.specs.InsidePasses.{Held, HasRoom, GoesOn, RestsAt, lines_behind, Ascend, path_numbers}
use Rattle.wkt_layer.proofs.lines.read.Given as goal

abbrev pub invariant-loop-rest : goal.invariant-loop-rest
invariant-loop-rest l = record {
  size : RestsAt l.rest l.base (length l.bytes);
  few : l.base ≤ length l.bytes + 1;
  room : HasRoom l.pass l.base;
  read : (done : List Path) × Held l.pass done [] × (l.pass.stack ≡ [])
      × GoesOn l.exact (geometry_lines l.bytes) l.base (lines_behind l.rest) done
      × ((past : ℕ) × (past ≤ l.base) × (past ≤ length l.bytes) × Ascend 0 (flat_map path_numbers done) past);
}

abbrev pub decreases-loop-rest : goal.decreases-loop-rest
decreases-loop-rest l = length (lines_behind l.rest)
