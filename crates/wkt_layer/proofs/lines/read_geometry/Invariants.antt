-- The invariant and the measure of the loop of `read_geometry` in src/lines.rt.
use Rattle.std.proofs.Common.{◌≡◌, ◌+◌, ◌-◌, ◌≤◌, List, [], length}
use Rattle.wkt_layer.specs.Tokens.{Placed}
use Rattle.wkt_layer.specs.Paths.{Path}
use Rattle.wkt_layer.specs.InsideStates.{State}
use Rattle.wkt_layer.specs.InsideReach.{Reached}
use Rattle.wkt_layer.specs.InsidePasses.{Held, HasRoom, BeginsBefore, IsAtState}
use Rattle.wkt_layer.proofs.lines.read_geometry.Given as goal

abbrev pub invariant-loop-at : goal.invariant-loop-at
invariant-loop-at l = record {
  within : l.at ≤ length l.line;
  room : HasRoom l.pass (l.base + l.at);
  begins : BeginsBefore l.place (l.base + l.at);
  reached : (before : List Path) → Held l.initial.pass before [] → l.initial.pass.stack ≡ []
      → (front : List Placed) × (s : State) × IsAtState l.pass l.place before s
      × Reached l.exact l.base l.line l.at front s l.pass.opened;
}

abbrev pub decreases-loop-at : goal.decreases-loop-at
decreases-loop-at l = length l.line - l.at
