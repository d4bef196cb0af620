-- The invariant and the measure of the loop of `read_positions` in src/positions.rt.
use Rattle.std.proofs.Common.{ℕ, ◌+◌, ◌-◌, ◌*◌, ◌≤◌, List, length}
use Rattle.jtext.specs.Values.{Elements, array}
use Rattle.jtext.specs.Nodes.{inner_place}
use Rattle.jtext.specs.Places.{HasNodesAt}
use Rattle.gj_layer.specs.Positions.{positions}
use Rattle.gj_layer.proofs.Coordinates.Runs.{IsWalked}
use Rattle.gj_layer.proofs.positions.read_positions.Given as goal

abbrev pub invariant-loop-at : goal.invariant-loop-at
invariant-loop-at l = record {
  begun : l.array + 1 ≤ l.at;
  within : l.at ≤ l.end;
  more : length l.fn.points.items ≤ length l.points.items;
  points : length l.points.items + (l.array + 1) ≤ length l.fn.points.items + l.at;
  heights : length l.heights + (l.array + 1) ≤ length l.fn.heights + l.at;
  lost : l.run.lost + 3 * (l.array + 1) ≤ 3 * l.at;
  walked : (start : ℕ) (blank : List ℕ) (elements : Elements)
      → HasNodesAt l.doc.nodes l.bytes l.array start (array blank elements)
      → IsWalked l.doc.nodes l.bytes l.exact (positions l.exact (inner_place start blank) elements) (l.array + 1) l.at
      l.end l.fn.points.items l.points.items l.fn.heights l.heights l.run;
}

abbrev pub decreases-loop-at : goal.decreases-loop-at
decreases-loop-at l = l.end - l.at
