-- The invariant and the measure of the loop of `read_json` in src/json_texts.rt.
use Rattle.std.proofs.Common.{length, ◌-◌}
use Rattle.jtext.specs.InsideStates.{Reached}
use Rattle.jtext.proofs.json_texts.read_json.Given as goal

abbrev pub invariant-loop-at : goal.invariant-loop-at
invariant-loop-at l = Reached l.bytes l.place l.pass.stack l.pass.nodes.items l.at

abbrev pub decreases-loop-at : goal.decreases-loop-at
decreases-loop-at l = length l.bytes - l.at
