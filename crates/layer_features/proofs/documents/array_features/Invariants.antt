-- The invariant and the measure of the loop of `array_features` in src/documents.rt.
use Rattle.std.proofs.Common.{◌≤◌, ℕ, ◌-◌, List}
use Rattle.jtext.specs.Values.{Elements, array}
use Rattle.jtext.specs.Places.{HasNodesAt}
use Rattle.layer_features.specs.JsonFeatures.{asked_for, array_features}
use Rattle.layer_features.proofs.Elements.{Going}
use Rattle.layer_features.proofs.documents.array_features.Given as goal

abbrev pub invariant-loop-at : goal.invariant-loop-at
invariant-loop-at l = record {
  few : l.count ≤ l.at;
  going : (start : ℕ) (blank : List ℕ) (elements : Elements)
      → HasNodesAt l.doc.nodes l.bytes l.array start (array blank elements)
      → Going (asked_for l.name) l.doc.nodes l.bytes l.end l.at l.count l.features.items (array_features (asked_for l.name) l.array start (array blank elements));
}

abbrev pub decreases-loop-at : goal.decreases-loop-at
decreases-loop-at l = l.end - l.at
