-- The invariant and the measure of the loop of `list_elements` in src/elements.rt.
use Rattle.std.proofs.Common.{◌+◌, ◌-◌, List, ℕ}
use Rattle.jtext.specs.Values.{Elements, array}
use Rattle.tin_file.specs.InsideNodes.{IsThere, element_numbers}
use Rattle.tin_file.proofs.DocumentValues.Walks.{IsWalked}
use Rattle.tin_file.proofs.elements.list_elements.Given as goal

abbrev pub invariant-loop-at : goal.invariant-loop-at
invariant-loop-at l =
    (bytes : List ℕ) (blank : List ℕ) (elements : Elements) → IsThere l.doc.nodes bytes l.array (array blank elements)
    → IsWalked l.doc.nodes bytes (element_numbers (l.array + 1) elements) l.at l.end l.numbers.items

abbrev pub decreases-loop-at : goal.decreases-loop-at
decreases-loop-at l = l.end - l.at
