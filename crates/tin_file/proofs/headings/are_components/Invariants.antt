-- The invariant of the loop of `are_components` in src/headings.rt.
use Rattle.std.proofs.Common.{◌≡◌, List, drop}
use Rattle.std.specs.List.{list_all}
use Rattle.jtext.specs.Values.{Json}
use Rattle.tin_file.specs.Headings.{is_component}
use Rattle.tin_file.specs.InsideNodes.{AreThere}
use Rattle.tin_file.proofs.headings.are_components.Given as goal

abbrev pub invariant-loop-value : goal.invariant-loop-value
invariant-loop-value l = (all : List Json) → AreThere l.doc.nodes l.bytes l.values all
    → list_all is_component all ≡ list_all is_component (drop l.value-index all)
