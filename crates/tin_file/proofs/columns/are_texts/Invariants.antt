-- The invariant of the loop of `are_texts` in src/columns.rt.
use Rattle.std.proofs.Common.{◌≡◌, List, drop}
use Rattle.std.specs.List.{list_all}
use Rattle.jtext.specs.Values.{Json}
use Rattle.tin_file.specs.Keys.{is_text}
use Rattle.tin_file.specs.InsideNodes.{AreThere}
use Rattle.tin_file.proofs.columns.are_texts.Given as goal

abbrev pub invariant-loop-value : goal.invariant-loop-value
invariant-loop-value l = (all : List Json) → AreThere l.doc.nodes l.bytes l.values all
    → list_all is_text all ≡ list_all is_text (drop l.value-index all)
