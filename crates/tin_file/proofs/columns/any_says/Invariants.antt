-- The invariant of the loop of `any_says` in src/columns.rt.
use Rattle.std.proofs.Common.{◌≡◌, List, drop}
use Rattle.std.specs.List.{list_any}
use Rattle.jtext.specs.Values.{Json}
use Rattle.tin_file.specs.Keys.{says}
use Rattle.tin_file.specs.InsideNodes.{AreThere}
use Rattle.tin_file.proofs.columns.any_says.Given as goal

abbrev pub invariant-loop-value : goal.invariant-loop-value
invariant-loop-value l =
    (all : List Json) → AreThere l.doc.nodes l.bytes l.values all
    → list_any (λ value. says value l.text) all ≡ list_any (λ value. says value l.text) (drop l.value-index all)
