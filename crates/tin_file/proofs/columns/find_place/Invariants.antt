-- The invariant of the loop of `find_place` in src/columns.rt.
use Rattle.std.proofs.Common.{◌≡◌, ◌++◌, List, drop}
use Rattle.jtext.specs.Values.{Json}
use Rattle.tin_file.specs.Headings.{places_of}
use Rattle.tin_file.specs.InsideNodes.{AreThere}
use Rattle.tin_file.proofs.DocumentValues.Loops.{found_places}
use Rattle.tin_file.proofs.columns.find_place.Given as goal

abbrev pub invariant-loop-place : goal.invariant-loop-place
invariant-loop-place l =
    (all : List Json) → AreThere l.doc.nodes l.bytes l.values all
    → places_of l.name 0 all ≡ found_places l.found ++ places_of l.name l.place (drop l.place all)
