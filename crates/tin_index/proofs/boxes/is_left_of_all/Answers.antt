-- Answers to the goals of `is_left_of_all` in src/boxes.rt.
use Rattle.std.proofs.Common.{rules}
use Rattle.std.specs.Prelude.{FitsSigned}
use Rattle.std.proofs.lemmas.Int.{to_z-of_z}
use mir.Syntax.{w128}
use Rattle.tin_index.proofs.Inside.{by_tests}
use Rattle.tin_index.proofs.boxes.is_left_of_all.Goals as goal

pub returns : goal.returns
returns c =
    let u : FitsSigned w128 c.turn.result = search rules in
    let v : FitsSigned w128 c.turn-2.result = search rules in
    let w : FitsSigned w128 c.turn-3.result = search rules in
    by_tests c.turn.result c.turn-2.result c.turn-3.result _ _ _ c.all_positive.result c.turn.ensures.value
    c.turn-2.ensures.value c.turn-3.ensures.value (simp to_z-of_z at c.all_positive.ensures)
