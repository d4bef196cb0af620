-- Answers to the goals of `Diagonal::memory_is_no_fault`, a law of the trait `Layer`, in src/carry_map_layer_tests.rt.
use Rattle.tin_tests.proofs.carry_map_layer_tests.DiagonalLayer.memory_is_no_fault.Goals as goal

pub returns : goal.returns
returns c = λ how bytes is. let bad = is.1 in cc
