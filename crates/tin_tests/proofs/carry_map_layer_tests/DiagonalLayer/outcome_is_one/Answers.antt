-- Answers to the goals of `Diagonal::outcome_is_one`, a law of the trait `Layer`, in src/carry_map_layer_tests.rt.
use Rattle.std.proofs.Common.{sym, ◌∙◌, arith}
use Rattle.tin_tests.proofs.carry_map_layer_tests.DiagonalLayer.outcome_is_one.Goals as goal

pub returns : goal.returns
returns c = λ how bytes. record {
  one_sheet = λ sheet other is too. is.1 ∙ sym too.1;
  one_fault = λ fault other is too. is.1 ∙ sym too.1;
  apart = λ sheet fault is too. absurd (omega (arith, is.0, too.0));
}
