-- Answers to the goals of `Diagonal::outcome_exists`, a law of the trait `Layer`, in src/carry_map_layer_tests.rt.
use Rattle.std.proofs.Common.{inl, inr, length, refl}
use Rattle.std.proofs.lemmas.Bool.{cases_lt}
use Rattle.sheet_base.specs.declared.faults.LayerFault.TheVariants.{Bad}
use Rattle.tin_tests.specs.Diagonals.{diagonal}
use Rattle.tin_tests.proofs.carry_map_layer_tests.DiagonalLayer.outcome_exists.Goals as goal

pub returns : goal.returns
returns c = λ how bytes. elim (cases_lt (length bytes) 2) [
  | inl few ↦ inr (Bad 0, (few, refl))
  | inr some ↦ inl (diagonal, (some, refl))
]
