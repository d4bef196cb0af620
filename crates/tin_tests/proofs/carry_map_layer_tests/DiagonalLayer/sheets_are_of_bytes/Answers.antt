-- Answers to the goals of `Diagonal::sheets_are_of_bytes`, a law of the trait `Layer`, in src/carry_map_layer_tests.rt.
use Rattle.std.proofs.Common.{refl, sym, subst, arith}
use Rattle.sheet_base.specs.Sheets.{Contents}
use Rattle.sheet_base.specs.ReadSheets.{IsSheetOf}
use Rattle.sheet_base.proofs.HeightLists.{none_reach}
use Rattle.tin_tests.proofs.carry_map_layer_tests.DiagonalLayer.sheets_are_of_bytes.Goals as goal

pub returns-clause-sheets : goal.returns-clause-sheets
returns-clause-sheets c = λ how bytes sheet read. subst (λ (s : Contents). IsSheetOf bytes s) (sym read.1) (record {
  tiled = (record { begins = refl; some = omega arith; dot = λ is. cc }, refl);
  points = omega (arith, read.0);
  one_height_each = refl;
  heights_in_reach = none_reach 2;
  edits = omega arith;
})

pub returns-clause-back : goal.returns-clause-back
returns-clause-back c = λ how bytes sheet images read fit kept. absurd kept
