-- Answers to the goals of `widen_row` in src/boxes.rt.
use Rattle.std.proofs.Common.{arith}
use Rattle.sheet_base.proofs.PositionLists.{paired_upto}
use Rattle.gj_layer.proofs.boxes.widen_row.Goals as goal

pub returns : goal.returns
returns c = grind (arith, paired_upto)
