-- Answers to the goals of `push_all_fields` in src/copies.rt.
use Rattle.std.proofs.Common.{arith}
use Rattle.std.proofs.lemmas.Grind.{common_steps}
use Rattle.dxf_copies.proofs.copies.push_all_fields.Goals as goal

pub loop-image-preserved : goal.loop-image-preserved
loop-image-preserved c = grind (arith, common_steps)

pub returns : goal.returns
returns c = grind (arith, common_steps)

pub returns-in_err-push_fields : goal.returns-in_err-push_fields
returns-in_err-push_fields c = grind (arith, common_steps)
