-- Answers to the goals of `bounds_of` in src/boxes.rt.
use Rattle.std.proofs.Common.{get_or, [], arith}
use Rattle.std.proofs.lemmas.List.{drop_all, drop_more}
use Rattle.gj_layer.proofs.WrittenPaths.BoxLemmas.{bounds_are, widened_append}
use Rattle.gj_layer.proofs.boxes.bounds_of.Goals as goal

pub loop-row-preserved : goal.loop-row-preserved
loop-row-preserved c = grind (arith, widened_append, get_or, drop_more)

pub returns : goal.returns
returns c = grind (arith, drop_all, bounds_are, c.loop-row-test.false, c.loop-row.invariant)
