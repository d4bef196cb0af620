-- Answers to the goals of `put_features` in src/features.rt.
use Rattle.std.proofs.Common.{List, ℕ, ◌++◌, ◌∙◌, ap}
use Rattle.fault_runs.proofs.MoreFeatures.{one_more_feature}
use Rattle.fault_runs.proofs.features.put_features.Goals as goal

pub loop-number-preserved : goal.loop-number-preserved
loop-number-preserved c =
    one_more_feature c.args.lines c.args.out.now.items _ _ _ c.args.faults.now _ _ c.loop-number-test.true
    c.loop-number.invariant (c.in_ok-put.ensures
    ∙ ap (λ (text : List ℕ). c.loop-number.out.items ++ text) c.separator.ensures)
    c.in_ok-put_feature.ensures
