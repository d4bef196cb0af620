-- Answers to the goals of `put_fault` in src/features.rt.
use Rattle.std.proofs.Common.{List, ℕ, ◌++◌, ◌∙◌, ap}
use Rattle.fault_runs.specs.FaultsText.{fault_text}
use Rattle.plain_laws.proofs.Parts.{seven}
use Rattle.fault_runs.proofs.features.put_fault.Goals as goal

pub returns : goal.returns
unfolding fault_text
returns c = seven _ _ _ _ _ _ _ _ _ _ _ _ _ _ _ c.in_ok-put.ensures c.in_ok-put_number.ensures c.in_ok-put-2.ensures
    (c.in_ok-put-3.ensures ∙ ap (λ (text : List ℕ). c.put-2.new.out.items ++ text) c.kind_word.ensures)
    c.in_ok-put-4.ensures
    (c.in_ok-put-5.ensures ∙ ap (λ (text : List ℕ). c.put-4.new.out.items ++ text) c.frame_word.ensures)
    c.in_ok-put-6.ensures
