-- Answers to the goals of `kinds_in_each` in src/entity_kinds.rt.
use Rattle.std.proofs.Common.{List, ℕ, option_map, subst}
use Rattle.run_notes.specs.LeftOutKinds.{IsFoundInLayer, kinds_found}
use Rattle.run_notes.proofs.FoundKinds.{found-more}
use Rattle.run_notes.proofs.entity_kinds.kinds_in_each.Goals as goal

pub loop-layer-preserved : goal.loop-layer-preserved
loop-layer-preserved g c = found-more (option_map kinds_found) c.args.how
    c.args.layers.now c.loop-layer.layer-index c.layer-item.result c.loop-layer.found.items c.push.new.self.items
    c.in_ok-kinds_in.field-0 c.loop-layer-test.true c.layer-item.is c.in_ok-push.ensures.items
    c.loop-layer.invariant (subst (λ (name : List ℕ). IsFoundInLayer c.args.how name
    (option_map kinds_found c.in_ok-kinds_in.field-0)) c.text.ensures
    c.in_ok-kinds_in.ensures)
