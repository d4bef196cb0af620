-- Answers to the goals of `carry_layer` in src/layers.rt.
use Rattle.sheet_base.specs.declared.faults.LayerFault.TheVariants.{NoMemory}
use Rattle.carry_map.specs.declared.faults.CarryFault.TheVariants.{Layer, Outside, TooMany}
use Rattle.carry_map.proofs.ErrorExits.{handed_on}
use Rattle.carry_map.proofs.layers.carry_layer.Goals as goal

pub returns-in_err-kept-clause-layer : goal.returns-in_err-kept-clause-layer
returns-in_err-kept-clause-layer g c = λ fault is.
    c.in_err-kept.ensures.layer fault (handed_on c.in_err-kept.field-0.0 (Layer fault)
    c.from_residual.result c.from_residual.ensures.1 is)

pub returns-in_err-kept-clause-memory : goal.returns-in_err-kept-clause-memory
returns-in_err-kept-clause-memory g c = λ is.
    c.in_err-kept.ensures.memory (handed_on c.in_err-kept.field-0.0 (Layer NoMemory)
    c.from_residual.result c.from_residual.ensures.1 is)

pub returns-in_err-kept-clause-outside : goal.returns-in_err-kept-clause-outside
returns-in_err-kept-clause-outside g c = λ path segment is.
    c.in_err-kept.ensures.outside path segment (handed_on c.in_err-kept.field-0.0 (Outside path segment)
    c.from_residual.result c.from_residual.ensures.1 is)

pub returns-in_err-kept-clause-too_many : goal.returns-in_err-kept-clause-too_many
returns-in_err-kept-clause-too_many g c = λ is.
    c.in_err-kept.ensures.too_many (handed_on c.in_err-kept.field-0.0 TooMany
    c.from_residual.result c.from_residual.ensures.1 is)
