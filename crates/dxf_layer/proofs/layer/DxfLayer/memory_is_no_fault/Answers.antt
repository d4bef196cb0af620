-- Answers to the goals of `Dxf::memory_is_no_fault`, a law of the trait `Layer`, in src/layer.rt.
use Rattle.dxf_layer.proofs.Outcomes.MemoryFaults.{no_memory_fault}
use Rattle.dxf_layer.proofs.layer.DxfLayer.memory_is_no_fault.Goals as goal

pub returns : goal.returns
returns c = λ how bytes. no_memory_fault how bytes
