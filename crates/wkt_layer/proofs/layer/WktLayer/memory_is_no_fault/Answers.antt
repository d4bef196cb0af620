-- Answers to the goals of `Wkt::memory_is_no_fault`, a law of the trait `Layer`, in src/layer.rt.
use Rattle.wkt_layer.proofs.Faults.MemoryFaults.{no_memory_fault}
use Rattle.wkt_layer.proofs.layer.WktLayer.memory_is_no_fault.Goals as goal

pub returns : goal.returns
returns c = λ how bytes. no_memory_fault how.exact bytes
