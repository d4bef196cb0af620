-- The invariant and the measure of the loop of `read_all` in src/layer_documents.rt.
use Rattle.std.proofs.Common.{◌+◌, ◌*◌, length}
use Rattle.std.specs.Prelude.{Result}
use Rattle.sheet_base.specs.declared.faults.LayerFault.{LayerFault}
use Rattle.gj_layer.specs.Paths.{Part}
use Rattle.gj_layer.specs.InsideNodes.{HasRoom}
use Rattle.gj_layer.specs.InsideFrames.{Going, left_in}
use Rattle.gj_layer.proofs.layer_documents.read_all.Given as goal

abbrev pub invariant-loop-frame : goal.invariant-loop-frame
invariant-loop-frame l = record {
  room : HasRoom l.pass (left_in l.frames);
  going : (wanted : Result Part LayerFault) → Going l.exact l.doc.nodes l.bytes l.fn.frames l.fn.pass wanted
      → Going l.exact l.doc.nodes l.bytes l.frames l.pass wanted;
}

abbrev pub decreases-loop-frame : goal.decreases-loop-frame
decreases-loop-frame l = 2 * left_in l.frames + length l.frames
