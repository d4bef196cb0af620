-- The invariants of `publish_layers` in src/outputs.rt.
use Rattle.std.proofs.Common.{◌≡◌, false, IfSome, map, take}
use Rattle.runs.specs.Output.{file_of}
use Rattle.publication.proofs.outputs.publish_layers.Given as goal

abbrev pub invariant-loop-file : goal.invariant-loop-file
invariant-loop-file g l =
    let press = g.P.Press in
    record {
      free : press.at_hand l.press ≡ false;
      faults : press.faults l.press ≡ press.faults l.initial.press;
      made : IfSome (press.made l.press) (λ made. made ≡ map file_of (take l.file-index l.layers));
    }
