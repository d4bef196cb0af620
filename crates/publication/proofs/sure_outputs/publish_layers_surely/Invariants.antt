-- The invariants of `publish_layers_surely` in src/sure_outputs.rt.
use Rattle.std.proofs.Common.{◌≡◌, false, IfSome, map, take}
use Rattle.shelf_io.specs.ReservedPress.{made_of}
use Rattle.runs.specs.Output.{file_of}
use Rattle.publication.specs.Rooms.{MakesWhereItFits}
use Rattle.publication.proofs.sure_outputs.publish_layers_surely.Given as goal

abbrev pub invariant-loop-file : goal.invariant-loop-file
invariant-loop-file l = record {
  free : l.press.at_hand ≡ false;
  room : MakesWhereItFits (map file_of (take l.file-index l.layers)) l.initial.press.store l.press.store;
  made : IfSome (made_of l.press) (λ made. made ≡ map file_of (take l.file-index l.layers));
}
