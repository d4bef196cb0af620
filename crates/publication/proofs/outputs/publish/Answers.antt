-- Answers to the goals of `publish` in src/outputs.rt.
use Rattle.std.proofs.Common.{inr, map, codes, [], ◌∷◌, refl}
use Rattle.runs.specs.Output.{file_of}
use Rattle.publication.proofs.Fronts.{front_told, front_printed, lacks_dash}
use Rattle.publication.proofs.outputs.publish.Goals as goal

pub print-requires-clause-new : goal.print-requires-clause-new
print-requires-clause-new g c =
    lacks_dash (map file_of c.args.written.now.layers.items) (g.P.Press.made c.publish_layers.new.press)
    c.requires.writable (rw c.deref.ensures.value at c.in-Ok.ensures.whole)

pub returns-in-Err-clause-written : goal.returns-in-Err-clause-written
returns-in-Err-clause-written g c = record {
  status = inr refl;
  all = λ other. absurd (other refl);
  front = λ write.
      front_told (map file_of c.args.written.now.layers.items) ((codes "-", c.args.written.now.said) ∷ [])
      (g.P.Press.made c.publish_layers.new.press) (rw c.deref.ensures.value at c.in-Err.ensures.front);
}

pub returns-in-Err-print-clause-written : goal.returns-in-Err-print-clause-written
returns-in-Err-print-clause-written g c = record {
  status = inr refl;
  all = λ other. absurd (other refl);
  front = λ write.
      front_printed (map file_of c.args.written.now.layers.items) [] (g.P.Press.made c.publish_layers.new.press)
      (g.P.Press.made c.print.new.press) (codes "-") c.args.written.now.said
      (rw c.deref.ensures.value at c.in-Ok.ensures.whole) (rw c.items.ensures at c.in-Err-print.ensures.err);
}
