-- Answers to the goals of `publish_layers_surely` in src/sure_outputs.rt.
use Rattle.std.proofs.Common.{◌≡◌, IfSome, subst}
use Rattle.shelf_io.specs.Files.{Files}
use Rattle.shelf_io.specs.ReservedPress.{made_of}
use Rattle.publication.specs.Rooms.{MakesWhereItFits}
use Rattle.publication.proofs.Fronts.{lacks_next}
use Rattle.publication.proofs.Rooms.{makes_more, makes_none, made_more, layers_more}
use Rattle.publication.proofs.sure_outputs.publish_layers_surely.Goals as goal

pub print_surely-requires-clause-new : goal.print_surely-requires-clause-new
print_surely-requires-clause-new c =
    rw c.as_str.ensures.value
    (lacks_next c.args.layers.now c.loop-file.file-index c.file-item.result (made_of c.loop-file.press)
    c.requires.writable c.loop-file-test.true c.file-item.is c.loop-file.invariant.made)

pub loop-file-init : goal.loop-file-init
loop-file-init c = record {
  free = c.requires.free;
  room = makes_none c.args.press.now.store;
  made = c.requires.empty;
}

pub loop-file-preserved : goal.loop-file-preserved
loop-file-preserved c =
    let here = c.loop-file.invariant in
    let e = c.print_surely.ensures in
    let more = layers_more c.args.layers.now c.loop-file.file-index c.file-item.result c.loop-file-test.true
    c.file-item.is in
    record {
      free = e.at_hand;
      room = subst (λ (fs : Files). MakesWhereItFits fs c.args.press.now.store c.print_surely.new.press.store) more
          (makes_more c.args.press.now.store c.loop-file.press.store c.print_surely.new.press.store _ _ here.room
          (rw (c.as_str.ensures.value, c.items.ensures) at e.room));
      made = subst (λ (fs : Files). IfSome (made_of c.print_surely.new.press) (λ made. made ≡ fs)) more
          (made_more _ (made_of c.loop-file.press) (made_of c.print_surely.new.press) _ _ here.made
          (rw (c.as_str.ensures.value, c.items.ensures) at e.becomes));
    }
