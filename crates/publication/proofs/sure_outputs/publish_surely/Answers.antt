-- Answers to the goals of `publish_surely` in src/sure_outputs.rt.
use Rattle.std.proofs.Common.{map, codes, [], ◌∷◌}
use Rattle.shelf_io.specs.ReservedPress.{made_of}
use Rattle.runs.specs.Output.{file_of, files_of}
use Rattle.publication.proofs.Fronts.{lacks_dash}
use Rattle.publication.proofs.Rooms.{makes_more, made_more, stated}
use Rattle.publication.proofs.sure_outputs.publish_surely.Goals as goal

pub print_surely-requires-clause-new : goal.print_surely-requires-clause-new
print_surely-requires-clause-new c =
    lacks_dash (map file_of c.args.written.now.layers.items) (made_of c.publish_layers_surely.new.press)
    c.requires.writable (rw c.deref.ensures.value at c.publish_layers_surely.ensures.made)

pub returns-clause-made : goal.returns-clause-made
returns-clause-made c =
    made_more (map file_of c.args.written.now.layers.items) (made_of c.publish_layers_surely.new.press)
    (made_of c.print_surely.new.press) (codes "-") c.args.written.now.said
    (rw c.deref.ensures.value at c.publish_layers_surely.ensures.made)
    (rw c.items.ensures at c.print_surely.ensures.becomes)

pub returns-clause-stated : goal.returns-clause-stated
returns-clause-stated c =
    stated (files_of c.args.written.now) c.args.press.now.store c.print_surely.new.press.store c.requires.empty
    (makes_more c.args.press.now.store c.publish_layers_surely.new.press.store c.print_surely.new.press.store
    (map file_of c.args.written.now.layers.items) ((codes "-", c.args.written.now.said) ∷ [])
    (rw c.deref.ensures.value at c.publish_layers_surely.ensures.room)
    (rw c.items.ensures at c.print_surely.ensures.room))
