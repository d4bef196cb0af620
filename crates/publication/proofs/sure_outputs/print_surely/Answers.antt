-- Answers to the goals of `print_surely` in src/sure_outputs.rt.
use Rattle.shelf_io.specs.ReservedPress.{made_of}
use Rattle.shelf_io.proofs.Made.{printed}
use Rattle.publication.proofs.Rooms.{prints_within}
use Rattle.publication.proofs.sure_outputs.print_surely.Goals as goal

pub returns-clause-room : goal.returns-clause-room
returns-clause-room c =
    rw c.end.ensures.kept
    (prints_within c.args.press.now.store c.begin.new.self.store c.write_surely.new.press.store c.args.name.now
    c.args.bytes.now c.begin.ensures.adds c.write_surely.ensures.room)

pub returns-clause-becomes : goal.returns-clause-becomes
returns-clause-becomes c =
    printed (made_of c.args.press.now) (made_of c.begin.new.self) (made_of c.write_surely.new.press)
    (made_of c.end.new.self) c.args.name.now c.args.bytes.now
    (rw c.begin.ensures.sure at c.begin.ensures.ok) c.write_surely.ensures.appends c.end.ensures.made
