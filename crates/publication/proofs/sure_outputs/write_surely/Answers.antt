-- Answers to the goals of `write_surely` in src/sure_outputs.rt.
use Rattle.std.proofs.Common.{◌≡◌, length, rules}
use Rattle.shelf_io.specs.ReservedPress.{made_of}
use Rattle.shelf_io.proofs.Made.{Appends-nothing}
use Rattle.publication.proofs.Rooms.{no_bytes, appends_nothing}
use Rattle.publication.proofs.sure_outputs.write_surely.Goals as goal

pub returns-then-is_empty-clause-room : goal.returns-then-is_empty-clause-room
returns-then-is_empty-clause-room c =
    let none : length c.args.bytes.now ≡ 0 = search rules in
    rw (no_bytes c.args.bytes.now none) (appends_nothing c.args.press.now.store)

pub returns-then-is_empty-clause-appends : goal.returns-then-is_empty-clause-appends
returns-then-is_empty-clause-appends c =
    let none : length c.args.bytes.now ≡ 0 = search rules in
    rw (no_bytes c.args.bytes.now none) (Appends-nothing (made_of c.args.press.now))
