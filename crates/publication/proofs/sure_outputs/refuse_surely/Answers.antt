-- Answers to the goals of `refuse_surely` in src/sure_outputs.rt.
use Rattle.std.proofs.Common.{◌≡◌, codes, [], rules}
use Rattle.shelf_io.specs.ReservedPress.{made_of}
use Rattle.runs.specs.Refusals.{line_of, line_file}
use Rattle.publication.proofs.Fronts.{lacks_dash}
use Rattle.publication.proofs.Rooms.{made_more, stated}
use Rattle.publication.proofs.sure_outputs.refuse_surely.Goals as goal

pub print_surely-requires-clause-new : goal.print_surely-requires-clause-new
print_surely-requires-clause-new c = lacks_dash [] (made_of c.args.press.now) tt c.requires.empty

pub returns-clause-made : goal.returns-clause-made
returns-clause-made c =
    let said : c.as_bytes.result.now ≡ line_of c.args.refusal = search rules in
    made_more [] (made_of c.args.press.now) (made_of c.print_surely.new.press) (codes "-") (line_of c.args.refusal)
    c.requires.empty (rw said at c.print_surely.ensures.becomes)

pub returns-clause-stated : goal.returns-clause-stated
returns-clause-stated c =
    let said : c.as_bytes.result.now ≡ line_of c.args.refusal = search rules in
    stated (line_file c.args.refusal) c.args.press.now.store c.print_surely.new.press.store c.requires.empty
    (rw said at c.print_surely.ensures.room)
