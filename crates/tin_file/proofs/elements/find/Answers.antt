-- Answers to the goals of `find` in src/elements.rt.
use Rattle.std.specs.Prelude.{Ok, Err, Some, None}
use Rattle.tin_file.specs.Keys.{key_of, values_of}
use Rattle.tin_file.proofs.DocumentValues.MemberFinds.{look_finds, found_value, found_no_value, found_two}
use Rattle.tin_file.proofs.elements.find.Goals as goal

pub returns-in-Ok-Some : goal.returns-in-Ok-Some
returns-in-Ok-Some c members h =
    let nodes = c.args.doc.now.nodes in let bytes = c.args.bytes.now in
    found_value nodes bytes c.args.which (values_of (key_of c.args.which) members) c.in-Ok-Some.value
    (look_finds nodes bytes c.args.which c.key.result.now members (Ok (Some c.in-Ok-Some.value)) h c.key.ensures
    (rw (c.in-Ok-Some.is, c.in-Ok-Some.field-0-is) at c.member.ensures))

pub returns-in-Ok-None : goal.returns-in-Ok-None
returns-in-Ok-None c members h =
    let nodes = c.args.doc.now.nodes in let bytes = c.args.bytes.now in
    found_no_value nodes bytes c.args.which (values_of (key_of c.args.which) members)
    (look_finds nodes bytes c.args.which c.key.result.now members (Ok None) h c.key.ensures
    (rw (c.in-Ok-None.is, c.in-Ok-None.field-0-is) at c.member.ensures))

pub returns-in-Err : goal.returns-in-Err
returns-in-Err c members h =
    let nodes = c.args.doc.now.nodes in let bytes = c.args.bytes.now in
    found_two nodes bytes c.args.which (values_of (key_of c.args.which) members) c.in-Err.field-0
    (look_finds nodes bytes c.args.which c.key.result.now members (Err c.in-Err.field-0) h c.key.ensures
    (rw c.in-Err.is at c.member.ensures))
