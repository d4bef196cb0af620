-- Answers to the goals of `find` in src/nodes.rt.
use Rattle.std.specs.Prelude.{Ok, Err}
use Rattle.gj_layer.proofs.Members.MemberNames.{look_finds}
use Rattle.gj_layer.proofs.nodes.find.Goals as goal

pub returns-in-Ok : goal.returns-in-Ok
returns-in-Ok c start blank members h =
    look_finds c.args.doc.now.nodes c.args.bytes.now c.args.object start blank members c.args.name.now
    (Ok c.in-Ok.found) h (rw c.in-Ok.is at c.member.ensures start blank members h)

pub returns-in-Err : goal.returns-in-Err
returns-in-Err c start blank members h =
    look_finds c.args.doc.now.nodes c.args.bytes.now c.args.object start blank members c.args.name.now
    (Err c.in-Err.field-0) h (rw c.in-Err.is at c.member.ensures start blank members h)
