-- Answers to the goals of `check_strategy` in src/headings.rt.
use Rattle.std.proofs.Common.{[], ◌∷◌, ap, ◌∙◌, sym}
use Rattle.std.specs.Prelude.{Ok, Err, Some, None}
use Rattle.tin_file.specs.Headings.{strategy, strategy_of}
use Rattle.tin_file.specs.declared.faults.Top.TheVariants as tops
use Rattle.tin_file.proofs.DocumentValues.There.{there_within, members_there}
use Rattle.tin_file.proofs.DocumentValues.MemberFinds.{look_finds}
use Rattle.tin_file.proofs.headings.check_strategy.Goals as goal

pub check_strategy_value-requires-clause-node : goal.check_strategy_value-requires-clause-node
check_strategy_value-requires-clause-node c =
    let nodes = c.args.doc.now.nodes in let bytes = c.args.bytes.now in
    let (members, h) = members_there c.args.doc.now bytes c.requires.read c.requires.object in
    let found = look_finds nodes bytes tops.Strategy c.key.result.now members (Ok (Some c.in-Ok-Some.value)) h
    c.key.ensures
    (rw (c.in-Ok-Some.is, c.in-Ok-Some.field-0-is) at c.member.ensures) in
    there_within nodes bytes c.in-Ok-Some.value found.0 found.2

pub returns-in-Ok-None : goal.returns-in-Ok-None
unfolding strategy
returns-in-Ok-None c members h =
    let found = look_finds c.args.doc.now.nodes c.args.bytes.now tops.Strategy c.key.result.now members (Ok None) h
    c.key.ensures
    (rw (c.in-Ok-None.is, c.in-Ok-None.field-0-is) at c.member.ensures) in
    ap (strategy_of c.args.how) (sym found)

pub returns-in-Ok-Some : goal.returns-in-Ok-Some
unfolding strategy
returns-in-Ok-Some c members h =
    let found = look_finds c.args.doc.now.nodes c.args.bytes.now tops.Strategy c.key.result.now members
    (Ok (Some c.in-Ok-Some.value)) h c.key.ensures
    (rw (c.in-Ok-Some.is, c.in-Ok-Some.field-0-is) at c.member.ensures) in
    ◌∙◌ {b = strategy_of c.args.how (found.0 ∷ [])} (c.check_strategy_value.ensures found.0 found.2)
    (ap (strategy_of c.args.how) (sym found.1))

pub returns-in-Err : goal.returns-in-Err
unfolding strategy
returns-in-Err c members h =
    let found = look_finds c.args.doc.now.nodes c.args.bytes.now tops.Strategy c.key.result.now members
    (Err c.in-Err.field-0) h c.key.ensures
    (rw c.in-Err.is at c.member.ensures) in
    ap (strategy_of c.args.how) (sym found.3)
