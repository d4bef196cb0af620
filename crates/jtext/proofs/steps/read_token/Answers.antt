-- Answers to the goals of `read_token` in src/steps.rt.
use Rattle.std.proofs.Common.{refl, arith}
use Rattle.jtext.specs.InsideStates.{stand_step, anywhere}
use Rattle.jtext.specs.declared.steps.Expectation.TheVariants as places
use Rattle.jtext.proofs.CodeReads.Reaches.{takes_bad, takes_stand, first_key_none, key_none, colon_none, behind_none}
use Rattle.jtext.proofs.steps.read_token.Goals as goal

pub returns-in_default-sign : goal.returns-in_default-sign
returns-in_default-sign c =
    let open_ones = c.args.pass.now.stack in
    let nodes = c.args.pass.now.nodes.items in
    rw c.bad.ensures (takes_bad c.args.bytes.now open_ones nodes c.args.at
    (λ room. stand_step room c.args.place open_ones nodes c.args.at c.args.sign) c.requires.takes
    (rw c.in-FirstKey.is (first_key_none c.args.sign c.requires.black c.in_default-sign.not-Quote
    c.in_default-sign.not-Closing anywhere open_ones nodes c.args.at)))

pub returns-in_default-sign-2 : goal.returns-in_default-sign-2
returns-in_default-sign-2 c =
    let open_ones = c.args.pass.now.stack in
    let nodes = c.args.pass.now.nodes.items in
    rw c.bad-in_default-sign-2.ensures (takes_bad c.args.bytes.now open_ones nodes c.args.at
    (λ room. stand_step room c.args.place open_ones nodes c.args.at c.args.sign) c.requires.takes
    (rw c.in-Key.is (key_none c.args.sign c.requires.black c.in_default-sign-2.not-Quote anywhere open_ones nodes
    c.args.at)))

pub returns-in-Colon-sign : goal.returns-in-Colon-sign
returns-in-Colon-sign c =
    let open_ones = c.args.pass.now.stack in
    let nodes = c.args.pass.now.nodes.items in
    let t = c.requires.takes in (
      takes_stand c.args.bytes.now open_ones nodes c.args.at
          (λ room. stand_step room c.args.place open_ones nodes c.args.at c.args.sign) t places.Value open_ones nodes
          (rw (c.in-Colon.is, c.in-Colon-sign.is) refl) (omega (arith, t.few)) t.shallow t.theirs,
      omega arith,
    )

pub returns-in_default-sign-3 : goal.returns-in_default-sign-3
returns-in_default-sign-3 c =
    let open_ones = c.args.pass.now.stack in
    let nodes = c.args.pass.now.nodes.items in
    rw c.bad-in_default-sign-3.ensures (takes_bad c.args.bytes.now open_ones nodes c.args.at
    (λ room. stand_step room c.args.place open_ones nodes c.args.at c.args.sign) c.requires.takes
    (rw c.in-Colon.is (colon_none c.args.sign c.requires.black c.in_default-sign-3.not-Colon anywhere open_ones nodes
    c.args.at)))

pub returns-in_default-sign-4 : goal.returns-in_default-sign-4
returns-in_default-sign-4 c =
    let open_ones = c.args.pass.now.stack in
    let nodes = c.args.pass.now.nodes.items in
    rw c.bad-in_default-sign-4.ensures (takes_bad c.args.bytes.now open_ones nodes c.args.at
    (λ room. stand_step room c.args.place open_ones nodes c.args.at c.args.sign) c.requires.takes
    (rw c.in-Behind.is (behind_none c.args.sign c.requires.black c.in_default-sign-4.not-Comma
    c.in_default-sign-4.not-Closing anywhere open_ones nodes c.args.at)))
