-- Answers to the goals of `step` in src/steps.rt.
use Rattle.std.proofs.Common.{◌∙◌, sym, arith}
use Rattle.jtext.specs.InsideStates.{Takes, blank_step}
use Rattle.jtext.proofs.CodeReads.Reaches.{reached_takes, takes_so, takes_blanks, blank_stands}
use Rattle.jtext.proofs.steps.step.Goals as goal

pub returns-in-Blank : goal.returns-in-Blank
returns-in-Blank c =
    let open_ones = c.args.pass.now.stack in
    let nodes = c.args.pass.now.nodes.items in
    let here = reached_takes c.args.bytes.now c.args.place open_ones nodes c.args.at _ c.requires.reached
    c.requires.within (sym c.in-Blank.is ∙ c.of.ensures) in
    let t : Takes c.args.bytes.now open_ones nodes c.args.at
    (λ room. blank_step c.args.place open_ones nodes c.args.at) =
    takes_so c.args.bytes.now open_ones nodes c.args.at _ (λ room. blank_step c.args.place open_ones nodes c.args.at)
    (λ room. blank_stands c.args.place room open_ones nodes c.args.at) here in (
      takes_blanks c.args.bytes.now c.args.place open_ones nodes c.args.at c.blanks_end.result t
          c.blanks_end.ensures.within.0 c.blanks_end.ensures.within.1 c.blanks_end.ensures.blank,
      omega (arith, c.blanks_end.ensures.within.0),
    )
