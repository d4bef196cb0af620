-- Answers to the goals of `dot_item` in src/steps.rt.
use Rattle.std.proofs.Common.{refl, subst}
use Rattle.wkt_layer.specs.InsideStates.{state, bare_second}
use Rattle.wkt_layer.specs.InsidePasses.{Goes, token_for}
use Rattle.wkt_layer.proofs.CodeReads.CodeSteps.{dots_enter, dot_number, opened_number}
use Rattle.wkt_layer.proofs.steps.dot_item.Goals as goal

pub returns-in-Some-clause-goes : goal.returns-in-Some-clause-goes
returns-in-Some-clause-goes c = λ before paths held. (
  state (bare_second c.args.raised (record { start = c.args.token.start; text = c.args.text.now }))
      c.args.pass.now.stack paths,
  dot_number c.args.exact c.args.raised c.args.pass.now.stack paths c.args.token.start c.args.text.now c.args.token.sign
      c.in-Some.x
      c.in-Some.ensures,
  record { stack = refl; held = held; shows = (refl, c.in-Some.ensures.reads, refl) },
  opened_number c.args.exact c.args.token.start c.args.pass.now.opened c.args.text.now c.args.token.sign c.in-Some.x
      c.in-Some.ensures,
)

pub returns-in-None-clause-goes : goal.returns-in-None-clause-goes
returns-in-None-clause-goes c = λ before paths held.
    subst (λ to. Goes to (token_for c.args.token.start c.args.text.now c.args.token.sign) c.args.token.start before
    c.args.pass.now c.enter.result c.enter.new.pass)
    (dots_enter c.args.exact c.args.raised c.args.pass.now.stack paths c.args.token.start c.args.text.now
    c.args.token.sign
    c.in-None.ensures)
    (c.enter.ensures.goes before paths c.args.text.now held)
