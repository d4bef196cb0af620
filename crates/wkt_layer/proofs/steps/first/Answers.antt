-- Answers to the goals of `first` in src/steps.rt.
use Rattle.std.proofs.Common.{refl}
use Rattle.wkt_layer.specs.InsideStates.{state, second}
use Rattle.wkt_layer.proofs.CodeReads.CodeSteps.{number_goes, opened_number}
use Rattle.wkt_layer.proofs.steps.first.Goals as goal

pub returns-in-Some-clause-goes : goal.returns-in-Some-clause-goes
returns-in-Some-clause-goes c = λ before paths points held. (
  state (second c.args.listing points (record { start = c.args.token.start; text = c.args.text.now }))
      c.args.pass.now.stack paths,
  number_goes c.args.exact (λ x. state (second c.args.listing points x) c.args.pass.now.stack paths) c.args.token.start
      c.args.text.now c.args.token.sign c.in-Some.x c.in-Some.ensures,
  record { stack = refl; held = held; shows = (refl, c.in-Some.ensures.reads, refl) },
  opened_number c.args.exact c.args.token.start c.args.pass.now.opened c.args.text.now c.args.token.sign c.in-Some.x
      c.in-Some.ensures,
)
