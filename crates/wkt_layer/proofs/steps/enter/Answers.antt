-- Answers to the goals of `enter` in src/steps.rt.
use Rattle.std.proofs.Common.{refl, [], ◌∷◌, ◌++◌}
use Rattle.wkt_layer.specs.InsideStates.{state, first, item, behind}
use Rattle.wkt_layer.proofs.CodeReads.CodeSteps.{enter_empty, opened_empty, enter_listing, enter_group, opened_here}
use Rattle.wkt_layer.proofs.CodeReads.SheetSoFar.{held_beside}
use Rattle.wkt_layer.proofs.steps.enter.Goals as goal

pub returns-in-Empty-clause-goes : goal.returns-in-Empty-clause-goes
returns-in-Empty-clause-goes c = λ before paths text held. (
  state behind c.args.pass.now.stack paths,
  enter_empty c.args.content c.args.pass.now.stack paths c.args.token.start text c.args.token.sign c.in-Word.word
      c.in-Word.is c.in-Empty.is,
  record { stack = refl; held = held; shows = tt },
  opened_empty c.args.token.start c.args.pass.now.opened text c.args.token.sign c.in-Word.word c.in-Word.is,
)

pub returns-in-Points-clause-goes : goal.returns-in-Points-clause-goes
returns-in-Points-clause-goes c = λ before paths text held. (
  state (first c.in-Points.listing []) c.args.pass.now.stack paths,
  enter_listing c.args.content c.in-Points.listing c.args.pass.now.stack paths c.args.token.start text c.args.token.sign
      c.in-Opening.is c.in-Points.is,
  record {
    stack = refl;
    held = held_beside c.args.pass.now _ (before ++ paths) [] refl held;
    shows = refl;
  },
  opened_here c.args.token.start c.args.pass.now.opened text c.args.token.sign c.in-Opening.is,
)

pub returns-in_ok-push-in-Items-clause-goes : goal.returns-in_ok-push-in-Items-clause-goes
returns-in_ok-push-in-Items-clause-goes c = λ before paths text held. (
  state item (c.in-Items.group ∷ c.args.pass.now.stack) paths,
  enter_group c.args.content c.in-Items.group c.args.pass.now.stack paths c.args.token.start text c.args.token.sign
      c.in-Opening.is c.in-Items.is,
  record {
    stack = c.in_ok-push-in-Items.ensures.ok;
    held = held_beside c.args.pass.now _ (before ++ paths) [] refl held;
    shows = tt;
  },
  opened_here c.args.token.start c.args.pass.now.opened text c.args.token.sign c.in-Opening.is,
)
