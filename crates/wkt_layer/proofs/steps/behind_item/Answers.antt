-- Answers to the goals of `behind_item` in src/steps.rt.
use Rattle.std.proofs.Common.{[], ◌++◌, refl}
use Rattle.wkt_layer.specs.InsideStates.{state, item, behind}
use Rattle.wkt_layer.proofs.CodeReads.CodeSteps.{item_goes, close_goes, opened_comma, opened_closing}
use Rattle.wkt_layer.proofs.CodeReads.SheetSoFar.{held_beside}
use Rattle.wkt_layer.proofs.steps.behind_item.Goals as goal

pub returns-in-Some-clause-goes : goal.returns-in-Some-clause-goes
returns-in-Some-clause-goes c = λ before paths text held.
    let some = c.in-Some.ensures in (
      state item c.args.pass.now.stack paths,
      item_goes _ some.0 c.args.pass.now.stack paths c.args.token.start text c.args.token.sign c.in-Comma.is some.1,
      record {
        stack = refl;
        held = held_beside c.args.pass.now _ (before ++ paths) [] refl held;
        shows = tt;
      },
      opened_comma c.args.token.start c.args.pass.now.opened text c.args.token.sign c.in-Comma.is,
    )

pub returns-in-Some-pop-clause-goes : goal.returns-in-Some-pop-clause-goes
returns-in-Some-pop-clause-goes c = λ before paths text held. (
  state behind c.pop.new.self paths,
  close_goes _ c.pop.new.self c.args.pass.now.stack paths c.args.token.start text c.args.token.sign c.in-Closing.is
      c.in-Some-pop.ensures,
  record {
    stack = refl;
    held = held_beside c.args.pass.now _ (before ++ paths) [] refl held;
    shows = tt;
  },
  opened_closing c.args.token.start c.args.pass.now.opened text c.args.token.sign c.in-Closing.is,
)
