-- Answers to the goals of `second` in src/steps.rt.
use Rattle.std.proofs.Common.{◌≡◌, true, false, refl, sym, ap, ◌∙◌, ◌++◌, ◌∷◌, []}
use Rattle.std.specs.Prelude.{Some, None}
use Rattle.wkt_layer.specs.Tokens.{Number}
use Rattle.wkt_layer.specs.InsideStates.{state, third, whole, point_with, is_raised, second_leads}
use Rattle.wkt_layer.proofs.CodeReads.CodeSteps.{number_goes, opened_number, some_push}
use Rattle.wkt_layer.proofs.steps.second.Goals as goal

pub returns-then-is_raised-clause-goes : goal.returns-then-is_raised-clause-goes
returns-then-is_raised-clause-goes c = λ before paths points x held reads begins.
    let y : Number = record { start = c.args.token.start; text = c.args.text.now } in
    let is : is_raised c.args.listing ≡ true = sym c.is_raised.ensures ∙ c.if-is_raised.true in (
      state (third c.args.listing points x y) c.args.pass.now.stack paths,
      number_goes c.args.exact
          (λ y. state (second_leads (is_raised c.args.listing) c.args.listing points x y) c.args.pass.now.stack paths)
          c.args.token.start c.args.text.now c.args.token.sign c.in-Some.y c.in-Some.ensures
          ∙ ap (λ r. Some (state (second_leads r c.args.listing points x y) c.args.pass.now.stack paths)) is,
      record { stack = refl; held = held; shows = (refl, reads, c.in-Some.ensures.reads, begins) },
      opened_number c.args.exact c.args.token.start c.args.pass.now.opened c.args.text.now c.args.token.sign c.in-Some.y
          c.in-Some.ensures,
    )

pub returns-in_ok-add_point-in-Some-clause-goes : goal.returns-in_ok-add_point-in-Some-clause-goes
returns-in_ok-add_point-in-Some-clause-goes c = λ before paths points x held reads begins.
    let y : Number = record { start = c.args.token.start; text = c.args.text.now } in
    let is : is_raised c.args.listing ≡ false = sym c.is_raised.ensures ∙ c.if-is_raised.false in
    let added = c.in_ok-add_point-in-Some.ensures in (
      state (whole c.args.listing (points ++ point_with x y None ∷ [])) c.args.pass.now.stack paths,
      number_goes c.args.exact
          (λ y. state (second_leads (is_raised c.args.listing) c.args.listing points x y) c.args.pass.now.stack paths)
          c.args.token.start c.args.text.now c.args.token.sign c.in-Some.y c.in-Some.ensures
          ∙ ap (λ r. Some (state (second_leads r c.args.listing points x y) c.args.pass.now.stack paths)) is,
      record {
        stack = added.stack;
        held = added.held (before ++ paths) points (point_with x y None) held reads c.in-Some.ensures.reads tt begins
            c.requires.size;
        shows = (refl, some_push points (point_with x y None));
      },
      added.opened ∙ opened_number c.args.exact c.args.token.start c.args.pass.now.opened c.args.text.now
          c.args.token.sign c.in-Some.y c.in-Some.ensures,
    )
