-- Answers to the goals of `third` in src/steps.rt.
use Rattle.std.proofs.Common.{refl, ◌∙◌, ◌++◌, ◌∷◌, []}
use Rattle.std.specs.Prelude.{Some}
use Rattle.wkt_layer.specs.Tokens.{Number}
use Rattle.wkt_layer.specs.InsideStates.{state, whole, point_with}
use Rattle.wkt_layer.proofs.CodeReads.CodeSteps.{number_goes, opened_number, some_push}
use Rattle.wkt_layer.proofs.steps.third.Goals as goal

pub returns-in_ok-add_point-in-Some-clause-goes : goal.returns-in_ok-add_point-in-Some-clause-goes
returns-in_ok-add_point-in-Some-clause-goes c = λ before paths points x y held reads also begins.
    let z : Number = record { start = c.args.token.start; text = c.args.text.now } in
    let added = c.in_ok-add_point-in-Some.ensures in (
      state (whole c.args.listing (points ++ point_with x y (Some z) ∷ [])) c.args.pass.now.stack paths,
      number_goes c.args.exact
          (λ z. state (whole c.args.listing (points ++ point_with x y (Some z) ∷ [])) c.args.pass.now.stack paths)
          c.args.token.start c.args.text.now c.args.token.sign c.in-Some.z c.in-Some.ensures,
      record {
        stack = added.stack;
        held = added.held (before ++ paths) points (point_with x y (Some z)) held reads also c.in-Some.ensures.reads
            begins c.requires.size;
        shows = (refl, some_push points (point_with x y (Some z)));
      },
      added.opened ∙ opened_number c.args.exact c.args.token.start c.args.pass.now.opened c.args.text.now
          c.args.token.sign c.in-Some.z c.in-Some.ensures,
    )
