-- Answers to the goals of `bare_third` in src/steps.rt.
use Rattle.std.proofs.Common.{◌∙◌, subst, ◌++◌, ◌∷◌, [], append_assoc}
use Rattle.std.specs.Prelude.{Some}
use Rattle.sheet_base.specs.declared.paths.PathKind.TheVariants.{Dot}
use Rattle.wkt_layer.specs.Paths.{path_of}
use Rattle.wkt_layer.specs.InsidePasses.{Held}
use Rattle.wkt_layer.specs.Tokens.{Number}
use Rattle.wkt_layer.specs.InsideStates.{point_with, bare_leads}
use Rattle.wkt_layer.proofs.CodeReads.CodeSteps.{number_goes, opened_number}
use Rattle.wkt_layer.proofs.steps.bare_third.Goals as goal

pub returns-in_ok-end_path-in-Some-clause-goes : goal.returns-in_ok-end_path-in-Some-clause-goes
returns-in_ok-end_path-in-Some-clause-goes c = λ before paths x y held reads also begins.
    let z : Number = record { start = c.args.token.start; text = c.args.text.now } in
    let added = c.in_ok-add_point-in-Some.ensures in
    let ended = c.in_ok-end_path-in-Some.ensures in
    let whole = added.held (before ++ paths) [] (point_with x y (Some z)) held reads also c.in-Some.ensures.reads begins
    c.requires.size in (
      bare_leads c.args.pass.now.stack paths (point_with x y (Some z)),
      number_goes c.args.exact (λ z. bare_leads c.args.pass.now.stack paths (point_with x y (Some z)))
          c.args.token.start c.args.text.now c.args.token.sign c.in-Some.z c.in-Some.ensures,
      record {
        stack = ended.stack ∙ added.stack;
        held = subst (λ done. Held c.end_path.new.self done [])
            (append_assoc before paths (path_of Dot (point_with x y (Some z) ∷ [])))
            (ended.held (before ++ paths) (point_with x y (Some z)) [] whole);
        shows = tt;
      },
      ended.opened ∙ added.opened ∙ opened_number c.args.exact c.args.token.start c.args.pass.now.opened c.args.text.now
          c.args.token.sign c.in-Some.z c.in-Some.ensures,
    )
