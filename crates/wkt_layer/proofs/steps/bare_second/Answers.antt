-- Answers to the goals of `bare_second` in src/steps.rt.
use Rattle.std.proofs.Common.{refl, ap, ◌∙◌, subst, ◌++◌, ◌∷◌, [], append_assoc}
use Rattle.std.specs.Prelude.{Some, None}
use Rattle.sheet_base.specs.declared.paths.PathKind.TheVariants.{Dot}
use Rattle.wkt_layer.specs.Paths.{path_of}
use Rattle.wkt_layer.specs.InsidePasses.{Held}
use Rattle.wkt_layer.specs.Tokens.{Number}
use Rattle.wkt_layer.specs.InsideStates.{state, bare_third, point_with, bare_leads, bare_second_leads}
use Rattle.wkt_layer.proofs.CodeReads.CodeSteps.{number_goes, opened_number}
use Rattle.wkt_layer.proofs.steps.bare_second.Goals as goal

pub returns-then-raised-clause-goes : goal.returns-then-raised-clause-goes
returns-then-raised-clause-goes c = λ before paths x held reads begins.
    let y : Number = record { start = c.args.token.start; text = c.args.text.now } in (
      state (bare_third x y) c.args.pass.now.stack paths,
      number_goes c.args.exact (λ y. bare_second_leads c.args.raised c.args.pass.now.stack paths x y)
          c.args.token.start c.args.text.now c.args.token.sign c.in-Some.y c.in-Some.ensures
          ∙ ap (λ r. Some (bare_second_leads r c.args.pass.now.stack paths x y)) c.if-raised.true,
      record { stack = refl; held = held; shows = (reads, c.in-Some.ensures.reads, begins) },
      opened_number c.args.exact c.args.token.start c.args.pass.now.opened c.args.text.now c.args.token.sign c.in-Some.y
          c.in-Some.ensures,
    )

pub returns-in_ok-end_path-in-Some-clause-goes : goal.returns-in_ok-end_path-in-Some-clause-goes
returns-in_ok-end_path-in-Some-clause-goes c = λ before paths x held reads begins.
    let y : Number = record { start = c.args.token.start; text = c.args.text.now } in
    let added = c.in_ok-add_point-in-Some.ensures in
    let ended = c.in_ok-end_path-in-Some.ensures in
    let whole = added.held (before ++ paths) [] (point_with x y None) held reads c.in-Some.ensures.reads tt begins
    c.requires.size in (
      bare_leads c.args.pass.now.stack paths (point_with x y None),
      number_goes c.args.exact (λ y. bare_second_leads c.args.raised c.args.pass.now.stack paths x y)
          c.args.token.start c.args.text.now c.args.token.sign c.in-Some.y c.in-Some.ensures
          ∙ ap (λ r. Some (bare_second_leads r c.args.pass.now.stack paths x y)) c.if-raised.false,
      record {
        stack = ended.stack ∙ added.stack;
        held = subst (λ done. Held c.end_path.new.self done [])
            (append_assoc before paths (path_of Dot (point_with x y None ∷ [])))
            (ended.held (before ++ paths) (point_with x y None) [] whole);
        shows = tt;
      },
      ended.opened ∙ added.opened ∙ opened_number c.args.exact c.args.token.start c.args.pass.now.opened c.args.text.now
          c.args.token.sign c.in-Some.y c.in-Some.ensures,
    )
