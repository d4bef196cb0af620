-- Answers to the goals of `behind_point` in src/steps.rt.
use Rattle.std.proofs.Common.{refl, sym, ◌∙◌, subst, [], ◌∷◌, ◌++◌, append_assoc}
use Rattle.wkt_layer.specs.InsideStates.{state, first, behind, kind_of}
use Rattle.wkt_layer.specs.Paths.{path_of}
use Rattle.wkt_layer.specs.InsidePasses.{Held}
use Rattle.wkt_layer.proofs.CodeReads.CodeSteps.{comma_goes, opened_comma, closing_goes, opened_closing}
use Rattle.wkt_layer.proofs.steps.behind_point.Goals as goal

pub returns-in-List-clause-goes : goal.returns-in-List-clause-goes
returns-in-List-clause-goes c = λ before paths one more text held. (
  state (first c.args.listing (one ∷ more)) c.args.pass.now.stack paths,
  comma_goes c.args.listing (one ∷ more) c.args.pass.now.stack paths c.args.token.start text c.args.token.sign
      c.in-Comma.is (λ raised e. let f = sym c.in-List.is ∙ e in cc),
  record { stack = refl; held = held; shows = refl },
  opened_comma c.args.token.start c.args.pass.now.opened text c.args.token.sign c.in-Comma.is,
)

pub returns-in-Ring-clause-goes : goal.returns-in-Ring-clause-goes
returns-in-Ring-clause-goes c = λ before paths one more text held. (
  state (first c.args.listing (one ∷ more)) c.args.pass.now.stack paths,
  comma_goes c.args.listing (one ∷ more) c.args.pass.now.stack paths c.args.token.start text c.args.token.sign
      c.in-Comma.is (λ raised e. let f = sym c.in-Ring.is ∙ e in cc),
  record { stack = refl; held = held; shows = refl },
  opened_comma c.args.token.start c.args.pass.now.opened text c.args.token.sign c.in-Comma.is,
)

pub returns-in_ok-end_path-in-Closing-clause-goes : goal.returns-in_ok-end_path-in-Closing-clause-goes
returns-in_ok-end_path-in-Closing-clause-goes c = λ before paths one more text held.
    let may = sym (c.may_end.ensures (before ++ paths) one more held) ∙ c.if-may_end.true in
    let ends = c.in_ok-end_path-in-Closing.ensures in
    let now = ends.held (before ++ paths) one more held in (
      state behind c.args.pass.now.stack (paths ++ path_of (kind_of c.args.listing) (one ∷ more)),
      closing_goes c.args.listing (one ∷ more) c.args.pass.now.stack paths c.args.token.start text c.args.token.sign
          c.in-Closing.is may,
      record {
        stack = ends.stack;
        held = subst (λ done. Held c.end_path.new.self done [])
            (append_assoc before paths (path_of (kind_of c.args.listing) (one ∷ more)))
            (subst (λ kind. Held c.end_path.new.self ((before ++ paths) ++ path_of kind (one ∷ more)) [])
            c.path_kind.ensures now);
        shows = tt;
      },
      ends.opened ∙ opened_closing c.args.token.start c.args.pass.now.opened text c.args.token.sign c.in-Closing.is,
    )
