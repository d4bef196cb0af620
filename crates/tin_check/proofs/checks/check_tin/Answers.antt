-- Answers to the goals of `check_tin` in src/checks.rt.
use Rattle.std.proofs.Common.{subst, sym}
use Rattle.std.proofs.lemmas.Result.{err_from_is_err_and}
use Rattle.tin_base.specs.Triangulation.{Triangulation}
use Rattle.tin_base.specs.Laws.{IsOneToOne}
use Rattle.tin_base.proofs.FrameImages.Converse.{one_to_one}
use Rattle.tin_check.proofs.CallerLemmas.FirstFault.{unsound, refused}
use Rattle.tin_check.proofs.CallerLemmas.Progress.{checked}
use Rattle.tin_check.proofs.checks.check_tin.Goals as goal

pub returns-in_err-check_triangles-clause-accepted :
    goal.returns-in_err-check_triangles-clause-accepted
returns-in_err-check_triangles-clause-accepted c = let p =
    err_from_is_err_and c.from_residual.result c.from_residual.ensures.1 in
    rw (p.1, p.2) (λ sound. absurd (unsound c.args.tin c.in_err-check_triangles.field-0.0
    c.in_err-check_triangles.ensures.first.is_one sound))

pub returns-in_err-check_pairs-clause-accepted : goal.returns-in_err-check_pairs-clause-accepted
returns-in_err-check_pairs-clause-accepted c = let p =
    err_from_is_err_and c.from_residual-in_err-check_pairs.result c.from_residual-in_err-check_pairs.ensures.1 in
    rw (p.1, p.2) (λ sound. refused c.args.tin c.in_err-check_pairs.field-0.0 c.in_err-check_pairs.ensures.first sound)

pub of-requires : goal.of-requires
of-requires c = checked c.args.tin c.in_ok-check_triangles.ensures.on c.in_ok-check_pairs.ensures.source
    c.in_ok-check_pairs.ensures.target

pub returns-clause-images : goal.returns-clause-images
returns-clause-images c = subst (λ (tin : Triangulation). IsOneToOne tin) (sym c.of.ensures)
    (one_to_one c.args.tin (checked c.args.tin c.in_ok-check_triangles.ensures.on c.in_ok-check_pairs.ensures.source
    c.in_ok-check_pairs.ensures.target))
