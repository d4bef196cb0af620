-- Answers to the goals of `does_border_fit` in src/border_fits.rt.
use Rattle.std.proofs.Common.{List, length, sym, ap, subst, ◌∙◌}
use Rattle.tin_base.specs.declared.frames.Frame.TheVariants.{Source, Target}
use Rattle.tin_check.specs.declared.borders.BorderSide.{BorderSide}
use Rattle.tin_check.specs.InsideSideTrees.{first_of, past_of, DoAllMeet}
use Rattle.tin_check.proofs.BorderLemmas.SideTrees.{border_fits_all}
use Rattle.tin_check.proofs.border_fits.does_border_fit.Goals as goal

pub returns-clause-source : goal.returns-clause-source
returns-clause-source c = λ yes.
    border_fits_all c.args.tin.now Source c.args.sides.now c.in_ok-ordered.ordered.items
    (first_of c.in_ok-source.source) (past_of c.in_ok-source.source) c.bordered_triangles_fit.ensures c.requires.positive
    c.requires.border c.in_ok-ordered.ensures.more c.in_ok-source.ensures.first
    (c.in_ok-source.ensures.past ∙ c.len.ensures ∙ sym c.deref.ensures.len
    ∙ ap (λ (them : List BorderSide). length them) c.deref.ensures.value)
    (subst (λ (them : List BorderSide). DoAllMeet c.args.tin.now Source them (first_of c.in_ok-source.source)
    (past_of c.in_ok-source.source)) c.deref-3.ensures.value (c.do_all_meet.ensures.source yes))

pub returns-clause-target : goal.returns-clause-target
returns-clause-target c = λ yes.
    border_fits_all c.args.tin.now Target c.args.sides.now c.in_ok-ordered.ordered.items
    (first_of c.in_ok-target.target) (past_of c.in_ok-target.target) c.bordered_triangles_fit.ensures c.requires.positive
    c.requires.border c.in_ok-ordered.ensures.more c.in_ok-target.ensures.first
    (c.in_ok-target.ensures.past ∙ c.len-2.ensures ∙ sym c.deref-2.ensures.len
    ∙ ap (λ (them : List BorderSide). length them) c.deref-2.ensures.value)
    (subst (λ (them : List BorderSide). DoAllMeet c.args.tin.now Target them (first_of c.in_ok-target.target)
    (past_of c.in_ok-target.target)) c.deref-3.ensures.value (c.do_all_meet.ensures.target yes))
