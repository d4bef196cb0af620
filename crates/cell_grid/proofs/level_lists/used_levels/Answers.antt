-- Answers to the goals of `used_levels` in src/level_lists.rt.
use Rattle.std.proofs.Common.{◌+◌, List, ℕ, get_or, ⊎_elim, subst, sym, arith}
use Rattle.std.proofs.lemmas.Bool.{cases_eq}
use Rattle.cell_grid.proofs.UsedLevels.{AreUsedTo, used_push, used_skip, used_below}
use Rattle.cell_grid.proofs.level_lists.used_levels.Goals as goal

pub loop-number-preserved : goal.loop-number-preserved
loop-number-preserved c =
    ⊎_elim
    (λ none. subst (λ (l : List ℕ). AreUsedTo c.args.counts.now (c.loop-number.number + 1) l)
    (sym (c.in_ok-add_used.ensures.none none))
    (used_skip c.args.counts.now c.loop-number.number c.loop-number.used.items none c.loop-number.invariant))
    (λ some. subst (λ (l : List ℕ). AreUsedTo c.args.counts.now (c.loop-number.number + 1) l)
    (sym (c.in_ok-add_used.ensures.some (omega arith)))
    (used_push c.args.counts.now c.loop-number.number c.loop-number.used.items c.loop-number.invariant))
    (cases_eq (get_or c.args.counts.now c.loop-number.number 0) 0)

pub returns-clause-below : goal.returns-clause-below
returns-clause-below c = λ k d h. let low =
    used_below c.args.counts.now c.loop-number.used.items c.loop-number.number c.loop-number.invariant k d h in omega
    arith

pub returns-clause-each : goal.returns-clause-each
returns-clause-each c = λ level h some. c.loop-number.invariant.each level (omega arith) some
