-- Answers to the goals of `later` in src/extremes.rt.
use Rattle.std.proofs.Common.{refl}
use Rattle.frac128.proofs.Fracs.{from_less, at_most_of_below, at_most_of_not_below, swap_right, not_at_most_of_below}
use Rattle.frac128.proofs.extremes.later.Goals as goal

pub returns-then-is_below-clause-bound : goal.returns-then-is_below-clause-bound
returns-then-is_below-clause-bound c = λ n d p. from_less c.args.a c.args.b
    (at_most_of_below c.args.a c.args.b (c.if-is_below.ensures.0 refl)) n d p

pub returns-else-is_below-clause-bound : goal.returns-else-is_below-clause-bound
returns-else-is_below-clause-bound c = λ n d p. swap_right
    (from_less c.args.b c.args.a (at_most_of_not_below c.args.a c.args.b (λ k. let e = c.if-is_below.ensures.1 k in cc))
    n d p)

pub returns-then-is_below-clause-first : goal.returns-then-is_below-clause-first
returns-then-is_below-clause-first c = λ h. absurd (not_at_most_of_below c.args.a c.args.b
    (c.if-is_below.ensures.0 refl) h)
