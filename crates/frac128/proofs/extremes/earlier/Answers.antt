-- Answers to the goals of `earlier` in src/extremes.rt.
use Rattle.std.proofs.Common.{refl}
use Rattle.frac128.proofs.Fracs.{up_to_less, at_most_of_below, at_most_of_not_below, swap_right, not_at_most_of_below}
use Rattle.frac128.proofs.extremes.earlier.Goals as goal

pub returns-then-is_below-clause-bound : goal.returns-then-is_below-clause-bound
returns-then-is_below-clause-bound c = λ n d p. up_to_less c.args.a c.args.b
    (at_most_of_below c.args.a c.args.b (c.if-is_below.ensures.0 refl)) n d p

pub returns-else-is_below-clause-bound : goal.returns-else-is_below-clause-bound
returns-else-is_below-clause-bound c = λ n d p. swap_right
    (up_to_less c.args.b c.args.a (at_most_of_not_below c.args.a c.args.b
    (λ k. let e = c.if-is_below.ensures.1 k in cc)) n d p)

pub returns-then-is_below-clause-second : goal.returns-then-is_below-clause-second
returns-then-is_below-clause-second c = λ h. absurd (not_at_most_of_below c.args.a c.args.b
    (c.if-is_below.ensures.0 refl) h)
