-- Answers to the goals of `first_by_grid` in src/searches.rt.
use Rattle.std.proofs.Common.{arith}
use Rattle.tin_check.proofs.CallerLemmas.Progress.{first_of_all}
use Rattle.tin_check.proofs.searches.first_by_grid.Goals as goal

pub returns : goal.returns
returns c = first_of_all c.args.tin.now c.args.frame c.triangle_count.result c.in_ok-found.found
    (omega (arith, c.triangle_count.ensures)) c.in_ok-found.ensures
