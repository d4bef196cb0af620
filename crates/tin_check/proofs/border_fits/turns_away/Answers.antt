-- Answers to the goals of `turns_away` in src/border_fits.rt.
use Rattle.tin_check.proofs.BorderLemmas.SideMeetings.{away_meets}
use Rattle.tin_check.proofs.border_fits.turns_away.Goals as goal

pub returns-in-Some : goal.returns-in-Some
returns-in-Some c = λ yes.
    away_meets c.args.tin.now c.args.frame c.triangles.result.now c.args.triangle c.args.corner c.args.end
    c.corners_from.result c.in-Some.corners c.tri_at.result c.place.result c.triangles.ensures.triangles
    c.triangles.ensures.limits c.requires.triangle (c.requires.positive c.args.frame c.args.triangle c.requires.triangle)
    c.corners_from.ensures c.in-Some.is c.tri_at.ensures c.place.ensures.place (c.is_outside.ensures yes)
