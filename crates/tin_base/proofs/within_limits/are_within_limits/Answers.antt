-- Answers to the goals of `are_within_limits` in src/within_limits.rt.
use Rattle.tin_base.proofs.TriangleLemmas.TestAnswers.{told}
use Rattle.tin_base.proofs.LimitLemmas.{all_told}
use Rattle.tin_base.proofs.within_limits.are_within_limits.Goals as goal

pub returns : goal.returns
returns c = λ inexact. all_told c.args.corners.now c.args.triangles.now inexact c.are_all_fine.result c.told-triangles
    c.if-corners-gt-MOST_CORNERS.false c.if-triangles-gt-MOST_TRIANGLES.false (told c.if-not-are_rows_below.ensures)
    c.are_all_fine.ensures
