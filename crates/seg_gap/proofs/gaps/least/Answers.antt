-- Answers to the goals of `least` in src/gaps.rt.
use Rattle.seg_gap.proofs.Least.{lesser, least_of}
use Rattle.seg_gap.proofs.gaps.least.Goals as goal

pub returns : goal.returns
returns c =
    let s = c.end_square.result in let t = c.end_square-2.result in let u = c.end_square-3.result in let v =
    c.end_square-4.result in
    let x = c.min-first.result in let y = c.min-second.result in let r = c.min.result in
    least_of c.args.a c.args.b c.args.c c.args.d s t u v x y r c.end_square.ensures c.end_square-2.ensures
    c.end_square-3.ensures c.end_square-4.ensures
    (lesser s t x c.min-first.ensures) (lesser u v y c.min-second.ensures) (lesser x y r c.min.ensures)
