-- Answers to the goals of `is_clear` in src/border_fits.rt.
use Rattle.std.proofs.Common.{refl}
use Rattle.tin_check.proofs.BorderLemmas.SideMeetings.{near_side, near_ends, clear_by, beyond_clear, not_found}
use Rattle.tin_check.proofs.border_fits.is_clear.Goals as goal

pub is_beyond-requires-clause-near : goal.is_beyond-requires-clause-near
is_beyond-requires-clause-near c =
    near_side c.args.tin.now c.args.frame c.args.triangle c.args.side.from c.args.side.to c.tri-t.result c.place-p.result
    c.place-q.result c.tri-t.ensures.limits c.requires.triangle c.requires.side.from c.requires.side.to
    c.tri-t.ensures.corners c.place-p.ensures.place c.place-q.ensures.place

pub returns-then-is_beyond : goal.returns-then-is_beyond
returns-then-is_beyond c = λ yes.
    clear_by c.args.tin.now c.args.frame c.args.triangle c.args.side.from c.args.side.to c.tri-t.result c.place-p.result
    c.place-q.result c.tri-t.ensures.corners c.place-p.ensures.place c.place-q.ensures.place
    (beyond_clear c.tri-t.result c.place-p.result c.place-q.result (c.if-is_beyond.ensures refl))

pub meets_side-requires-clause-near_p : goal.meets_side-requires-clause-near_p
meets_side-requires-clause-near_p c =
    let ends = near_ends c.tri-t.result c.place-p.result c.place-q.result
    (near_side c.args.tin.now c.args.frame c.args.triangle c.args.side.from c.args.side.to c.tri-t.result c.place-p.result
    c.place-q.result c.tri-t.ensures.limits c.requires.triangle c.requires.side.from c.requires.side.to
    c.tri-t.ensures.corners c.place-p.ensures.place c.place-q.ensures.place) in ends.0

pub meets_side-requires-clause-near_q : goal.meets_side-requires-clause-near_q
meets_side-requires-clause-near_q c =
    let ends = near_ends c.tri-t.result c.place-p.result c.place-q.result
    (near_side c.args.tin.now c.args.frame c.args.triangle c.args.side.from c.args.side.to c.tri-t.result c.place-p.result
    c.place-q.result c.tri-t.ensures.limits c.requires.triangle c.requires.side.from c.requires.side.to
    c.tri-t.ensures.corners c.place-p.ensures.place c.place-q.ensures.place) in ends.1

pub returns : goal.returns
returns c = λ yes.
    clear_by c.args.tin.now c.args.frame c.args.triangle c.args.side.from c.args.side.to c.tri-t.result c.place-p.result
    c.place-q.result c.tri-t.ensures.corners c.place-p.ensures.place c.place-q.ensures.place
    (not_found c.meets_side.result yes c.meets_side.ensures)
