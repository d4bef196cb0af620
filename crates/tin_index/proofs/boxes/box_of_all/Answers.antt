-- Answers to the goals of `box_of_all` in src/boxes.rt.
use Rattle.std.proofs.Common.{ℕ, length, subst, ap, ◌∙◌, arith}
use Rattle.tin_index.specs.Boxes.{IsRound}
use Rattle.tin_index.proofs.Round.{round_none, at_corner, round_first, round_more}
use Rattle.tin_index.proofs.boxes.box_of_all.Goals.{then-place-eq0, else-place-eq0}
use Rattle.tin_index.proofs.boxes.box_of_all.Goals as goal

pub loop-place-init : goal.loop-place-init
loop-place-init c = round_none c.args.tin.now c.of_point-round.result

pub loop-place-preserved : goal.loop-place-preserved
loop-place-preserved c =
    elim c.if-place-eq0.branch [
      | then-place-eq0 w ↦ round_first c.args.tin.now c.at-p.result c.if-place-eq0.round c.loop-place.place
          w.if-place-eq0.true
          (at_corner c.args.tin.now c.corners-corners.result.now c.loop-place.place c.at-p.result
          c.corners-corners.ensures.corners c.loop-place-test.true c.at-p.ensures)
          (w.round-is ∙ w.of_point-round-then-place-eq0.ensures)
      | else-place-eq0 w ↦ round_more c.args.tin.now c.at-p.result c.loop-place.round c.if-place-eq0.round
          c.loop-place.place w.if-place-eq0.false
          (at_corner c.args.tin.now c.corners-corners.result.now c.loop-place.place c.at-p.result
          c.corners-corners.ensures.corners c.loop-place-test.true c.at-p.ensures) c.loop-place.invariant
          (w.round-is ∙ w.with_point-round.ensures)
    ]

pub returns : goal.returns
returns c =
    let count = ap length c.corners-corners.ensures.corners in
    subst (λ (n : ℕ). IsRound c.args.tin.now n c.loop-place.round) (omega (arith, count)) c.loop-place.invariant
