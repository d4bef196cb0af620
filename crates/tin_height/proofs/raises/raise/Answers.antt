-- Answers to the goals of `raise` in src/raises.rt.
use Rattle.std.proofs.Common.{◌≡◌, ◌∙◌, ℕ, List, length, add-one, ap, subst}
use Rattle.tin_height.specs.Raises.{IsFirstOutside}
use Rattle.tin_height.specs.declared.points.PointRow.{PointRow}
use Rattle.tin_height.proofs.Raising.{raised_more, raised_all, raised_long, first_outside}
use Rattle.tin_height.proofs.raises.raise.Goals as goal

pub returns-in_default-clause-outside : goal.returns-in_default-clause-outside
returns-in_default-clause-outside c point is =
    let rows = c.items-rows.result.now in
    let first = first_outside c.args.index.now c.args.offsets.now rows c.loop-point.raised.items c.loop-point.point _
    c.loop-point.invariant c.loop-point-test.true c.in_default.ensures.outside in
    let same : c.loop-point.point ≡ point = cc in
    subst (λ (all : List PointRow). IsFirstOutside c.args.index.now all point) c.items-rows.ensures
    (subst (λ (k : ℕ). IsFirstOutside c.args.index.now rows k) same first)

pub loop-point-preserved : goal.loop-point-preserved
loop-point-preserved c =
    rw (add-one, c.in_ok-push.ensures.items) (raised_more c.args.index.now c.args.offsets.now c.items-rows.result.now
    c.loop-point.raised.items c.loop-point.point _ c.raise_in.result c.loop-point.invariant c.loop-point-test.true
    c.raise_in.ensures)

pub returns-clause-each : goal.returns-clause-each
returns-clause-each c =
    let rows = c.items-rows.result.now in
    let raised = c.loop-point.raised.items in
    let all = raised_all c.args.index.now c.args.offsets.now rows raised c.loop-point.point c.loop-point.invariant
    c.loop-point-test.false in
    raised_long c.args.index.now c.args.offsets.now rows raised all
    ∙ ap (λ (them : List PointRow). length them) c.items-rows.ensures
