-- Answers to the goals of `render_points` in src/texts.rt.
use Rattle.std.proofs.Common.{◌∙◌, pos, length, ap, sym, arith}
use Rattle.tin_height.specs.declared.points.PointRow.{PointRow}
use Rattle.tin_height.specs.declared.raises.Raised.{Raised}
use Rattle.tin_height.proofs.PlacedRows.{next_placed, placed_within}
use Rattle.tin_height.proofs.texts.render_points.Goals as goal

no_row : PointRow
no_row = record { p = record { x = pos 0; y = pos 0 }; z = pos 0; start = 0; end = 0 }

no_point : Raised
no_point = record { p = record { x = pos 0; y = pos 0 }; z = pos 0 }

pub slice_bounds-extend_from_slice-end : goal.slice_bounds-extend_from_slice-end
unfolding no_row
slice_bounds-extend_from_slice-end c =
    let rows = c.items-rows.result.now in
    let each = c.requires.each ∙ ap length (sym c.items-rows.ensures) in
    let next = next_placed c.args.bytes.now rows c.args.out.now each c.loop-number.number no_row no_point
    c.loop-number.from c.loop-number-test.true c.loop-number.invariant.0 in
    omega (arith, next.1, placed_within _ _ _ next.2)
