-- Answers to the goals of `splice` in src/splices.rt.
use Rattle.std.proofs.Common.{arith}
use Rattle.sheet_base.proofs.SpliceLaws.{next_edit, one_more}
use Rattle.sheet_base.proofs.splices.splice.Goals as goal

pub slice_bounds-extend_from_slice-end : goal.slice_bounds-extend_from_slice-end
slice_bounds-extend_from_slice-end g c =
    let next = next_edit c.args.bytes.now c.args.edits.now c.loop-edit.edit-index c.loop-edit.from c.loop-edit-test.true
    c.loop-edit.invariant.order in
    omega (arith, next.ends, next.within)

pub loop-edit-preserved : goal.loop-edit-preserved
loop-edit-preserved g c =
    one_more c.args.bytes.now (g.T.EditTexts.text c.args.texts.now) c.args.edits.now c.loop-edit.edit-index
    c.loop-edit.from c.loop-edit.out.items c.extend_from_slice.new.self.items
    c.loop-edit-test.true c.loop-edit.invariant c.in_ok-extend_from_slice.ensures.items c.push.new.out.items
    c.in_ok-push.ensures
