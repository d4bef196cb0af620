-- Answers to the goals of `end_object` in src/frames.rt.
use Rattle.std.proofs.Common.{◌≡◌, ◌++◌, length, vec_len, refl, ◌∙◌, arith}
use Rattle.gj_layer.specs.InsideFrames.{fronts, behinds, edit_list}
use Rattle.gj_layer.proofs.OpenObjects.ObjectEnds.{end_holds}
use Rattle.gj_layer.proofs.frames.end_object.Goals as goal

pub returns-clause-holds : goal.returns-clause-holds
returns-clause-holds c own before done ending bare held =
    let one = c.in_order-one.result.0 in
    let other = c.in_order-one.result.1 in
    let content = c.args.ending.content in
    let long : vec_len c.args.pass.now.paths ≡ length c.args.pass.now.paths.items = omega arith in
    let first = c.in_ok-from.ensures.put before.edits done.edits held.edits ending.edits in
    let second = c.in_ok-put.ensures.put (before.edits ++ fronts content (edit_list one))
    (done.edits ++ behinds content (edit_list one)) first.0 first.1 in
    end_holds c.args.pass.now _ c.args.ending own before done ending bare held _ c.edit_at.result c.edit_at-2.result one
    other c.len.result (c.len.ensures ∙ long) refl c.edit_at.ensures c.edit_at-2.ensures c.in_order-one.ensures
    refl refl refl refl second.0
