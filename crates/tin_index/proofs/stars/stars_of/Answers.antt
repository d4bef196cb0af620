-- Answers to the goals of `stars_of` in src/stars.rt.
use Rattle.tin_index.proofs.TriangleStars.{no_entries, entries_more_read}
use Rattle.tin_index.proofs.stars.stars_of.Goals as goal

pub loop-triangle-init : goal.loop-triangle-init
loop-triangle-init c = no_entries c.args.tin.now c.in_ok-entries.entries.items c.in_ok-entries.ensures.items

pub loop-triangle-preserved : goal.loop-triangle-preserved
loop-triangle-preserved c =
    entries_more_read c.args.tin.now c.loop-triangle.triangle c.triangles-triangles.result.now
    c.loop-triangle.entries.items c.push.new.entries.items c.push-in-loop-triangle.new.entries.items
    c.push-in-loop-triangle-2.new.entries.items
    c.triangles-triangles.ensures.limits c.triangles-triangles.ensures.sound c.triangles-triangles.ensures.triangles
    c.loop-triangle-test.true c.loop-triangle.invariant c.in_ok-push.ensures c.in_ok-push-2.ensures
    c.in_ok-push-3.ensures
