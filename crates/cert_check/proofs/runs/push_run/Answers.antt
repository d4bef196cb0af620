-- Answers to the goals of `push_run` in src/runs.rt.
use Rattle.std.proofs.Common.{◌≡◌, ◌-◌, ◌<◌, ◌≤◌, length, vec_len, take, get_or, arith}
use Rattle.cert_check.proofs.ListPoints.{right_inside}
use Rattle.cert_check.proofs.RunLaws.{first_in, each_has, last_has, ends_next, ends_all, ends_count, front_length}
use Rattle.cert_check.proofs.RunLaws.{right_split}
use Rattle.cert_check.proofs.runs.push_run.Goals as goal

pub image_of-requires-clause-inside : goal.image_of-requires-clause-inside
image_of-requires-clause-inside c =
    let h : 0 < length c.args.numbers.now = omega arith in
    let has = first_in c.args.tin.now c.args.way.a c.args.way.b c.args.numbers.now h c.requires.right in has.1

pub push_end-requires-clause-inside : goal.push_end-requires-clause-inside
push_end-requires-clause-inside c = right_inside c.args.tin.now c.args.way.a c.args.way.b c.args.numbers.now
    c.show_soundness.ensures.sound c.requires.right

pub push_end-requires-clause-part : goal.push_end-requires-clause-part
push_end-requires-clause-part c =
    let h : 0 < length c.args.numbers.now = omega arith in
    let within : c.loop-triangle.triangle-index < length (take (length c.args.numbers.now - 1) c.args.numbers.now) =
    omega arith in
    each_has c.args.tin.now c.args.way.a c.args.way.b (take (length c.args.numbers.now - 1) c.args.numbers.now)
    (get_or c.args.numbers.now (length c.args.numbers.now - 1) 0) c.loop-triangle.triangle-index within
    (right_split c.args.tin.now c.args.way.a c.args.way.b c.args.numbers.now h c.requires.right)

pub push_end-requires-clause-few : goal.push_end-requires-clause-few
push_end-requires-clause-few c =
    let h : 0 < length c.args.numbers.now = omega arith in
    let within : c.loop-triangle.triangle-index ≤ length (take (length c.args.numbers.now - 1) c.args.numbers.now) =
    omega arith in
    let below : c.loop-triangle.triangle-index < length (take (length c.args.numbers.now - 1) c.args.numbers.now) =
    omega arith in
    let count = ends_count c.args.tin.now c.args.way.a c.args.way.b
    (record { from = c.args.way.ends.from; to = c.args.way.ends.to })
    (take (length c.args.numbers.now - 1) c.args.numbers.now) c.loop-triangle.triangle-index
    c.args.points.now.items c.loop-triangle.points.items c.args.heights.now c.loop-triangle.heights within
    c.loop-triangle.invariant in
    let front = front_length c.args.numbers.now h in
    let few = c.requires.few in
    let more = count.1 in
    omega (arith, more, front, few, below)

pub loop-triangle-preserved : goal.loop-triangle-preserved
loop-triangle-preserved c =
    let within : c.loop-triangle.triangle-index < length (take (length c.args.numbers.now - 1) c.args.numbers.now) =
    omega arith in
    ends_next c.args.tin.now c.args.way.a c.args.way.b (record { from = c.args.way.ends.from; to = c.args.way.ends.to })
    (take (length c.args.numbers.now - 1) c.args.numbers.now) c.loop-triangle.triangle-index
    c.args.points.now.items c.loop-triangle.points.items c.push_end.new.points.items c.args.heights.now
    c.loop-triangle.heights c.push_end.new.heights within c.loop-triangle.invariant c.in_ok-push_end.ensures

pub returns-clause-run : goal.returns-clause-run
returns-clause-run c =
    let h : 0 < length c.args.numbers.now = omega arith in
    let all : c.loop-triangle.triangle-index ≡ length (take (length c.args.numbers.now - 1) c.args.numbers.now) =
    omega arith in
    ends_all c.args.tin.now c.args.way.a c.args.way.b (record { from = c.args.way.ends.from; to = c.args.way.ends.to })
    (take (length c.args.numbers.now - 1) c.args.numbers.now)
    (get_or c.args.numbers.now (length c.args.numbers.now - 1) 0) c.loop-triangle.triangle-index
    c.args.points.now.items c.loop-triangle.points.items c.args.heights.now c.loop-triangle.heights
    c.show_soundness.ensures.sound
    (right_split c.args.tin.now c.args.way.a c.args.way.b c.args.numbers.now h c.requires.right) all
    c.loop-triangle.invariant

pub returns-clause-count : goal.returns-clause-count
returns-clause-count c =
    let h : 0 < length c.args.numbers.now = omega arith in
    let all : c.loop-triangle.triangle-index ≡ length (take (length c.args.numbers.now - 1) c.args.numbers.now) =
    omega arith in
    let count = ends_count c.args.tin.now c.args.way.a c.args.way.b
    (record { from = c.args.way.ends.from; to = c.args.way.ends.to })
    (take (length c.args.numbers.now - 1) c.args.numbers.now) c.loop-triangle.triangle-index
    c.args.points.now.items c.loop-triangle.points.items c.args.heights.now c.loop-triangle.heights (omega arith)
    c.loop-triangle.invariant in
    let front = front_length c.args.numbers.now h in
    let more = count.0 in
    let new : length c.loop-triangle.points.items ≡ vec_len c.loop-triangle.points = omega arith in
    let old : length c.args.points.now.items ≡ vec_len c.args.points.now = omega arith in
    omega (arith, more, front, new, old, all)

pub returns-clause-last : goal.returns-clause-last
returns-clause-last c =
    let h : 0 < length c.args.numbers.now = omega arith in
    last_has c.args.tin.now c.args.way.a c.args.way.b (take (length c.args.numbers.now - 1) c.args.numbers.now)
    (get_or c.args.numbers.now (length c.args.numbers.now - 1) 0)
    (right_split c.args.tin.now c.args.way.a c.args.way.b c.args.numbers.now h c.requires.right)
