-- Answers to the goals of `pass_path` in src/paths.rt.
use Rattle.std.proofs.Common.{◌≡◌, ◌++◌, ◌∷◌, [], ℕ, ◌<◌, length, vec_len, List, sym, ap, ◌∙◌, subst, arith}
use Rattle.std.proofs.lemmas.List.{length-append}
use Rattle.plane_base.specs.declared.shapes.Pt.{Pt}
use Rattle.sheet_base.specs.Segments.{points_in, segments_in, point_at}
use Rattle.affine_image.specs.RoundedImages.{IsRoundedImage}
use Rattle.sheet_pieces.specs.SheetSegments.{path_vertices, segments_begun}
use Rattle.sheet_pieces.proofs.PathVertices.{few}
use Rattle.cert_check.specs.InsideSheetLists.{IsStopCause, IsTriangleWith}
use Rattle.cert_check.proofs.PathLists.{path_start, path_line, path_next, path_all, path_but_last, but_last, path_cause}
use Rattle.cert_check.proofs.PathLists.{last_place, exits}
use Rattle.cert_check.proofs.paths.pass_path.Goals as goal

pub loop-number-init : goal.loop-number-init
loop-number-init c = path_start c.args.tin.now c.args.points.now c.args.heights.now c.args.track.path c.args.track.row
    c.args.gathered.now.points.items c.args.gathered.now.heights c.args.gathered.now.run.items
    c.args.gathered.now.rest.now 0 (let each = c.requires.each in omega (arith, each))

pub pass_segment-requires-clause-line : goal.pass_segment-requires-clause-line
pass_segment-requires-clause-line c =
    let here : c.loop-number.number < segments_in c.args.track.row = omega arith in
    path_line c.args.tin.now c.args.points.now c.args.heights.now c.args.track.path c.args.track.row
    c.args.gathered.now.points.items
    c.loop-number.gathered.points.items c.args.gathered.now.heights c.loop-number.gathered.heights
    c.args.gathered.now.run.items c.loop-number.gathered.run.items
    c.args.gathered.now.rest.now c.loop-number.gathered.rest.now c.loop-number.number c.loop-number.triangle
    c.requires.lines here c.loop-number.invariant

pub pass_segment-requires-clause-few : goal.pass_segment-requires-clause-few
pass_segment-requires-clause-few c =
    let state = c.loop-number.invariant in
    let count = state.count in
    let new : length c.loop-number.gathered.points.items ≡ vec_len c.loop-number.gathered.points = omega arith in
    let old : length c.args.gathered.now.points.items ≡ vec_len c.args.gathered.now.points = omega arith in
    omega (arith, count, new, old)

pub pass_segment-requires-clause-each : goal.pass_segment-requires-clause-each
pass_segment-requires-clause-each c =
    let state = c.loop-number.invariant in
    let each = state.each in
    let new : length c.loop-number.gathered.points.items ≡ vec_len c.loop-number.gathered.points = omega arith in
    omega (arith, each, new)

pub returns-in_err-triangle-clause-cause : goal.returns-in_err-triangle-clause-cause
returns-in_err-triangle-clause-cause c =
    let here : c.loop-number.number < segments_in c.args.track.row = omega arith in
    exits (λ fault. IsStopCause c.args.tin.now
    (segments_begun (path_vertices c.args.points.now c.args.heights.now c.args.track.path c.args.track.row))
    c.args.gathered.now.rest.now fault) c.in_err-triangle.field-0.0 c.from_residual.result c.from_residual.ensures.1
    (path_cause c.args.tin.now c.args.points.now c.args.heights.now c.args.track c.args.gathered.now.points.items
    c.loop-number.gathered.points.items c.args.gathered.now.heights c.loop-number.gathered.heights
    c.args.gathered.now.run.items c.loop-number.gathered.run.items
    c.args.gathered.now.rest.now c.loop-number.gathered.rest.now c.loop-number.number c.loop-number.triangle
    c.way_at-way.result
    c.in_err-triangle.field-0.0 c.requires.path here c.loop-number.invariant
    (record {
      path = c.way_at-way.ensures.path;
      number = c.way_at-way.ensures.number;
      a = c.way_at-way.ensures.a;
      b = c.way_at-way.ensures.b;
      ends = c.way_at-way.ensures.ends;
    }) c.in_err-triangle.ensures.cause)

pub loop-number-preserved : goal.loop-number-preserved
loop-number-preserved c =
    let here : c.loop-number.number < segments_in c.args.track.row = omega arith in
    let less = c.in_ok-triangle.ensures.few in
    path_next c.args.tin.now c.args.points.now c.args.heights.now c.args.track c.args.gathered.now.points.items
    c.loop-number.gathered.points.items c.pass_segment.new.gathered.points.items c.args.gathered.now.heights
    c.loop-number.gathered.heights c.pass_segment.new.gathered.heights c.args.gathered.now.run.items
    c.loop-number.gathered.run.items c.pass_segment.new.gathered.run.items c.args.gathered.now.rest.now
    c.loop-number.gathered.rest.now
    c.pass_segment.new.gathered.rest.now c.loop-number.number c.loop-number.triangle c.in_ok-triangle.triangle
    c.way_at-way.result c.requires.path here c.loop-number.invariant
    (record {
      path = c.way_at-way.ensures.path;
      number = c.way_at-way.ensures.number;
      a = c.way_at-way.ensures.a;
      b = c.way_at-way.ensures.b;
      ends = c.way_at-way.ensures.ends;
    }) c.in_ok-triangle.ensures.imaged c.in_ok-triangle.ensures.last (omega arith)

pub returns-then-segment_count-point_count-clause-imaged : goal.returns-then-segment_count-point_count-clause-imaged
returns-then-segment_count-point_count-clause-imaged c =
    let all : c.loop-number.number ≡ points_in c.args.track.row = omega arith in
    path_all c.args.tin.now c.args.points.now c.args.heights.now c.args.track.path c.args.track.row
    c.args.gathered.now.points.items
    c.loop-number.gathered.points.items c.args.gathered.now.heights c.loop-number.gathered.heights
    c.args.gathered.now.run.items c.loop-number.gathered.run.items
    c.args.gathered.now.rest.now c.loop-number.gathered.rest.now c.loop-number.number c.loop-number.triangle all
    c.loop-number.invariant

pub returns-then-segment_count-point_count-clause-few : goal.returns-then-segment_count-point_count-clause-few
returns-then-segment_count-point_count-clause-few c =
    let state = c.loop-number.invariant in
    let count = state.count in
    let new : length c.loop-number.gathered.points.items ≡ vec_len c.loop-number.gathered.points = omega arith in
    let old : length c.args.gathered.now.points.items ≡ vec_len c.args.gathered.now.points = omega arith in
    omega (arith, count, new, old)

pub push_point-requires-clause-triangle : goal.push_point-requires-clause-triangle
push_point-requires-clause-triangle c =
    let state = c.loop-number.invariant in
    let all : c.loop-number.number ≡ segments_in c.args.track.row = omega arith in
    let next = but_last c.args.track.row c.loop-number.number c.requires.path all (λ e. omega arith) in
    let f = few c.args.track.row c.requires.path in
    let some = f.some in
    let path = c.requires.path in
    subst (λ (n : ℕ). IsTriangleWith c.args.tin.now c.loop-number.triangle (point_at c.args.points.now n))
    (last_place c.args.track.row c.loop-number.number path.some next)
    (state.last (omega (arith, some, all)) (omega (arith, next)))

pub push_point-requires-clause-few : goal.push_point-requires-clause-few
push_point-requires-clause-few c =
    let state = c.loop-number.invariant in
    let count = state.count in
    let new : length c.loop-number.gathered.points.items ≡ vec_len c.loop-number.gathered.points = omega arith in
    let old : length c.args.gathered.now.points.items ≡ vec_len c.args.gathered.now.points = omega arith in
    omega (arith, count, new, old)

pub push_point-requires-clause-each : goal.push_point-requires-clause-each
push_point-requires-clause-each c =
    let state = c.loop-number.invariant in
    let each = state.each in
    let new : length c.loop-number.gathered.points.items ≡ vec_len c.loop-number.gathered.points = omega arith in
    omega (arith, each, new)

pub returns-clause-imaged : goal.returns-clause-imaged
returns-clause-imaged c =
    let points : length c.loop-number.gathered.points.items ≡ vec_len c.loop-number.gathered.points = omega arith in
    let all : c.loop-number.number ≡ segments_in c.args.track.row = omega arith in
    let next = but_last c.args.track.row c.loop-number.number c.requires.path all (λ e. omega arith) in
    let image = c.in_ok-push_point.ensures.image in
    let path = c.requires.path in
    path_but_last c.args.tin.now c.args.points.now c.args.heights.now c.args.track.path c.args.track.row
    c.args.gathered.now.points.items
    c.loop-number.gathered.points.items c.push_point.new.gathered.points.items c.args.gathered.now.heights
    c.loop-number.gathered.heights c.push_point.new.gathered.heights c.args.gathered.now.run.items
    c.loop-number.gathered.run.items c.push_point.new.gathered.run.items c.args.gathered.now.rest.now
    c.loop-number.gathered.rest.now c.push_point.new.gathered.rest.now
    c.loop-number.number c.loop-number.triangle image.0 c.at.result c.requires.path all (λ e. omega arith)
    c.loop-number.invariant
    (subst (λ (n : ℕ). IsRoundedImage c.args.tin.now (point_at c.args.points.now n) image.0)
    (sym (last_place c.args.track.row c.loop-number.number path.some next)) image.1) c.at.ensures image.2
    c.in_ok-push_point.ensures.height
    (c.in_ok-push_point.ensures.run ∙ ap (λ (n : ℕ). c.loop-number.gathered.run.items ++ n ∷ []) (sym points))
    c.in_ok-push_point.ensures.rest

pub returns-clause-few : goal.returns-clause-few
returns-clause-few c =
    let state = c.loop-number.invariant in
    let count = state.count in
    let new : length c.loop-number.gathered.points.items ≡ vec_len c.loop-number.gathered.points = omega arith in
    let old : length c.args.gathered.now.points.items ≡ vec_len c.args.gathered.now.points = omega arith in
    let last : length c.push_point.new.gathered.points.items ≡ vec_len c.push_point.new.gathered.points = omega arith in
    let image = c.in_ok-push_point.ensures.image in
    let more = ap (λ (ps : List Pt). length ps) image.2
    ∙ length-append c.loop-number.gathered.points.items (image.0 ∷ []) in
    let rest = ap (λ (bs : List ℕ). length bs) c.in_ok-push_point.ensures.rest in
    let all : c.loop-number.number ≡ segments_in c.args.track.row = omega arith in
    let f = few c.args.track.row c.requires.path in
    let some = f.some in
    omega (arith, count, new, old, last, more, rest, all, some)
