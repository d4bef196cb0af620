-- Answers to the goals of `pass_paths` in src/checks.rt.
use Rattle.std.proofs.Common.{◌≡◌, ◌<◌, All, length, vec_len, get_or, List, refl, sym, ap, ◌∙◌, subst, arith}
use Rattle.plane_base.specs.declared.shapes.Pt.{Pt}
use Rattle.sheet_base.specs.declared.paths.PathRow.{PathRow}
use Rattle.sheet_base.specs.PointHeights.{Height, IsHeightWithinReach}
use Rattle.sheet_pieces.specs.SheetSegments.{vertices_from, segments_begun, sheet_segments}
use Rattle.sheet_pieces.proofs.SheetPaths.{no_row, row_read, row_of}
use Rattle.cert_check.specs.InsideSheetLists.{IsStopCause}
use Rattle.cert_check.proofs.PathLists.{exits}
use Rattle.cert_check.proofs.SheetLaws.{sheet_start, sheet_lines, sheet_next, sheet_cause, sheet_all}
use Rattle.cert_check.proofs.checks.pass_paths.Goals as goal
use Rattle.sheet_base.proofs.TiledPaths.{paths_few}

pub loop-path-init : goal.loop-path-init
loop-path-init c =
    sheet_start c.args.tin.now c.points-points.result.now c.heights-heights.result.now c.args.sheet.now.paths
    c.in_ok-with_capacity.field-0.items c.none.result c.in_ok-with_capacity-2.field-0.items c.args.lines.now
    c.args.lines.now c.in_ok-with_capacity.ensures.items c.none.ensures c.in_ok-with_capacity-2.ensures.items refl

pub overflow_cast-track : goal.overflow_cast-track
overflow_cast-track c =
    let few = paths_few c.args.sheet.now c.points-points.ensures.sheet in
    let rows : length c.paths-row-items.result.now ≡ length c.args.sheet.now.paths =
    ap (λ (rs : List PathRow). length rs) c.paths-row-items.ensures.paths in
    omega arith

pub pass_path-requires-clause-path : goal.pass_path-requires-clause-path
pass_path-requires-clause-path c =
    let h : c.loop-path.path < length c.paths-row-items.result.now = omega arith in
    let row = row_of c.args.sheet.now c.points-points.result.now c.paths-row-items.result.now c.loop-path.path
    c.points-points.ensures.sheet c.points-points.ensures.points c.paths-row-items.ensures.paths h in row.path

pub pass_path-requires-clause-in_range : goal.pass_path-requires-clause-in_range
pass_path-requires-clause-in_range c =
    let h : c.loop-path.path < length c.paths-row-items.result.now = omega arith in
    let row = row_of c.args.sheet.now c.points-points.result.now c.paths-row-items.result.now c.loop-path.path
    c.points-points.ensures.sheet c.points-points.ensures.points c.paths-row-items.ensures.paths h in row.upto

pub pass_path-requires-clause-lines : goal.pass_path-requires-clause-lines
pass_path-requires-clause-lines c =
    let read : c.loop-path.path < length c.paths-row-items.result.now = omega arith in
    let h : c.loop-path.path < length c.args.sheet.now.paths =
    subst (λ (rs : List PathRow). c.loop-path.path < length rs) c.paths-row-items.ensures.paths read in
    let row = row_of c.args.sheet.now c.points-points.result.now c.paths-row-items.result.now c.loop-path.path
    c.points-points.ensures.sheet c.points-points.ensures.points c.paths-row-items.ensures.paths read in
    sheet_lines c.args.tin.now c.points-points.result.now c.heights-heights.result.now c.args.sheet.now.paths
    c.loop-path.gathered.points.items c.loop-path.gathered.heights c.loop-path.gathered.run.items c.args.lines.now
    c.loop-path.gathered.rest.now c.loop-path.path
    (length (sheet_segments c.args.sheet.now)) (get_or c.paths-row-items.result.now c.loop-path.path no_row) h
    (row_read c.args.sheet.now.paths c.paths-row-items.result.now c.loop-path.path c.paths-row-items.ensures.paths read)
    row.path
    (ap (λ (points : List Pt). length (segments_begun (vertices_from points c.args.sheet.now.heights 0
    c.args.sheet.now.paths))) (sym c.points-points.ensures.points)
    ∙ ap (λ (heights : List Height). length (segments_begun (vertices_from c.points-points.result.now heights 0
    c.args.sheet.now.paths))) (sym c.heights-heights.ensures.heights)) c.requires.lines c.loop-path.invariant

pub pass_path-requires-clause-few : goal.pass_path-requires-clause-few
pass_path-requires-clause-few c =
    let state = c.loop-path.invariant in
    let count = state.count in
    let new : length c.loop-path.gathered.points.items ≡ vec_len c.loop-path.gathered.points = omega arith in
    omega (arith, count, new)

pub pass_path-requires-clause-each : goal.pass_path-requires-clause-each
pass_path-requires-clause-each c =
    let state = c.loop-path.invariant in
    let each = state.each in
    let new : length c.loop-path.gathered.points.items ≡ vec_len c.loop-path.gathered.points = omega arith in
    omega (arith, each, new)

pub pass_path-requires-clause-reach : goal.pass_path-requires-clause-reach
pass_path-requires-clause-reach c =
    let kept = c.heights-heights.ensures.sheet in
    subst (All IsHeightWithinReach) (sym c.heights-heights.ensures.heights) kept.heights_in_reach

pub returns-in_err-pass_path-clause-cause : goal.returns-in_err-pass_path-clause-cause
returns-in_err-pass_path-clause-cause c =
    let read : c.loop-path.path < length c.paths-row-items.result.now = omega arith in
    let h : c.loop-path.path < length c.args.sheet.now.paths =
    subst (λ (rs : List PathRow). c.loop-path.path < length rs) c.paths-row-items.ensures.paths read in
    let fault = c.in_err-pass_path.field-0.0 in
    exits (λ fault. IsStopCause c.args.tin.now (sheet_segments c.args.sheet.now) c.args.lines.now fault) fault
    c.from_residual-in_err-pass_path.result c.from_residual-in_err-pass_path.ensures.1
    (subst (λ (points : List Pt). IsStopCause c.args.tin.now
    (segments_begun (vertices_from points c.args.sheet.now.heights 0 c.args.sheet.now.paths)) c.args.lines.now fault)
    c.points-points.ensures.points
    (subst (λ (heights : List Height). IsStopCause c.args.tin.now
    (segments_begun (vertices_from c.points-points.result.now heights 0 c.args.sheet.now.paths)) c.args.lines.now fault)
    c.heights-heights.ensures.heights
    (sheet_cause c.args.tin.now c.points-points.result.now c.heights-heights.result.now c.args.sheet.now.paths
    c.loop-path.gathered.points.items c.loop-path.gathered.heights c.loop-path.gathered.run.items c.args.lines.now
    c.loop-path.gathered.rest.now c.loop-path.path
    (get_or c.paths-row-items.result.now c.loop-path.path no_row) fault h
    (row_read c.args.sheet.now.paths c.paths-row-items.result.now c.loop-path.path c.paths-row-items.ensures.paths read)
    c.loop-path.invariant c.in_err-pass_path.ensures.cause)))

pub loop-path-preserved : goal.loop-path-preserved
loop-path-preserved c =
    let read : c.loop-path.path < length c.paths-row-items.result.now = omega arith in
    let h : c.loop-path.path < length c.args.sheet.now.paths =
    subst (λ (rs : List PathRow). c.loop-path.path < length rs) c.paths-row-items.ensures.paths read in
    let few = c.in_ok-pass_path.ensures.few in
    sheet_next c.args.tin.now c.points-points.result.now c.heights-heights.result.now c.args.sheet.now.paths
    c.loop-path.gathered.points.items c.pass_path.new.gathered.points.items c.loop-path.gathered.heights
    c.pass_path.new.gathered.heights c.loop-path.gathered.run.items c.pass_path.new.gathered.run.items
    c.args.lines.now c.loop-path.gathered.rest.now c.pass_path.new.gathered.rest.now
    c.loop-path.path (get_or c.paths-row-items.result.now c.loop-path.path no_row) h
    (row_read c.args.sheet.now.paths c.paths-row-items.result.now c.loop-path.path c.paths-row-items.ensures.paths
    read) c.loop-path.invariant c.in_ok-pass_path.ensures.imaged (omega arith)

pub returns-clause-imaged : goal.returns-clause-imaged
returns-clause-imaged c =
    let rows : length c.paths-row-items.result.now ≡ length c.args.sheet.now.paths =
    ap (λ (rs : List PathRow). length rs) c.paths-row-items.ensures.paths in
    let all : c.loop-path.path ≡ length c.args.sheet.now.paths = omega arith in
    sheet_all c.args.tin.now c.points-points.result.now c.args.sheet.now.points c.heights-heights.result.now
    c.args.sheet.now.heights c.args.sheet.now.paths c.loop-path.gathered.points.items c.loop-path.gathered.heights
    c.loop-path.gathered.run.items c.args.lines.now c.loop-path.gathered.rest.now
    c.loop-path.path all c.points-points.ensures.points c.heights-heights.ensures.heights c.loop-path.invariant

pub returns-clause-few : goal.returns-clause-few
returns-clause-few c =
    let state = c.loop-path.invariant in
    let count = state.count in
    let new : length c.loop-path.gathered.points.items ≡ vec_len c.loop-path.gathered.points = omega arith in
    omega (arith, count, new)
