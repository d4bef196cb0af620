-- Answers to the goals of `carry_paths` in src/sheets.rt.
use Rattle.std.proofs.Common.{◌≡◌, All, ℕ, ◌<◌, ◌≤◌, length, vec_len, get_or, List, sym, ap, ◌∙◌, subst, arith}
use Rattle.plane_base.specs.declared.shapes.Pt.{Pt}
use Rattle.sheet_base.specs.declared.paths.PathRow.{PathRow}
use Rattle.sheet_base.specs.PointHeights.{Height, IsHeightWithinReach}
use Rattle.sheet_pieces.specs.SheetSegments.{path_vertices, vertices_from, segments_begun, sheet_segments}
use Rattle.carry_map.specs.Causes.{IsCause}
use Rattle.carry_map.proofs.ErrorExits.{exits, grows_on}
use Rattle.sheet_pieces.proofs.SheetPaths.{no_row, row_read, row_of}
use Rattle.carry_map.proofs.SheetSteps.{sheet_next, sheet_cause, sheet_all, twice_counted}
use Rattle.carry_map.proofs.sheets.carry_paths.Goals as goal
use Rattle.sheet_base.proofs.TiledPaths.{paths_few}

pub guess_starts-requires : goal.guess_starts-requires
guess_starts-requires c =
    let few = paths_few c.args.sheet.now c.points-points.ensures.sheet in
    let rows : length c.paths.result.now ≡ length c.args.sheet.now.paths =
    ap (λ (rs : List PathRow). length rs) c.paths.ensures.paths in
    omega arith

pub overflow_cast-track : goal.overflow_cast-track
overflow_cast-track c =
    let few = paths_few c.args.sheet.now c.points-points.ensures.sheet in
    let rows : length c.paths-row-items.result.now ≡ length c.args.sheet.now.paths =
    ap (λ (rs : List PathRow). length rs) c.paths-row-items.ensures.paths in
    omega arith

pub carry_path-requires-clause-path : goal.carry_path-requires-clause-path
carry_path-requires-clause-path c =
    let h : c.loop-number.number < length c.paths-row-items.result.now = omega arith in
    let row = row_of c.args.sheet.now c.points-points.result.now c.paths-row-items.result.now c.loop-number.number
    c.points-points.ensures.sheet c.points-points.ensures.points c.paths-row-items.ensures.paths h in row.path

pub carry_path-requires-clause-in_range : goal.carry_path-requires-clause-in_range
carry_path-requires-clause-in_range c =
    let h : c.loop-number.number < length c.paths-row-items.result.now = omega arith in
    let row = row_of c.args.sheet.now c.points-points.result.now c.paths-row-items.result.now c.loop-number.number
    c.points-points.ensures.sheet c.points-points.ensures.points c.paths-row-items.ensures.paths h in row.upto

pub carry_path-requires-clause-reach : goal.carry_path-requires-clause-reach
carry_path-requires-clause-reach c =
    let kept = c.heights-heights.ensures.sheet in
    subst (All IsHeightWithinReach) (sym c.heights-heights.ensures.heights) kept.heights_in_reach

pub returns-in_err-carry_path-clause-cause : goal.returns-in_err-carry_path-clause-cause
returns-in_err-carry_path-clause-cause c =
    let long : length c.loop-number.pieces.items ≡ vec_len c.loop-number.pieces = omega arith in
    let short : length c.args.pieces.now.items ≡ vec_len c.args.pieces.now = omega arith in
    let read : c.loop-number.number < length c.paths-row-items.result.now = omega arith in
    let h : c.loop-number.number < length c.args.sheet.now.paths =
    subst (λ (rs : List PathRow). c.loop-number.number < length rs) c.paths-row-items.ensures.paths read in
    let row = get_or c.paths-row-items.result.now c.loop-number.number no_row in
    let fault = c.in_err-carry_path.field-0.0 in
    exits (λ fault. IsCause c.args.index.now c.args.layer (vec_len c.args.pieces.now) c.args.most
    (sheet_segments c.args.sheet.now) fault) fault c.from_residual-in_err-carry_path.result
    c.from_residual-in_err-carry_path.ensures.1
    (subst (λ (n : ℕ). IsCause c.args.index.now c.args.layer n c.args.most (sheet_segments c.args.sheet.now) fault)
    short
    (subst (λ (points : List Pt). IsCause c.args.index.now c.args.layer (length c.args.pieces.now.items) c.args.most
    (segments_begun (vertices_from points c.args.sheet.now.heights 0 c.args.sheet.now.paths)) fault)
    c.points-points.ensures.points
    (subst (λ (heights : List Height). IsCause c.args.index.now c.args.layer (length c.args.pieces.now.items)
    c.args.most (segments_begun (vertices_from c.points-points.result.now heights 0 c.args.sheet.now.paths)) fault)
    c.heights-heights.ensures.heights
    (sheet_cause c.args.index.now c.args.layer c.points-points.result.now c.heights-heights.result.now
    c.args.sheet.now.paths c.args.most
    c.loop-number.gathered.points.items c.loop-number.gathered.heights c.loop-number.gathered.run.items
    c.args.pieces.now.items
    c.loop-number.pieces.items c.loop-number.number
    row fault h (row_read c.args.sheet.now.paths c.paths-row-items.result.now c.loop-number.number
    c.paths-row-items.ensures.paths read) c.loop-number.invariant
    (subst (λ (n : ℕ). IsCause c.args.index.now c.args.layer n c.args.most
    (segments_begun (path_vertices c.points-points.result.now c.heights-heights.result.now c.loop-number.number row))
    fault) (sym long) c.in_err-carry_path.ensures.cause)))))

pub loop-number-preserved : goal.loop-number-preserved
loop-number-preserved c =
    let read : c.loop-number.number < length c.paths-row-items.result.now = omega arith in
    let h : c.loop-number.number < length c.args.sheet.now.paths =
    subst (λ (rs : List PathRow). c.loop-number.number < length rs) c.paths-row-items.ensures.paths read in
    let room = c.in_ok-carry_path.ensures.room in
    let few = c.in_ok-carry_path.ensures.few in
    sheet_next c.args.index.now c.args.layer c.points-points.result.now c.heights-heights.result.now
    c.args.sheet.now.paths c.args.most
    c.loop-number.gathered.points.items c.carry_path.new.gathered.points.items c.loop-number.gathered.heights
    c.carry_path.new.gathered.heights c.loop-number.gathered.run.items
    c.carry_path.new.gathered.run.items
    c.args.pieces.now.items c.loop-number.pieces.items c.carry_path.new.pieces.items c.loop-number.number
    (get_or c.paths-row-items.result.now c.loop-number.number no_row) h
    (row_read c.args.sheet.now.paths c.paths-row-items.result.now c.loop-number.number c.paths-row-items.ensures.paths
    read) c.loop-number.invariant c.in_ok-carry_path.ensures.carried (omega arith) (omega arith)

pub carry_path-requires-clause-room : goal.carry_path-requires-clause-room
carry_path-requires-clause-room c =
    let state = c.loop-number.invariant in
    subst (λ (n : ℕ). n ≤ c.args.most) (sym c.loop-number.pieces.ok.0) state.room

pub carry_path-requires-clause-few : goal.carry_path-requires-clause-few
carry_path-requires-clause-few c =
    let state = c.loop-number.invariant in
    twice_counted (vec_len c.loop-number.gathered.points) (length c.loop-number.gathered.points.items)
    (vec_len c.loop-number.pieces) (length c.loop-number.pieces.items) c.loop-number.gathered.points.ok.0
    c.loop-number.pieces.ok.0 state.few

pub carry_path-requires-clause-each : goal.carry_path-requires-clause-each
carry_path-requires-clause-each c =
    let state = c.loop-number.invariant in
    state.each ∙ sym c.loop-number.gathered.points.ok.0

pub returns-in_err-carry_path-clause-grows : goal.returns-in_err-carry_path-clause-grows
returns-in_err-carry_path-clause-grows c =
    let carried = c.loop-number.invariant.carried in
    grows_on c.args.pieces.now.items c.loop-number.pieces.items c.carry_path.new.pieces.items
    (record { more = carried.own; are = carried.pieces_are }) c.in_err-carry_path.ensures.grows

pub returns-clause-carried : goal.returns-clause-carried
returns-clause-carried c =
    let read : length c.paths-row-items.result.now ≤ c.loop-number.number = omega arith in
    let all : length c.args.sheet.now.paths ≤ c.loop-number.number =
    subst (λ (rs : List PathRow). length rs ≤ c.loop-number.number) c.paths-row-items.ensures.paths read in
    sheet_all c.args.index.now c.args.layer c.points-points.result.now c.args.sheet.now.points
    c.heights-heights.result.now c.args.sheet.now.heights c.args.sheet.now.paths c.args.most
    c.loop-number.gathered.points.items c.loop-number.gathered.heights c.loop-number.gathered.run.items
    c.args.pieces.now.items c.loop-number.pieces.items c.loop-number.number c.points-points.ensures.points
    c.heights-heights.ensures.heights all c.loop-number.invariant

pub returns-clause-room : goal.returns-clause-room
returns-clause-room c =
    let state = c.loop-number.invariant in
    subst (λ (n : ℕ). n ≤ c.args.most) (sym c.loop-number.pieces.ok.0) state.room

pub returns-clause-few : goal.returns-clause-few
returns-clause-few c =
    let state = c.loop-number.invariant in
    twice_counted (vec_len c.loop-number.gathered.points) (length c.loop-number.gathered.points.items)
    (vec_len c.loop-number.pieces) (length c.loop-number.pieces.items) c.loop-number.gathered.points.ok.0
    c.loop-number.pieces.ok.0 state.few

pub returns-clause-grows : goal.returns-clause-grows
returns-clause-grows c =
    let carried = c.loop-number.invariant.carried in record { more = carried.own; are = carried.pieces_are }
