-- Answers to the goals of `carry_path` in src/paths.rt.
use Rattle.std.proofs.Common.{◌≡◌, ◌++◌, ◌∷◌, [], ℕ, List, ◌+◌, ◌<◌, ◌≤◌, length, vec_len, sym, ap, ◌∙◌, subst, arith}
use Rattle.affine_image.specs.RoundedImages.{IsRoundedImage}
use Rattle.sheet_pieces.specs.SheetSegments.{path_vertices, segments_begun}
use Rattle.plane_base.specs.declared.shapes.Pt.{Pt}
use Rattle.sheet_base.specs.Segments.{segments_in}
use Rattle.carry_map.specs.Causes.{IsFirstOutside, IsCause, IsWayCause}
use Rattle.sheet_pieces.proofs.PathVertices.{in_points}
use Rattle.carry_map.proofs.ErrorExits.{exits, no_cause, grows_on}
use Rattle.carry_map.proofs.PathSteps.{starts_at, path_start, path_next, path_but_last, path_cause, path_outside}
use Rattle.carry_map.proofs.PathSteps.{few_images, few_counted, few_with_one, twice_last, in_row}
use Rattle.std.proofs.lemmas.List.{length-append}
use Rattle.tin_base.specs.declared.pieces.Place.{Place}
use Rattle.sheet_pieces.proofs.PathVertices.{few}
use Rattle.carry_map.proofs.paths.carry_path.Goals as goal

pub returns-in_default-clause-cause : goal.returns-in_default-clause-cause
returns-in_default-clause-cause c =
    let short : length c.args.pieces.now.items ≡ vec_len c.args.pieces.now = omega arith in
    let room : length c.args.pieces.now.items ≤ c.args.most = omega arith in
    subst (λ (n : ℕ). IsFirstOutside c.args.index.now c.args.track.from.layer n c.args.most
    (segments_begun (path_vertices c.args.points.now c.args.heights.now c.args.track.from.path c.args.track.row))
    c.args.track.from.path 0) short
    (path_outside c.args.index.now c.args.points.now c.args.heights.now c.args.track c.args.most c.args.pieces.now.items
    c.requires.path
    room c.in_default.ensures.none)

pub loop-number-init : goal.loop-number-init
loop-number-init c =
    let room : length c.args.pieces.now.items ≤ c.args.most = omega arith in
    path_start c.args.index.now c.args.track.from.layer c.args.points.now c.args.heights.now c.args.track.from.path
    c.args.track.row c.args.most c.args.gathered.now.points.items c.args.gathered.now.heights
    c.args.gathered.now.run.items c.args.pieces.now.items c.in-Some.found.image
    c.in-Some.ensures.image room (let each = c.requires.each in omega (arith, each))

pub carry_segment-requires-clause-start : goal.carry_segment-requires-clause-start
carry_segment-requires-clause-start c =
    starts_at c.args.index.now c.args.points.now c.args.track.row c.loop-number.number c.in-Some.found.triangle
    c.way_at-way.result.a c.way_at-way.result.start c.in-Some.ensures.start c.way_at-way.ensures.a
    (λ u is. c.start_of-start.ensures u (sym c.way_at-way.ensures.start ∙ is))

pub carry_segment-requires-clause-image : goal.carry_segment-requires-clause-image
carry_segment-requires-clause-image c =
    let state = c.loop-number.invariant in
    let here : c.loop-number.number < segments_in c.args.track.row = omega arith in
    subst (λ (p : Pt). IsRoundedImage c.args.index.now p c.loop-number.image) (sym c.way_at-way.ensures.a)
    (state.image_is (in_points c.args.track.row c.loop-number.number c.requires.path here))

pub returns-in_err-image-clause-cause : goal.returns-in_err-image-clause-cause
returns-in_err-image-clause-cause c =
    let long : length c.loop-number.pieces.items ≡ vec_len c.loop-number.pieces = omega arith in
    let short : length c.args.pieces.now.items ≡ vec_len c.args.pieces.now = omega arith in
    let here : c.loop-number.number < segments_in c.args.track.row = omega arith in
    exits (λ fault. IsCause c.args.index.now c.args.track.from.layer (vec_len c.args.pieces.now) c.args.most
    (segments_begun (path_vertices c.args.points.now c.args.heights.now c.args.track.from.path c.args.track.row)) fault)
    c.in_err-image.field-0.0 c.from_residual-in_err-image.result c.from_residual-in_err-image.ensures.1
    (subst (λ (n : ℕ). IsCause c.args.index.now c.args.track.from.layer n c.args.most
    (segments_begun (path_vertices c.args.points.now c.args.heights.now c.args.track.from.path c.args.track.row))
    c.in_err-image.field-0.0) short
    (path_cause c.args.index.now c.args.points.now c.args.heights.now c.args.track c.args.most
    c.args.gathered.now.points.items c.loop-number.gathered.points.items c.args.gathered.now.heights
    c.loop-number.gathered.heights c.args.gathered.now.run.items c.loop-number.gathered.run.items
    c.args.pieces.now.items
    c.loop-number.pieces.items c.loop-number.number c.loop-number.image c.way_at-way.result c.in_err-image.field-0.0
    c.requires.path here c.loop-number.invariant
    (record { a = c.way_at-way.ensures.a; b = c.way_at-way.ensures.b; from = c.way_at-way.ensures.from })
    (subst (λ (n : ℕ). IsWayCause c.args.index.now c.way_at-way.result n c.args.most c.in_err-image.field-0.0)
    (sym long) c.in_err-image.ensures.cause)))

pub loop-number-preserved : goal.loop-number-preserved
loop-number-preserved c =
    let here : c.loop-number.number < segments_in c.args.track.row = omega arith in
    let points : length c.loop-number.gathered.points.items ≡ vec_len c.loop-number.gathered.points = omega arith in
    let grown = c.in_ok-image.ensures.count in
    let more = c.in_ok-image.ensures.more in
    let upto = c.in_ok-image.ensures.room in
    path_next c.args.index.now c.args.points.now c.args.heights.now c.args.track c.args.most
    c.args.gathered.now.points.items c.loop-number.gathered.points.items c.begin_run.new.gathered.points.items
    c.carry_segment.new.points.items c.args.gathered.now.heights c.loop-number.gathered.heights
    c.begin_run.new.gathered.heights c.carry_segment.new.heights c.args.gathered.now.run.items
    c.loop-number.gathered.run.items c.begin_run.new.gathered.run.items c.args.pieces.now.items
    c.loop-number.pieces.items c.carry_segment.new.pieces.items c.loop-number.number c.loop-number.image
    c.in_ok-image.image c.way_at-way.result (record {
      from = c.end_heights-ends.result.from;
      to =
          c.end_heights-ends.result.to;
    })
    c.requires.path here (let each = c.requires.each in omega (arith, each)) c.loop-number.invariant
    (record { a = c.way_at-way.ensures.a; b = c.way_at-way.ensures.b; from = c.way_at-way.ensures.from })
    c.end_heights-ends.ensures.ends
    c.in_ok-begin_run.ensures.points c.in_ok-begin_run.ensures.heights
    (c.in_ok-begin_run.ensures.run ∙ ap (λ (n : ℕ). c.loop-number.gathered.run.items ++ n ∷ []) (sym points))
    c.in_ok-image.ensures.carried c.in_ok-image.ensures.inside c.in_ok-image.ensures.end (omega arith) (omega arith)
    (omega arith)

pub returns-clause-carried : goal.returns-clause-carried
returns-clause-carried c =
    let points : length c.loop-number.gathered.points.items ≡ vec_len c.loop-number.gathered.points = omega arith in
    path_but_last c.args.index.now c.args.track.from.layer c.args.points.now c.args.heights.now c.args.track.from.path
    c.args.track.row c.args.most c.args.gathered.now.points.items c.loop-number.gathered.points.items
    c.begin_run-2.new.gathered.points.items c.args.gathered.now.heights c.loop-number.gathered.heights
    c.begin_run-2.new.gathered.heights
    c.args.gathered.now.run.items c.loop-number.gathered.run.items c.begin_run-2.new.gathered.run.items
    c.args.pieces.now.items c.loop-number.pieces.items c.loop-number.number c.loop-number.image c.at.result
    c.requires.path (omega arith) (λ e. omega arith) c.loop-number.invariant c.at.ensures
    c.in_ok-begin_run-2.ensures.points c.in_ok-begin_run-2.ensures.heights (c.in_ok-begin_run-2.ensures.run
    ∙ ap (λ (n : ℕ). c.loop-number.gathered.run.items ++ n ∷ []) (sym points))

-- ---- what the calls require

pub way_at-way-requires-clause-in_path : goal.way_at-way-requires-clause-in_path
way_at-way-requires-clause-in_path c =
    let here : c.loop-number.number < segments_in c.args.track.row = omega arith in
    in_row c.args.track.row c.loop-number.number c.requires.path here

pub end_heights-ends-requires-clause-in_path : goal.end_heights-ends-requires-clause-in_path
end_heights-ends-requires-clause-in_path c =
    let here : c.loop-number.number < segments_in c.args.track.row = omega arith in
    in_row c.args.track.row c.loop-number.number c.requires.path here

pub begin_run-requires-clause-few : goal.begin_run-requires-clause-few
begin_run-requires-clause-few c =
    let state = c.loop-number.invariant in
    few_counted (vec_len c.loop-number.gathered.points) (length c.loop-number.gathered.points.items)
    c.loop-number.gathered.points.ok.0 (few_images c.args.most (vec_len c.args.gathered.now.points)
    (length c.args.gathered.now.points.items) (length c.loop-number.gathered.points.items)
    (vec_len c.args.pieces.now) (length c.args.pieces.now.items) (length c.loop-number.pieces.items)
    c.args.gathered.now.points.ok.0 c.args.pieces.now.ok.0 c.requires.most c.requires.room state.room c.requires.few
    state.count)

pub begin_run-requires-clause-few_heights : goal.begin_run-requires-clause-few_heights
begin_run-requires-clause-few_heights c =
    let state = c.loop-number.invariant in
    few_counted (length c.loop-number.gathered.heights) (length c.loop-number.gathered.points.items) state.each
    (few_images c.args.most (vec_len c.args.gathered.now.points)
    (length c.args.gathered.now.points.items) (length c.loop-number.gathered.points.items)
    (vec_len c.args.pieces.now) (length c.args.pieces.now.items) (length c.loop-number.pieces.items)
    c.args.gathered.now.points.ok.0 c.args.pieces.now.ok.0 c.requires.most c.requires.room state.room c.requires.few
    state.count)

pub begin_run-requires-2-clause-few : goal.begin_run-requires-2-clause-few
begin_run-requires-2-clause-few c =
    let state = c.loop-number.invariant in
    few_counted (vec_len c.loop-number.gathered.points) (length c.loop-number.gathered.points.items)
    c.loop-number.gathered.points.ok.0 (few_images c.args.most (vec_len c.args.gathered.now.points)
    (length c.args.gathered.now.points.items) (length c.loop-number.gathered.points.items)
    (vec_len c.args.pieces.now) (length c.args.pieces.now.items) (length c.loop-number.pieces.items)
    c.args.gathered.now.points.ok.0 c.args.pieces.now.ok.0 c.requires.most c.requires.room state.room c.requires.few
    state.count)

pub begin_run-requires-2-clause-few_heights : goal.begin_run-requires-2-clause-few_heights
begin_run-requires-2-clause-few_heights c =
    let state = c.loop-number.invariant in
    few_counted (length c.loop-number.gathered.heights) (length c.loop-number.gathered.points.items) state.each
    (few_images c.args.most (vec_len c.args.gathered.now.points)
    (length c.args.gathered.now.points.items) (length c.loop-number.gathered.points.items)
    (vec_len c.args.pieces.now) (length c.args.pieces.now.items) (length c.loop-number.pieces.items)
    c.args.gathered.now.points.ok.0 c.args.pieces.now.ok.0 c.requires.most c.requires.room state.room c.requires.few
    state.count)

pub carry_segment-requires-clause-few : goal.carry_segment-requires-clause-few
carry_segment-requires-clause-few c =
    let state = c.loop-number.invariant in
    few_with_one (length c.begin_run.new.gathered.heights) (length c.loop-number.gathered.heights)
    (length c.loop-number.gathered.points.items) c.in_ok-begin_run.ensures.count state.each
    (few_images c.args.most (vec_len c.args.gathered.now.points)
    (length c.args.gathered.now.points.items) (length c.loop-number.gathered.points.items)
    (vec_len c.args.pieces.now) (length c.args.pieces.now.items) (length c.loop-number.pieces.items)
    c.args.gathered.now.points.ok.0 c.args.pieces.now.ok.0 c.requires.most c.requires.room state.room c.requires.few
    state.count)

pub carry_segment-requires-clause-first : goal.carry_segment-requires-clause-first
carry_segment-requires-clause-first c =
    ap (λ (p : Place). p.piece) c.way_at-way.ensures.from

pub carry_segment-requires-clause-room : goal.carry_segment-requires-clause-room
carry_segment-requires-clause-room c =
    let state = c.loop-number.invariant in
    subst (λ (n : ℕ). n ≤ c.args.most) (sym c.loop-number.pieces.ok.0) state.room

-- ---- the exits

pub returns-in_err-begin_run-clause-cause : goal.returns-in_err-begin_run-clause-cause
returns-in_err-begin_run-clause-cause c =
    no_cause c.args.index.now c.args.track.from.layer (vec_len c.args.pieces.now) c.args.most
    (segments_begun (path_vertices c.args.points.now c.args.heights.now c.args.track.from.path c.args.track.row))
    c.in_err-begin_run.field-0.0 c.from_residual.result c.from_residual.ensures.1
    c.in_err-begin_run.ensures.memory

pub returns-in_err-begin_run-clause-grows : goal.returns-in_err-begin_run-clause-grows
returns-in_err-begin_run-clause-grows c =
    let carried = c.loop-number.invariant.carried in record { more = carried.own; are = carried.pieces_are }

pub returns-in_err-begin_run-2-clause-cause : goal.returns-in_err-begin_run-2-clause-cause
returns-in_err-begin_run-2-clause-cause c =
    no_cause c.args.index.now c.args.track.from.layer (vec_len c.args.pieces.now) c.args.most
    (segments_begun (path_vertices c.args.points.now c.args.heights.now c.args.track.from.path c.args.track.row))
    c.in_err-begin_run-2.field-0.0 c.from_residual-in_err-begin_run-2.result
    c.from_residual-in_err-begin_run-2.ensures.1
    c.in_err-begin_run-2.ensures.memory

pub returns-in_err-begin_run-2-clause-grows : goal.returns-in_err-begin_run-2-clause-grows
returns-in_err-begin_run-2-clause-grows c =
    let carried = c.loop-number.invariant.carried in record { more = carried.own; are = carried.pieces_are }

pub returns-in_err-image-clause-grows : goal.returns-in_err-image-clause-grows
returns-in_err-image-clause-grows c =
    let carried = c.loop-number.invariant.carried in
    grows_on c.args.pieces.now.items c.loop-number.pieces.items c.carry_segment.new.pieces.items
    (record { more = carried.own; are = carried.pieces_are }) c.in_err-image.ensures.grows

pub returns-clause-grows : goal.returns-clause-grows
returns-clause-grows c =
    let carried = c.loop-number.invariant.carried in record { more = carried.own; are = carried.pieces_are }

pub returns-clause-room : goal.returns-clause-room
returns-clause-room c =
    let state = c.loop-number.invariant in
    subst (λ (n : ℕ). n ≤ c.args.most) (sym c.loop-number.pieces.ok.0) state.room

pub returns-clause-few : goal.returns-clause-few
returns-clause-few c =
    let state = c.loop-number.invariant in
    let path = few c.args.track.row c.requires.path in
    let last : c.loop-number.number ≡ segments_in c.args.track.row = omega arith in
    let grown : length c.begin_run-2.new.gathered.points.items ≡ length c.loop-number.gathered.points.items + 1 =
    ap (λ (ps : List Pt). length ps) c.in_ok-begin_run-2.ensures.points
    ∙ length-append c.loop-number.gathered.points.items (c.loop-number.image ∷ []) in
    twice_last (vec_len c.begin_run-2.new.gathered.points) (length c.begin_run-2.new.gathered.points.items)
    (vec_len c.args.gathered.now.points) (length c.args.gathered.now.points.items)
    (length c.loop-number.gathered.points.items) (vec_len c.args.pieces.now) (length c.args.pieces.now.items)
    (vec_len c.loop-number.pieces) (length c.loop-number.pieces.items) c.loop-number.number
    c.begin_run-2.new.gathered.points.ok.0 grown c.args.gathered.now.points.ok.0 c.args.pieces.now.ok.0
    c.loop-number.pieces.ok.0 c.requires.few state.count state.more
    (subst (λ (n : ℕ). 0 < n) (sym last) path.some)
