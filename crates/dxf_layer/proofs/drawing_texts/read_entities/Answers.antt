-- Answers to the goals of `read_entities` in src/drawing_texts.rt.
use Rattle.std.proofs.Common.{◌≡◌, sym, subst, arith, ◌^◌, ◌*◌, ◌+◌, get_or, drop, Err}
use Rattle.std.proofs.lemmas.List.{drop_more}
use Rattle.dxf_entities.specs.SectionPlaces.{entities_of}
use Rattle.dxf_entities.specs.Shapes.{with_shapes}
use Rattle.dxf_layer.specs.InsideWalks.{free, visit_of, walk_of}
use Rattle.dxf_entities.specs.DrawingContents.{contents_of}
use Rattle.dxf_layer.specs.InsideStands.{room_before, GoesTo, GrowsAlong}
use Rattle.dxf_entities.proofs.ReadSizes.{holds_more}
use Rattle.dxf_entities.proofs.HandedFaults.{handed_on}
use Rattle.dxf_entities.proofs.Vertices.{rest_is}
use Rattle.dxf_layer.proofs.EntityWalks.Visits.{IsWalkedTo, nothing_walked, pair_walked, walk_refused, room_short}
use Rattle.dxf_entities.proofs.NoPairs.{no_pair}
use Rattle.dxf_layer.proofs.drawing_texts.read_entities.Goals as goal

pub loop-number-init : goal.loop-number-init
loop-number-init c = nothing_walked c.args.source.now.bytes.now c.args.source.now.how c.args.source.now.seed
    c.args.pairs.now (contents_of c.args.drawing.now) c.requires.room

pub visit-requires-clause-room : goal.visit-requires-clause-room
visit-requires-clause-room c =
    holds_more (2 * c.loop-number.number + room_before (drop c.loop-number.number c.args.pairs.now)) (2 ^ 30)
    (contents_of c.loop-number.drawing) c.loop-number.invariant.room
    (omega (arith, room_short c.loop-number.number c.args.pairs.now, c.requires.few, c.loop-number-test.true))

pub loop-number-preserved : goal.loop-number-preserved
loop-number-preserved c =
    let pairs = c.args.pairs.now in
    let number = c.loop-number.number in
    let bytes = c.args.source.now.bytes.now in
    let how = c.args.source.now.how in
    let seed = c.args.source.now.seed in
    let so_far = c.loop-number.invariant in
    let goes : GoesTo (visit_of bytes how seed c.loop-number.section so_far.spot (drop number pairs))
    (with_shapes (contents_of c.args.drawing.now) so_far.shapes) c.in_ok-place.place (contents_of c.visit.new.drawing) =
    subst (λ left. GoesTo (visit_of bytes how seed c.loop-number.section so_far.spot left)
    (with_shapes (contents_of c.args.drawing.now) so_far.shapes) c.in_ok-place.place (contents_of c.visit.new.drawing))
    (rest_is pairs number)
    (c.in_ok-place.ensures.goes (with_shapes (contents_of c.args.drawing.now) so_far.shapes) so_far.spot
    so_far.stands) in
    let grown : GrowsAlong (drop number pairs) (contents_of c.loop-number.drawing) (contents_of c.visit.new.drawing) =
    subst (λ left. GrowsAlong left (contents_of c.loop-number.drawing) (contents_of c.visit.new.drawing))
    (rest_is pairs number)
    c.in_ok-place.ensures.grown in
    subst (λ section. IsWalkedTo bytes how seed pairs section c.in_ok-place.place (number + 1)
    (contents_of c.args.drawing.now)
    (contents_of c.visit.new.drawing)) (sym c.behind-section.ensures)
    (pair_walked bytes how seed pairs c.loop-number.section c.loop-number.place c.in_ok-place.place number
    (contents_of c.args.drawing.now) (contents_of c.loop-number.drawing) (contents_of c.visit.new.drawing)
    (get_or pairs number no_pair)
    so_far (drop_more pairs number no_pair c.loop-number-test.true) goes grown)

pub returns-in_err-place-clause-reads : goal.returns-in_err-place-clause-reads
returns-in_err-place-clause-reads c =
    let pairs = c.args.pairs.now in
    let number = c.loop-number.number in
    let bytes = c.args.source.now.bytes.now in
    let how = c.args.source.now.how in
    let seed = c.args.source.now.seed in
    let so_far = c.loop-number.invariant in
    let fault = c.in_err-place.field-0.0 in
    handed_on (walk_of bytes how seed free (entities_of bytes pairs)) (contents_of c.args.drawing.now)
    (contents_of c.visit.new.drawing) fault c.from_residual.result c.from_residual.ensures.1
    (λ memory. walk_refused bytes how seed pairs c.loop-number.section c.loop-number.place number
    (contents_of c.args.drawing.now) (contents_of c.loop-number.drawing) (get_or pairs number no_pair) fault
    so_far (drop_more pairs number no_pair c.loop-number-test.true)
    (subst (λ left. visit_of bytes how seed c.loop-number.section so_far.spot left ≡ Err fault) (rest_is pairs number)
    (c.in_err-place.ensures.goes (with_shapes (contents_of c.args.drawing.now) so_far.shapes) so_far.spot so_far.stands
    memory)))
