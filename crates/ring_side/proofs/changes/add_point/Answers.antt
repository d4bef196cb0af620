-- Answers to the goals of `add_point` in src/changes.rt.
use Rattle.tin_base.specs.declared.frames.Frame.TheVariants.{Source, Target}
use Rattle.ring_side.proofs.ChangeLists.RingFacts.{near_ring, near_place, near_form, near_form_to, point_added}
use Rattle.ring_side.proofs.changes.add_point.Goals as goal

pub side-was-requires-clause-near : goal.side-was-requires-clause-near
side-was-requires-clause-near c =
    let ring = c.requires.ring in
    near_form c.args.ring.now.source.points.now _ ring.source.same
    (near_ring c.args.sheets.now c.args.images.now Source c.args.ring.now.layer c.args.ring.now.path c.requires.layers ring.is_path)

pub side-was-requires-clause-near_point : goal.side-was-requires-clause-near_point
side-was-requires-clause-near_point c =
    let ring = c.requires.ring in
    near_form_to c.args.ring.now.source.points.now _ c.place_of.result _ ring.source.same c.place_of.ensures.place
    (near_place c.args.sheets.now c.args.images.now Source c.args.ring.now.layer c.args.ring.now.path c.args.spot c.requires.layers
    ring.is_path c.requires.spot c.place_of.ensures.among)

pub side-now-requires-clause-near : goal.side-now-requires-clause-near
side-now-requires-clause-near c =
    let ring = c.requires.ring in
    near_form c.args.ring.now.target.points.now _ ring.target.same
    (near_ring c.args.sheets.now c.args.images.now Target c.args.ring.now.layer c.args.ring.now.path c.requires.layers ring.is_path)

pub side-now-requires-clause-near_point : goal.side-now-requires-clause-near_point
side-now-requires-clause-near_point c =
    let ring = c.requires.ring in
    near_form_to c.args.ring.now.target.points.now _ c.place_of-2.result _ ring.target.same c.place_of-2.ensures.place
    (near_place c.args.sheets.now c.args.images.now Target c.args.ring.now.layer c.args.ring.now.path c.args.spot c.requires.layers
    ring.is_path c.requires.spot c.place_of-2.ensures.among)

pub returns : goal.returns
returns c =
    let ring = c.requires.ring in
    point_added c.args.sheets.now c.args.images.now c.args.ring.now.layer c.args.ring.now.path c.args.spot
    c.args.ring.now.source.points.now c.args.ring.now.target.points.now c.place_of.result c.place_of-2.result c.side-was.result
    c.side-now.result c.args.changes.now.items c.push_side.new.changes.items c.side-was.ensures c.side-now.ensures ring.source.same
    ring.target.same c.place_of.ensures.place c.place_of-2.ensures.place c.in_ok-push_side.ensures
