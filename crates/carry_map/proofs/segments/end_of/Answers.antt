-- Answers to the goals of `end_of` in src/segments.rt.
use Rattle.std.proofs.Common.{◌≡◌, subst, arith}
use Rattle.std.proofs.lemmas.Int.{ints}
use Rattle.plane_base.specs.Plane.{Same, whole}
use Rattle.plane_base.specs.declared.shapes.Pt.{Pt}
use Rattle.tin_base.specs.Segments.{spot_at}
use Rattle.tin_base.specs.Slices.{spot_of}
use Rattle.affine_image.proofs.PlaceImages.{rounded_moved}
use Rattle.carry_map.proofs.segments.end_of.Goals as goal
use Rattle.tin_base.proofs.SegmentSpots.Spots.{spot_of_point}

pub returns-then-is_same : goal.returns-then-is_same
returns-then-is_same c =
    let a = c.args.way.a in
    let last = spot_of c.args.step.slice.hi in
    let same : a ≡ c.args.way.b = c.is_same.ensures.0 c.if-is_same.true in
    rounded_moved c.args.tin.now (whole a) (spot_at a c.args.way.b last) c.args.image (omega (arith, ints))
    (subst (λ (q : Pt). Same (spot_at a q last) (whole a)) same (spot_of_point a last)) c.requires.image
