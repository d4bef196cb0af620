-- Answers to the goals of `is_too_wide` in src/spans.rt.
use Rattle.std.proofs.Common.{◌≡◌, rules}
use Rattle.std.specs.Prelude.{FitsSigned, ◌-ℤ◌}
use Rattle.std.specs.Int.{int_min, int_max}
use Rattle.std.proofs.lemmas.Int.{to_z-of_z}
use mir.Syntax.{w64}
use mir.Val.{to_z}
use Rattle.tin_file.specs.RowContents.{coordinate_of}
use Rattle.tin_file.proofs.CallerLemmas.NumberExtremes.{reach_goes_on, reach_fits, wide_so}
use Rattle.tin_file.proofs.spans.is_too_wide.Goals as goal

pub loop-corner-preserved : goal.loop-corner-preserved
loop-corner-preserved c =
    let fits : FitsSigned w64 c.coordinate-here.result = search rules in
    let low : FitsSigned w64 c.min-least.result = search rules in
    let high : FitsSigned w64 c.max-greatest.result = search rules in
    let least : c.min-least.result ≡ int_min (to_z w64 c.loop-corner.least-bits) c.coordinate-here.result =
    simp to_z-of_z at c.min-least.ensures.value in
    let greatest : c.max-greatest.result ≡ int_max (to_z w64 c.loop-corner.greatest-bits) c.coordinate-here.result =
    simp to_z-of_z at c.max-greatest.ensures.value in
    simp to_z-of_z (rw (least, greatest)
    (reach_goes_on (coordinate_of c.args.frame c.args.axis) c.args.corners.now c.loop-corner.corner-index
    (to_z w64 c.loop-corner.least-bits) (to_z w64 c.loop-corner.greatest-bits) c.coordinate-here.result
    c.loop-corner.invariant c.loop-corner-test.true c.coordinate-here.ensures))

pub overflow_sub-result : goal.overflow_sub-result
overflow_sub-result c =
    reach_fits c.args.frame c.args.axis c.args.corners.now c.loop-corner.corner-index
    (to_z w64 c.loop-corner.least-bits) (to_z w64 c.loop-corner.greatest-bits)
    c.requires c.loop-corner.invariant

pub returns : goal.returns
returns c =
    let fits : FitsSigned w64 (to_z w64 c.loop-corner.greatest-bits -ℤ to_z w64 c.loop-corner.least-bits) =
    reach_fits c.args.frame c.args.axis c.args.corners.now c.loop-corner.corner-index
    (to_z w64 c.loop-corner.least-bits) (to_z w64 c.loop-corner.greatest-bits)
    c.requires c.loop-corner.invariant in
    simp to_z-of_z (wide_so (coordinate_of c.args.frame c.args.axis) c.args.corners.now c.loop-corner.corner-index
    (to_z w64 c.loop-corner.least-bits) (to_z w64 c.loop-corner.greatest-bits)
    c.loop-corner.invariant c.loop-corner-test.false)
