-- Answers to the goals of `spots_by_format` in src/layers.rt.
use Rattle.runs.proofs.PassedRefusals.{handed_on}
use Rattle.layer_features.specs.JsonFeatures.{asked_for}
use Rattle.place_runs.proofs.LayerPaths.LayerPlaces.{spots_are}
use Rattle.place_runs.proofs.layers.spots_by_format.Goals as goal

pub returns-in_err-begun-clause-refused : goal.returns-in_err-begun-clause-refused
returns-in_err-begun-clause-refused c =
    handed_on _ c.in_err-begun.field-0.0 c.from_residual.result c.from_residual.ensures.1 c.in_err-begun.ensures.refused

pub features_of-requires-clause-layer : goal.features_of-requires-clause-layer
features_of-requires-clause-layer c =
    let (sheet, reads, begun, at) = c.in_ok-begun.ensures.ok in (c.args.how, sheet, reads)

pub returns-clause-ok : goal.returns-clause-ok
returns-clause-ok c =
    spots_are c.args.how (asked_for c.args.asked) c.args.format c.args.bytes.now c.in_ok-begun.begun.places.items
    c.in_ok-begun.begun.lines.items c.in_ok-features.features c.in_ok-spots.spots.items c.in_ok-begun.ensures.ok
    c.in_ok-features.ensures.found (rw (c.deref.ensures.value, c.deref-2.ensures.value) at c.in_ok-spots.ensures)
