-- Answers to the goals of `places_by_format` in src/layers.rt.
use Rattle.std.proofs.Common.{IfOk, IfErr, sym, subst}
use Rattle.job_words.specs.declared.formats.Format.{Format}
use Rattle.layer_formats.specs.LayerOutcomes.{IsLayerText}
use Rattle.layer_formats.specs.LayerTexts.{is_drawing}
use Rattle.place_runs.specs.InsideLayers.{HasPlacesAs, LacksPlacesOf}
use Rattle.place_runs.proofs.layers.places_by_format.Goals as goal

pub returns-in-Wkt-by_format-clause-ok : goal.returns-in-Wkt-by_format-clause-ok
returns-in-Wkt-by_format-clause-ok c =
    subst (λ (format : Format). IfOk c.by_format-places_as.result (λ begun. HasPlacesAs (IsLayerText c.args.how format c.args.bytes.now)
    (is_drawing c.args.format) c.args.bytes.now begun.places.items begun.lines.items)) (sym c.in-Wkt-by_format.is)
    (rw c.is_drawing-drawing.ensures at c.by_format-places_as.ensures.ok)

pub returns-in-Wkt-by_format-clause-refused : goal.returns-in-Wkt-by_format-clause-refused
returns-in-Wkt-by_format-clause-refused c =
    subst (λ (format : Format). IfErr c.by_format-places_as.result (LacksPlacesOf c.args.how format c.args.bytes.now c.args.number))
    (sym c.in-Wkt-by_format.is) c.by_format-places_as.ensures.refused

pub returns-in-GeoJson-by_format-clause-ok : goal.returns-in-GeoJson-by_format-clause-ok
returns-in-GeoJson-by_format-clause-ok c =
    subst (λ (format : Format). IfOk c.by_format-places_as-2.result (λ begun. HasPlacesAs (IsLayerText c.args.how format c.args.bytes.now)
    (is_drawing c.args.format) c.args.bytes.now begun.places.items begun.lines.items)) (sym c.in-GeoJson-by_format.is)
    (rw c.is_drawing-drawing.ensures at c.by_format-places_as-2.ensures.ok)

pub returns-in-GeoJson-by_format-clause-refused : goal.returns-in-GeoJson-by_format-clause-refused
returns-in-GeoJson-by_format-clause-refused c =
    subst (λ (format : Format). IfErr c.by_format-places_as-2.result (LacksPlacesOf c.args.how format c.args.bytes.now c.args.number))
    (sym c.in-GeoJson-by_format.is) c.by_format-places_as-2.ensures.refused

pub returns-in-Drawing-by_format-clause-ok : goal.returns-in-Drawing-by_format-clause-ok
returns-in-Drawing-by_format-clause-ok c =
    subst (λ (format : Format). IfOk c.by_format-places_as-3.result (λ begun. HasPlacesAs (IsLayerText c.args.how format c.args.bytes.now)
    (is_drawing c.args.format) c.args.bytes.now begun.places.items begun.lines.items)) (sym c.in-Drawing-by_format.is)
    (rw c.is_drawing-drawing.ensures at c.by_format-places_as-3.ensures.ok)

pub returns-in-Drawing-by_format-clause-refused : goal.returns-in-Drawing-by_format-clause-refused
returns-in-Drawing-by_format-clause-refused c =
    subst (λ (format : Format). IfErr c.by_format-places_as-3.result (LacksPlacesOf c.args.how format c.args.bytes.now c.args.number))
    (sym c.in-Drawing-by_format.is) c.by_format-places_as-3.ensures.refused
