-- Answers to the goals of `carry_by_format` in src/layer_runs.rt.
use Rattle.std.proofs.Common.{IfOk, sym, subst}
use Rattle.carry_map.specs.Layers.{IsLayerKept}
use Rattle.job_words.specs.declared.formats.Format.{Format}
use Rattle.layer_formats.specs.LayerOutcomes.{IsLayerText}
use Rattle.migrate_mode.specs.LayerOutcomes.{IsCarried}
use Rattle.migrate_mode.proofs.layer_runs.carry_by_format.Goals as goal

pub returns-in-Wkt-by_format-clause-ok : goal.returns-in-Wkt-by_format-clause-ok
returns-in-Wkt-by_format-clause-ok c =
    subst (λ (format : Format). IfOk c.by_format-carry_as.result
    (λ layer. IsCarried c.args.how c.args.index.now format c.args.bytes.now c.args.number c.args.pieces.now.items
    c.by_format-carry_as.new.pieces.items layer.carried)) (sym c.in-Wkt-by_format.is)
    c.by_format-carry_as.ensures.ok

pub returns-in-GeoJson-by_format-clause-ok : goal.returns-in-GeoJson-by_format-clause-ok
returns-in-GeoJson-by_format-clause-ok c =
    subst (λ (format : Format). IfOk c.by_format-carry_as-2.result
    (λ layer. IsCarried c.args.how c.args.index.now format c.args.bytes.now c.args.number c.args.pieces.now.items
    c.by_format-carry_as-2.new.pieces.items layer.carried)) (sym c.in-GeoJson-by_format.is)
    c.by_format-carry_as-2.ensures.ok

pub returns-in-Drawing-by_format-clause-ok : goal.returns-in-Drawing-by_format-clause-ok
returns-in-Drawing-by_format-clause-ok c =
    subst (λ (format : Format). IfOk c.by_format-carry_as-3.result
    (λ layer. IsCarried c.args.how c.args.index.now format c.args.bytes.now c.args.number c.args.pieces.now.items
    c.by_format-carry_as-3.new.pieces.items layer.carried)) (sym c.in-Drawing-by_format.is)
    c.by_format-carry_as-3.ensures.ok

pub returns-in-Drawing-by_format-clause-kept : goal.returns-in-Drawing-by_format-clause-kept
returns-in-Drawing-by_format-clause-kept c =
    subst (λ (format : Format). IfOk c.by_format-carry_as-3.result
    (λ layer. IsLayerKept c.args.index.now (IsLayerText c.args.how format c.args.bytes.now) layer.sheet
    layer.images)) (sym c.in-Drawing-by_format.is)
    c.by_format-carry_as-3.ensures.kept
