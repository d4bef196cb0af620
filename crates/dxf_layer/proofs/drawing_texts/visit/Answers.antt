-- Answers to the goals of `visit` in src/drawing_texts.rt.
use Rattle.std.proofs.Common.{◌≡◌, List, ◌∙◌, ap, sym, length, drop}
use Rattle.std.specs.Prelude.{take_while}
use Rattle.std.proofs.lemmas.List.Folds.{length-prefix_len}
use Rattle.dxf_pairs.specs.declared.pairs.Pair.{Pair}
use Rattle.dxf_entities.specs.Entities.{is_no_head}
use Rattle.dxf_entities.specs.DrawingContents.{contents_of}
use Rattle.dxf_layer.specs.InsideStands.{room_before}
use Rattle.dxf_entities.proofs.Vertices.{rest_is}
use Rattle.dxf_entities.proofs.NoPairs.{no_pair}
use Rattle.dxf_layer.proofs.EntityWalks.Visits.{grows_along}
use Rattle.dxf_layer.proofs.drawing_texts.visit.Goals as goal

pub returns-then-begins_entity-clause-grown : goal.returns-then-begins_entity-clause-grown
returns-then-begins_entity-clause-grown c =
    let pairs = c.args.pairs.now in
    let size : length c.pairs_before_head.result.now ≡ room_before (drop 1 pairs) =
    ap (λ (found : List Pair). length found) (c.pairs_before_head.ensures
    ∙ ap (take_while is_no_head) (rest_is pairs 1)) ∙ length-prefix_len is_no_head (drop 1 pairs) in
    grows_along c.args.section pairs no_pair (length c.pairs_before_head.result.now) (contents_of c.args.drawing.now)
    (contents_of c.step.new.drawing) c.step.result c.requires.some
    (sym c.begins_entity.ensures ∙ c.if-begins_entity.true) size c.step.ensures.grown
