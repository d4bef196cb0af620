-- Answers to the goals of `find_offset` in src/tall_columns.rt.
use Rattle.std.proofs.Common.{◌∙◌, ap}
use Rattle.std.specs.Prelude.{codes}
use Rattle.std.specs.List.{list_any}
use Rattle.jtext.specs.Values.{Json}
use Rattle.tin_file.specs.Keys.{says}
use Rattle.tin_file.proofs.FileRows.NamedPlaces.{place_so}
use Rattle.tin_file.proofs.VerticalComponent.TallColumnPlaces.{offset_columns_so}
use Rattle.tin_file.proofs.tall_columns.find_offset.Goals as goal

pub returns : goal.returns
returns c all h =
    c.place_offset.ensures
    ∙ offset_columns_so all c.any_says-is_named.result
    (c.any_says-is_named.ensures all h ∙ ap (λ text. list_any (λ (value : Json). says value text) all) c.as_slice.ensures)
    c.find_place-offset_z.result (place_so all c.as_slice-2.result.now (codes "offset_z") c.find_place-offset_z.result
    (c.find_place-offset_z.ensures all h) c.as_slice-2.ensures)
    c.find_place-source_z.result (place_so all c.as_slice-3.result.now (codes "source_z") c.find_place-source_z.result
    (c.find_place-source_z.ensures all h) c.as_slice-3.ensures)
    c.find_place-target_z.result (place_so all c.as_slice-4.result.now (codes "target_z") c.find_place-target_z.result
    (c.find_place-target_z.ensures all h) c.as_slice-4.ensures)
