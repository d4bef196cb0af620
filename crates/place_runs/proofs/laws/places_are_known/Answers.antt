-- The proof of the law `places_are_known` in src/laws.rt.
use Rattle.place_runs.proofs.LayerPaths.KnownRings.{all_known}
use Rattle.place_runs.proofs.laws.places_are_known.Goals as goal

pub returns : goal.returns
returns c = all_known c.lists_are_all_side_changes.ensures c.each_path_has_an_edit.ensures c.layer_texts_are_one.ensures
