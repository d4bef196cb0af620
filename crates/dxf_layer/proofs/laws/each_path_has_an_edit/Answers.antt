-- Answers to the goals of `each_path_has_an_edit` in src/laws.rt.
use Rattle.dxf_layer.proofs.SheetEdits.EachEdit.{each_path_has_an_edit}
use Rattle.dxf_layer.proofs.laws.each_path_has_an_edit.Goals as goal

pub returns : goal.returns
returns c = each_path_has_an_edit c.pairs_tile.ensures.tile
