-- Answers to the goals of `put_point` in src/geometries.rt.
use Rattle.change_places.specs.PlacesText.{point_text}
use Rattle.plain_laws.proofs.Parts.{three}
use Rattle.change_places.proofs.geometries.put_point.Goals as goal

pub returns-clause-text : goal.returns-clause-text
unfolding point_text
returns-clause-text c = three _ _ _ _ _ _ _ c.in_ok-put.ensures.text c.in_ok-put_position.ensures.text c.in_ok-put-2.ensures.text
