-- Answers to the goals of `put_dot` in src/geometries.rt.
use Rattle.change_places.specs.PlacesText.{dot_text}
use Rattle.plain_laws.proofs.Parts.{three}
use Rattle.change_places.proofs.geometries.put_dot.Goals as goal

pub returns-clause-text : goal.returns-clause-text
unfolding dot_text
returns-clause-text c = three _ _ _ _ _ _ _ c.in_ok-put.ensures.text c.in_ok-put_line.ensures.text c.in_ok-put-2.ensures.text
