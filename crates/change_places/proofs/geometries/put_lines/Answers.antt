-- Answers to the goals of `put_lines` in src/geometries.rt.
use Rattle.change_places.specs.PlacesText.{lines_text}
use Rattle.plain_laws.proofs.Parts.{five}
use Rattle.change_places.proofs.geometries.put_lines.Goals as goal

pub returns-clause-text : goal.returns-clause-text
unfolding lines_text
returns-clause-text c = five _ _ _ _ _ _ _ _ _ _ _ c.in_ok-put.ensures.text c.in_ok-put_line.ensures.text c.in_ok-put-2.ensures.text
    c.in_ok-put_line-2.ensures.text c.in_ok-put-3.ensures.text
