-- The invariant of the loop of `render_points` in src/texts.rt.
use Rattle.std.proofs.Common.{◌≡◌, ◌++◌, length, drop}
use Rattle.tin_height.specs.PointTexts.{text_with_heights, ArePlaced}
use Rattle.tin_height.proofs.texts.render_points.Given as goal

abbrev pub invariant-loop-number : goal.invariant-loop-number
invariant-loop-number l =
    ArePlaced l.from (length l.bytes) (drop l.number l.rows)
    × (l.text.items ++ text_with_heights l.bytes l.from (drop l.number l.rows) (drop l.number l.out) ≡ text_with_heights l.bytes 0 l.rows l.out)
