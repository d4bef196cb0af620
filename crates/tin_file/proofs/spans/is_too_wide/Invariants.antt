-- The invariant of the loop of `is_too_wide` in src/spans.rt.
use Rattle.tin_file.specs.RowContents.{coordinate_of}
use Rattle.tin_file.proofs.CallerLemmas.NumberExtremes.{IsReached}
use Rattle.tin_file.proofs.spans.is_too_wide.Given as goal

abbrev pub invariant-loop-corner : goal.invariant-loop-corner
invariant-loop-corner l = IsReached (coordinate_of l.frame l.axis) l.corners l.corner-index l.least l.greatest
