-- The heights of a segment's ends as they are read again.
use Rattle.std.specs.Prelude.{◌≡◌, if◌then◌else◌, None, Some}
use Rattle.std.specs.Ordering.{int_eq}
use Rattle.sheet_base.specs.PointHeights.{Height}
use Rattle.sheet_base.specs.ReadBack.{Ends}

-- A line whose two ends have one height is read without heights, all others as they are written.
abbrev pub level_by : Height → Height → Ends Height
level_by (Some from) (Some to) = if int_eq from to then record { from = None; to = None } else
    record { from = Some from; to = Some to }
level_by from to = record { from = from; to = to }

abbrev pub level_again : Ends Height → Ends Height
level_again ends = level_by ends.from ends.to

abbrev pub AreReadAgain : Ends Height → Ends Height → Type 0
AreReadAgain written again = again ≡ level_again written
