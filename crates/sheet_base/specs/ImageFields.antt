-- What contracts see of the type of images, and what it keeps.
use Rattle.sheet_base.specs.declared.images.Images.TheInside.{Inside}
use Rattle.sheet_base.specs.ImageFits.{Runs, HaveHeights}

abbrev pub view_of : Inside → Runs
view_of images = record { points = images.points; heights = images.heights; run = images.run }

-- what is true of each value of the type
abbrev pub HaveInvariant : Inside → Type 0
HaveInvariant images = HaveHeights (view_of images)
