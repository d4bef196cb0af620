-- What `side_changes` asks of layers.
use Rattle.std.specs.Prelude.{◌≡◌, ℕ, ◌<◌, ◌≤◌, List, length, All}
use Rattle.plane_base.specs.declared.shapes.Pt.{Pt}
use Rattle.sheet_base.specs.declared.paths.PathKind.TheVariants.{Loop}
use Rattle.sheet_base.specs.Sheets.{Contents}
use Rattle.sheet_base.specs.ImageFits.{Runs, DoFit}
use Rattle.tin_base.specs.declared.frames.Frame.TheVariants.{Target}
use Rattle.ring_side.specs.declared.rings.TheConstants.{MOST_POINTS, MOST_LAYERS}
use Rattle.ring_side.specs.Rings.{AreNearTo}
use Rattle.ring_side.specs.SideChanges.{sheet_at, images_at, path_at, ring_of}

-- each point of the one list is near each of the other
abbrev pub AreNearEach : List Pt → List Pt → Type 0
AreNearEach ps qs = All (λ q. AreNearTo ps q) qs

-- the lists are equally long; the images fit their sheets; all points are near each other, and so are all images; and
-- the written form of each ring has no more points than a ring may have
pub record AreLayers (sheets : List Contents) (images : List Runs) : Type 0 where
  pub same : length images ≡ length sheets
  pub few : length sheets ≤ MOST_LAYERS
  pub fit : (k : ℕ) → k < length sheets → DoFit (sheet_at sheets k) (images_at images k)
  pub near : (k l : ℕ) → k < length sheets → l < length sheets
      → AreNearEach (sheet_at sheets k).points (sheet_at sheets l).points
  pub images_near : (k l : ℕ) → k < length sheets → l < length sheets
      → AreNearEach (images_at images k).points (images_at images l).points
  pub rings : (k p : ℕ) → k < length sheets → p < length (sheet_at sheets k).paths
      → (path_at (sheet_at sheets k) p).kind ≡ Loop → length (ring_of sheets images Target k p) ≤ MOST_POINTS
