-- The points of a ring and of its written form, as they are looked up.
use Rattle.std.proofs.Common.{◌≡◌, ℕ, ◌<◌, ◌≤◌, List, length, get_or, take, drop, arith}
use Rattle.plane_base.specs.declared.shapes.Pt.{Pt}
use Rattle.sheet_base.specs.declared.paths.PathKind.TheVariants.{Loop}
use Rattle.sheet_base.specs.declared.paths.PathRow.{PathRow}
use Rattle.sheet_base.specs.Sheets.{Contents, IsSheet}
use Rattle.sheet_base.specs.Segments.{points_in}
use Rattle.sheet_base.specs.ImageFits.{Runs, row_images, no_path}
use Rattle.tin_base.specs.declared.frames.Frame.TheVariants.{Source, Target}
use Rattle.ring_side.specs.declared.rings.TheConstants.{MOST_POINTS}
use Rattle.ring_side.specs.Layers.{AreLayers}
use Rattle.ring_side.specs.SideChanges.{sheet_at, images_at, path_at, ring_of}
use Rattle.ring_side.specs.InsideGroups.{IsPath}
use Rattle.ring_side.proofs.PointGroups.Spots.{IsRowIn, row_in}
use Rattle.ring_side.proofs.ChangeLists.RingFacts.{row_count, images_count}

pub source_is : (sheets : List Contents) (images : List Runs) (layer path : ℕ) (sheet : Contents) (rows : List PathRow) (points part : List Pt)
    → sheet ≡ sheet_at sheets layer → rows ≡ sheet.paths → points ≡ sheet.points
    → part ≡ take (points_in (get_or rows path no_path)) (drop (get_or rows path no_path).first points)
    → part ≡ ring_of sheets images Source layer path
source_is sheets images layer path sheet rows points part e f g h = grind (arith, get_or)

pub target_is : (sheets : List Contents) (images : List Runs) (layer path : ℕ) (sheet : Contents) (runs : Runs) (rows : List PathRow) (part : List Pt)
    → sheet ≡ sheet_at sheets layer → runs ≡ images_at images layer → rows ≡ sheet.paths
    → part ≡ row_images runs (get_or rows path no_path) → part ≡ ring_of sheets images Target layer path
target_is sheets images layer path sheet runs rows part e f g h = grind (arith, get_or)

-- how many points a ring and its written form have, and that its last one is one of its layer's
pub record HasCounts (sheets : List Contents) (images : List Runs) (layer path : ℕ) : Type 0 where
  pub within : (path_at (sheet_at sheets layer) path).past ≤ length (sheet_at sheets layer).points
  pub some : 0 < length (ring_of sheets images Source layer path)
  pub some_now : 0 < length (ring_of sheets images Target layer path)
  pub most : length (ring_of sheets images Source layer path) ≤ MOST_POINTS
  pub most_now : length (ring_of sheets images Target layer path) ≤ MOST_POINTS

pub counts_of : (sheets : List Contents) (images : List Runs) (layer path : ℕ) (sheet : Contents) → AreLayers sheets images
    → IsPath sheets layer path → sheet ≡ sheet_at sheets layer → IsSheet sheet
    → (path_at (sheet_at sheets layer) path).kind ≡ Loop → HasCounts sheets images layer path
counts_of sheets images layer path sheet layers is e is_sheet kind =
    grind (arith, IsRowIn, row_in, row_count, images_count)
