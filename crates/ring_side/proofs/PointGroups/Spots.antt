-- Spots of paths and groups, and where their places are.
use Rattle.std.proofs.Common.{◌≡◌, ℕ, zero, suc, ◌+◌, ◌<◌, ◌≤◌, List, [], ◌∷◌, ◌++◌, length, arith, refl, ap, ◌∙◌, get_or}
use Rattle.std.specs.Prelude.{◌^◌}
use Rattle.sheet_base.specs.declared.paths.PathRow.{PathRow}
use Rattle.sheet_base.specs.Sheets.{Contents, IsSheet, AreTiled}
use Rattle.sheet_base.specs.ImageFits.{Runs, run_begin, no_path}
use Rattle.ring_side.specs.declared.kinds.Spot.{Spot}
use Rattle.sheet_base.proofs.ImageRuns.{ends_within}
use Rattle.ring_side.specs.Layers.{AreLayers}
use Rattle.tin_base.specs.declared.frames.Frame.{Frame}
use Rattle.tin_base.specs.declared.frames.Frame.TheVariants.{Source, Target}
use Rattle.ring_side.specs.InsideGroups.{IsSpot, IsPath, IsAmong}
use Rattle.ring_side.specs.SideChanges.{spots_run, sheet_at, images_at, path_at, no_sheet, no_images}
use Rattle.sheet_base.proofs.TiledPaths.{tiled_up}

-- ---- paths of a sheet
-- a path of a sheet has some points, and all of them in the sheet
pub record IsRowIn (row : PathRow) (least count : ℕ) : Type 0 where
  pub low : least ≤ row.first
  pub some : row.first < row.past
  pub within : row.past ≤ count

after_first : (row : PathRow) (low next count : ℕ) → low ≤ next → IsRowIn row next count → IsRowIn row low count
after_first row low next count h is =
    let l = is.low in record { low = omega arith; some = is.some; within = is.within }

row_at : (rows : List PathRow) (first past : ℕ) (k : ℕ) → AreTiled rows first past → k < length rows
    → IsRowIn (get_or rows k no_path) first past
row_at [] first past k h within = absurd (omega arith)
row_at (row ∷ rows) first past zero h within = grind (arith, tiled_up)
row_at (row ∷ rows) first past (suc k) h within =
    grind (arith, after_first, get_or, (row_at rows row.past past k h.1 (omega arith)))

pub row_in : (sheet : Contents) (k : ℕ) → IsSheet sheet → k < length sheet.paths
    → IsRowIn (get_or sheet.paths k no_path) 0 (length sheet.points)
row_in sheet k is within = row_at sheet.paths 0 (length sheet.points) k is.tiled within

-- ---- spots
pub spots_split : (layer path vertex m n : ℕ)
    → spots_run layer path vertex (m + n) ≡ spots_run layer path vertex m ++ spots_run layer path (vertex + m) n
spots_split layer path vertex zero n = grind arith
spots_split layer path vertex (suc m) n =
    let e : suc m + n ≡ suc (m + n) = omega arith in let f : vertex + 1 + m ≡ vertex + suc m = omega arith in
    ap (spots_run layer path vertex) e
    ∙ ap (λ (ss : List Spot). record { layer = layer; path = path; vertex = vertex } ∷ ss)
    (spots_split layer path (vertex + 1) m n
    ∙ ap (λ (v : ℕ). spots_run layer path (vertex + 1) m ++ spots_run layer path v n) f)

-- ---- a spot is a point of its sheet, and has an image
pub same_default : {A : Type 0} (xs : List A) (i : ℕ) (d e : A) → i < length xs → get_or xs i d ≡ get_or xs i e
same_default [] i d e h = absurd (omega arith)
same_default (x ∷ xs) zero d e h = refl
same_default (x ∷ xs) (suc i) d e h = same_default xs i d e (omega arith)

pub sheet_is : (sheets : List Contents) (layer : ℕ) (sheet : Contents) → layer < length sheets
    → sheet ≡ get_or sheets layer sheet → sheet ≡ sheet_at sheets layer
sheet_is sheets layer sheet within e = e ∙ same_default sheets layer sheet no_sheet within

pub images_is : (images : List Runs) (layer : ℕ) (runs : Runs) → layer < length images
    → runs ≡ get_or images layer runs → runs ≡ images_at images layer
images_is images layer runs within e = e ∙ same_default images layer runs no_images within

pub number_below : (sheets : List Contents) (spot : Spot) (sheet : Contents) → sheet ≡ get_or sheets spot.layer sheet
    → IsSheet sheet → IsSpot sheets spot
    → (get_or sheet.paths spot.path no_path).first + spot.vertex < length sheet.points
number_below sheets spot sheet e is at = grind (arith, sheet_is, get_or, row_in)

pub number_short : (sheets : List Contents) (spot : Spot) (sheet : Contents) → sheet ≡ get_or sheets spot.layer sheet
    → IsSheet sheet → IsSpot sheets spot
    → (get_or sheet.paths spot.path no_path).first + spot.vertex < 2 ^ 32
number_short sheets spot sheet e is at =
    let below = number_below sheets spot sheet e is at in let few = is.few in omega (arith, below, few)

pub image_below : (sheets : List Contents) (images : List Runs) (spot : Spot) (sheet : Contents) (runs : Runs)
    → sheet ≡ get_or sheets spot.layer sheet → runs ≡ get_or images spot.layer runs → IsSheet sheet
    → AreLayers sheets images → IsSpot sheets spot
    → run_begin runs ((get_or sheet.paths spot.path no_path).first + spot.vertex) < length runs.points
image_below sheets images spot sheet runs e g is layers at =
    grind (arith, get_or, number_below, sheet_is, images_is, ends_within)

pub image_short : (sheets : List Contents) (images : List Runs) (spot : Spot) (sheet : Contents) (runs : Runs)
    → sheet ≡ get_or sheets spot.layer sheet → runs ≡ get_or images spot.layer runs → IsSheet sheet
    → AreLayers sheets images → IsSpot sheets spot
    → run_begin runs ((get_or sheet.paths spot.path no_path).first + spot.vertex) < 2 ^ 32
image_short sheets images spot sheet runs e g is layers at = grind (arith, image_below, images_is)

-- ---- a path by its numbers
pub row_is : (sheets : List Contents) (layer path : ℕ) (sheet : Contents) (rows : List PathRow)
    → sheet ≡ get_or sheets layer sheet → rows ≡ sheet.paths → IsPath sheets layer path
    → get_or rows path no_path ≡ path_at (sheet_at sheets layer) path
row_is sheets layer path sheet rows e f is = grind (arith, get_or, sheet_is)

pub row_rises : (sheets : List Contents) (layer path : ℕ) (sheet : Contents) (rows : List PathRow)
    → sheet ≡ get_or sheets layer sheet → rows ≡ sheet.paths → IsSheet sheet → IsPath sheets layer path
    → IsRowIn (get_or rows path no_path) 0 (length sheet.points)
row_rises sheets layer path sheet rows e f is at = grind (arith, sheet_is, get_or, row_in)

-- ---- the place of a spot is one of its layer's
pub among_source : (sheets : List Contents) (images : List Runs) (frame : Frame) (spot : Spot) (sheet : Contents) → frame ≡ Source
    → sheet ≡ get_or sheets spot.layer sheet → IsSheet sheet → IsSpot sheets spot → IsAmong sheets images frame spot
among_source sheets images frame spot sheet f e is at = grind (arith, sheet_is, number_below)

pub among_target : (sheets : List Contents) (images : List Runs) (frame : Frame) (spot : Spot) (sheet : Contents) (runs : Runs)
    → frame ≡ Target → sheet ≡ get_or sheets spot.layer sheet → runs ≡ get_or images spot.layer runs → IsSheet sheet
    → AreLayers sheets images → IsSpot sheets spot → IsAmong sheets images frame spot
among_target sheets images frame spot sheet runs f e g is layers at = grind (arith, sheet_is, images_is, image_below)
