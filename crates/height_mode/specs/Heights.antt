-- How moving a list of points with heights ends: what refuses it, in the order in which it is tried, and what is
-- written where nothing does.
use Rattle.std.specs.Prelude.{◌≡◌, ◌⊎◌, ℕ, ◌+◌, List, [], ◌∷◌, length, codes, decimal, Option, Some, IfSome, Ok, Err}
use Rattle.std.specs.List.{concat}
use Rattle.shelf_io.specs.Files.{Files}
use Rattle.shelf_io.specs.Load.{IsLonger, LacksName}
use Rattle.sheet_base.specs.declared.flags.How.{How}
use Rattle.sheet_base.specs.declared.faults.LayerFault.{LayerFault}
use Rattle.tin_base.specs.Triangulation.{Triangulation}
use Rattle.tin_file.specs.declared.tall_files.Tall.{Tall}
use Rattle.tin_height.specs.Points.{points_read}
use Rattle.tin_height.specs.PointTexts.{text_with_heights}
use Rattle.tin_height.specs.Raises.{AreRaised, IsFirstOutside}
use Rattle.tin_height.specs.declared.points.Points.{Points}
use Rattle.tin_height.specs.declared.raises.Raised.{Raised}
use Rattle.job_words.specs.Names.{part_behind_slashes}
use Rattle.runs.specs.declared.loads.TheConstants.{MOST_BYTES}
use Rattle.runs.specs.declared.status.Status.{Status}
use Rattle.runs.specs.declared.status.Status.TheVariants.{Same, Changed}
use Rattle.runs.specs.declared.refusal.Refusal.{Refusal}
use Rattle.runs.specs.declared.refusal.Refusal.TheVariants.{TinUnread, LayerUnread, LayersLong, Layer, Outside, NoMemory}
use Rattle.runs.specs.Output.{name_in}
use Rattle.runs.specs.Triangulations.{HasFileOver}
use Rattle.runs.specs.Causes.{MayRefuse}
use Rattle.height_mode.specs.declared.heights.HeightJob.{HeightJob}
use Rattle.height_mode.specs.Talls.{HasTallOver, IsTallRefusedOver}

-- ---- the points of a text, moved
-- the text of the list is this, with as many points, and this many of its numbers lost digits
pub record IsMoved (how : How) (tall : Tall) (bytes text : List ℕ) (count inexact : ℕ) : Type 0 where
  pub points : Points
  pub raised : List Raised
  pub read : points_read how bytes ≡ Ok points
  pub raised_so : AreRaised tall.tin tall.offsets points.rows raised
  pub text_is : text ≡ text_with_heights bytes 0 points.rows raised
  pub count_is : count ≡ length points.rows
  pub inexact_is : inexact ≡ points.inexact

-- the list is read, and no triangle contains this point of it first
pub record IsOutsideAt (how : How) (tall : Tall) (bytes : List ℕ) (point : ℕ) : Type 0 where
  pub points : Points
  pub read : points_read how bytes ≡ Ok points
  pub first : IsFirstOutside tall.tin points.rows point

-- why a list is not moved: its first token that does not fit, or its first point that no triangle contains; or memory
-- ran out. A list is layer 0, and a point a path of one segment.
abbrev pub IsUnmoved : How → Tall → List ℕ → Refusal → Type 0
IsUnmoved how tall bytes (Layer layer fault) = (layer ≡ 0) × (points_read how bytes ≡ Err fault)
IsUnmoved how tall bytes (Outside layer path segment) =
    (layer ≡ 0) × (segment ≡ 0) × IsOutsideAt how tall bytes path
IsUnmoved how tall bytes NoMemory = Unit {0}
IsUnmoved how tall bytes refusal = ⊥

-- ---- what refuses it
-- nothing refuses the points before their file
abbrev pub IsListReached : Option Files → HeightJob → Type 0
IsListReached told heights = (tall : Tall) × HasTallOver told heights.how heights.tin tall

-- the triangulation with its offsets, and the bytes of the list
pub record IsAtHandOver (told : Option Files) (heights : HeightJob) (tall : Tall) (bytes : List ℕ) : Type 0 where
  pub tall_is : HasTallOver told heights.how heights.tin tall
  pub bytes_are : HasFileOver told heights.points bytes

abbrev pub IsAtHand : Files → HeightJob → Tall → List ℕ → Type 0
IsAtHand files heights tall bytes = IsAtHandOver (Some files) heights tall bytes

-- all is at hand, and the list is not moved for this cause
pub record IsStoppedBy (told : Option Files) (heights : HeightJob) (refusal : Refusal) : Type 0 where
  pub tall : Tall
  pub bytes : List ℕ
  pub at_hand : IsAtHandOver told heights tall bytes
  pub cause : IsUnmoved heights.how tall bytes refusal

-- Over what the shelf states, or over some bytes of its files where it states nothing: one row for each refusal. A row
-- speaks of what was accepted before it: the triangulation, then the file of the list.
abbrev pub IsHeightsRefusedOver : Option Files → HeightJob → Refusal → Type 0
IsHeightsRefusedOver told heights (LayerUnread layer) =
    (layer ≡ 0) × IsListReached told heights × LacksName told heights.points
IsHeightsRefusedOver told heights LayersLong =
    IsListReached told heights × IfSome told (IsLonger heights.points MOST_BYTES)
IsHeightsRefusedOver told heights (Layer layer fault) = IsStoppedBy told heights (Layer layer fault)
IsHeightsRefusedOver told heights (Outside layer path segment) =
    IsStoppedBy told heights (Outside layer path segment)
IsHeightsRefusedOver told heights refusal = IsTallRefusedOver told heights.how heights.tin refusal

abbrev pub IsHeightsRefused : Files → HeightJob → Refusal → Type 0
IsHeightsRefused files heights refusal = IsHeightsRefusedOver (Some files) heights refusal

-- the refusal is that of a file that could not be read, and nothing refuses the job before that file
abbrev pub IsListReachedByOver : Option Files → HeightJob → Refusal → Type 0
IsListReachedByOver told heights TinUnread = Unit {0}
IsListReachedByOver told heights (LayerUnread layer) = (layer ≡ 0) × IsListReached told heights
IsListReachedByOver told heights refusal = ⊥

-- why it may be refused
abbrev pub MayRefuseHeightsOver : Option Files → HeightJob → Type 0 → Refusal → Type 0
MayRefuseHeightsOver told heights shelf_rose refusal =
    MayRefuse (IsHeightsRefusedOver told heights) (IsListReachedByOver told heights) shelf_rose refusal

-- a file that moving wants is missing
abbrev pub LacksListed : HeightJob → Option Files → Type 0
LacksListed heights told = LacksName told heights.tin ⊎ LacksName told heights.points

-- ---- what it writes
-- what is said of a list that is moved
abbrev pub heights_text : ℕ → ℕ → ℕ → ℕ → List ℕ
heights_text corners triangles points inexact = concat (
    codes "heights: corners " ∷ decimal corners ∷ codes " triangles " ∷ decimal triangles ∷ codes " points "
    ∷ decimal points ∷ codes " inexact " ∷ decimal inexact ∷ codes "\n" ∷ [])

-- the text of the list in the folder, under the last part of its name, and the line
abbrev pub moved_files : HeightJob → Triangulation → List ℕ → ℕ → ℕ → Files
moved_files heights tin text count inexact =
    (name_in heights.out heights.points, text)
    ∷ (codes "-", heights_text (length tin.corners) (length tin.triangles) count (tin.inexact + inexact)) ∷ []

-- the list is moved, its text is written, and the line counts what was read
pub record AreMoved (files : Files) (heights : HeightJob) (status : Status) (made : Files) : Type 0 where
  pub tall : Tall
  pub bytes : List ℕ
  pub text : List ℕ
  pub count : ℕ
  pub inexact : ℕ
  pub at_hand : IsAtHand files heights tall bytes
  pub moved : IsMoved heights.how tall bytes text count inexact
  pub status_is : status ≡ Same
  pub made_is : made ≡ moved_files heights tall.tin text count inexact

-- the line says these numbers
abbrev pub IsHeightsLine : List ℕ → Type 0
IsHeightsLine said =
    (corners : ℕ) × (triangles : ℕ) × (points : ℕ) × (inexact : ℕ)
    × (said ≡ heights_text corners triangles points inexact)

-- what is written, whatever files hold, and the status: one file under this name, and a line
pub record IsHeightsWritten (heights : HeightJob) (layers : Files) (said : List ℕ) (status : Status) : Type 0 where
  pub text : List ℕ
  pub layers_are : layers ≡ (name_in heights.out heights.points, text) ∷ []
  pub said_is : IsHeightsLine said
  pub status_is : status ≡ Same

-- moving heights has no changes
abbrev pub IsEndOfHeights : Status → Type 0
IsEndOfHeights Changed = ⊥
IsEndOfHeights status = Unit {0}
