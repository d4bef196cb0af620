-- What of a certificate's lines the vertices of paths use, and the images by them. Only private functions speak of it.
use Rattle.std.specs.Prelude.{◌≡◌, ◌≢◌, ℕ, ◌<◌, ◌≤◌, List, [], ◌∷◌, ◌++◌, length}
use Rattle.std.specs.List.{AllByRecursion}
use Rattle.plane_base.specs.Plane.{whole}
use Rattle.plane_base.specs.declared.shapes.Pt.{Pt}
use Rattle.sheet_base.specs.PointHeights.{Height, Position, points_of, heights_of}
use Rattle.sheet_base.specs.ReadBack.{Ends}
use Rattle.sheet_base.specs.declared.faults.LayerFault.{LayerFault}
use Rattle.sheet_base.specs.declared.faults.LayerFault.TheVariants.{NoMemory as OutOfMemory}
use Rattle.tin_base.specs.declared.frames.Frame.TheVariants.{Source}
use Rattle.tin_base.specs.Triangulation.{Triangulation, IsInTriangle}
use Rattle.tin_base.specs.Segments.{Spot, Part, spot_at, IsPart, ArePiecesOf}
use Rattle.affine_image.specs.RoundedImages.{IsRoundedImage, IsRoundedImageAt}
use Rattle.sheet_pieces.specs.SpotHeights.{mixed_height, crossing_heights}
use Rattle.sheet_pieces.specs.SheetSegments.{SheetSegment, PathVertex, segments_begun}
use Rattle.sheet_pieces.specs.SheetImages.{AreEndsOfAllButLast, AreRuns, joined_runs, begins_from}
use Rattle.cert_check.specs.declared.faults.CertFault.{CertFault}
use Rattle.cert_check.specs.declared.faults.CertFault.TheVariants.{Layer, Form, Count, Segment as WrongSegment, Differs}
use Rattle.cert_check.specs.declared.faults.CertFault.TheVariants.{NoMemory}
use Rattle.cert_check.specs.declared.path_segments.NumberedSegment.{NumberedSegment}
use Rattle.cert_check.specs.Lines.{IsLine, IsBadLine, HasCount}
use Rattle.cert_check.specs.Certificates.{line_text, lines_text, IsList, IsCertificate}
use Rattle.cert_check.specs.Checks.{IsFirstNotRight, IsFirstDifference}
use Rattle.cert_check.specs.RightLists.{IsRightList, AreRightLists}

-- the text begins with the lines of this many lists at least
pub record HasLines (text : List ℕ) (count : ℕ) : Type 0 where
  pub lists : List (List ℕ)
  pub are_lists : AllByRecursion IsList lists
  pub spelled : text ≡ lines_text lists
  pub enough : count ≤ length lists

-- the text begins with no line of at most this many numbers
abbrev pub HasNoLineWithin : List ℕ → ℕ → Type 0
HasNoLineWithin text most = (numbers rest : List ℕ) → length numbers ≤ most → IsLine text numbers rest → ⊥

-- some part of the triangle
abbrev pub HasPart : Triangulation → Pt → Pt → ℕ → Type 0
HasPart tin a b t = (first : Spot) × (last : Spot) × IsPart tin a b t first last

-- the rounded image of the last point of the triangle's part
abbrev pub IsEndImage : Triangulation → Pt → Pt → ℕ → Pt → Type 0
IsEndImage tin a b t image = (first last : Spot) → IsPart tin a b t first last
    → IsRoundedImageAt tin (spot_at a b last) image

-- its height, where that point is no end of the segment
abbrev pub IsEndHeight : Triangulation → Pt → Pt → Ends Height → ℕ → Height → Type 0
IsEndHeight tin a b ends t height = (first last : Spot) → IsPart tin a b t first last
    → height ≡ mixed_height last.of_a last.of_b ends.from ends.to

-- both
abbrev pub IsEndPosition : Triangulation → Pt → Pt → Ends Height → ℕ → Position → Type 0
IsEndPosition tin a b ends t image = IsEndImage tin a b t image.point × IsEndHeight tin a b ends t image.height

-- of each triangle
abbrev pub AreEndPositions : Triangulation → Pt → Pt → Ends Height → List ℕ → List Position → Type 0
AreEndPositions tin a b ends [] images = images ≡ []
AreEndPositions tin a b ends (t ∷ ts) [] = ⊥
AreEndPositions tin a b ends (t ∷ ts) (image ∷ images) =
    IsEndPosition tin a b ends t image × AreEndPositions tin a b ends ts images

-- the image of the last point of the triangle's part comes after the images before, and its height after theirs
pub record IsEndBehind (tin : Triangulation) (a b : Pt) (ends : Ends Height) (t : ℕ) (points points' : List Pt)
    (heights heights' : List Height) : Type 0 where
  pub image : Position
  pub is_end : IsEndPosition tin a b ends t image
  pub points_are : points' ≡ points ++ image.point ∷ []
  pub heights_are : heights' ≡ heights ++ image.height ∷ []

-- the run of the vertex a comes after the images before: its image, and those of the crossings of the segment from a
-- to b, whose ends have these heights
pub record IsRunBehind (tin : Triangulation) (a b : Pt) (ends : Ends Height) (points points' : List Pt)
    (heights heights' : List Height) : Type 0 where
  pub image : Pt
  pub is_image : IsRoundedImage tin a image
  pub crossings : List Position
  pub parts : List Part
  pub cut : ArePiecesOf tin a b parts
  pub last_images : AreEndsOfAllButLast tin a b parts (points_of crossings)
  pub last_heights : heights_of crossings ≡ crossing_heights a b ends parts
  pub points_are : points' ≡ points ++ image ∷ points_of crossings
  pub heights_are : heights' ≡ heights ++ ends.from ∷ heights_of crossings

-- the runs of some vertices come after the images before, and the lines of right lists for their segments in front of
-- the rest of the text
pub record AreImaged (tin : Triangulation) (vertices : List PathVertex) (points points' : List Pt)
    (heights heights' : List Height) (run run' text rest : List ℕ) : Type 0 where
  pub runs : List (List Position)
  pub of_vertices : AreRuns tin vertices runs
  pub points_are : points' ≡ points ++ points_of (joined_runs runs)
  pub heights_are : heights' ≡ heights ++ heights_of (joined_runs runs)
  pub run_are : run' ≡ run ++ begins_from (length points) runs
  pub lists : List (List ℕ)
  pub are_lists : AllByRecursion IsList lists
  pub are_right : AreRightLists tin (segments_begun vertices) lists
  pub spelled : text ≡ lines_text lists ++ rest

-- the text begins with the lines of right lists for some of the segments, and then comes that of a list that is not
-- right for the segment of these numbers
pub record IsStoppedAt (tin : Triangulation) (segments : List SheetSegment) (text : List ℕ) (path number : ℕ) : Type 0
  where
    pub before : List SheetSegment
    pub segment : SheetSegment
    pub behind : List SheetSegment
    pub right : List (List ℕ)
    pub list : List ℕ
    pub rest : List ℕ
    pub segments_are : segments ≡ before ++ segment ∷ behind
    pub are_lists : AllByRecursion IsList right
    pub is_list : IsList list
    pub spelled : text ≡ lines_text right ++ (line_text list ++ rest)
    pub are_right : AreRightLists tin before right
    pub not_right : IsRightList tin segment.a segment.b list → ⊥
    pub path_is : segment.path ≡ path
    pub number_is : segment.number ≡ number

-- the triangle has the point
abbrev pub IsTriangleWith : Triangulation → ℕ → Pt → Type 0
IsTriangleWith tin t p = (t < length tin.triangles) × IsInTriangle tin Source t (whole p)

-- ---- one segment
-- its line is read, its list is right, and its run comes after the images before
pub record IsSegmentImaged (tin : Triangulation) (a b : Pt) (ends : Ends Height) (points points' : List Pt)
    (heights heights' : List Height) (run run' text rest : List ℕ) : Type 0 where
  pub list : List ℕ
  pub line : IsLine text list rest
  pub right : IsRightList tin a b list
  pub behind : IsRunBehind tin a b ends points points' heights heights'
  pub run_are : run' ≡ run ++ length points ∷ []

-- the text begins with the line of a list that is not right
pub record HasWrongLine (tin : Triangulation) (a b : Pt) (text : List ℕ) : Type 0 where
  pub list : List ℕ
  pub rest : List ℕ
  pub line : IsLine text list rest
  pub wrong : IsRightList tin a b list → ⊥

-- why the line of a segment is not passed
abbrev pub IsWayCause : Triangulation → NumberedSegment → List ℕ → CertFault → Type 0
IsWayCause tin way text (Layer fault) = ⊥
IsWayCause tin way text (Form line) = ⊥
IsWayCause tin way text (Count segments lines) = ⊥
IsWayCause tin way text (WrongSegment path number) =
    (way.path ≡ path) × (way.number ≡ number) × HasWrongLine tin way.a way.b text
IsWayCause tin way text (Differs place) = ⊥
IsWayCause tin way text NoMemory = Unit {0}

-- and those of some segments
abbrev pub IsStopCause : Triangulation → List SheetSegment → List ℕ → CertFault → Type 0
IsStopCause tin segments text (Layer fault) = ⊥
IsStopCause tin segments text (Form line) = ⊥
IsStopCause tin segments text (Count segments' lines) = ⊥
IsStopCause tin segments text (WrongSegment path number) = IsStoppedAt tin segments text path number
IsStopCause tin segments text (Differs place) = ⊥
IsStopCause tin segments text NoMemory = Unit {0}

-- ---- a certificate
-- the bytes are the certificate of right lists for some segments
abbrev pub HasRightLists : Triangulation → List SheetSegment → List ℕ → Type 0
HasRightLists tin segments cert = (lists : List (List ℕ)) × IsCertificate cert lists × AreRightLists tin segments lists

-- they are that of one list for each of the segments, and the first that is not right is that of the segment of these
-- numbers
abbrev pub HasWrongList : Triangulation → List SheetSegment → List ℕ → ℕ → ℕ → Type 0
HasWrongList tin segments cert path number =
    (lists : List (List ℕ)) × IsCertificate cert lists × (length segments ≡ length lists)
    × IsFirstNotRight tin segments lists path number

-- why a certificate gives no images
abbrev pub IsImageCause : Triangulation → List SheetSegment → List ℕ → CertFault → Type 0
IsImageCause tin segments cert (Layer fault) = ⊥
IsImageCause tin segments cert (Form line) = ⊥
IsImageCause tin segments cert (Count segments' lines) = ⊥
IsImageCause tin segments cert (WrongSegment path number) = HasWrongList tin segments cert path number
IsImageCause tin segments cert (Differs place) = ⊥
IsImageCause tin segments cert NoMemory = Unit {0}

-- why no sheet is read
abbrev pub IsSourceCause : (LayerFault → Type 0) → CertFault → Type 0
IsSourceCause refuses (Layer fault) = (fault ≢ OutOfMemory) × refuses fault
IsSourceCause refuses (Form line) = ⊥
IsSourceCause refuses (Count segments lines) = ⊥
IsSourceCause refuses (WrongSegment path number) = ⊥
IsSourceCause refuses (Differs place) = ⊥
IsSourceCause refuses NoMemory = Unit {0}

-- why a certificate does not have as many lists as there are segments
abbrev pub IsCountCause : ℕ → List ℕ → CertFault → Type 0
IsCountCause count cert (Layer fault) = ⊥
IsCountCause count cert (Form line) = IsBadLine cert line
IsCountCause count cert (Count segments lines) = (count ≡ segments) × HasCount cert lines × (segments ≢ lines)
IsCountCause count cert (WrongSegment path number) = ⊥
IsCountCause count cert (Differs place) = ⊥
IsCountCause count cert NoMemory = ⊥

-- why a written layer is not the text
abbrev pub IsTextCause : List ℕ → List ℕ → CertFault → Type 0
IsTextCause text written (Layer fault) = ⊥
IsTextCause text written (Form line) = ⊥
IsTextCause text written (Count segments lines) = ⊥
IsTextCause text written (WrongSegment path number) = ⊥
IsTextCause text written (Differs place) = IsFirstDifference text written place
IsTextCause text written NoMemory = Unit {0}
