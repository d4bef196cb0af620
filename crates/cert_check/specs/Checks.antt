-- When a migrated layer is certified, and why it is not.
use Rattle.std.specs.Prelude.{◌≡◌, ◌≢◌, ℕ, ◌≤◌, List, ◌∷◌, ◌++◌, length, take, slice_get}
use Rattle.sheet_base.specs.declared.edits.Edit.{Edit}
use Rattle.sheet_base.specs.Sheets.{Contents}
use Rattle.sheet_base.specs.ImageFits.{Runs}
use Rattle.sheet_base.specs.Splices.{splice_of}
use Rattle.tin_base.specs.Triangulation.{Triangulation}
use Rattle.sheet_pieces.specs.SheetSegments.{SheetSegment, sheet_segments}
use Rattle.sheet_pieces.specs.SheetPieces.{IsSheetInside}
use Rattle.sheet_pieces.specs.SheetImages.{AreImagesOf}
use Rattle.sheet_base.specs.declared.faults.LayerFault.{LayerFault}
use Rattle.sheet_base.specs.declared.faults.LayerFault.TheVariants.{NoMemory as OutOfMemory}
use Rattle.cert_check.specs.declared.faults.CertFault.{CertFault}
use Rattle.cert_check.specs.declared.faults.CertFault.TheVariants.{Layer, Form, Count, Segment, Differs, NoMemory}
use Rattle.cert_check.specs.Certificates.{IsCertificate}
use Rattle.cert_check.specs.Lines.{IsBadLine}
use Rattle.cert_check.specs.RightLists.{IsRightList, AreRightLists}

-- ---- the lists of segments
-- the segment of these numbers is the first whose list is not right
pub record IsFirstNotRight (tin : Triangulation) (segments : List SheetSegment) (lists : List (List ℕ))
    (path number : ℕ) : Type 0 where
  pub before : List SheetSegment
  pub segment : SheetSegment
  pub behind : List SheetSegment
  pub right : List (List ℕ)
  pub list : List ℕ
  pub others : List (List ℕ)
  pub segments_are : segments ≡ before ++ segment ∷ behind
  pub lists_are : lists ≡ right ++ list ∷ others
  pub are_right : AreRightLists tin before right
  pub not_right : IsRightList tin segment.a segment.b list → ⊥
  pub path_is : segment.path ≡ path
  pub number_is : segment.number ≡ number

-- ---- two texts
-- they agree up to this place, and there each has another byte, or one of them is at its end
pub record IsFirstDifference (text other : List ℕ) (at : ℕ) : Type 0 where
  pub within : at ≤ length text
  pub within_other : at ≤ length other
  pub front : take at text ≡ take at other
  pub differ : slice_get text at ≢ slice_get other at

-- ---- the layer
-- The source is read as a sheet whose segments are all inside, and the written layer is its bytes with the texts for
-- its images.
pub record IsMigrated (tin : Triangulation) (source written : List ℕ) (reads : Contents → Type 0)
    (text : Contents → Runs → Edit → List ℕ) : Type 0 where
  pub sheet : Contents
  pub read : reads sheet
  pub inside : IsSheetInside tin sheet
  pub images : Runs
  pub are_images : AreImagesOf tin sheet images
  pub written_is : written ≡ splice_of source (text sheet images) sheet.edits

-- It is so, and the certificate is one of lists that are right for the segments of the same sheet, one for each.
pub record IsCertified (tin : Triangulation) (source written : List ℕ) (reads : Contents → Type 0)
    (text : Contents → Runs → Edit → List ℕ) (cert : List ℕ) : Type 0 where
  pub migrated : IsMigrated tin source written reads text
  pub lists : List (List ℕ)
  pub certificate : IsCertificate cert lists
  pub are_right : (let layer = migrated in AreRightLists tin (sheet_segments layer.sheet) lists)

-- the source is read as a sheet, and this line of the certificate is the first that is not of the form
abbrev pub IsMalformed : (Contents → Type 0) → List ℕ → ℕ → Type 0
IsMalformed reads cert line = (sheet : Contents) × reads sheet × IsBadLine cert line

-- the certificate has another number of lists than the sheet has segments
pub record IsCounted (reads : Contents → Type 0) (cert : List ℕ) (segments lines : ℕ) : Type 0 where
  pub sheet : Contents
  pub read : reads sheet
  pub segments_are : length (sheet_segments sheet) ≡ segments
  pub lists : List (List ℕ)
  pub certificate : IsCertificate cert lists
  pub lines_are : length lists ≡ lines
  pub differ : segments ≢ lines

-- it has one for each segment, and this is the first that is not right
pub record IsNotRight (tin : Triangulation) (reads : Contents → Type 0) (cert : List ℕ) (path number : ℕ) : Type 0 where
  pub sheet : Contents
  pub read : reads sheet
  pub lists : List (List ℕ)
  pub certificate : IsCertificate cert lists
  pub counted : length (sheet_segments sheet) ≡ length lists
  pub first : IsFirstNotRight tin (sheet_segments sheet) lists path number

-- all are right, and the written layer differs from the text for the images, first at this place
pub record IsDifferent (tin : Triangulation) (source written : List ℕ) (reads : Contents → Type 0)
    (text : Contents → Runs → Edit → List ℕ) (cert : List ℕ) (at : ℕ) : Type 0 where
  pub sheet : Contents
  pub read : reads sheet
  pub lists : List (List ℕ)
  pub certificate : IsCertificate cert lists
  pub are_right : AreRightLists tin (sheet_segments sheet) lists
  pub images : Runs
  pub are_images : AreImagesOf tin sheet images
  pub first : IsFirstDifference (splice_of source (text sheet images) sheet.edits) written at

-- why a layer is not certified: the first of these that is so
abbrev pub IsCertCause : Triangulation → List ℕ → List ℕ → (Contents → Type 0) → (LayerFault → Type 0)
    → (Contents → Runs → Edit → List ℕ) → List ℕ → CertFault → Type 0
IsCertCause tin source written reads refuses text cert (Layer fault) = (fault ≢ OutOfMemory) × refuses fault
IsCertCause tin source written reads refuses text cert (Form line) = IsMalformed reads cert line
IsCertCause tin source written reads refuses text cert (Count segments lines) = IsCounted reads cert segments lines
IsCertCause tin source written reads refuses text cert (Segment path number) = IsNotRight tin reads cert path number
IsCertCause tin source written reads refuses text cert (Differs place) =
    IsDifferent tin source written reads text cert place
IsCertCause tin source written reads refuses text cert NoMemory = Unit {0}
