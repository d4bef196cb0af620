-- A layer that is certified, and why one is not.
use Rattle.std.proofs.Common.{◌≡◌, ℕ, List, [], ◌∷◌, Result, Ok, Err, arith}
use Rattle.std.specs.Prelude.{OnOk, length}
use Rattle.sheet_base.specs.declared.edits.Edit.{Edit}
use Rattle.sheet_base.specs.declared.faults.LayerFault.{LayerFault}
use Rattle.sheet_base.specs.Sheets.{Contents}
use Rattle.sheet_base.specs.ImageFits.{Runs}
use Rattle.sheet_base.specs.Splices.{splice_of}
use Rattle.tin_base.specs.Triangulation.{Triangulation}
use Rattle.tin_base.specs.Soundness.{IsSound}
use Rattle.sheet_pieces.specs.SheetSegments.{SheetSegment, sheet_segments}
use Rattle.sheet_pieces.specs.SheetPieces.{AreInside}
use Rattle.sheet_pieces.specs.SheetImages.{AreImagesOf}
use Rattle.cert_check.specs.RightLists.{AreRightLists}
use Rattle.cert_check.specs.Checks.{IsMigrated, IsCertified, IsCertCause}
use Rattle.cert_check.specs.declared.faults.CertFault.{CertFault}
use Rattle.cert_check.specs.InsideSheetLists.{HasRightLists, IsImageCause, IsSourceCause, IsCountCause, IsTextCause}
use Rattle.cert_check.proofs.ListPoints.{right_inside}

-- the segments of right lists are inside
pub all_inside : (tin : Triangulation) (segments : List SheetSegment) (lists : List (List ℕ)) → IsSound tin
    → AreRightLists tin segments lists → AreInside tin segments
all_inside tin [] [] sound right = tt
all_inside tin [] (list ∷ lists) sound right = absurd right
all_inside tin (segment ∷ segments) [] sound right = absurd right
all_inside tin (segment ∷ segments) (list ∷ lists) sound right =
    (right_inside tin segment.a segment.b list sound right.0, all_inside tin segments lists sound right.1)

-- a certificate that gives no images
pub image_cert : (tin : Triangulation) (source written : List ℕ) (reads : Contents → Type 0)
    (refuses : LayerFault → Type 0) (text : Contents → Runs → Edit → List ℕ) (cert : List ℕ) (sheet : Contents)
    (fault : CertFault)
    → reads sheet → IsImageCause tin (sheet_segments sheet) cert fault
    → IsCertCause tin source written reads refuses text cert fault
image_cert tin source written reads refuses text cert sheet fault read cause = grind arith

-- a source that is not read
pub source_cert : (tin : Triangulation) (source written : List ℕ) (reads : Contents → Type 0)
    (refuses : LayerFault → Type 0) (text : Contents → Runs → Edit → List ℕ) (cert : List ℕ) (fault : CertFault)
    → IsSourceCause refuses fault → IsCertCause tin source written reads refuses text cert fault
source_cert tin source written reads refuses text cert fault cause = grind arith

-- a certificate with another number of lists
pub count_cert : (tin : Triangulation) (source written : List ℕ) (reads : Contents → Type 0)
    (refuses : LayerFault → Type 0) (text : Contents → Runs → Edit → List ℕ) (cert : List ℕ) (sheet : Contents)
    (fault : CertFault)
    → reads sheet → IsCountCause (length (sheet_segments sheet)) cert fault
    → IsCertCause tin source written reads refuses text cert fault
count_cert tin source written reads refuses text cert sheet fault read cause = grind arith

-- what is certified was migrated
pub migrated_of : (tin : Triangulation) (source written : List ℕ) (reads : Contents → Type 0)
    (text : Contents → Runs → Edit → List ℕ) (cert : List ℕ) (answer : Result (Unit {0}) CertFault)
    → OnOk answer (IsCertified tin source written reads text cert)
    → OnOk answer (IsMigrated tin source written reads text)
migrated_of tin source written reads text cert answer h = grind arith

-- the text for the images, and the written bytes
pub certified_text : (tin : Triangulation) (source written : List ℕ) (reads : Contents → Type 0)
    (text : Contents → Runs → Edit → List ℕ) (cert : List ℕ) (sheet : Contents) (images : Runs)
    (answer : Result (Unit {0}) CertFault)
    → IsSound tin → reads sheet → HasRightLists tin (sheet_segments sheet) cert → AreImagesOf tin sheet images
    → OnOk answer (splice_of source (text sheet images) sheet.edits ≡ written)
    → OnOk answer (IsCertified tin source written reads text cert)
certified_text tin source written reads text cert sheet images (Ok v) sound read right are same =
    record {
      migrated = grind (arith, all_inside);
      lists = right.0;
      certificate = right.1;
      are_right = right.2;
    }
certified_text tin source written reads text cert sheet images (Err f) sound read right are same = tt

pub other_text : (tin : Triangulation) (source written : List ℕ) (reads : Contents → Type 0)
    (refuses : LayerFault → Type 0) (text : Contents → Runs → Edit → List ℕ) (cert : List ℕ) (sheet : Contents)
    (images : Runs) (fault : CertFault)
    → reads sheet → HasRightLists tin (sheet_segments sheet) cert → AreImagesOf tin sheet images
    → IsTextCause (splice_of source (text sheet images) sheet.edits) written fault
    → IsCertCause tin source written reads refuses text cert fault
other_text tin source written reads refuses text cert sheet images fault read right are cause = grind arith
