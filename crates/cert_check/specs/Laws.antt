-- Laws of certificates.
use Rattle.std.specs.Prelude.{◌≡◌, ◌≢◌, ◌⊎◌, ℕ, List, map, Result, Ok, Err}
use Rattle.plane_base.specs.declared.shapes.Pt.{Pt}
use Rattle.sheet_base.specs.declared.edits.Edit.{Edit}
use Rattle.sheet_base.specs.Sheets.{Contents}
use Rattle.sheet_base.specs.ImageFits.{Runs}
use Rattle.sheet_base.specs.Splices.{splice_of}
use Rattle.sheet_base.specs.declared.flags.How.{How}
use Rattle.sheet_base.specs.declared.faults.LayerFault.{LayerFault}
use Rattle.tin_base.specs.declared.pieces.Piece.{Piece}
use Rattle.tin_base.specs.Triangulation.{Triangulation}
use Rattle.tin_base.specs.Limits.{IsWithinLimits}
use Rattle.tin_base.specs.Soundness.{IsSound}
use Rattle.tin_base.specs.Segments.{Part, IsInside, ArePiecesOf}
use Rattle.sheet_pieces.specs.SheetSegments.{sheet_segments}
use Rattle.sheet_pieces.specs.SheetPieces.{ArePiecesOfSheet, IsSheetInside}
use Rattle.sheet_pieces.specs.SheetImages.{AreImagesOf}
use Rattle.cert_check.specs.declared.faults.CertFault.{CertFault}
use Rattle.cert_check.specs.declared.faults.CertFault.TheVariants.{NoMemory}
use Rattle.cert_check.specs.Checks.{IsCertified, IsCertCause, IsCounted, IsNotRight, IsDifferent}
use Rattle.cert_check.specs.Certificates.{certificate_of, IsCertificate}
use Rattle.cert_check.specs.Lines.{IsBadLine}
use Rattle.cert_check.specs.RightLists.{IsRightList, AreRightLists}
use Rattle.cert_check.specs.PieceLists.{lists_of}

-- bytes are the certificate of one list of lists
abbrev pub CertificatesAreOne : Type 0
CertificatesAreOne = (bytes : List ℕ) (lists others : List (List ℕ)) → IsCertificate bytes lists
    → IsCertificate bytes others → lists ≡ others

-- a certificate has no line that is not of the form
abbrev pub CertificatesHaveNoBadLine : Type 0
CertificatesHaveNoBadLine = (bytes : List ℕ) (lists : List (List ℕ)) (line : ℕ) → IsCertificate bytes lists
    → IsBadLine bytes line → ⊥

-- and any bytes are the certificate of some lists, or have a line that is not of the form
abbrev pub TextOutcomeExists : Type 0
TextOutcomeExists = (bytes : List ℕ)
    → ((lists : List (List ℕ)) × IsCertificate bytes lists) ⊎ ((line : ℕ) × IsBadLine bytes line)

-- For each sound triangulation: a segment with a right list is inside
abbrev pub RightListsAreInside : Type 0
RightListsAreInside = (tin : Triangulation) (a b : Pt) (numbers : List ℕ) → IsSound tin → IsRightList tin a b numbers
    → IsInside tin a b

-- For each sound triangulation: the triangles of the pieces of a segment that is inside are a right list
abbrev pub PieceTrianglesAreRight : Type 0
PieceTrianglesAreRight =
    (tin : Triangulation) (a b : Pt) (parts : List Part) → IsSound tin → IsInside tin a b → ArePiecesOf tin a b parts
    → IsRightList tin a b (map (λ (part : Part). part.triangle) parts)

-- what is written of some pieces is a certificate, and its lists are right for the segments of the sheet
pub record IsRightlyCertified (tin : Triangulation) (sheet : Contents) (pieces : List Piece) : Type 0 where
  pub certificate : IsCertificate (certificate_of (lists_of pieces)) (lists_of pieces)
  pub are_right : AreRightLists tin (sheet_segments sheet) (lists_of pieces)

-- For each sound triangulation: so it is with the pieces of a sheet whose segments are all inside
abbrev pub PiecesAreRightlyCertified : Type 0
PiecesAreRightlyCertified =
    (tin : Triangulation) (layer : ℕ) (sheet : Contents) (pieces : List Piece) → IsWithinLimits tin → IsSound tin
    → IsSheetInside tin sheet → ArePiecesOfSheet tin layer sheet pieces → IsRightlyCertified tin sheet pieces

-- No cause refuses these bytes as a certificate, where the source is read as this sheet alone and the written bytes are
-- the source's with the texts for these images.
pub record IsAccepted (tin : Triangulation) (source : List ℕ) (text : Contents → Runs → Edit → List ℕ)
    (sheet : Contents) (images : Runs) (cert : List ℕ) : Type 0 where
  pub form : (line : ℕ) → IsBadLine cert line → ⊥
  pub count : (segments lines : ℕ) → IsCounted (λ (s : Contents). s ≡ sheet) cert segments lines → ⊥
  pub right : (path number : ℕ) → IsNotRight tin (λ (s : Contents). s ≡ sheet) cert path number → ⊥
  pub same : (place : ℕ) → IsDifferent tin source (splice_of source (text sheet images) sheet.edits)
      (λ (s : Contents). s ≡ sheet) text cert place → ⊥

-- For each sound triangulation: so it is with what is written of the pieces of a sheet whose segments are all inside,
-- and with its images
abbrev pub PiecesAreAccepted : Type 0
PiecesAreAccepted =
    (tin : Triangulation) (source : List ℕ) (text : Contents → Runs → Edit → List ℕ) (layer : ℕ) (sheet : Contents)
    (images : Runs) (pieces : List Piece) → IsWithinLimits tin → IsSound tin → IsSheetInside tin sheet
    → AreImagesOf tin sheet images
    → ArePiecesOfSheet tin layer sheet pieces
    → IsAccepted tin source text sheet images (certificate_of (lists_of pieces))

-- how the check of a certificate ends where memory does not run out: it is certified, or this is its first fault
abbrev pub IsCertEnd : Triangulation → List ℕ → List ℕ → (Contents → Type 0) → (LayerFault → Type 0)
    → (Contents → Runs → Edit → List ℕ) → List ℕ → Result (Unit {0}) CertFault → Type 0
IsCertEnd tin source written reads refuses text cert (Ok done) = IsCertified tin source written reads text cert
IsCertEnd tin source written reads refuses text cert (Err fault) =
    IsCertCause tin source written reads refuses text cert fault × (fault ≢ NoMemory)

-- For each sound triangulation, where a format reads and refuses texts so and writes these: the check of a certificate
-- ends in one way
abbrev pub CertificatesEndOnce : (How → List ℕ → Contents → Type 0) → (How → List ℕ → LayerFault → Type 0)
    → (List ℕ → How → Contents → Runs → Edit → List ℕ) → Type 0
CertificatesEndOnce reads refuses text =
    (how : How) (tin : Triangulation) (source written cert : List ℕ) → IsSound tin
    → (end other : Result (Unit {0}) CertFault)
    → IsCertEnd tin source written (reads how source) (refuses how source) (text source how) cert end
    → IsCertEnd tin source written (reads how source) (refuses how source) (text source how) cert other → end ≡ other

-- and it ends
abbrev pub CertificateEndExists : (How → List ℕ → Contents → Type 0) → (How → List ℕ → LayerFault → Type 0)
    → (List ℕ → How → Contents → Runs → Edit → List ℕ) → Type 0
CertificateEndExists reads refuses text =
    (how : How) (tin : Triangulation) (source written cert : List ℕ) → IsSound tin
    → (end : Result (Unit {0}) CertFault)
    × IsCertEnd tin source written (reads how source) (refuses how source) (text source how) cert end
