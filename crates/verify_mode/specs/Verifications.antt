-- How a verification ends: what refuses it, in the order in which it is tried, and what is written where nothing does.
use Rattle.std.specs.Prelude.{◌≡◌, ℕ, List, [], ◌∷◌, Option, Some, IfSome, codes}
use Rattle.shelf_io.specs.Files.{Files}
use Rattle.shelf_io.specs.Load.{IsLonger, LacksName}
use Rattle.tin_base.specs.Triangulation.{Triangulation}
use Rattle.cert_check.specs.declared.faults.CertFault.{CertFault}
use Rattle.cert_check.specs.declared.faults.CertFault.TheVariants as certs
use Rattle.job_words.specs.declared.formats.Format.{Format}
use Rattle.job_words.specs.Formats.{format_by_name}
use Rattle.runs.specs.declared.loads.TheConstants.{MOST_BYTES, MOST_VERIFIED}
use Rattle.runs.specs.declared.status.Status.{Status}
use Rattle.runs.specs.declared.status.Status.TheVariants.{Same, Changed, Outside}
use Rattle.runs.specs.declared.refusal.Refusal.{Refusal}
use Rattle.runs.specs.declared.refusal.Refusal.TheVariants.{TinUnread, LayerUnread, LayersLong, Layer}
use Rattle.runs.specs.declared.refusal.Refusal.TheVariants.{WrittenUnread, WrittenLong, CertUnread, CertLong}
use Rattle.runs.specs.declared.refusal.Refusal.TheVariants.{Certificate}
use Rattle.runs.specs.Triangulations.{IsTinRefusedOver}
use Rattle.runs.specs.Causes.{MayRefuse}
use Rattle.verify_mode.specs.declared.verifications.Verification.{Verification}
use Rattle.verify_mode.specs.Files.{HasWayOver, IsSourceReached, IsWrittenReached, IsCertReached, HaveTextsOver}
use Rattle.verify_mode.specs.Certificates.{IsCertifiedAs, IsCauseIn, IsOfCertificate}

-- ---- what is compared
-- the triangulation, the source's format, and the bytes of the three files
pub record IsAtHandOver (told : Option Files) (verification : Verification) (tin : Triangulation) (format : Format)
    (source written cert : List ℕ) : Type 0 where
  pub way : HasWayOver told verification tin
  pub suffix : format_by_name verification.source ≡ Some format
  pub texts : HaveTextsOver told verification source written cert

abbrev pub IsAtHand : Files → Verification → Triangulation → Format → List ℕ → List ℕ → List ℕ → Type 0
IsAtHand files verification tin format source written cert =
    IsAtHandOver (Some files) verification tin format source written cert

-- all is at hand, and this is the first fault of the certificate, or of the source
pub record IsStoppedBy (told : Option Files) (verification : Verification) (fault : CertFault) : Type 0 where
  pub tin : Triangulation
  pub format : Format
  pub source : List ℕ
  pub written : List ℕ
  pub cert : List ℕ
  pub at_hand : IsAtHandOver told verification tin format source written cert
  pub cause : IsCauseIn verification.how tin format source written cert fault

-- ---- what refuses it
-- Over what the shelf states, or over some bytes of its files where it states nothing: one row for each refusal. A row
-- speaks of what was accepted before it: the triangulation, then the source's file, the written layer's and the
-- certificate's, then the source's text, and then the certificate.
abbrev pub IsVerificationRefusedOver : Option Files → Verification → Refusal → Type 0
IsVerificationRefusedOver told verification (LayerUnread layer) =
    (layer ≡ 0) × IsSourceReached told verification × LacksName told verification.source
IsVerificationRefusedOver told verification LayersLong =
    IsSourceReached told verification × IfSome told (IsLonger verification.source MOST_BYTES)
IsVerificationRefusedOver told verification WrittenUnread =
    IsWrittenReached told verification × LacksName told verification.written
IsVerificationRefusedOver told verification WrittenLong =
    IsWrittenReached told verification × IfSome told (IsLonger verification.written MOST_VERIFIED)
IsVerificationRefusedOver told verification CertUnread =
    IsCertReached told verification × LacksName told verification.cert
IsVerificationRefusedOver told verification CertLong =
    IsCertReached told verification × IfSome told (IsLonger verification.cert MOST_VERIFIED)
IsVerificationRefusedOver told verification (Layer layer fault) =
    (layer ≡ 0) × IsStoppedBy told verification (certs.Layer fault)
IsVerificationRefusedOver told verification (Certificate fault) =
    IsOfCertificate fault × IsStoppedBy told verification fault
IsVerificationRefusedOver told verification refusal =
    IsTinRefusedOver told verification.how verification.tin refusal

abbrev pub IsVerificationRefused : Files → Verification → Refusal → Type 0
IsVerificationRefused files verification refusal = IsVerificationRefusedOver (Some files) verification refusal

-- the refusal is that of a file that could not be read, and nothing refuses the job before that file
abbrev pub IsComparedByOver : Option Files → Verification → Refusal → Type 0
IsComparedByOver told verification TinUnread = Unit {0}
IsComparedByOver told verification (LayerUnread layer) = (layer ≡ 0) × IsSourceReached told verification
IsComparedByOver told verification WrittenUnread = IsWrittenReached told verification
IsComparedByOver told verification CertUnread = IsCertReached told verification
IsComparedByOver told verification refusal = ⊥

-- why it may be refused
abbrev pub MayRefuseVerificationOver : Option Files → Verification → Type 0 → Refusal → Type 0
MayRefuseVerificationOver told verification shelf_rose refusal =
    MayRefuse (IsVerificationRefusedOver told verification) (IsComparedByOver told verification) shelf_rose refusal

-- ---- what it certifies
-- all is at hand with this triangulation, and the certificate is one of the source, by which the written layer is its
pub record AreCertified (files : Files) (verification : Verification) (tin : Triangulation) : Type 0 where
  pub format : Format
  pub source : List ℕ
  pub written : List ℕ
  pub cert : List ℕ
  pub at_hand : IsAtHand files verification tin format source written cert
  pub certified : IsCertifiedAs verification.how tin format source written cert

-- ---- what it writes
-- what is said of a written layer that is verified
abbrev pub certified_text : List ℕ
certified_text = codes "certified\n"

-- The written layer is the source's through the triangulation, the certificate is one of the source, and the line says
-- so.
pub record IsVerified (files : Files) (verification : Verification) (status : Status) (made : Files) : Type 0 where
  pub tin : Triangulation
  pub format : Format
  pub source : List ℕ
  pub written : List ℕ
  pub cert : List ℕ
  pub at_hand : IsAtHand files verification tin format source written cert
  pub certified : IsCertifiedAs verification.how tin format source written cert
  pub status_is : status ≡ Same
  pub made_is : made ≡ (codes "-", certified_text) ∷ []

-- what is written, whatever files hold, and the status: no layer, and this line
abbrev pub IsVerificationWritten : Files → List ℕ → Status → Type 0
IsVerificationWritten layers said status = (layers ≡ []) × (status ≡ Same) × (said ≡ certified_text)

-- a verification has no changes, and no segment of it is looked for outside
abbrev pub IsEndOfVerification : Status → Type 0
IsEndOfVerification Changed = ⊥
IsEndOfVerification Outside = ⊥
IsEndOfVerification status = Unit {0}
