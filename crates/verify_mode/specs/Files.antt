-- The files that a verification reads, and why one is not had.
use Rattle.std.specs.Prelude.{◌⊎◌, ℕ, ◌≤◌, List, length, Option, IfSome, Some}
use Rattle.shelf_io.specs.Files.{Files}
use Rattle.shelf_io.specs.Load.{Loads, LacksName}
use Rattle.job_words.specs.JobFields.{AreVerificationNames}
use Rattle.tin_base.specs.Triangulation.{Triangulation}
use Rattle.runs.specs.declared.loads.TheConstants.{MOST_BYTES, MOST_VERIFIED}
use Rattle.runs.specs.declared.refusal.Refusal.{Refusal}
use Rattle.runs.specs.declared.refusal.Refusal.TheVariants.{LayerUnread, LayersLong, WrittenUnread, WrittenLong}
use Rattle.runs.specs.declared.refusal.Refusal.TheVariants.{CertUnread, CertLong}
use Rattle.runs.specs.Counts.{ShelfCounts, HasFailed, HasGivenMore}
use Rattle.runs.specs.Loads.{IsUnloaded}
use Rattle.runs.specs.Triangulations.{HasDirectedOver}
use Rattle.verify_mode.specs.declared.verifications.Verification.{Verification}

-- the names of the verification may be taken, and its source has a format
abbrev pub MayBeTaken : Verification → Type 0
MayBeTaken verification = AreVerificationNames verification.tin verification.source verification.written
    verification.cert

-- the file of this name has these bytes, at most `most`; where the shelf states nothing, they are some bytes
pub record IsFileWithinOver (told : Option Files) (name : List ℕ) (most : ℕ) (bytes : List ℕ) : Type 0 where
  pub found : IfSome told (Loads name bytes)
  pub within : length bytes ≤ most

abbrev pub IsFileWithin : Files → List ℕ → ℕ → List ℕ → Type 0
IsFileWithin files name most bytes = IsFileWithinOver (Some files) name most bytes

-- ---- how far the files are accepted
-- the source is verified against this triangulation: that of the file, or that with its frames exchanged
abbrev pub HasWayOver : Option Files → Verification → Triangulation → Type 0
HasWayOver told verification tin = HasDirectedOver told verification.how verification.tin verification.inverse tin

abbrev pub HasWay : Files → Verification → Triangulation → Type 0
HasWay files verification tin = HasWayOver (Some files) verification tin

-- nothing refuses the verification before the source's file
abbrev pub IsSourceReached : Option Files → Verification → Type 0
IsSourceReached told verification = (tin : Triangulation) × HasWayOver told verification tin

-- before the written layer's file
pub record IsWrittenReached (told : Option Files) (verification : Verification) : Type 0 where
  pub reached : IsSourceReached told verification
  pub source : List ℕ
  pub source_is : IsFileWithinOver told verification.source MOST_BYTES source

-- before the certificate's file
pub record IsCertReached (told : Option Files) (verification : Verification) : Type 0 where
  pub reached : IsWrittenReached told verification
  pub written : List ℕ
  pub written_is : IsFileWithinOver told verification.written MOST_VERIFIED written

-- ---- all three files
-- these are the bytes of the source, of the written layer and of the certificate
pub record HaveTextsOver (told : Option Files) (verification : Verification) (source written cert : List ℕ) : Type 0
  where
    pub source_is : IsFileWithinOver told verification.source MOST_BYTES source
    pub written_is : IsFileWithinOver told verification.written MOST_VERIFIED written
    pub cert_is : IsFileWithinOver told verification.cert MOST_VERIFIED cert

abbrev pub HaveTexts : Files → Verification → List ℕ → List ℕ → List ℕ → Type 0
HaveTexts files verification source written cert = HaveTextsOver (Some files) verification source written cert

-- one of the three is not loaded, and those before it are
pub data AreUnloaded (told : Option Files) (verification : Verification) (counts : ShelfCounts) (refusal : Refusal)
    : Type 0 where
  no_source : IsUnloaded told verification.source MOST_BYTES (LayerUnread 0) LayersLong (HasFailed counts)
      (HasGivenMore MOST_BYTES counts) refusal
      → AreUnloaded told verification counts refusal
  no_written : (source : List ℕ) → IsFileWithinOver told verification.source MOST_BYTES source
      → IsUnloaded told verification.written MOST_VERIFIED WrittenUnread WrittenLong (HasFailed counts)
      (HasGivenMore MOST_VERIFIED counts) refusal
      → AreUnloaded told verification counts refusal
  no_cert : (source : List ℕ) → IsFileWithinOver told verification.source MOST_BYTES source
      → (written : List ℕ) → IsFileWithinOver told verification.written MOST_VERIFIED written
      → IsUnloaded told verification.cert MOST_VERIFIED CertUnread CertLong (HasFailed counts)
      (HasGivenMore MOST_VERIFIED counts) refusal
      → AreUnloaded told verification counts refusal

-- a file that the verification wants is missing
abbrev pub LacksCompared : Verification → Option Files → Type 0
LacksCompared verification told = LacksName told verification.tin ⊎ (LacksName told verification.source
    ⊎ (LacksName told verification.written ⊎ LacksName told verification.cert))
