-- Laws that join certificates, migrations and verifications.
use Rattle.std.specs.Prelude.{◌≡◌, ℕ, true, List, [], ◌∷◌, Some, codes}
use Rattle.shelf_io.specs.Files.{Files, bytes_of}
use Rattle.sheet_base.specs.declared.edits.Edit.{Edit}
use Rattle.sheet_base.specs.declared.flags.How.{How}
use Rattle.sheet_base.specs.Sheets.{Contents}
use Rattle.sheet_base.specs.ImageFits.{Runs}
use Rattle.sheet_base.specs.Splices.{splice_of}
use Rattle.tin_base.specs.declared.pieces.Piece.{Piece}
use Rattle.tin_base.specs.Triangulation.{Triangulation}
use Rattle.tin_base.specs.Limits.{IsWithinLimits}
use Rattle.tin_base.specs.Soundness.{IsSound}
use Rattle.sheet_pieces.specs.SheetPieces.{ArePiecesOfSheet, IsSheetInside}
use Rattle.sheet_pieces.specs.SheetImages.{AreImagesOf}
use Rattle.cert_check.specs.Certificates.{certificate_of}
use Rattle.cert_check.specs.PieceLists.{lists_of}
use Rattle.cert_check.specs.Checks.{IsCertified}
use Rattle.runs.specs.declared.status.Status.{Status}
use Rattle.runs.specs.declared.status.Status.TheVariants.{Same}
use Rattle.migrate_mode.specs.declared.migrations.Migration.{Migration}
use Rattle.migrate_mode.specs.Migrations.{IsMigrationDone}
use Rattle.migrate_mode.specs.Laws.{End, IsMigrationEnd}
use Rattle.verify_mode.specs.declared.verifications.Verification.{Verification}
use Rattle.verify_mode.specs.Verifications.{IsVerified, certified_text}
use Rattle.verified_migrations.specs.Receivers.{AreSent, IsOfSourceAlone, WritesOrHasTooMany}

-- A format reads texts so and writes these. The certificate of the pieces of a sheet that the source is read as, all
-- inside a sound triangulation, certifies the source's bytes with the texts for the sheet's images.
abbrev pub PieceCertificatesCertify : (How → List ℕ → Contents → Type 0)
    → (List ℕ → How → Contents → Runs → Edit → List ℕ) → Type 0
PieceCertificatesCertify reads text =
    (how : How) (tin : Triangulation) (source : List ℕ) (layer : ℕ) (sheet : Contents) (images : Runs)
    (pieces : List Piece) → IsWithinLimits tin → IsSound tin → reads how source sheet → IsSheetInside tin sheet
    → AreImagesOf tin sheet images → ArePiecesOfSheet tin layer sheet pieces
    → IsCertified tin source (splice_of source (text source how sheet images) sheet.edits) (reads how source)
    (text source how) (certificate_of (lists_of pieces))

-- what a migration with certificates makes of a layer is verified
abbrev pub MigrationsAreVerified : Type 0
MigrationsAreVerified =
    (files : Files) (migration : Migration) (status : Status) (made : Files) (number : ℕ) (received : Files)
    (verification : Verification) → migration.cert ≡ true → IsMigrationDone files migration status made
    → AreSent files migration made number received verification
    → IsVerified received verification Same ((codes "-", certified_text) ∷ [])

-- what is verified is what a migration of the source alone writes, or this has too many pieces or changes
abbrev pub VerifiedLayersAreMigrated : Type 0
VerifiedLayersAreMigrated =
    (files : Files) (verification : Verification) (status : Status) (made : Files) (written : List ℕ)
    (migration : Migration) (end : End) → IsVerified files verification status made
    → bytes_of files verification.written ≡ Some written → IsOfSourceAlone verification migration
    → IsMigrationEnd files migration end → WritesOrHasTooMany migration verification.source written end
