-- What a receiver has of a migration and verifies, and what a migration of a verified layer's source alone comes to.
use Rattle.std.specs.Prelude.{◌≡◌, ℕ, ◌+◌, ◌*◌, List, [], ◌∷◌, Some, slice_get, Ok, Err, true}
use Rattle.shelf_io.specs.Files.{Files, bytes_of}
use Rattle.job_words.specs.Formats.{format_by_name}
use Rattle.runs.specs.declared.loads.TheConstants.{MOST_VERIFIED}
use Rattle.runs.specs.Output.{name_in}
use Rattle.runs.specs.declared.refusal.Refusal.TheVariants.{TooManyPieces, TooManyChanges, TooManySides}
use Rattle.migrate_mode.specs.declared.migrations.Migration.{Migration}
use Rattle.migrate_mode.specs.Names.{cert_name_in}
use Rattle.migrate_mode.specs.Laws.{End}
use Rattle.verify_mode.specs.declared.verifications.Verification.{Verification}
use Rattle.verify_mode.specs.Files.{IsFileWithin}

-- ---- what is sent
-- The receiver's files are those of a migration with certificates, by whatever names: the triangulation, the source of
-- the layer of this number, what was made of it and its certificate. These two are a pair of what was made: the first
-- layer's pair comes first, and so on. Each is short enough to be verified. The receiver asks with the same options.
pub record AreSent (files : Files) (migration : Migration) (made : Files) (number : ℕ) (received : Files)
    (verification : Verification) : Type 0 where
  pub how : verification.how ≡ migration.how
  pub inverse : verification.inverse ≡ migration.inverse
  pub tin : bytes_of received verification.tin ≡ bytes_of files migration.tin
  pub name : List ℕ
  pub layer : slice_get migration.layers number ≡ Some name
  pub format : format_by_name verification.source ≡ format_by_name name
  pub source : bytes_of received verification.source ≡ bytes_of files name
  pub written : List ℕ
  pub written_made : slice_get made (2 * number) ≡ Some (name_in migration.out name, written)
  pub written_is : IsFileWithin received verification.written MOST_VERIFIED written
  pub cert : List ℕ
  pub cert_made : slice_get made (2 * number + 1) ≡ Some (cert_name_in migration.out name, cert)
  pub cert_is : IsFileWithin received verification.cert MOST_VERIFIED cert

-- ---- what is verified
-- the migration is of the source of what is verified, alone and with the same options, into whatever folder
pub record IsOfSourceAlone (verification : Verification) (migration : Migration) : Type 0 where
  pub tin : migration.tin ≡ verification.tin
  pub how : migration.how ≡ verification.how
  pub inverse : migration.inverse ≡ verification.inverse
  pub layers : migration.layers ≡ verification.source ∷ []

-- it makes a first file of these bytes under the name of the source, or is refused for too many pieces,
-- changes or, where it asks for them, changes of sides; a verification does not look at these numbers
abbrev pub WritesOrHasTooMany : Migration → List ℕ → List ℕ → End → Type 0
WritesOrHasTooMany migration source written (Ok (status, made)) =
    slice_get made 0 ≡ Some (name_in migration.out source, written)
WritesOrHasTooMany migration source written (Err TooManyPieces) = Unit {0}
WritesOrHasTooMany migration source written (Err TooManyChanges) = Unit {0}
WritesOrHasTooMany migration source written (Err TooManySides) = migration.sides ≡ true
WritesOrHasTooMany migration source written (Err refusal) = ⊥
