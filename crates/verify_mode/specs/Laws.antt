-- A verification ends, in one way.
use Rattle.std.specs.Prelude.{◌≡◌, Result, Ok, Err}
use Rattle.shelf_io.specs.Files.{Files}
use Rattle.job_words.specs.JobFields.{HasFormat}
use Rattle.runs.specs.declared.status.Status.{Status}
use Rattle.runs.specs.declared.refusal.Refusal.{Refusal}
use Rattle.verify_mode.specs.declared.verifications.Verification.{Verification}
use Rattle.verify_mode.specs.Verifications.{IsVerified, IsVerificationRefused}

-- how a verification ends where no call of the outside fails and memory does not run out: with a status and its made
-- files, or with its refusal
abbrev pub IsVerificationEnd : Files → Verification → Result (Status × Files) Refusal → Type 0
IsVerificationEnd files verification (Ok end) = IsVerified files verification end.0 end.1
IsVerificationEnd files verification (Err refusal) = IsVerificationRefused files verification refusal

-- the same files and names give one end
abbrev pub VerificationIsOne : Type 0
VerificationIsOne = (files : Files) (verification : Verification) (end other : Result (Status × Files) Refusal)
    → IsVerificationEnd files verification end → IsVerificationEnd files verification other → end ≡ other

-- and there is one, whatever the files are, where the name of the source has a format
abbrev pub VerificationExists : Type 0
VerificationExists = (files : Files) (verification : Verification) → HasFormat verification.source
    → (end : Result (Status × Files) Refusal) × IsVerificationEnd files verification end
