-- What is made by a call that writes whole files: all of them, or a first part of them where writing broke off.
use Rattle.std.specs.Prelude.{◌≡◌, ◌≢◌, ◌⊎◌, ℕ, [], ◌∷◌, take, Option, IfSome}
use Rattle.shelf_io.specs.Files.{Files}
use Rattle.runs.specs.declared.status.Status.{Status}
use Rattle.runs.specs.declared.status.Status.TheVariants.{Write}

-- made files that are a first part of others: all whole but the last, which has the first bytes of its file
abbrev pub IsFrontOf : Files → Files → Type 0
IsFrontOf [] whole = Unit {0}
IsFrontOf (file ∷ files) [] = ⊥
IsFrontOf (file ∷ []) (full ∷ rest) = (count : ℕ) × (file ≡ (full.0, take count full.1))
IsFrontOf (file ∷ next ∷ files) (full ∷ rest) = (file ≡ full) × IsFrontOf (next ∷ files) rest

-- What such a call makes of whole files, after which the run was to end so.
pub record HasWritten (whole : Files) (wanted result : Status) (made : Option Files) : Type 0 where
  -- the run ends so, or with a write fault
  pub status : (result ≡ wanted) ⊎ (result ≡ Write)
  -- unless a write failed exactly these files are made
  pub all : result ≢ Write → IfSome made (λ files. files ≡ whole)
  -- else a first part of them is
  pub front : result ≡ Write → IfSome made (λ files. IsFrontOf files whole)
