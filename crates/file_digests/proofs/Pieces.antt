-- What was digested so far and what is left, over the turns of a loop.
use Rattle.std.proofs.Common.{◌≡◌, ℕ, List, [], length, Option}
use Rattle.sha2.specs.declared.Sha256.{Sha256}
use Rattle.sha2.specs.Hashers.{Holds256}
use Rattle.shelf_io.specs.Load.{Taken}

-- the hasher holds this many bytes, which were taken from what was left
pub record HasTaken (before now : Option (List ℕ)) (hasher : Sha256) (count : ℕ) : Type 0 where
  pub message : List ℕ
  pub holds : Holds256 hasher message
  pub size : length message ≡ count
  pub taken : Taken before now message
