-- The digest of a file (SHA-256 of FIPS 180-4).
use Rattle.std.specs.Prelude.{◌≡◌, ◌≤◌, ℕ, List, length, Some}
use Rattle.sha2.specs.Sha256.{sha256}
use Rattle.shelf_io.specs.Files.{Files, bytes_of}

-- the file of this name has bytes with this digest, and at most this many
abbrev pub IsDigestOf : List ℕ → ℕ → List ℕ → Files → Type 0
IsDigestOf name limit digest files =
    (bytes : List ℕ) × (bytes_of files name ≡ Some bytes) × (length bytes ≤ limit) × (digest ≡ sha256 bytes)
