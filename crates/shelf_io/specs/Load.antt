-- What loading a whole file says of the shelf's files.
use Rattle.std.specs.Prelude.{◌≡◌, ◌<◌, ℕ, List, ◌++◌, length, Option, Some, None}
use Rattle.shelf_io.specs.Files.{Files, bytes_of}

-- the file of this name has these bytes
abbrev pub Loads : List ℕ → List ℕ → Files → Type 0
Loads name bytes files = bytes_of files name ≡ Some bytes

-- the shelf states its files, and none has this name
abbrev pub LacksName : Option Files → List ℕ → Type 0
LacksName None name = ⊥
LacksName (Some files) name = bytes_of files name ≡ None

-- the file of this name has more bytes than the limit
abbrev pub IsLonger : List ℕ → ℕ → Files → Type 0
IsLonger name limit files = (bytes : List ℕ) × (bytes_of files name ≡ Some bytes) × (limit < length bytes)

-- where a rest is stated, it was these bytes and what is left now
abbrev pub Taken : Option (List ℕ) → Option (List ℕ) → List ℕ → Type 0
Taken None left bytes = Unit {0}
Taken (Some rest) left bytes = (now : List ℕ) × (left ≡ Some now) × (bytes ++ now ≡ rest)
