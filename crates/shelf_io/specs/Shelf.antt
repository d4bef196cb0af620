-- What the calls of a shelf say of its files.
use Rattle.std.specs.Prelude.{◌≡◌, ◌↔◌, ℕ, Bool, true, false, List, [], ◌++◌, take, Option, Some, None, Result, Ok, Err}
use Rattle.shelf_io.specs.Files.{Files, bytes_of}
use Rattle.shelf_io.specs.declared.shelf.Failed.{Failed}

-- The file of this name is at hand, and what is left is its bytes; or the files are stated and have no such name.
abbrev pub Begins : Option Files → List ℕ → Option (List ℕ) → Result Bool Failed → Type 0
Begins (Some files) name left (Ok true) = (bytes : List ℕ) × (bytes_of files name ≡ Some bytes) × (left ≡ Some bytes)
Begins (Some files) name left (Ok false) = bytes_of files name ≡ None
Begins None name left (Ok true) = Unit {0}
Begins None name left (Ok false) = ⊥
Begins files name left (Err e) = Unit {0}

-- The first part of the buffer is the next `count` bytes of what was left, where that is stated; 0 exactly at the end.
abbrev pub TakesFront : Option (List ℕ) → Option (List ℕ) → ℕ → List ℕ → Type 0
TakesFront None after count buf = Unit {0}
TakesFront (Some rest) after count buf =
    (now : List ℕ) × (after ≡ Some now) × (take count buf ++ now ≡ rest) × ((count ≡ 0) ↔ (rest ≡ []))
