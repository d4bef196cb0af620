-- A press over room that was reserved, as contracts see it.
use Rattle.std.specs.Prelude.{◌≡◌, ◌<◌, ◌≤◌, ◌⊎◌, ℕ, Bool, Option, Some, None, List, length, option_map, IfSome}
use Rattle.shelf_io.specs.Files.{Files}
use Rattle.shelf_io.specs.FileStore.{FileStore, store_with_file, store_with_bytes}

pub record ReservedPress : Type 0 where
  -- the files and the room that is left, as long as all that came fitted
  pub store : Option FileStore
  pub at_hand : Bool

abbrev pub made_of : ReservedPress → Option Files
made_of p = option_map (λ s. s.made) p.store

-- an empty file of this name is added where there is room for it, and else the files are stated no more
pub record AddsWithin (before now : Option FileStore) (name : List ℕ) : Type 0 where
  pub fits : IfSome before (λ s. 0 < s.files → length name ≤ s.bytes → now ≡ Some (store_with_file name s))
  pub full : IfSome before (λ s. (s.files ≡ 0) ⊎ (s.bytes < length name) → now ≡ None)
  pub untold : before ≡ None → now ≡ None

-- these bytes are added to the last file where there is room for them, and else the files are stated no more
pub record AppendsWithin (before now : Option FileStore) (bytes : List ℕ) : Type 0 where
  pub fits : IfSome before (λ s. length bytes ≤ s.bytes → now ≡ Some (store_with_bytes bytes s))
  pub full : IfSome before (λ s. s.bytes < length bytes → now ≡ None)
  pub untold : before ≡ None → now ≡ None
