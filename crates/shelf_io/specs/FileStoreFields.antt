-- What the fields of files in reserved room stand for.
use Rattle.std.specs.Prelude.{◌≡◌, ◌≤◌, ◌<◌, ℕ, ◌+◌, ◌^◌, List, [], ◌∷◌, take, drop, length, vec_len, vec_capacity}
use Rattle.shelf_io.specs.Files.{Files}
use Rattle.shelf_io.specs.FileStore.{FileStore}
use Rattle.shelf_io.specs.declared.store.Part.{Part}
use Rattle.shelf_io.specs.declared.store.Store.TheInside.{Inside}

-- the files with these lengths of names and contents, in a text of all of them
abbrev pub files_in : List Part → List ℕ → Files
files_in [] text = []
files_in (part ∷ parts) text =
    (take part.name text, take part.content (drop part.name text))
    ∷ files_in parts (drop part.content (drop part.name text))

-- how long the text of these parts is
abbrev pub length_of : List Part → ℕ
length_of [] = 0
length_of (part ∷ parts) = part.name + (part.content + length_of parts)

abbrev pub store_of : Inside → FileStore
store_of s = record { made = files_in s.parts.items s.text.items; files = s.files; bytes = s.bytes }

-- the parts make the text, and what there is room for was reserved and is counted by a usize
pub record IsSound (s : Inside) : Type 0 where
  pub whole : length_of s.parts.items ≡ length s.text.items
  pub files : vec_len s.parts + s.files ≤ vec_capacity s.parts
  pub bytes : vec_len s.text + s.bytes ≤ vec_capacity s.text
  pub short : length s.text.items + s.bytes < 2 ^ 64
