-- Whether files fit the room of a press in memory, and what it has of them.
use Rattle.std.specs.Prelude.{◌≡◌, ◌≤◌, ◌+◌, ◌-◌, ◌++◌, ℕ, [], ◌∷◌, length, Option, Some, IfSome}
use Rattle.shelf_io.specs.Files.{Files}
use Rattle.shelf_io.specs.FileStore.{FileStore}

-- how many bytes files have, names and contents together
abbrev pub size_of : Files → ℕ
size_of [] = 0
size_of (file ∷ files) = length file.0 + length file.1 + size_of files

-- the files fit the room that is left
pub record DoFit (files : Files) (store : FileStore) : Type 0 where
  pub count : length files ≤ store.files
  pub bytes : size_of files ≤ store.bytes

-- with these files after those that are there
abbrev pub store_with_files : Files → FileStore → FileStore
store_with_files files s =
    record { made = s.made ++ files; files = s.files - length files; bytes = s.bytes - size_of files }

-- where the press stated its files, and these fit the room that was left, they are made and it states them, too
abbrev pub MakesWhereItFits : Files → Option FileStore → Option FileStore → Type 0
MakesWhereItFits files before now = IfSome before (λ s. DoFit files s → now ≡ Some (store_with_files files s))

-- where the press stated its files, and these fit the room that was left, it states them and no others
abbrev pub IsStatedWhereItFits : Files → Option FileStore → Option Files → Type 0
IsStatedWhereItFits files before made = IfSome before (λ s. DoFit files s → made ≡ Some files)
