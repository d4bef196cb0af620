-- Files in room that was reserved for a number of files and a number of bytes.
use Rattle.std.specs.Prelude.{ℕ, ◌-◌, List, [], length}
use Rattle.shelf_io.specs.Files.{Files}
use Rattle.shelf_io.specs.Made.{with_file, with_bytes}

pub record FileStore : Type 0 where
  -- each file's name and bytes, in the order in which they were begun
  pub made : Files
  -- how many more files there is room for
  pub files : ℕ
  -- how many more bytes there is room for, of names and contents together
  pub bytes : ℕ

abbrev pub empty_store : ℕ → ℕ → FileStore
empty_store files bytes = record { made = []; files = files; bytes = bytes }

-- with an empty file of this name
abbrev pub store_with_file : List ℕ → FileStore → FileStore
store_with_file name s = record { made = with_file name s.made; files = s.files - 1; bytes = s.bytes - length name }

-- with these bytes at the end of the last file
abbrev pub store_with_bytes : List ℕ → FileStore → FileStore
store_with_bytes bytes s = record s { made = with_bytes bytes s.made; bytes = s.bytes - length bytes }
