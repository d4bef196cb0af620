-- What a file in memory stands for.
use Rattle.std.specs.Prelude.{ℕ, List, string_bytes}
use Rattle.shelf_io.specs.declared.mem_file.File.{File}

-- a file's name and bytes
abbrev pub named_bytes : File → List ℕ × List ℕ
named_bytes file = (string_bytes file.name, file.bytes.items)
