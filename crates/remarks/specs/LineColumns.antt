-- The line and the column of a place in bytes, each counted from 1.
use Rattle.std.specs.Prelude.{ℕ, zero, suc, ◌+◌, Bool, not, eqb, List, take, count_by}
use Rattle.std.specs.List.{after_first, suffix_len}

abbrev pub is_feed : ℕ → Bool
is_feed byte = eqb byte 10

abbrev pub is_in_line : ℕ → Bool
is_in_line byte = not (eqb byte 10)

-- one more than the line feeds among the first `at` bytes
abbrev pub line_at : List ℕ → ℕ → ℕ
line_at bytes at = count_by is_feed (take at bytes) + 1

-- one more than the bytes after the last line feed of the first `at` bytes
abbrev pub column_at : List ℕ → ℕ → ℕ
column_at bytes at = suffix_len is_in_line (take at bytes) + 1

-- the bytes after the first `count` lines
abbrev pub behind_lines : ℕ → List ℕ → List ℕ
behind_lines zero bytes = bytes
behind_lines (suc count) bytes = after_first is_feed (behind_lines count bytes)
