-- The blanks of a line.
use Rattle.std.specs.Prelude.{ℕ, ◌==◌, Bool, ◌||◌}

-- a space, a tab or a carriage return
abbrev pub is_blank_byte : ℕ → Bool
is_blank_byte byte = byte == 32 || byte == 9 || byte == 13
