-- What is on a line, without the blanks at its ends.
use Rattle.text_places.specs.Blanks.{is_blank_byte}
use Rattle.std.specs.Prelude.{ℕ, ◌-◌, List, length, take, drop}
use Rattle.std.specs.List.{prefix_len, suffix_len}

-- the text without the blanks in front
abbrev pub without_blanks_before : List ℕ → List ℕ
without_blanks_before text = drop (prefix_len is_blank_byte text) text

-- the text without the blanks at its end
abbrev pub without_blanks_behind : List ℕ → List ℕ
without_blanks_behind text = take (length text - suffix_len is_blank_byte text) text

-- what is on a line between the blanks at its ends
abbrev pub value_of : List ℕ → List ℕ
value_of line = without_blanks_behind (without_blanks_before line)
