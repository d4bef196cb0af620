-- The name at the end of a report's line. Only private functions speak of it.
use Rattle.std.specs.Prelude.{ℕ, Bool, ◌&&◌, if◌then◌else◌, List, codes, nat_le, Option, None, Some}
use Rattle.std.specs.List.{list_all}
use Rattle.std.specs.Str.{is_utf8}
use Rattle.text_fields.specs.Fields.{◌>>=◌, after_word}

abbrev pub are_printable : List ℕ → Bool
are_printable name = list_all (λ byte. nat_le 32 byte) name

-- the name that is the rest of a line
unfoldable pub name_behind : List ℕ → Option (List ℕ)
name_behind text = do
  name ← after_word (codes " name ") text
  if are_printable name && is_utf8 name then Some name else None
