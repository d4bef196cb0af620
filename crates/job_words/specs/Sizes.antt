-- The size of a made triangulation, as it is written.
use Rattle.std.specs.Prelude.{◌==◌, ◌&&◌, ℕ, Bool, not, List, slice_index, nat_le, Option, Some, None, if◌then◌else◌}
use Rattle.std.specs.List.{list_all}
use Rattle.std.specs.Char.{is_ascii_digit}
use Rattle.std.specs.Str.Parse.{digits_value}
use Rattle.job_words.specs.declared.limits.TheConstants.{MOST_SIZE}

-- the word is digits alone, and does not begin with a zero (48)
abbrev pub is_plain : List ℕ → Bool
is_plain word = list_all is_ascii_digit word && not (slice_index word 0 == 48)

-- the number is one of the sizes that may be made
abbrev pub is_size : ℕ → Bool
is_size number = nat_le 1 number && nat_le number MOST_SIZE

-- the size that a word writes in digits without a leading zero
abbrev pub size_of : List ℕ → Option ℕ
size_of word = if is_plain word && is_size (digits_value 10 word) then Some (digits_value 10 word) else None
