-- Names of files among the words, as bytes.
use Rattle.std.specs.Prelude.{◌==◌, ◌&&◌, ℕ, Bool, not, List, length, take, nat_le, Option, find}
use Rattle.std.specs.List.{after_last, enumerate_from, list_all, list_any}
use Rattle.std.specs.Option.{option_map}
use Rattle.std.specs.Str.{bytes_eq}

-- a name is not empty, and no byte of it is below 32
abbrev pub is_name : List ℕ → Bool
is_name word = not (length word == 0) && list_all (nat_le 32) word

-- the part of a name after its last slash (47), or the whole name where it has none
abbrev pub part_behind_slashes : List ℕ → List ℕ
part_behind_slashes name = after_last (λ byte. byte == 47) name

-- the text of this number equals one before it
abbrev pub stands_before : List (List ℕ) → ℕ × List ℕ → Bool
stands_before texts text = list_any (bytes_eq text.1) (take text.0 texts)

-- the number, from 0, of the first text that equals one before it
abbrev pub first_again : List (List ℕ) → Option ℕ
first_again texts = option_map (λ text. text.0) (find (stands_before texts) (enumerate_from 0 texts))
