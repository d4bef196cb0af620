-- How the words of a form belong together: as its options, with their values, and as plain words.
use Rattle.std.specs.Prelude.{◌≡◌, ℕ, ◌==◌, ◌||◌, Bool, true, false, not, List, [], ◌∷◌, ◌++◌, codes}
use Rattle.std.specs.Prelude.{Option, Some, None, count_by, flat_map, nat_le}
use Rattle.std.specs.List.{list_any}
use Rattle.std.specs.Str.{bytes_eq}
use Rattle.clap.specs.Walk.{Text}
use Rattle.run_notes.specs.WordForms.{Form}

-- one word, or two, as a form uses them
pub data Use : Type 0 where
  -- an option without a value: its name
  Flag : Text → Use
  -- an option and its value with `=` between them, in one word: its name and the value
  InOneWord : Text → Text → Use
  -- an option and its value, in two words
  InTwoWords : Text → Text → Use
  -- a word that is no option
  Plain : Text → Use
  -- `--`, after which each word is plain
  End : Use

-- the words of a use
abbrev pub words_in : Use → List Text
words_in (Flag name) = name ∷ []
words_in (InOneWord name value) = (name ++ codes "=" ++ value) ∷ []
words_in (InTwoWords name value) = name ∷ value ∷ []
words_in (Plain word) = word ∷ []
words_in End = codes "--" ∷ []

-- the words of uses
abbrev pub words_of_uses : List Use → List Text
words_of_uses uses = flat_map words_in uses

-- a word begins as an option does: with a hyphen (45), after which there is more
abbrev pub begins_as_option : Text → Bool
begins_as_option (first ∷ next ∷ more) = first == 45
begins_as_option word = false

-- a text has an `=` (61) in it
abbrev pub has_equals : Text → Bool
has_equals text = list_any (λ byte. byte == 61) text

-- the use is of the option with this name
abbrev pub is_of : Text → Use → Bool
is_of name (Flag other) = bytes_eq other name
is_of name (InOneWord other value) = bytes_eq other name
is_of name (InTwoWords other value) = bytes_eq other name
is_of name (Plain word) = false
is_of name End = false

-- the use is a plain word
abbrev pub is_plain : Use → Bool
is_plain (Plain word) = true
is_plain one = false

-- the use is `--`
abbrev pub is_end : Use → Bool
is_end End = true
is_end one = false

-- one of the uses is of the option with this name
abbrev pub is_used : Text → List Use → Bool
is_used name uses = list_any (is_of name) uses

-- one of the uses is `--`
abbrev pub has_end : List Use → Bool
has_end uses = list_any is_end uses

-- there is a limit, and this count reaches it
abbrev pub is_reached : Option ℕ → ℕ → Bool
is_reached None count = false
is_reached (Some most) count = nat_le most count

-- there are as many plain words as the form takes
abbrev pub is_full : Form → List Use → Bool
is_full form uses = is_reached form.most (count_by is_plain uses)

-- an option of the form that takes a value has this name
abbrev pub takes_value : Form → Text → Bool
takes_value form name = list_any (λ option. bytes_eq option.0 name) form.valued
    || list_any (λ option. bytes_eq option name) form.optional

-- an option of the form without a value has this name
abbrev pub is_flag : Form → Text → Bool
is_flag form name = list_any (λ flag. bytes_eq flag name) form.flags

-- after these uses the word is plain, whatever form they are of
abbrev pub is_plain_behind : List Use → Text → Bool
is_plain_behind before word = has_end before || not (begins_as_option word)

-- after these uses the form has this one: an option once, before a `--` and with its value where it takes one; a
-- plain word where there are not as many yet as the form takes; one `--`
abbrev pub MayFollow : Form → List Use → Use → Type 0
MayFollow form before (Flag name) =
    (has_end before ≡ false) × (is_flag form name ≡ true) × (is_used name before ≡ false)
MayFollow form before (InOneWord name value) =
    (has_end before ≡ false) × (takes_value form name ≡ true) × (has_equals name ≡ false)
    × (is_used name before ≡ false)
MayFollow form before (InTwoWords name value) =
    (has_end before ≡ false) × (takes_value form name ≡ true) × (is_used name before ≡ false)
    × (begins_as_option value ≡ false)
MayFollow form before (Plain word) = (is_plain_behind before word ≡ true) × (is_full form before ≡ false)
MayFollow form before End = has_end before ≡ false

-- after some uses the form has these, each after all before it
abbrev pub Follow : Form → List Use → List Use → Type 0
Follow form before [] = Unit {0}
Follow form before (next ∷ uses) = MayFollow form before next × Follow form (before ++ next ∷ []) uses

-- the form has these uses
abbrev pub AreUses : Form → List Use → Type 0
AreUses form uses = Follow form [] uses
