-- How a text is shown to a person.
use Rattle.std.specs.Prelude.{ℕ, ◌-◌, nat_lt, if◌then◌else◌, List, [], ◌∷◌, ◌++◌, codes}
use Rattle.std.specs.Str.{chars}
use Rattle.shown_text.specs.declared.texts.TheConstants.{MOST_SHOWN}
use Rattle.shown_text.specs.Characters.{shown_character, size_of}

-- characters, as far as there is room for this many bytes, and two dots where it ends before they do
abbrev pub shown_within : ℕ → List ℕ → List ℕ
shown_within room [] = []
shown_within room (code ∷ more) = if nat_lt room (size_of code) then codes ".."
    else shown_character code ++ shown_within (room - size_of code) more

-- the text of these bytes
abbrev pub shown_of : List ℕ → List ℕ
shown_of bytes = shown_within MOST_SHOWN (chars bytes)
