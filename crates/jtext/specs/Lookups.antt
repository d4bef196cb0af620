-- Members by their keys, and texts, with escapes resolved.
use Rattle.std.specs.Prelude.{◌≡◌, ℕ, ◌<◌, Bool, true, false, ◌&&◌, ◌==◌, List, [], ◌∷◌, Option, Some, None, Result, Ok}
use Rattle.std.specs.Prelude.{Err, if◌then◌else◌}
use Rattle.std.specs.List.{AllByRecursion}
use Rattle.jtext.specs.Characters.{units_of}
use Rattle.jtext.specs.Values.{Json, quoted}
use Rattle.jtext.specs.Places.{Entry}
use Rattle.jtext.specs.declared.lookup.Repeat.{Repeat}

abbrev pub IsAscii : List ℕ → Type 0
IsAscii text = AllByRecursion (λ byte. byte < 128) text

-- the value is a text that says this
abbrev pub Says : Json → List ℕ → Type 0
Says (quoted chars) text = units_of chars ≡ text
Says value text = ⊥

abbrev pub are_same : List ℕ → List ℕ → Bool
are_same [] [] = true
are_same [] (b ∷ ys) = false
are_same (a ∷ xs) [] = false
are_same (a ∷ xs) (b ∷ ys) = (a == b) && are_same xs ys

-- the members whose key says this, in order
abbrev pub entries_of_key : List ℕ → List Entry → List Entry
entries_of_key key [] = []
entries_of_key key (entry ∷ entries) = if are_same (units_of entry.key) key then entry ∷ entries_of_key key entries else entries_of_key key entries

-- none, the one, or where the second one's key begins
abbrev pub only_one : List Entry → Result (Option ℕ) Repeat
only_one [] = Ok None
only_one (entry ∷ []) = Ok (Some entry.number)
only_one (entry ∷ second ∷ more) = Err (record { at = second.key_start })
