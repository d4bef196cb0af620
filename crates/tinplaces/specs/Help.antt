-- Which words ask the program what it does, and what is printed then.
use Rattle.std.specs.Prelude.{◌≡◌, List, ℕ, [], ◌∷◌, ◌⊎◌, codes}
use Rattle.tinplaces.specs.declared.help.TheConstants.{WHOLE, VERSION}
use Rattle.tinplaces.specs.declared.help.PlacesHelp.{PlacesHelp}
use Rattle.tinplaces.specs.declared.help.PlacesHelp.TheVariants.{Whole, Version}

-- the words ask for this text
abbrev pub Asks : List (List ℕ) → PlacesHelp → Type 0
Asks words Whole = (words ≡ codes "--help" ∷ []) ⊎ ((words ≡ codes "-h" ∷ []) ⊎ (words ≡ codes "help" ∷ []))
Asks words Version = (words ≡ codes "--version" ∷ []) ⊎ (words ≡ codes "-V" ∷ [])

-- what is printed
abbrev pub text_of : PlacesHelp → List ℕ
text_of Whole = WHOLE.now
text_of Version = VERSION.now
