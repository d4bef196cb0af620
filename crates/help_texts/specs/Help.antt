-- Which words ask the program what it does, and what is printed then.
use Rattle.std.specs.Prelude.{◌≡◌, List, ℕ, [], ◌∷◌, ◌⊎◌, ◌<◌, ◌≤◌, codes, length, take, drop}
use Rattle.help_texts.specs.declared.help.TheConstants.{USAGE, WHOLE, MIGRATE, CHECK, MAKE, VERIFY, HEIGHTS, VERSION}
use Rattle.help_texts.specs.declared.help.Help.{Help}
use Rattle.help_texts.specs.declared.help.Help.TheVariants.{Whole, Migrate, Check, Make, Verify, Heights, Version}

-- the words are a mode and an option for help
abbrev pub IsHelpOf : List ℕ → List (List ℕ) → Type 0
IsHelpOf mode words = (words ≡ mode ∷ codes "--help" ∷ []) ⊎ (words ≡ mode ∷ codes "-h" ∷ [])

-- the words ask for this text
abbrev pub Asks : List (List ℕ) → Help → Type 0
Asks words Whole = (words ≡ codes "--help" ∷ []) ⊎ ((words ≡ codes "-h" ∷ []) ⊎ (words ≡ codes "help" ∷ []))
Asks words Version = (words ≡ codes "--version" ∷ []) ⊎ (words ≡ codes "-V" ∷ [])
Asks words Migrate = IsHelpOf (codes "migrate") words
Asks words Check = IsHelpOf (codes "check") words
Asks words Make = IsHelpOf (codes "make") words
Asks words Verify = IsHelpOf (codes "verify") words
Asks words Heights = IsHelpOf (codes "heights") words

-- what is printed
abbrev pub text_of : Help → List ℕ
text_of Whole = WHOLE.now
text_of Migrate = MIGRATE.now
text_of Check = CHECK.now
text_of Make = MAKE.now
text_of Verify = VERIFY.now
text_of Heights = HEIGHTS.now
text_of Version = VERSION.now

-- the first of the words is a mode, and this is the help on it
abbrev pub NamesMode : List (List ℕ) → Help → Type 0
NamesMode words help = (mode : List ℕ) × (rest : List (List ℕ)) × (words ≡ mode ∷ rest) × Asks (mode ∷ codes "--help" ∷ []) help

-- the help on the mode that the first of the words names, or one line on all modes where it names none
abbrev pub IsTextFor : List (List ℕ) → List ℕ → Type 0
IsTextFor words text = ((help : Help) × NamesMode words help × (text ≡ text_of help))
    ⊎ (((help : Help) → ¬ NamesMode words help) × (text ≡ USAGE.now))

-- a blank line is at this place
abbrev pub HasBlankLineAt : List ℕ → ℕ → Type 0
HasBlankLineAt text place = (rest : List ℕ) × (drop place text ≡ 10 ∷ 10 ∷ rest)

-- what is before the first blank line, or the whole text where there is none
abbrev pub IsFirstPart : List ℕ → List ℕ → Type 0
IsFirstPart text part = ((place : ℕ) × HasBlankLineAt text place × ((earlier : ℕ) → earlier < place → ¬ HasBlankLineAt text earlier)
    × (part ≡ take place text))
    ⊎ (((place : ℕ) → place ≤ length text → ¬ HasBlankLineAt text place) × (part ≡ text))

-- how the words of a mode are used: the first part of the help on it
abbrev pub IsUsageFor : List (List ℕ) → List ℕ → Type 0
IsUsageFor words usage = (text : List ℕ) × IsTextFor words text × IsFirstPart text usage
