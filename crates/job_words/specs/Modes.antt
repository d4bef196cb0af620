-- The modes of the program, and the words that spell them.
use Rattle.std.specs.Prelude.{ℕ, List, [], ◌∷◌, Option, codes, find}
use Rattle.std.specs.Str.{bytes_eq}
use Rattle.job_words.specs.declared.modes.Mode.{Mode}
use Rattle.job_words.specs.declared.modes.Mode.TheVariants.{Migrate, Check, Make, Verify, Heights}

-- the word of a mode
abbrev pub spelling : Mode → List ℕ
spelling Migrate = codes "migrate"
spelling Check = codes "check"
spelling Make = codes "make"
spelling Verify = codes "verify"
spelling Heights = codes "heights"

-- the mode that a word spells
abbrev pub mode_of : List ℕ → Option Mode
mode_of word = find (λ mode. bytes_eq (spelling mode) word) (Migrate ∷ Check ∷ Make ∷ Verify ∷ Heights ∷ [])
