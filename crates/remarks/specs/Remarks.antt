-- What standard error says of a refusal: one line or two.
use Rattle.std.specs.Prelude.{ℕ, Bool, true, false, List, [], ◌++◌, Option, None, Some, codes}
use Rattle.runs.specs.declared.refusal.Refusal.{Refusal}
use Rattle.remarks.specs.RefusalTables.{refusal_finding_of, refusal_cure_of}
use Rattle.remarks.specs.Spots.{spot_of, spot_words, shown_words}

-- where it is, what was found, and what is there
abbrev pub first_line : Refusal → List ℕ → Option (List ℕ) → List ℕ
first_line refusal name bytes = codes "tinmove: " ++ spot_words name bytes (spot_of refusal)
    ++ refusal_finding_of refusal bytes ++ shown_words bytes (spot_of refusal) ++ codes "\n"

abbrev pub cure_words : Option (List ℕ) → List ℕ
cure_words None = []
cure_words (Some cure) = codes "; " ++ cure

-- that nothing was written, and what helps where something is known that does
abbrev pub nothing_line : Option (List ℕ) → List ℕ
nothing_line cure = codes "tinmove: nothing was written" ++ cure_words cure ++ codes "\n"

-- what helps, where something is known that does
abbrev pub help_line : Option (List ℕ) → List ℕ
help_line None = []
help_line (Some cure) = codes "tinmove: " ++ cure ++ codes "\n"

-- the second line: of a run that writes files the first of the two above, and of others, which write none, the second
abbrev pub cure_line : Bool → Option (List ℕ) → List ℕ
cure_line true cure = nothing_line cure
cure_line false cure = help_line cure

-- of a refusal, the name of the refused file, its bytes where they are known, and whether the run writes files
abbrev pub remarks_of : Refusal → List ℕ → Option (List ℕ) → Bool → List ℕ
remarks_of refusal name bytes has_outputs =
    first_line refusal name bytes ++ cure_line has_outputs (refusal_cure_of refusal bytes)
