-- The lines of a terminal, and a text for one of them.
use Rattle.std.specs.Prelude.{ℕ, List, ◌++◌, codes, decimal}
use Rattle.run_steps.specs.declared.lines.TheConstants.{CLEAR}

-- what is written for a line: the one at hand is cleared, and the program's name is before the text
abbrev pub line_of : List ℕ → List ℕ
line_of text = CLEAR.now ++ codes "tinmove: " ++ text

-- what is said of a map of n by n cells
abbrev pub making_text_of : ℕ → List ℕ
making_text_of n = codes "making and carrying a map of " ++ decimal n ++ codes " by " ++ decimal n ++ codes " cells"
