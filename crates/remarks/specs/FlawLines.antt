-- What standard error says of the words of a command line that are refused.
use Rattle.std.specs.Prelude.{ℕ, Bool, List, [], ◌++◌, Option, None, codes}
use Rattle.shown_text.specs.Texts.{shown_of}
use Rattle.remarks.specs.RefusalTables.{words_finding_of, words_cure_of}
use Rattle.remarks.specs.Remarks.{cure_line}
use Rattle.remarks.specs.declared.flaw_lines.WordFlaw.{WordFlaw}
use Rattle.remarks.specs.declared.flaw_lines.WordFlaw.TheVariants.{NoMode, Mode, Unknown, Twice, NoValue, Missing}
use Rattle.remarks.specs.declared.flaw_lines.WordFlaw.TheVariants.{TooMany, Refused}

-- what is in front of the word
abbrev pub before_word_of : WordFlaw → List ℕ
before_word_of NoMode = codes "a mode is missing: the first word is to be migrate, check, make, verify or heights"
before_word_of NoValue = codes "the value is missing behind '"
before_word_of flaw = codes "'"

-- what is after it
abbrev pub behind_word_of : WordFlaw → List ℕ
behind_word_of NoMode = []
behind_word_of Mode = codes "' is no mode: the first word is to be migrate, check, make, verify or heights"
behind_word_of Unknown = codes "' is no option of this mode"
behind_word_of Twice = codes "' is there twice"
behind_word_of NoValue = codes "'"
behind_word_of Missing = codes "' is missing"
behind_word_of TooMany = codes "' is one word too many"
behind_word_of (Refused fault) = codes "': " ++ words_finding_of fault

-- what helps
abbrev pub flaw_cure_of : WordFlaw → Option (List ℕ)
flaw_cure_of (Refused fault) = words_cure_of fault
flaw_cure_of flaw = None

-- which word it is, as it is shown, and what helps, of words that ask for files or of others
abbrev pub word_lines_of : WordFlaw → List ℕ → Bool → List ℕ
word_lines_of flaw word has_outputs = codes "tinmove: " ++ before_word_of flaw ++ shown_of word ++ behind_word_of flaw ++ codes "\n"
    ++ cure_line has_outputs (flaw_cure_of flaw)
