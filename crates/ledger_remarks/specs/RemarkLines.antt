-- What standard error says of a script that is refused. Names and fields are shown as `shown_text` has it.
use Rattle.std.specs.Prelude.{ℕ, List, [], ◌∷◌, ◌++◌, codes, decimal}
use Rattle.shown_text.specs.Texts.{shown_of}
use Rattle.ledger_remarks.specs.declared.line_flaws.LineFlaw.{LineFlaw}
use Rattle.ledger_remarks.specs.declared.line_flaws.LineFlaw.TheVariants.{ByteOrderMark, CarriageReturn, Control, Space, Utf8, Word, Number, Mark, Missing, Further}

-- what a flaw is
abbrev pub finding_words : LineFlaw → List ℕ
finding_words ByteOrderMark = codes "a byte order mark"
finding_words CarriageReturn = codes "a carriage return at the end of the line"
finding_words Control = codes "a tab or another control character"
finding_words Space = codes "two spaces in a row, or one at an end of the line"
finding_words Utf8 = codes "bytes that are no UTF-8"
finding_words Word = codes "no word of a line"
finding_words Number = codes "no number in digits below 4294967296"
finding_words Mark = codes "neither kept nor mended"
finding_words Missing = codes "a word or a number is missing"
finding_words Further = codes "a word too many"

abbrev pub space_cure : List ℕ
space_cure = codes "one space is between each two words of a line"

abbrev pub form_cure : List ℕ
form_cure = codes "lines are enter REPORT LAYER..., decide RUN PLACE kept, decide RUN PLACE mended, list RUN and clear RUN"

-- what helps
abbrev pub cure_words : LineFlaw → List ℕ
cure_words ByteOrderMark = codes "the mark is removed by: sed -i 's/^\\xef\\xbb\\xbf//'"
cure_words CarriageReturn = codes "carriage returns are removed by: sed -i 's/\\r$//'"
cure_words Control = space_cure
cure_words Space = space_cure
cure_words Utf8 = codes "a script is UTF-8"
cure_words Word = codes "a line is enter, decide, list or clear: see tinledger --help"
cure_words Number = codes "a run is a number from 1, a place one from 0, without leading zeros"
cure_words Mark = form_cure
cure_words Missing = form_cure
cure_words Further = form_cure

-- what was found, where it is something
abbrev pub found_words : List ℕ → List ℕ
found_words [] = []
found_words (byte ∷ found) = codes ": " ++ shown_of (byte ∷ found)

-- the head of what is said of a line
abbrev pub line_head : List ℕ → ℕ → List ℕ
line_head script line = codes "tinledger: " ++ shown_of script ++ codes ":" ++ decimal line

-- the head of what is said of a file that a line names
abbrev pub file_head : List ℕ → ℕ → List ℕ → List ℕ
file_head script line name = line_head script line ++ codes ": " ++ shown_of name

-- the flaw of a line at a column
abbrev pub flaw_lines_of : List ℕ → ℕ → ℕ → LineFlaw → List ℕ → List ℕ
flaw_lines_of script line column flaw found = line_head script line ++ codes ":" ++ decimal column ++ codes ": "
    ++ finding_words flaw ++ found_words found ++ codes "\ntinledger: no line was obeyed; " ++ cure_words flaw ++ codes "\n"

abbrev pub unread_lines_of : List ℕ → ℕ → List ℕ → List ℕ → List ℕ
unread_lines_of script line name reason = file_head script line name ++ codes ": the system says: " ++ reason
    ++ codes "\ntinledger: no line was obeyed\n"

abbrev pub unread_script_lines_of : List ℕ → List ℕ → List ℕ
unread_script_lines_of script reason =
    codes "tinledger: " ++ shown_of script ++ codes ": the system says: " ++ reason ++ codes "\n"

-- the line of a file that is none of a report
abbrev pub wrong_report_lines_of : List ℕ → ℕ → List ℕ → ℕ → List ℕ
wrong_report_lines_of script line name bad = file_head script line name ++ codes ":" ++ decimal bad
    ++ codes ": no such line is in a report\ntinledger: no line was obeyed; a report is what tinmove migrate prints, whole\n"

abbrev pub other_layers_lines_of : List ℕ → ℕ → List ℕ → List ℕ
other_layers_lines_of script line name = file_head script line name
    ++ codes ": the report has another number of layers than this line\ntinledger: no line was obeyed; each written layer is named behind its report, in the report's order\n"
