-- The text of replies: a line for each, and after a list a line for each of its pairs.
use Rattle.std.specs.Prelude.{ℕ, List, [], ◌∷◌, ◌++◌, length, codes}
use Rattle.std.specs.List.{flat_map, concat}
use Rattle.tin_base.specs.declared.pieces.Place.{Place}
use Rattle.text_fields.specs.Fields.{field}
use Rattle.report_text.specs.ReportText.{place_text, relation_word}
use Rattle.ledger_core.specs.declared.pairs.Verdict.{Verdict}
use Rattle.ledger_core.specs.declared.pairs.Verdict.TheVariants as verdicts
use Rattle.ledger_core.specs.declared.pairs.PairRow.{PairRow}
use Rattle.ledger_core.specs.declared.commands.Reply.{Reply}
use Rattle.ledger_core.specs.declared.commands.Reply.TheVariants.{Entered, Known, Full, Decided, Settled, NoRun, NoPair, Listed, Waiting, Cleared}

-- where a piece comes from, after a space
unfoldable pub spaced_place : Place → List ℕ
spaced_place place = codes " " ++ place_text place

-- the line of an undecided pair: its place, where both pieces come from, the relation in the source and the one after
-- rounding
unfoldable pub open_line : PairRow → List ℕ
open_line row = concat (
    field (codes "open ") row.place ∷ spaced_place row.change.first ∷ spaced_place row.change.second
    ∷ codes " " ∷ relation_word row.change.was ∷ codes " " ∷ relation_word row.change.now ∷ codes "\n" ∷ [])

-- a word, a number in digits and a line feed
abbrev pub number_line : List ℕ → ℕ → List ℕ
number_line word number = concat (field word number ∷ codes "\n" ∷ [])

abbrev pub settled_line : Verdict → List ℕ
settled_line verdicts.Undecided = codes "settled undecided\n"
settled_line verdicts.Kept = codes "settled kept\n"
settled_line verdicts.Mended = codes "settled mended\n"

-- the lines of a reply, with their line feeds
abbrev pub reply_text : Reply → List ℕ
reply_text (Entered run pairs) = concat (field (codes "entered ") run ∷ field (codes " pairs ") pairs ∷ codes "\n" ∷ [])
reply_text (Known run) = number_line (codes "known ") run
reply_text Full = codes "full\n"
reply_text Decided = codes "decided\n"
reply_text (Settled verdict) = settled_line verdict
reply_text NoRun = codes "no run\n"
reply_text NoPair = codes "no pair\n"
reply_text (Listed pairs) = number_line (codes "listed ") (length pairs) ++ flat_map open_line pairs
reply_text (Waiting place) = number_line (codes "waiting ") place
reply_text Cleared = codes "clear\n"

-- the text of replies, in order
abbrev pub replies_text : List Reply → List ℕ
replies_text replies = flat_map reply_text replies
