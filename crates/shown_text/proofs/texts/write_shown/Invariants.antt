-- The invariant of the loop of `write_shown` in src/texts.rt: what was written and what remains to be shown make the
-- whole.
use Rattle.std.proofs.Common.{◌≡◌, ◌++◌, ℕ, List}
use Rattle.std.specs.Fmt.{HasWritten, IsPlainFormatter}
use Rattle.std.specs.Str.Iter.{chars_rest}
use Rattle.std.specs.Str.{chars, IsUtf8}
use Rattle.shown_text.specs.Texts.{shown_within, shown_of}
use Rattle.shown_text.proofs.texts.write_shown.Given as goal

abbrev pub invariant-loop-character : goal.invariant-loop-character
invariant-loop-character g l = IsUtf8 (chars_rest l.character-iterator)
    × (IsPlainFormatter l.fn.f → (done : List ℕ) × HasWritten g.W.Write.write_str_gives l.fn.f done l.f
    × (done ++ shown_within l.room (chars (chars_rest l.character-iterator)) ≡ shown_of l.fn.text))
