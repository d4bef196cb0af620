-- Laws of texts that are shown.
use Rattle.std.specs.Prelude.{◌≡◌, ℕ, ◌+◌, ◌≤◌, false, List, length}
use Rattle.std.specs.List.{AllByRecursion}
use Rattle.std.specs.Str.{chars, IsUtf8}
use Rattle.shown_text.specs.declared.texts.TheConstants.{MOST_SHOWN}
use Rattle.shown_text.specs.Characters.{is_order}
use Rattle.shown_text.specs.Texts.{shown_of}

-- no character is an order
abbrev pub IsPlain : List ℕ → Type 0
IsPlain bytes = AllByRecursion (λ code. is_order code ≡ false) (chars bytes)

abbrev pub ShownTextsArePlain : Type 0
ShownTextsArePlain = (bytes : List ℕ) → IsUtf8 bytes → IsPlain (shown_of bytes)

abbrev pub ShownTextsAreShort : Type 0
ShownTextsAreShort = (bytes : List ℕ) → length (shown_of bytes) ≤ MOST_SHOWN + 2

abbrev pub ShortPlainTextsStay : Type 0
ShortPlainTextsStay = (bytes : List ℕ) → IsUtf8 bytes → IsPlain bytes → length bytes ≤ MOST_SHOWN
    → shown_of bytes ≡ bytes
