-- The kind on a line of text.
use Rattle.std.proofs.Common.{◌≡◌, Bool, ℕ, true, false, List, [], refl}
use Rattle.std.specs.Prelude.{IsUtf8, if◌then◌else◌}
use Rattle.std.specs.Str.{is_utf8, trim}
use Rattle.std.proofs.lemmas.Str.{IsUtf8-from_is_utf8, is_utf8-from_IsUtf8}
use Rattle.run_notes.specs.LeftOutKinds.{kind_in_line}

pub kind-on-text : (line text : List ℕ) → text ≡ line → IsUtf8 line → trim text ≡ kind_in_line line
kind-on-text line text is utf8 = rw (is, is_utf8-from_IsUtf8 line utf8) refl

pub kind-on-none : (line : List ℕ) → ¬ IsUtf8 line → [] ≡ kind_in_line line
kind-on-none line no_text = by-test (is_utf8 line) refl
  where
    by-test : (test : Bool) → is_utf8 line ≡ test → [] ≡ (if test then trim line else [])
    by-test true is = absurd (no_text (IsUtf8-from_is_utf8 line is))
    by-test false is = refl
