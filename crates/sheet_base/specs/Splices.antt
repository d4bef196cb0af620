-- A layer's bytes with texts in the place of its edits' spans.
use Rattle.std.specs.Prelude.{◌≡◌, ℕ, ◌-◌, ◌≤◌, List, [], ◌∷◌, ◌++◌, take, drop}
use Rattle.sheet_base.specs.declared.edits.Edit.{Edit}

-- the spans of the edits follow each other from this place on, none begins before the one before it ends, and all end
-- by the last place
abbrev pub AreInOrder : ℕ → List Edit → ℕ → Type 0
AreInOrder from [] past = from ≤ past
AreInOrder from (edit ∷ edits) past = (from ≤ edit.start) × (edit.start ≤ edit.end) × AreInOrder edit.end edits past

-- the bytes from this place to before that
abbrev pub between : List ℕ → ℕ → ℕ → List ℕ
between bytes from past = take (past - from) (drop from bytes)

-- the bytes from this place on, with the span of each edit replaced by its text
abbrev pub spliced_from : List ℕ → (Edit → List ℕ) → ℕ → List Edit → List ℕ
spliced_from bytes text from [] = drop from bytes
spliced_from bytes text from (edit ∷ edits) =
    between bytes from edit.start ++ (text edit ++ spliced_from bytes text edit.end edits)

-- all bytes, so
abbrev pub splice_of : List ℕ → (Edit → List ℕ) → List Edit → List ℕ
splice_of bytes text edits = spliced_from bytes text 0 edits

-- the second bytes have the first bytes from this place on in order, except for the spans of the edits, in whose place
-- anything may be
abbrev pub DoKeep : List ℕ → ℕ → List Edit → List ℕ → Type 0
DoKeep bytes from [] now = now ≡ drop from bytes
DoKeep bytes from (edit ∷ edits) now =
    (text rest : List ℕ) × (now ≡ between bytes from edit.start ++ (text ++ rest)) × DoKeep bytes edit.end edits rest

-- a law: what is spliced keeps all bytes outside the edits
abbrev pub SplicesKeep : Type 0
SplicesKeep = (bytes : List ℕ) (text : Edit → List ℕ) (edits : List Edit)
    → DoKeep bytes 0 edits (splice_of bytes text edits)
