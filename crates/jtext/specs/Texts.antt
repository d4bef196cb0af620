-- JSON texts (RFC 8259, section 2, in UTF-8 by section 8.1), and why others are none.
use Rattle.std.specs.Prelude.{◌≡◌, ◌⊎◌, ℕ, ◌+◌, ◌<◌, Bool, true, false, List, [], ◌∷◌, ◌++◌, length, take}
use Rattle.text_places.specs.Places.{Begins, IsFirstFault}
use Rattle.jtext.specs.Values.{Json, spelling, AreBlank, IsValue}
use Rattle.jtext.specs.declared.json_texts.TheConstants.{DEEPEST}

-- a value between white space, with a byte order mark in front of all or without
pub record Whole : Type 0 where
  pub marked : Bool
  pub before : List ℕ
  pub value : Json
  pub after : List ℕ

-- the byte order mark in UTF-8
abbrev pub mark_text : Bool → List ℕ
mark_text true = 0xEF ∷ 0xBB ∷ 0xBF ∷ []
mark_text false = []

abbrev pub whole_text : Whole → List ℕ
whole_text whole = mark_text whole.marked ++ (whole.before ++ (spelling whole.value ++ whole.after))

-- the bytes are this text, whose arrays and objects nest at most so deep
pub record IsWhole (depth : ℕ) (whole : Whole) (bytes : List ℕ) : Type 0 where
  pub before : AreBlank whole.before
  pub value : IsValue depth whole.value
  pub after : AreBlank whole.after
  pub all : bytes ≡ whole_text whole

-- a JSON text in which arrays and objects nest at most so deep
abbrev pub IsText : ℕ → List ℕ → Type 0
IsText depth bytes = (whole : Whole) × IsWhole depth whole bytes

-- a JSON text
abbrev pub IsAnyText : List ℕ → Type 0
IsAnyText bytes = (depth : ℕ) × IsText depth bytes

-- The bytes are no JSON text of any depth: their longest front that begins one ends here, and up to there
-- nothing nests too deep.
pub record IsBad (bytes : List ℕ) (at : ℕ) : Type 0 where
  pub fault : IsFirstFault IsAnyText bytes at
  pub shallow : Begins (IsText DEEPEST) (take at bytes)

-- The front before this byte is the longest that begins a JSON text of the allowed depth, and with the byte it
-- begins a deeper one.
pub record IsDeep (bytes : List ℕ) (at : ℕ) : Type 0 where
  pub within : at < length bytes
  pub fault : IsFirstFault (IsText DEEPEST) bytes at
  pub deeper : Begins IsAnyText (take (at + 1) bytes)

-- the bytes are a text of the allowed depth, or have one of the faults
abbrev pub HasOutcome : List ℕ → Type 0
HasOutcome bytes = IsText DEEPEST bytes ⊎ (((at : ℕ) × IsBad bytes at) ⊎ ((at : ℕ) × IsDeep bytes at))
