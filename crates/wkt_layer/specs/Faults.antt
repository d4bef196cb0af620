-- The fault of a line: where it is, and its name.
use Rattle.std.specs.Prelude.{◌≡◌, ℕ, ◌<◌, Bool, true, false, List, [], ◌∷◌, ◌++◌, take, drop, Result, Ok, Err}
use Rattle.text_places.specs.Places.{IsFirstFault}
use Rattle.mm_decimal.specs.AnswerValues.{millimetres_of}
use Rattle.mm_decimal.specs.declared.numerals.MmRead.{MmRead}
use Rattle.mm_decimal.specs.declared.numerals.NumFault.{NumFault}
use Rattle.sheet_base.specs.declared.faults.LayerFault.{LayerFault}
use Rattle.sheet_base.specs.declared.faults.LayerFault.TheVariants as faults
use Rattle.wkt_layer.specs.Tokens.{Number, Token, opening, closing, comma, word, number, Placed}
use Rattle.wkt_layer.specs.Numbers.{Point, IsNumber}
use Rattle.wkt_layer.specs.Geometries.{point_tokens}
use Rattle.wkt_layer.specs.Lines.{IsLine, IsViable, tokens_in}
use Rattle.wkt_layer.specs.declared.words.GeometryKind.{GeometryKind}
use Rattle.wkt_layer.specs.declared.words.GeometryKind.TheVariants as kinds
use Rattle.wkt_layer.specs.declared.words.LineWord.TheVariants.{Tag, Height}

-- a geometry may come after these tokens
abbrev pub IsGeometryPlace : Bool → List Token → Type 0
IsGeometryPlace exact front = IsViable exact (front ++ word (Tag kinds.Point) ∷ [])

-- the last of the tokens is a tag
abbrev pub EndsInTag : List Token → Type 0
EndsInTag front = (before : List Token) × (kind : GeometryKind) × (front ≡ before ++ word (Tag kind) ∷ [])

-- the last of the tokens is a number
abbrev pub EndsInNumber : List Token → Type 0
EndsInNumber front = (before : List Token) × (n : Number) × (front ≡ before ++ number n ∷ [])

-- some number that fits may come after these tokens
abbrev pub IsNumberPlace : Bool → List Token → Type 0
IsNumberPlace exact front = (n : Number) × IsNumber exact n × IsViable exact (front ++ number n ∷ [])

-- the last of the tokens is the last number that a point wants
abbrev pub EndsInPoint : Bool → List Token → Type 0
EndsInPoint exact front = EndsInNumber front × (IsNumberPlace exact front → ⊥)

-- points with commas between them
abbrev pub joined_points : Point → List Point → List Token
joined_points first [] = point_tokens first
joined_points first (next ∷ more) = point_tokens first ++ comma ∷ joined_points next more

-- the last of the tokens are an opening bracket, which begins at this place, and points after it
abbrev pub EndsInPoints : List Placed → ℕ → Type 0
EndsInPoints front at =
    (before points : List Placed) × (first : Point) × (more : List Point)
    × (front ≡ before ++ record { start = at; token = opening } ∷ points)
    × (tokens_in points ≡ joined_points first more)

-- The rows of the table of refusals but the last one, in their order. Each says of a token that does not fit after a
-- front whether it speaks of it.
pub data Row : Type 0 where
  kind : Row
  height : Row
  deep : Row
  unread : Row
  inexact : Row
  ring : Row

abbrev pub rank : Row → ℕ
rank kind = 0
rank height = 1
rank deep = 2
rank unread = 3
rank inexact = 4
rank ring = 5

-- a word in a geometry's place that is no tag
abbrev pub SpeaksKind : Bool → List Token → Token → Type 0
SpeaksKind exact front (word (Tag which)) = ⊥
SpeaksKind exact front (word w) = IsGeometryPlace exact front
SpeaksKind exact front token = ⊥

-- M or ZM directly after a tag, or a number directly after the last one that a point wants
abbrev pub SpeaksHeight : Bool → List Token → Token → Type 0
SpeaksHeight exact front (word Height) = EndsInTag front
SpeaksHeight exact front (number n) = EndsInPoint exact front
SpeaksHeight exact front token = ⊥

-- the tag of a collection in a geometry's place: one collection too many nests
abbrev pub SpeaksDeep : Bool → List Token → Token → Type 0
SpeaksDeep exact front (word (Tag kinds.Collection)) = IsGeometryPlace exact front
SpeaksDeep exact front token = ⊥

-- a number that is not read
abbrev pub IsUnread : Result MmRead NumFault → Type 0
IsUnread answer = (fault : NumFault) × (answer ≡ Err fault)

abbrev pub SpeaksUnread : Token → Type 0
SpeaksUnread (number n) = IsUnread (millimetres_of n.text)
SpeaksUnread token = ⊥

-- a number that lost digits, where exact ones are wanted
abbrev pub IsInexact : Result MmRead NumFault → Type 0
IsInexact answer = (read : MmRead) × (answer ≡ Ok read) × (read.exact ≡ false)

abbrev pub SpeaksInexact : Bool → Token → Type 0
SpeaksInexact exact (number n) = (exact ≡ true) × IsInexact (millimetres_of n.text)
SpeaksInexact exact token = ⊥

-- a closing bracket directly after a whole point in brackets; since it does not fit there, the brackets are a ring's
abbrev pub SpeaksRing : Bool → List Placed → Token → Type 0
SpeaksRing exact front closing = (at : ℕ) × EndsInPoints front at × EndsInPoint exact (tokens_in front)
SpeaksRing exact front token = ⊥

abbrev pub Speaks : Bool → List Placed → Token → Row → Type 0
Speaks exact front token kind = SpeaksKind exact (tokens_in front) token
Speaks exact front token height = SpeaksHeight exact (tokens_in front) token
Speaks exact front token deep = SpeaksDeep exact (tokens_in front) token
Speaks exact front token unread = SpeaksUnread token
Speaks exact front token inexact = SpeaksInexact exact token
Speaks exact front token ring = SpeaksRing exact front token

-- the first row that speaks of the token
pub record Decides (exact : Bool) (front : List Placed) (token : Token) (row : Row) : Type 0 where
  pub speaks : Speaks exact front token row
  pub first : (other : Row) → rank other < rank row → Speaks exact front token other → ⊥

abbrev pub IsAnswer : Token → NumFault → Type 0
IsAnswer (number n) fault = millimetres_of n.text ≡ Err fault
IsAnswer token fault = ⊥

-- the fault of a token that does not fit after a front
abbrev pub IsTokenFault : Bool → List Placed → Placed → LayerFault → Type 0
IsTokenFault exact front next (faults.Kind at) = (at ≡ next.start) × Decides exact front next.token kind
IsTokenFault exact front next (faults.Height at) = (at ≡ next.start) × Decides exact front next.token height
IsTokenFault exact front next (faults.Deep at) = (at ≡ next.start) × Decides exact front next.token deep
IsTokenFault exact front next (faults.Number at fault) =
    (at ≡ next.start) × Decides exact front next.token unread × IsAnswer next.token fault
IsTokenFault exact front next (faults.Inexact at) = (at ≡ next.start) × Decides exact front next.token inexact
IsTokenFault exact front next (faults.Ring at) = Decides exact front next.token ring × EndsInPoints front at
IsTokenFault exact front next (faults.Bad at) =
    (at ≡ next.start) × ((row : Row) → Speaks exact front next.token row → ⊥)
IsTokenFault exact front next fault = ⊥

-- the fault at what comes after a front: a token, or the line's end
abbrev pub IsFaultBehind : Bool → List Placed → List Placed → ℕ → LayerFault → Type 0
IsFaultBehind exact front (next ∷ more) end fault = IsTokenFault exact front next fault
IsFaultBehind exact front [] end fault = fault ≡ faults.Bad end

-- The tokens, after which the line ends at this place, are those of no well-formed line; the fault comes after the
-- longest front that begins one.
pub record IsFaultOf (exact : Bool) (line : List Placed) (end : ℕ) (fault : LayerFault) : Type 0 where
  pub at : ℕ
  pub first : IsFirstFault (IsLine exact) (tokens_in line) at
  pub named : IsFaultBehind exact (take at line) (drop at line) end fault

-- a line of blanks alone has no fault
abbrev pub IsLineFault : Bool → List Placed → ℕ → LayerFault → Type 0
IsLineFault exact [] end fault = ⊥
IsLineFault exact (first ∷ more) end fault = IsFaultOf exact (first ∷ more) end fault
