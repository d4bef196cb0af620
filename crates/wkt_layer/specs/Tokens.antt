-- The tokens of a line of well-known text (OGC 06-103r4, section 7.2): brackets, commas, words and numbers, with blanks
-- between them or none.
use Rattle.text_places.specs.Blanks.{is_blank_byte}
use Rattle.std.specs.Prelude.{ℕ, zero, suc, ◌+◌, ◌-◌, ◌==◌, ◌||◌, Bool, if◌then◌else◌, List, [], ◌∷◌, ◌++◌, take, codes}
use Rattle.std.specs.List.{prefix_len}
use Rattle.std.specs.Char.{is_ascii_alphabetic, is_ascii_digit}
use Rattle.std.specs.Str.{str_eq_ignore_ascii_case}
use Rattle.wkt_layer.specs.declared.words.GeometryKind.TheVariants.{Point, LineString, Polygon, MultiPoint, MultiLineString}
use Rattle.wkt_layer.specs.declared.words.GeometryKind.TheVariants.{MultiPolygon, Collection}
use Rattle.wkt_layer.specs.declared.words.LineWord.{LineWord}
use Rattle.wkt_layer.specs.declared.words.LineWord.TheVariants.{Tag, Empty, Z, Height, Other}

-- a number's bytes, and the place in the text where they begin
pub record Number : Type 0 where
  pub start : ℕ
  pub text : List ℕ

pub data Token : Type 0 where
  opening : Token
  closing : Token
  comma : Token
  word : LineWord → Token
  number : Number → Token
  -- a byte that begins no token
  stray : Token

-- a token, and the place where it begins
pub record Placed : Type 0 where
  pub start : ℕ
  pub token : Token

-- a digit, +, -, ., e or E
abbrev pub is_numeric : ℕ → Bool
is_numeric byte = is_ascii_digit byte || byte == 43 || byte == 45 || byte == 46 || byte == 101 || byte == 69

-- what the word of these letters is, in either case
abbrev pub word_of : List ℕ → LineWord
word_of text =
    if str_eq_ignore_ascii_case text (codes "POINT") then Tag Point
    else if str_eq_ignore_ascii_case text (codes "LINESTRING") then Tag LineString
    else if str_eq_ignore_ascii_case text (codes "POLYGON") then Tag Polygon
    else if str_eq_ignore_ascii_case text (codes "MULTIPOINT") then Tag MultiPoint
    else if str_eq_ignore_ascii_case text (codes "MULTILINESTRING") then Tag MultiLineString
    else if str_eq_ignore_ascii_case text (codes "MULTIPOLYGON") then Tag MultiPolygon
    else if str_eq_ignore_ascii_case text (codes "GEOMETRYCOLLECTION") then Tag Collection
    else if str_eq_ignore_ascii_case text (codes "EMPTY") then Empty
    else if str_eq_ignore_ascii_case text (codes "Z") then Z
    else if str_eq_ignore_ascii_case text (codes "M") || str_eq_ignore_ascii_case text (codes "ZM") then Height
    else Other

-- how long the token is that begins with this byte before the others: a word is the longest run of letters, a number
-- the longest run of its bytes that begins with no letter
abbrev pub token_length : ℕ → List ℕ → ℕ
token_length byte bytes =
    if is_ascii_alphabetic byte then prefix_len is_ascii_alphabetic (byte ∷ bytes)
    else if is_numeric byte then prefix_len is_numeric (byte ∷ bytes)
    else 1

-- the token of this text, which begins with this byte at this place
abbrev pub token_of : ℕ → ℕ → List ℕ → Token
token_of at byte text =
    if is_ascii_alphabetic byte then word (word_of text)
    else if is_numeric byte then number (record { start = at; text = text })
    else if byte == 40 then opening
    else if byte == 41 then closing
    else if byte == 44 then comma
    else stray

-- the token that begins at this place with this byte before the others, unless the byte is a blank
abbrev pub token_at : ℕ → ℕ → List ℕ → List Placed
token_at at byte bytes =
    if is_blank_byte byte then []
    else record { start = at; token = token_of at byte (take (token_length byte bytes) (byte ∷ bytes)) } ∷ []

-- how many bytes after this one belong to the same token
abbrev pub bytes_behind : ℕ → List ℕ → ℕ
bytes_behind byte bytes = if is_blank_byte byte then 0 else token_length byte bytes - 1

-- the tokens of bytes that begin at this place, without as many first bytes as this, which belong to a token before
abbrev pub tokens_behind : ℕ → ℕ → List ℕ → List Placed
tokens_behind passed at [] = []
tokens_behind (suc passed) at (byte ∷ bytes) = tokens_behind passed (at + 1) bytes
tokens_behind zero at (byte ∷ bytes) = token_at at byte bytes ++ tokens_behind (bytes_behind byte bytes) (at + 1) bytes

-- the tokens of a line that begins at this place
abbrev pub tokens_of : ℕ → List ℕ → List Placed
tokens_of at line = tokens_behind 0 at line
