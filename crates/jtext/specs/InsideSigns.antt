-- What a byte can be outside of words and texts. Only private functions speak of it.
use Rattle.std.specs.Prelude.{ℕ, ◌&&◌, ◌||◌, ◌==◌, nat_le, if◌then◌else◌, List, [], ◌∷◌}
use Rattle.jtext.specs.declared.document.Kind.{Kind}
use Rattle.jtext.specs.declared.document.Kind.TheVariants as kinds
use Rattle.jtext.specs.declared.signs.Bracket.{Bracket}
use Rattle.jtext.specs.declared.signs.Bracket.TheVariants.{Square, Curly}
use Rattle.jtext.specs.declared.signs.Word.{Word}
use Rattle.jtext.specs.declared.signs.Word.TheVariants as words
use Rattle.jtext.specs.declared.signs.Sign.{Sign}
use Rattle.jtext.specs.declared.signs.Sign.TheVariants as signs

abbrev pub byte_sign : ℕ → Sign
byte_sign byte =
    if nat_le 49 byte && nat_le byte 57 then signs.Digit
    else if byte == 48 then signs.Zero
    else if byte == 44 then signs.Comma
    else if byte == 32 || byte == 9 || byte == 10 || byte == 13 then signs.Blank
    else if byte == 34 then signs.Quote
    else if byte == 91 then signs.Opening Square
    else if byte == 123 then signs.Opening Curly
    else if byte == 93 then signs.Closing Square
    else if byte == 125 then signs.Closing Curly
    else if byte == 58 then signs.Colon
    else if byte == 45 then signs.Minus
    else if byte == 43 then signs.Plus
    else if byte == 46 then signs.Point
    else if byte == 101 || byte == 69 then signs.Mark
    else if byte == 110 then signs.Letter words.Null
    else if byte == 116 then signs.Letter words.True
    else if byte == 102 then signs.Letter words.False
    else if byte == 239 then signs.First
    else signs.Other

abbrev pub opening : Bracket → ℕ
opening Square = 91
opening Curly = 123

abbrev pub closing : Bracket → ℕ
closing Square = 93
closing Curly = 125

abbrev pub bracket_kind : Bracket → Kind
bracket_kind Square = kinds.Array
bracket_kind Curly = kinds.Object

-- the first letter of a word, and the others
abbrev pub letter : Word → ℕ
letter words.Null = 110
letter words.True = 116
letter words.False = 102

abbrev pub word_rest : Word → List ℕ
word_rest words.Null = 117 ∷ 108 ∷ 108 ∷ []
word_rest words.True = 114 ∷ 117 ∷ 101 ∷ []
word_rest words.False = 97 ∷ 108 ∷ 115 ∷ 101 ∷ []

abbrev pub word_kind : Word → Kind
word_kind words.Null = kinds.Null
word_kind words.True = kinds.True
word_kind words.False = kinds.False
