-- Cutting bytes between two tokens, and putting other bytes after a token.
use Rattle.std.proofs.Common.{◌≡◌, ℕ, suc, ◌+◌, ◌-◌, Bool, true, false, List, [], ◌∷◌, ◌++◌, length, take, drop}
use Rattle.std.proofs.Common.{refl, sym, ap, ◌∙◌, subst, append_assoc, arith, length-append}
use Rattle.std.specs.List.{list_all, prefix_len}
use Rattle.std.specs.Char.{is_ascii_alphabetic}
use Rattle.std.proofs.lemmas.Bool.{and_parts, eqb-true}
use Rattle.std.proofs.lemmas.List.{length-take-le, take-append-drop}
use Rattle.sheet_base.proofs.ListParts.{drop_front}
use Rattle.text_places.specs.Blanks.{is_blank_byte}
use Rattle.wkt_layer.specs.Tokens.{Number, Token, opening, closing, comma, word, number, stray, is_numeric}
use Rattle.wkt_layer.specs.Tokens.{token_length, word_of, token_of, tokens_of, tokens_behind}
use Rattle.wkt_layer.specs.declared.words.LineWord.{LineWord}
use Rattle.wkt_layer.specs.Lines.{tokens_in}
use Rattle.wkt_layer.proofs.SheetLaws.EditOrder.{token_size}
use Rattle.wkt_layer.proofs.CodeReads.TokenReads.{passed, blank_first, black_first}
use Rattle.plain_laws.proofs.Lists.{take_front}

-- the tokens of bytes that begin at this place
abbrev pub lexed : ℕ → List ℕ → List Token
lexed at bytes = tokens_in (tokens_of at bytes)

-- the first of these bytes does not pass
abbrev pub Stops : (ℕ → Bool) → List ℕ → Type 0
Stops p [] = Unit {0}
Stops p (byte ∷ bytes) = p byte ≡ false

-- neither a word nor a number goes on in these bytes
pub record Clear (bytes : List ℕ) : Type 0 where
  pub letters : Stops is_ascii_alphabetic bytes
  pub numbers : Stops is_numeric bytes

-- ---- the longest front that passes
front_passes : (p : ℕ → Bool) (xs rest : List ℕ) → prefix_len p (xs ++ rest) ≡ length xs
    → (list_all p xs ≡ true) × Stops p rest
front_passes p [] [] e = (refl, tt)
front_passes p [] (b ∷ rest) e = grind (arith)
front_passes p (x ∷ xs) rest e = grind (arith, (front_passes p xs rest))

pub passes_front : (p : ℕ → Bool) (xs rest : List ℕ) → list_all p xs ≡ true → Stops p rest
    → prefix_len p (xs ++ rest) ≡ length xs
passes_front p [] [] all stops = refl
passes_front p [] (b ∷ rest) all stops = rw stops refl
passes_front p (x ∷ xs) rest all stops = grind (arith, and_parts, (passes_front p xs rest))

-- ---- the token that begins with a byte
word_case : (at byte : ℕ) (text : List ℕ) → is_ascii_alphabetic byte ≡ true
    → token_of at byte text ≡ word (word_of text)
word_case at byte text e = rw e refl

pub number_case : (at byte : ℕ) (text : List ℕ) → is_ascii_alphabetic byte ≡ false → is_numeric byte ≡ true
    → (let n : Number = record { start = at; text = text } in token_of at byte text ≡ number n)
number_case at byte text e f = rw (e, f) refl

other_case : (at from byte : ℕ) (text other : List ℕ) → is_ascii_alphabetic byte ≡ false → is_numeric byte ≡ false
    → token_of at byte text ≡ token_of from byte other
other_case at from byte text other e f = rw (e, f) refl

word_length : (byte : ℕ) (bytes : List ℕ) → is_ascii_alphabetic byte ≡ true
    → token_length byte bytes ≡ prefix_len is_ascii_alphabetic (byte ∷ bytes)
word_length byte bytes e = rw e refl

pub number_length : (byte : ℕ) (bytes : List ℕ) → is_ascii_alphabetic byte ≡ false → is_numeric byte ≡ true
    → token_length byte bytes ≡ prefix_len is_numeric (byte ∷ bytes)
number_length byte bytes e f = rw (e, f) refl

other_length : (byte : ℕ) (bytes : List ℕ) → is_ascii_alphabetic byte ≡ false → is_numeric byte ≡ false
    → token_length byte bytes ≡ 1
other_length byte bytes e f = rw (e, f) refl

-- ---- blanks, and a token
pub gap_lexed : (at : ℕ) (gap bytes : List ℕ) → list_all is_blank_byte gap ≡ true
    → lexed at (gap ++ bytes) ≡ lexed (at + length gap) bytes
gap_lexed at [] bytes all = let e : at ≡ at + 0 = omega arith in ap (λ n. lexed n bytes) e
gap_lexed at (b ∷ gap) bytes all =
    let parts = and_parts (is_blank_byte b) (list_all is_blank_byte gap) all in
    let e : at + 1 + length gap ≡ at + suc (length gap) = omega arith in
    ap tokens_in (blank_first at b (gap ++ bytes) parts.0) ∙ gap_lexed (at + 1) gap bytes parts.1
    ∙ ap (λ n. lexed n bytes) e

pub token_lexed : (at byte : ℕ) (more behind : List ℕ) → is_blank_byte byte ≡ false
    → token_length byte (more ++ behind) ≡ length (byte ∷ more)
    → lexed at (byte ∷ (more ++ behind)) ≡ token_of at byte (byte ∷ more) ∷ lexed (at + length (byte ∷ more)) behind
token_lexed at byte more behind black long =
    let one : token_length byte (more ++ behind) - 1 ≡ length more = omega (arith, long) in
    let place : at + 1 + length more ≡ at + suc (length more) = omega arith in
    ap tokens_in (black_first at byte (more ++ behind) black)
    ∙ ap (λ n. token_of at byte (take n (byte ∷ (more ++ behind)))
    ∷ tokens_in (tokens_behind (token_length byte (more ++ behind) - 1) (at + 1) (more ++ behind))) long
    ∙ ap (λ text. token_of at byte (byte ∷ text)
    ∷ tokens_in (tokens_behind (token_length byte (more ++ behind) - 1) (at + 1) (more ++ behind)))
    (take_front more behind)
    ∙ ap (λ ts. token_of at byte (byte ∷ more) ∷ ts)
    (ap (λ n. tokens_in (tokens_behind n (at + 1) (more ++ behind))) one
    ∙ ap tokens_in (passed (length more) (at + 1) (more ++ behind))
    ∙ ap (λ bytes. lexed (at + 1 + length more) bytes) (drop_front more behind) ∙ ap (λ n. lexed n behind) place)

-- ---- the first token of bytes, and what comes after it
pub record Cut (at : ℕ) (bytes : List ℕ) (t : Token) (others : List Token) : Type 0 where
  pub gap : List ℕ
  pub byte : ℕ
  pub more : List ℕ
  pub rest : List ℕ
  pub split : bytes ≡ gap ++ byte ∷ (more ++ rest)
  pub blank : list_all is_blank_byte gap ≡ true
  pub black : is_blank_byte byte ≡ false
  pub long : token_length byte (more ++ rest) ≡ length (byte ∷ more)
  pub is : t ≡ token_of (at + length gap) byte (byte ∷ more)
  pub left : lexed (at + length gap + length (byte ∷ more)) rest ≡ others

black_cut : (at byte : ℕ) (bytes : List ℕ) (t : Token) (others : List Token) → is_blank_byte byte ≡ false
    → lexed at (byte ∷ bytes) ≡ t ∷ others → Cut at (byte ∷ bytes) t others
black_cut at byte bytes t others black e =
    let (some, within) = token_size byte bytes in
    let n = token_length byte bytes - 1 in
    let more = take n bytes in
    let rest = drop n bytes in
    let all : more ++ rest ≡ bytes = take-append-drop n bytes in
    let count : length more ≡ n = length-take-le n bytes (omega (arith, within)) in
    let long : token_length byte (more ++ rest) ≡ suc (length more) = ap (token_length byte) all
    ∙ omega (arith, count, some) in
    let is = sym (token_lexed at byte more rest black long) ∙ ap (λ xs. lexed at (byte ∷ xs)) all ∙ e in
    let place : at + 0 ≡ at = omega arith in
    record {
      gap = [];
      byte = byte;
      more = more;
      rest = rest;
      split = ap (λ xs. byte ∷ xs) (sym all);
      blank = refl;
      black = black;
      long = long;
      is = let first : token_of at byte (byte ∷ more) ≡ t = cc in sym first
          ∙ ap (λ k. token_of k byte (byte ∷ more)) (sym place);
      left = let later : lexed (at + suc (length more)) rest ≡ others =
          cc in ap (λ k. lexed (k + suc (length more)) rest) place ∙ later;
    }

pub first_cut : (at : ℕ) (bytes : List ℕ) (t : Token) (others : List Token) → lexed at bytes ≡ t ∷ others
    → Cut at bytes t others
first_cut at [] t others e = cc
first_cut at (byte ∷ bytes) t others e = by_test (is_blank_byte byte) refl (first_cut (at + 1) bytes t others)
  where
    longer : Cut (at + 1) bytes t others → is_blank_byte byte ≡ true → Cut at (byte ∷ bytes) t others
    longer c is =
        let place : at + 1 + length c.gap ≡ at + suc (length c.gap) = omega arith in
        record {
          gap = byte ∷ c.gap;
          byte = c.byte;
          more = c.more;
          rest = c.rest;
          split = ap (λ xs. byte ∷ xs) c.split;
          blank = rw is c.blank;
          black = c.black;
          long = c.long;
          is = c.is ∙ ap (λ k. token_of k c.byte (c.byte ∷ c.more)) place;
          left = ap (λ k. lexed (k + suc (length c.more)) c.rest) (sym place) ∙ c.left;
        }

    by_test : (b : Bool) → is_blank_byte byte ≡ b → (lexed (at + 1) bytes ≡ t ∷ others → Cut (at + 1) bytes t others)
        → Cut at (byte ∷ bytes) t others
    by_test true is on = longer (on (sym (ap tokens_in (blank_first at byte bytes is)) ∙ e)) is
    by_test false is on = black_cut at byte bytes t others is e

-- ---- a token that is kept
abbrev pub IsNoNumber : Token → Type 0
IsNoNumber opening = Unit {0}
IsNoNumber closing = Unit {0}
IsNoNumber comma = Unit {0}
IsNoNumber (word w) = Unit {0}
IsNoNumber (number n) = ⊥
IsNoNumber stray = Unit {0}

-- what may come after it: after a word no letter
abbrev pub MayFollow : Token → List ℕ → Type 0
MayFollow opening bytes = Unit {0}
MayFollow closing bytes = Unit {0}
MayFollow comma bytes = Unit {0}
MayFollow (word w) bytes = Stops is_ascii_alphabetic bytes
MayFollow (number n) bytes = Stops is_numeric bytes
MayFollow stray bytes = Unit {0}

-- the first token with the blanks before it, and what comes after it; other bytes may be there
pub record FirstTokenCut (at : ℕ) (bytes : List ℕ) (t : Token) (others : List Token) : Type 0 where
  pub piece : List ℕ
  pub rest : List ℕ
  pub split : bytes ≡ piece ++ rest
  pub left : lexed (at + length piece) rest ≡ others
  pub follows : MayFollow t rest
  pub keeps : (from : ℕ) (behind : List ℕ) → MayFollow t behind
      → lexed from (piece ++ behind) ≡ t ∷ lexed (from + length piece) behind
  pub heads : Clear bytes → (behind : List ℕ) → Clear (piece ++ behind)

not_word : (at byte : ℕ) (text : List ℕ) (w : LineWord) → is_ascii_alphabetic byte ≡ false → is_numeric byte ≡ false
    → word w ≡ token_of at byte text → ⊥
not_word at byte text w e f is = grind (arith)

-- a token that is no number stays the same before other bytes
pub record Stays (t : Token) (byte : ℕ) (more rest : List ℕ) : Type 0 where
  pub follows : MayFollow t rest
  pub keeps : (from : ℕ) (behind : List ℕ) → MayFollow t behind
      → lexed from (byte ∷ (more ++ behind)) ≡ t ∷ lexed (from + length (byte ∷ more)) behind

stays : (at : ℕ) (t : Token) (byte : ℕ) (more rest : List ℕ) → IsNoNumber t → is_blank_byte byte ≡ false
    → token_length byte (more ++ rest) ≡ length (byte ∷ more)
    → t ≡ token_of at byte (byte ∷ more) → Stays t byte more rest
stays at t byte more rest kept black long is = by_letter (is_ascii_alphabetic byte) refl (is_numeric byte) refl
  where
    -- a sign may come before any bytes
    before_any : (t : Token) (bytes : List ℕ) → IsNoNumber t → ((w : LineWord) → t ≡ word w → ⊥) → MayFollow t bytes
    before_any (word w) bytes k unworded = absurd (unworded w refl)
    before_any (number n) bytes k unworded = absurd k
    before_any t bytes k unworded = tt

    by_letter : (a : Bool) → is_ascii_alphabetic byte ≡ a → (b : Bool) → is_numeric byte ≡ b → Stays t byte more rest
    by_letter true e b f = grind (arith, word_case, front_passes, word_length, token_lexed, passes_front)
    by_letter false e true f = absurd (subst IsNoNumber (is ∙ number_case at byte (byte ∷ more) e f) kept)
    by_letter false e false f =
        let unworded : (w : LineWord) → t ≡ word w → ⊥ = λ w same. not_word at byte (byte ∷ more) w e f (sym same ∙ is) in
        record {
          follows = before_any t rest kept unworded;
          keeps = λ from behind may.
              token_lexed from byte more behind black
              (other_length byte (more ++ behind) e f ∙ sym (other_length byte (more ++ rest) e f) ∙ long)
              ∙ ap (λ x. x ∷ lexed (from + length (byte ∷ more)) behind)
              (other_case from at byte (byte ∷ more) (byte ∷ more) e f ∙ sym is);
        }

-- what comes after the first byte matters to no token before
clear_heads : (gap : List ℕ) (byte : ℕ) (xs ys : List ℕ) → Clear (gap ++ byte ∷ xs) → Clear (gap ++ byte ∷ ys)
clear_heads [] byte xs ys c = record { letters = c.letters; numbers = c.numbers }
clear_heads (b ∷ gap) byte xs ys c = record { letters = c.letters; numbers = c.numbers }

pub kept_cut : (at : ℕ) (bytes : List ℕ) (t : Token) (others : List Token) → IsNoNumber t → lexed at bytes ≡ t ∷ others
    → FirstTokenCut at bytes t others
kept_cut at bytes t others kept e = go (first_cut at bytes t others e)
  where
    go : Cut at bytes t others → FirstTokenCut at bytes t others
    go c = on (stays (at + length c.gap) t c.byte c.more c.rest kept c.black c.long c.is)
      where
        on : Stays t c.byte c.more c.rest → FirstTokenCut at bytes t others
        on s =
            let piece = c.gap ++ c.byte ∷ c.more in
            let size : (from : ℕ) → from + length c.gap + length (c.byte ∷ c.more) ≡ from + length piece =
            λ from. let l = length-append c.gap (c.byte ∷ c.more) in omega (arith, l) in
            let along : (xs : List ℕ) → piece ++ xs ≡ c.gap ++ c.byte ∷ (c.more ++ xs) =
            λ xs. append_assoc c.gap (c.byte ∷ c.more) xs in
            record {
              piece = piece;
              rest = c.rest;
              split = c.split ∙ sym (along c.rest);
              left = ap (λ n. lexed n c.rest) (sym (size at)) ∙ c.left;
              follows = s.follows;
              keeps = λ from behind may.
                  ap (lexed from) (along behind) ∙ gap_lexed from c.gap (c.byte ∷ (c.more ++ behind)) c.blank
                  ∙ s.keeps (from + length c.gap) behind may
                  ∙ ap (λ n. t ∷ lexed n behind) (size from);
              heads = λ clear behind. subst Clear (sym (along behind))
                  (clear_heads c.gap c.byte (c.more ++ c.rest) (c.more ++ behind) (subst Clear c.split clear));
            }

-- ---- where no token goes on
blank_clear : (byte : ℕ) → is_blank_byte byte ≡ true → (is_ascii_alphabetic byte ≡ false) × (is_numeric byte ≡ false)
blank_clear byte is = grind (arith, eqb-true)

clear_gap : (gap bytes : List ℕ) → list_all is_blank_byte gap ≡ true → Clear bytes → Clear (gap ++ bytes)
clear_gap [] bytes all clear = clear
clear_gap (b ∷ gap) bytes all clear = grind (arith, and_parts, blank_clear)

-- a sign, or after a word another word
sign_byte : (at byte : ℕ) (text : List ℕ) (t : Token) → IsNoNumber t → ((w : LineWord) → t ≡ word w → ⊥)
    → t ≡ token_of at byte text → (is_ascii_alphabetic byte ≡ false) × (is_numeric byte ≡ false)
sign_byte at byte text t kept unworded is = by_letter (is_ascii_alphabetic byte) refl (is_numeric byte) refl
  where
    by_letter : (a : Bool) → is_ascii_alphabetic byte ≡ a → (b : Bool) → is_numeric byte ≡ b
        → (is_ascii_alphabetic byte ≡ false) × (is_numeric byte ≡ false)
    by_letter true e b f = absurd (unworded (word_of text) (is ∙ word_case at byte text e))
    by_letter false e true f = absurd (subst IsNoNumber (is ∙ number_case at byte text e f) kept)
    by_letter false e false f = (e, f)

clear_token : (at : ℕ) (bytes : List ℕ) (t : Token) (others : List Token) → IsNoNumber t → ((w : LineWord) → t ≡ word w → ⊥)
    → lexed at bytes ≡ t ∷ others → Clear bytes
clear_token at bytes t others kept unworded e = go (first_cut at bytes t others e)
  where
    go : Cut at bytes t others → Clear bytes
    go c =
        let (letters, numbers) = sign_byte (at + length c.gap) c.byte (c.byte ∷ c.more) t kept unworded c.is in
        subst Clear (sym c.split) (clear_gap c.gap (c.byte ∷ (c.more ++ c.rest)) c.blank
        (record { letters = letters; numbers = numbers }))

pub clear_opening : (at : ℕ) (bytes : List ℕ) (others : List Token) → lexed at bytes ≡ opening ∷ others → Clear bytes
clear_opening at bytes others e = clear_token at bytes opening others tt (λ w is. cc) e

pub clear_closing : (at : ℕ) (bytes : List ℕ) (others : List Token) → lexed at bytes ≡ closing ∷ others → Clear bytes
clear_closing at bytes others e = clear_token at bytes closing others tt (λ w is. cc) e

pub clear_comma : (at : ℕ) (bytes : List ℕ) (others : List Token) → lexed at bytes ≡ comma ∷ others → Clear bytes
clear_comma at bytes others e = clear_token at bytes comma others tt (λ w is. cc) e

pub clear_end : (at : ℕ) (bytes : List ℕ) → lexed at bytes ≡ [] → Clear bytes
clear_end at [] e = record { letters = tt; numbers = tt }
clear_end at (byte ∷ bytes) e = by_test (is_blank_byte byte) refl
  where
    by_test : (b : Bool) → is_blank_byte byte ≡ b → Clear (byte ∷ bytes)
    by_test true is = let (letters, numbers) = blank_clear byte is in record { letters = letters; numbers = numbers }
    by_test false is = let f = sym (ap tokens_in (black_first at byte bytes is)) ∙ e in cc

-- between two words is a blank
pub clear_word : (at : ℕ) (bytes : List ℕ) (w : LineWord) (others : List Token) → Stops is_ascii_alphabetic bytes
    → lexed at bytes ≡ word w ∷ others → Clear bytes
clear_word at bytes w others stops e = grind (arith, first_cut, and_parts, blank_clear, number_case, not_word)
