-- Texts that are shown: they are short, plain, and the text itself where this is short and plain.
use Rattle.std.proofs.Common.{◌≡◌, ℕ, ◌+◌, ◌-◌, ◌<◌, ◌≤◌, ◌/◌, ◌%◌, Bool, true, false, nat_lt, List, [], ◌∷◌, ◌++◌}
use Rattle.std.proofs.Common.{length, refl, sym, ◌∙◌, ap, ap₂, subst, arith}
use Rattle.std.specs.Prelude.{◌&&◌}
use Rattle.std.specs.List.{AllByRecursion}
use Rattle.std.specs.Char.{digit_char, encode_utf8}
use Rattle.std.specs.Str.{chars}
use Rattle.std.proofs.Math.Utf8.{scalar, scalars, encodes}
use Rattle.std.proofs.lemmas.Bool.{ltb-false, le-ltb, and_parts}
use Rattle.std.proofs.lemmas.Bool.Decides.{nat_tests}
use Rattle.std.proofs.lemmas.List.{length-append, append-nil}
use Rattle.std.proofs.lemmas.Str.{encodes-append, encodes-chars, chars-encodes, scalars-chars, encode_ascii}
use Rattle.shown_text.specs.declared.texts.TheConstants.{MOST_SHOWN}
use Rattle.shown_text.specs.Characters.{is_order, two_digits, escape_of, shown_character, size_of}
use Rattle.shown_text.specs.Texts.{shown_within, shown_of}
use Rattle.shown_text.specs.Laws.{ShownTextsArePlain, ShownTextsAreShort, ShortPlainTextsStay}

-- ---- short
short : (room : ℕ) (cs : List ℕ) → length (shown_within room cs) ≤ room + 2
short room [] = omega arith
short room (c ∷ cs) = go (short (room - size_of c) cs) (nat_lt room (size_of c)) refl
  where
    go : length (shown_within (room - size_of c) cs) ≤ room - size_of c + 2 → (b : Bool) → nat_lt room (size_of c) ≡ b
        → length (shown_within room (c ∷ cs)) ≤ room + 2
    go rest true is = rw is (omega arith)
    go rest false is =
        let fits : size_of c ≤ room = ltb-false room (size_of c) is in
        let sum : length (shown_character c ++ shown_within (room - size_of c) cs) ≡ size_of c + length
        (shown_within (room - size_of c) cs) =
        length-append (shown_character c) (shown_within (room - size_of c) cs) in
        rw is (omega (arith, fits, rest, sum))

pub shown_short : ShownTextsAreShort
shown_short bytes = short MOST_SHOWN (chars bytes)

-- ---- a short plain text stays
stays : (room : ℕ) (cs : List ℕ) → AllByRecursion (λ code. is_order code ≡ false) cs → length (encodes cs) ≤ room
    → shown_within room cs ≡ encodes cs
stays room [] plain few = refl
stays room (c ∷ cs) (plain, others) few =
    let as_is : shown_character c ≡ encode_utf8 c = rw plain refl in
    let sum : length (encodes (c ∷ cs)) ≡ length (encode_utf8 c) + length (encodes cs) = length-append (encode_utf8 c)
    (encodes cs) in
    let size : size_of c ≡ length (encode_utf8 c) = ap (λ (t : List ℕ). length t) as_is in
    let fits : nat_lt room (size_of c) ≡ false = le-ltb room (size_of c) (omega (arith, few, sum, size)) in
    rw fits
    (ap₂ (λ (s t : List ℕ). s ++ t) as_is (stays (room - size_of c) cs others (omega (arith, few, sum, size))))

pub plain_stays : ShortPlainTextsStay
plain_stays bytes utf8 plain few =
    let same : encodes (chars bytes) ≡ bytes = encodes-chars bytes utf8 in
    stays MOST_SHOWN (chars bytes) plain (subst (λ (t : List ℕ). length t ≤ MOST_SHOWN) (sym same) few) ∙ same

-- ---- plain
-- a code is that of a character, and of no order
record IsPlainCode (code : ℕ) : Type 0 where
  is_scalar : scalar code ≡ true
  no_order : is_order code ≡ false

-- the bytes spell such codes
record IsPlainText (bytes : List ℕ) : Type 0 where
  spelled : List ℕ
  plain : AllByRecursion IsPlainCode spelled
  are : encodes spelled ≡ bytes

printable : (code : ℕ) → 32 ≤ code → code < 127 → IsPlainCode code
printable code low high = record { is_scalar = grind (arith, nat_tests); no_order = grind (arith, nat_tests) }

digit_plain : (digit : ℕ) → digit < 16 → (32 ≤ digit_char digit) × (digit_char digit < 127)
digit_plain digit below = grind (arith, nat_tests)

all_joined : (cs ds : List ℕ) → AllByRecursion IsPlainCode cs → AllByRecursion IsPlainCode ds
    → AllByRecursion IsPlainCode (cs ++ ds)
all_joined [] ds of_cs of_ds = of_ds
all_joined (c ∷ cs) ds (first, others) of_ds = (first, all_joined cs ds others of_ds)

joined : (text more : List ℕ) → IsPlainText text → IsPlainText more → IsPlainText (text ++ more)
joined text more a b = record {
  spelled = a.spelled ++ b.spelled;
  plain = all_joined a.spelled b.spelled a.plain b.plain;
  are = encodes-append a.spelled b.spelled ∙ ap₂ (λ (s t : List ℕ). s ++ t) a.are b.are;
}

-- one printable byte after others
behind : (byte : ℕ) (more : List ℕ) → 32 ≤ byte → byte < 127 → IsPlainText more → IsPlainText (byte ∷ more)
behind byte more low high rest = record {
  spelled = byte ∷ rest.spelled;
  plain = (printable byte low high, rest.plain);
  are = ap₂ (λ (s t : List ℕ). s ++ t) (encode_ascii byte (omega (arith, high))) rest.are;
}

nothing : IsPlainText []
nothing = record { spelled = []; plain = tt; are = refl }

digit_behind : (digit : ℕ) (more : List ℕ) → digit < 16 → IsPlainText more → IsPlainText (digit_char digit ∷ more)
digit_behind digit more below rest =
    let is = digit_plain digit below in behind (digit_char digit) more is.0 is.1 rest

two_plain : (code : ℕ) → IsPlainText (two_digits code)
two_plain code = digit_behind (code / 16 % 16) (digit_char (code % 16) ∷ []) (omega arith)
    (digit_behind (code % 16) [] (omega arith) nothing)

small_order : (code : ℕ) → is_order code ≡ true → code < 65536
small_order code is = grind (arith, nat_tests, is)

escape_plain : (code : ℕ) → code < 65536 → IsPlainText (escape_of code)
escape_plain code below = go (nat_lt code 256) refl
  where
    go : (b : Bool) → nat_lt code 256 ≡ b → IsPlainText (escape_of code)
    go true is = rw is
        (behind 92 _ (omega arith) (omega arith) (behind 120 _ (omega arith) (omega arith) (two_plain code)))
    go false is = rw is
        (behind 92 _ (omega arith) (omega arith) (behind 117 _ (omega arith) (omega arith)
        (digit_behind (code / 4096) _ (omega (arith, below)) (digit_behind (code / 256 % 16) _ (omega arith)
        (two_plain code)))))

character_plain : (code : ℕ) → scalar code ≡ true → IsPlainText (shown_character code)
character_plain code is_scalar = go (is_order code) refl
  where
    go : (b : Bool) → is_order code ≡ b → IsPlainText (shown_character code)
    go true is = rw is (escape_plain code (small_order code is))
    go false is = rw is (record {
      spelled = code ∷ [];
      plain = (record { is_scalar = is_scalar; no_order = is }, tt);
      are = append-nil (encode_utf8 code);
    })

within_plain : (room : ℕ) (cs : List ℕ) → scalars cs ≡ true → IsPlainText (shown_within room cs)
within_plain room [] all = nothing
within_plain room (c ∷ cs) all =
    go (character_plain c (and_parts (scalar c) (scalars cs) all).0)
    (within_plain (room - size_of c) cs (and_parts (scalar c) (scalars cs) all).1) (nat_lt room (size_of c)) refl
  where
    go : IsPlainText (shown_character c) → IsPlainText (shown_within (room - size_of c) cs) → (b : Bool)
        → nat_lt room (size_of c) ≡ b → IsPlainText (shown_within room (c ∷ cs))
    go first others true is = rw is
        (behind 46 (46 ∷ []) (omega arith) (omega arith) (behind 46 [] (omega arith) (omega arith) nothing))
    go first others false is = rw is (joined (shown_character c) (shown_within (room - size_of c) cs) first others)

all_scalars : (cs : List ℕ) → AllByRecursion IsPlainCode cs → scalars cs ≡ true
all_scalars [] plain = refl
all_scalars (c ∷ cs) (first, others) = ap₂ (λ (a b : Bool). a && b) first.is_scalar (all_scalars cs others)

no_orders : (cs : List ℕ) → AllByRecursion IsPlainCode cs → AllByRecursion (λ code. is_order code ≡ false) cs
no_orders [] plain = tt
no_orders (c ∷ cs) (first, others) = (first.no_order, no_orders cs others)

pub shown_plain : ShownTextsArePlain
shown_plain bytes utf8 =
    let is = within_plain MOST_SHOWN (chars bytes) (scalars-chars bytes utf8) in
    let same : is.spelled ≡ chars (shown_of bytes) =
    sym (chars-encodes is.spelled (all_scalars is.spelled is.plain)) ∙ ap (λ (t : List ℕ). chars t) is.are in
    subst (λ (cs : List ℕ). AllByRecursion (λ code. is_order code ≡ false) cs) same
    (no_orders is.spelled is.plain)
