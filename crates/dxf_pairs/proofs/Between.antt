-- Codes, values between blanks, and the lines that give them.
use Rattle.std.proofs.Common.{◌≡◌, ◌==◌, ℕ, ◌≤◌, ℤ, pos, List, [], ◌∷◌, length, drop, Bool, true, false, cond, refl}
use Rattle.std.proofs.Common.{sym, arith, FitsSigned, w32, nat_lt, nat_le, Some, None, neg_ℤ, ◌<◌, ◌+◌, ◌-◌, inl, inr}
use Rattle.std.proofs.Common.{◌++◌, take, get_or, ◌∙◌, ap, subst}
use Rattle.std.specs.Prelude.{unsigned_abs, IsAscii, reverse}
use Rattle.std.proofs.lemmas.Int.{ints}
use Rattle.std.specs.Str.{all_ascii_digits, IsUtf8}
use Rattle.std.specs.Str.Parse.{digits_value, IsNumeral, without_leading_sign, signed_digits_value, starts_with_minus}
use Rattle.std.proofs.lemmas.Str.{IsUtf8-from_ascii}
use Rattle.std.proofs.lemmas.Str.Ascii.{IsAscii-nil, IsAscii-cons}
use Rattle.std.proofs.lemmas.Fmt.{IsAscii-from_digits}
use Rattle.std.proofs.lemmas.Bool.Decides.{nat_tests}
use Rattle.std.specs.List.{prefix_len, suffix_len, AllPass}
use Rattle.std.proofs.lemmas.List.{length-drop, length-append, length-take, length-take-le, take-append-drop}
use Rattle.std.proofs.lemmas.List.{get_or-take, get_or-drop, get_or-append-add, get_or_append_left, get_or-reverse}
use Rattle.std.proofs.lemmas.List.{length-reverse}
use Rattle.std.proofs.lemmas.List.Elements.{All-append}
use Rattle.std.proofs.Math.Seq.{take-append_seam, drop-append_seam, drop-length}
use Rattle.std.proofs.lemmas.List.Sums.{prefix_len-le-length, prefix_len_is, prefix_len_passes, prefix_len_stops}
use Rattle.std.proofs.lemmas.List.Sums.{suffix_len_is}
use Rattle.std.specs.Int.{IsInRange}
use Rattle.std.proofs.lemmas.Str.Parse.{digit_from_value, digit_at}
use Rattle.std.proofs.lemmas.Option.{none-some}
use Rattle.plain_laws.proofs.Booleans.{and_three, and_three_parts}
use Rattle.plain_laws.proofs.Digits.{digit_texts}
use Rattle.text_places.specs.Blanks.{is_blank_byte}
use Rattle.dxf_pairs.specs.Codes.{are_code_digits, number_of, code_of}
use Rattle.dxf_pairs.specs.declared.codes.TheConstants.{MOST_CODE}
use Rattle.dxf_pairs.specs.Values.{value_of, without_blanks_before}
use Rattle.dxf_pairs.specs.CodeLines.{IsBetweenBlanks, HasValue, HasCode, IsSigned, ValuesAreBetweenBlanks}
use Rattle.dxf_pairs.specs.CodeLines.{CodesAreWholeNumbers}

-- ---- texts of group codes
-- the digits of a group code, as the number's reading says them
pub record AreCodeDigits (digits : List ℕ) : Type 0 where
  pub numeral : IsNumeral 10 digits
  pub small : digits_value 10 digits ≤ MOST_CODE

are_digits : (digits : List ℕ) → are_code_digits digits ≡ true → AreCodeDigits digits
are_digits digits h =
    let parts = and_three_parts (nat_lt 0 (length digits)) (all_ascii_digits digits)
    (nat_le (digits_value 10 digits) MOST_CODE) h in
    let first = parts.0 in let last = parts.2 in
    record {
      numeral = (grind (arith, nat_tests, first), digit_texts.to digits parts.1);
      small = grind (arith, nat_tests, last);
    }

digits_are : (digits : List ℕ) → AreCodeDigits digits → are_code_digits digits ≡ true
digits_are digits h =
    let some = h.numeral.0 in let small = h.small in
    and_three (nat_lt 0 (length digits)) (all_ascii_digits digits) (nat_le (digits_value 10 digits) MOST_CODE)
    (grind (arith, nat_tests, some)) (digit_texts.from digits h.numeral.1) (grind (arith, nat_tests, small))

-- a sign and digits have the digits' magnitude
magnitude : (minus : Bool) (value : ℕ) → unsigned_abs (cond minus (neg_ℤ (pos value)) (pos value)) ≡ value
magnitude true value = omega (arith, ints)
magnitude false value = omega (arith, ints)

fits : (minus : Bool) (value : ℕ) → value ≤ MOST_CODE → FitsSigned w32 (cond minus (neg_ℤ (pos value)) (pos value))
fits true value h = omega (arith, ints)
fits false value h = omega (arith, ints)

pub code_fits : (text : List ℕ) → AreCodeDigits (without_leading_sign text)
    → FitsSigned w32 (signed_digits_value 10 text)
code_fits text h = fits (starts_with_minus text) (digits_value 10 (without_leading_sign text)) h.small

-- a text whose digits are ASCII is so too
by_sign : (b : ℕ) (bs : List ℕ) (minus plus : Bool) → (b == 45) ≡ minus → (b == 43) ≡ plus
    → IsAscii (cond minus bs (drop (cond plus 1 0) (b ∷ bs))) → IsAscii (b ∷ bs)
by_sign b bs true plus is _ h = IsAscii-cons b bs (grind (arith, nat_tests, is)) h
by_sign b bs false true _ is h = IsAscii-cons b bs (grind (arith, nat_tests, is)) h
by_sign b bs false false _ _ h = h

signs_ascii : (text : List ℕ) → IsAscii (without_leading_sign text) → IsAscii text
signs_ascii [] h = IsAscii-nil
signs_ascii (b ∷ bs) h = by_sign b bs (b == 45) (b == 43) refl refl h

pub code_utf8 : (text : List ℕ) → AreCodeDigits (without_leading_sign text) → IsUtf8 text
code_utf8 text h = IsUtf8-from_ascii text (signs_ascii text
    (IsAscii-from_digits (without_leading_sign text) h.numeral.1))

-- the number of a text, by whether its digits are those of a group code
by_test : (text : List ℕ) (test : Bool) → test ≡ are_code_digits (without_leading_sign text)
    → (test ≡ false → number_of text ≡ None) × (test ≡ true → number_of text ≡ Some (signed_digits_value 10 text))
by_test text test is = (λ no. rw (← is, no) refl, λ yes. rw (← is, yes) refl)

pub no_number : (text : List ℕ) → (AreCodeDigits (without_leading_sign text) → ⊥) → None ≡ number_of text
no_number text never = by (are_code_digits (without_leading_sign text)) refl
  where
    by : (test : Bool) → test ≡ are_code_digits (without_leading_sign text) → None ≡ number_of text
    by true is = absurd (never (are_digits (without_leading_sign text) (sym is)))
    by false is = sym ((by_test text false is).0 refl)

the_number : (text : List ℕ) → AreCodeDigits (without_leading_sign text)
    → number_of text ≡ Some (signed_digits_value 10 text)
the_number text h = (by_test text true (sym (digits_are (without_leading_sign text) h))).1 refl

-- what is read as a number of this magnitude is a group code
pub read_code : (text : List ℕ) (code : ℤ) → IsNumeral 10 (without_leading_sign text)
    → code ≡ signed_digits_value 10 text → unsigned_abs code ≤ MOST_CODE → Some code ≡ number_of text
read_code text code numeral is small = grind (arith, magnitude, the_number)

-- ---- what is between blanks, and the lines of group codes
-- a first part of blanks before another byte, or before nothing, is all blanks in front
front_is : (before rest : List ℕ) → AllPass is_blank_byte before
    → (0 < length rest → is_blank_byte (get_or rest 0 0) ≡ false)
    → prefix_len is_blank_byte (before ++ rest) ≡ length before
front_is before rest blanks first =
    let sizes = length-append before rest in
    prefix_len_is is_blank_byte (before ++ rest) (length before) 0 (omega arith)
    (λ k below. rw (get_or_append_left before rest 0 k below) (blanks k 0 below))
    (λ more. rw (at_seam before rest) (first (omega arith)))
  where
    at_seam : (before rest : List ℕ) → get_or (before ++ rest) (length before) 0 ≡ get_or rest 0 0
    at_seam [] rest = refl
    at_seam (byte ∷ before) rest = at_seam before rest

-- a back of blanks after another byte, or after nothing, is all blanks at the end
back_is : (front behind : List ℕ) → AllPass is_blank_byte behind
    → (0 < length front → is_blank_byte (get_or front (length front - 1) 0) ≡ false)
    → suffix_len is_blank_byte (front ++ behind) ≡ length behind
back_is front behind blanks last =
    let sizes = length-append front behind in
    let count : length (front ++ behind) - length front ≡ length behind = omega arith in
    suffix_len_is is_blank_byte (front ++ behind) (length front) 0 (omega arith)
    (λ k from below. let more : k ≡ length front + (k - length front) = omega arith in
    subst (λ (n : ℕ). is_blank_byte (get_or (front ++ behind) n 0) ≡ true) (sym more)
    (rw (get_or-append-add front behind (k - length front) 0) (blanks (k - length front) 0 (omega arith))))
    (λ some. rw (get_or_append_left front behind 0 (length front - 1) (omega arith)) (last some)) ∙ count

-- where all is blank, the value is empty
all_blank : (line : List ℕ) → AllPass is_blank_byte line → value_of line ≡ []
all_blank line blanks =
    let before : prefix_len is_blank_byte line ≡ length line =
    prefix_len_is is_blank_byte line (length line) 0 (omega arith) (λ k below. blanks k 0 below)
    (λ more. absurd (omega arith)) in
    let none : drop (length line) line ≡ [] = drop-length line in cc

-- a value that begins and ends with other bytes is what is between the blanks
some_value : (line value before behind : List ℕ) → 0 < length value → IsBetweenBlanks line value before behind
    → value_of line ≡ value
some_value line value before behind some is =
    let sizes = length-append value behind in
    let first : is_blank_byte (get_or (value ++ behind) 0 0) ≡ false =
    rw (get_or_append_left value behind 0 0 some) (is.first some) in
    let front : prefix_len is_blank_byte (before ++ (value ++ behind)) ≡ length before =
    front_is before (value ++ behind) is.blanks_before (λ _. first) in
    let back : suffix_len is_blank_byte (value ++ behind) ≡ length behind =
    back_is value behind is.blanks_behind is.last in
    let left : drop (length before) (before ++ (value ++ behind)) ≡ value ++ behind =
    drop-append_seam before (value ++ behind) in
    let count : length (value ++ behind) - length behind ≡ length value = omega arith in grind (arith, take-append_seam)

to_value : (line value : List ℕ) → HasValue line value → value_of line ≡ value
to_value line [] (before, behind, is) = all_blank line (subst (AllPass is_blank_byte) (sym is.whole)
    (All-append (λ byte. is_blank_byte byte ≡ true) before behind is.blanks_before
    is.blanks_behind))
to_value line (byte ∷ more) (before, behind, is) = some_value line (byte ∷ more) before behind (omega arith) is

-- the bytes after the others are blank, and the last of the others is not
behind_blank : (front : List ℕ) (k d : ℕ) → length front - suffix_len is_blank_byte front ≤ k → k < length front
    → is_blank_byte (get_or front k d) ≡ true
behind_blank front k d from below =
    let turned : get_or (reverse front) (length front - 1 - k) d
    ≡ get_or front (length front - 1 - (length front - 1 - k)) d =
    get_or-reverse front (length front - 1 - k) d (omega arith) in
    let same : length front - 1 - (length front - 1 - k) ≡ k = omega arith in
    let passes = prefix_len_passes is_blank_byte (reverse front) (length front - 1 - k) d (omega arith) in cc

last_stays : (front : List ℕ) → 0 < length front - suffix_len is_blank_byte front
    → is_blank_byte (get_or front (length front - suffix_len is_blank_byte front - 1) 0) ≡ false
last_stays front some =
    let size = length-reverse front in
    let turned : get_or (reverse front) (suffix_len is_blank_byte front) 0
    ≡ get_or front (length front - 1 - suffix_len is_blank_byte front) 0 =
    get_or-reverse front (suffix_len is_blank_byte front) 0 (omega arith) in
    let same : length front - 1 - suffix_len is_blank_byte front ≡ length front - suffix_len is_blank_byte front - 1 =
    omega arith in
    let stops : is_blank_byte (get_or (reverse front) (suffix_len is_blank_byte front) 0) ≡ false =
    prefix_len_stops is_blank_byte (reverse front) 0 (omega arith) in cc

-- the parts of a line
pub parts : (line : List ℕ) (front : List ℕ) (count : ℕ) → front ≡ without_blanks_before line
    → count ≡ length front - suffix_len is_blank_byte front
    → IsBetweenBlanks line (take count front) (take (prefix_len is_blank_byte line) line) (drop count front)
parts line front count front_is count_is =
    let size : length (take count front) ≡ count = length-take-le count front (omega arith) in
    let front_size : length front ≡ length line - prefix_len is_blank_byte line =
    rw front_is (length-drop (prefix_len is_blank_byte line) line) in
    let back_size = length-drop count front in
    let before_size = prefix_len-le-length is_blank_byte line in
    let taken = length-take (prefix_len is_blank_byte line) line in
    record {
      whole = sym (rw (take-append-drop count front, front_is) (take-append-drop (prefix_len is_blank_byte line) line));
      blanks_before = grind (arith, get_or-take, prefix_len_passes);
      blanks_behind = λ k d below. rw (get_or-drop count front k d)
          (behind_blank front (count + k) d (omega arith) (omega arith));
      first = λ some.
          let stops = prefix_len_stops is_blank_byte line 0 (omega arith) in
          let begins : get_or front 0 0 ≡ get_or line (prefix_len is_blank_byte line + 0) 0 =
          rw front_is (get_or-drop (prefix_len is_blank_byte line) line 0 0) in
          let here : prefix_len is_blank_byte line + 0 ≡ prefix_len is_blank_byte line = omega arith in
          rw (get_or-take count front 0 0 (omega arith), begins, here) stops;
      last = λ some.
          rw (size, get_or-take count front (count - 1) 0 (omega arith), count_is) (last_stays front (omega arith));
    }

of_value : (line : List ℕ) → HasValue line (value_of line)
of_value line = (
  take (prefix_len is_blank_byte line) line,
  drop (length (without_blanks_before line) - suffix_len is_blank_byte (without_blanks_before line))
      (without_blanks_before line),
  parts line (without_blanks_before line) (length (without_blanks_before line) - suffix_len is_blank_byte
      (without_blanks_before line)) refl refl,
)

pub between_blanks : ValuesAreBetweenBlanks
between_blanks line value = (λ is. subst (HasValue line) is (of_value line), to_value line value)

-- the sign and the digits of a text
record HasSign (text sign digits : List ℕ) : Type 0 where
  whole : text ≡ sign ++ digits
  rest : digits ≡ without_leading_sign text
  signed : IsSigned sign (digits_value 10 digits) (signed_digits_value 10 text)

sign_of : (text : List ℕ) → (sign : List ℕ) × (digits : List ℕ) × HasSign text sign digits
sign_of [] = ([], [], record { whole = refl; rest = refl; signed = inl (inl refl, refl) })
sign_of (byte ∷ text) = by (byte == 45) (byte == 43) refl refl
  where
    by : (minus plus : Bool) → (byte == 45) ≡ minus → (byte == 43) ≡ plus
        → (sign : List ℕ) × (digits : List ℕ) × HasSign (byte ∷ text) sign digits
    by true plus is _ =
        let same : byte ≡ 45 = grind (arith, nat_tests, is) in
        subst (λ (b : ℕ). (sign : List ℕ) × (digits : List ℕ) × HasSign (b ∷ text) sign digits) (sym same)
        (45 ∷ [], text, record { whole = refl; rest = refl; signed = inr (refl, refl) })
    by false true _ is =
        let same : byte ≡ 43 = grind (arith, nat_tests, is) in
        subst (λ (b : ℕ). (sign : List ℕ) × (digits : List ℕ) × HasSign (b ∷ text) sign digits) (sym same)
        (43 ∷ [], text, record { whole = refl; rest = refl; signed = inl (inr refl, refl) })
    by false false minus plus = (
      [],
      byte ∷ text,
      record { whole = refl; rest = rw (minus, plus) refl; signed = inl (inl refl, rw (minus, plus) refl) },
    )

-- digits are no blanks
digit_stays : (byte : ℕ) → IsInRange 48 57 byte → is_blank_byte byte ≡ false
digit_stays byte (low, high) = grind arith

-- digits have no sign
plain : (digits : List ℕ) → IsNumeral 10 digits
    → (starts_with_minus digits ≡ false) × (without_leading_sign digits ≡ digits)
plain [] numeral = absurd (let some = numeral.0 in omega arith)
plain (byte ∷ digits) numeral = grind (arith, digit_from_value)

-- what a sign and digits are read as
signed_text : (sign digits : List ℕ) (code : ℤ) → AreCodeDigits digits → IsSigned sign (digits_value 10 digits) code
    → number_of (sign ++ digits) ≡ Some code
signed_text sign digits code are (inl (inl none, code_is)) = grind (arith, plain, the_number, neg_ℤ)
signed_text sign digits code are (inl (inr plus, code_is)) = rw (plus, code_is) (the_number (43 ∷ digits) are)
signed_text sign digits code are (inr (minus, code_is)) = rw (minus, code_is) (the_number (45 ∷ digits) are)

-- they begin and end with other bytes than blanks
signed_first : (sign digits : List ℕ) (code : ℤ) → AreCodeDigits digits → IsSigned sign (digits_value 10 digits) code
    → is_blank_byte (get_or (sign ++ digits) 0 0) ≡ false
signed_first sign digits code are (inl (inl none, _)) =
    rw none (digit_stays (get_or digits 0 0) (digit_at digits 0 are.numeral.1 are.numeral.0))
signed_first sign digits code are (inl (inr plus, _)) = rw plus refl
signed_first sign digits code are (inr (minus, _)) = rw minus refl

signed_last : (sign digits : List ℕ) → AreCodeDigits digits
    → is_blank_byte (get_or (sign ++ digits) (length (sign ++ digits) - 1) 0) ≡ false
signed_last sign digits are =
    let some = are.numeral.0 in
    let sizes = length-append sign digits in
    let at : length (sign ++ digits) - 1 ≡ length sign + (length digits - 1) = omega arith in
    grind (arith, get_or-append-add, digit_stays, digit_at)

-- the number of a text by its parts
number_parts : (text : List ℕ) (code : ℤ) → number_of text ≡ Some code
    → AreCodeDigits (without_leading_sign text) × (signed_digits_value 10 text ≡ code)
number_parts text code is = grind (arith, are_digits, none-some)

pub whole_numbers : CodesAreWholeNumbers
whole_numbers line code = (to_parts, of_parts)
  where
    to_parts : code_of line ≡ Some code → HasCode line code
    to_parts is =
        let (digits_are, code_is) = number_parts (value_of line) code is in
        let (sign, digits, has) = sign_of (value_of line) in
        let (before, behind, stands) = of_value line in
        let are : AreCodeDigits digits = subst AreCodeDigits (sym has.rest) digits_are in grind arith

    of_parts : HasCode line code → code_of line ≡ Some code
    of_parts (before, sign, digits, behind, is) =
        let are : AreCodeDigits digits = record { numeral = is.numeral; small = is.small } in
        let value : value_of line ≡ sign ++ digits = to_value line (sign ++ digits) (
          before,
          behind,
          record {
            whole = is.whole;
            blanks_before = is.blanks_before;
            blanks_behind = is.blanks_behind;
            first = λ _. signed_first sign digits code are is.signed;
            last = λ _. signed_last sign digits are;
          },
        ) in ap number_of value ∙ signed_text sign digits code are is.signed
