-- Groups and numbers that are written are read again.
use Rattle.std.proofs.Common.{◌≡◌, ◌==◌, ℕ, zero, suc, ◌+◌, ◌/◌, ◌%◌, ◌<◌, ℤ, pos, negsuc, List, [], ◌∷◌, ◌++◌}
use Rattle.std.proofs.Common.{length, get_or, Bool, true, false, cond, refl, arith, min, ap, sym, subst, Option}
use Rattle.std.proofs.Common.{None, Some, Result, Ok, Err, nat_eq, ◌*◌, ◌^◌, ◌≤◌, ◌∙◌, unsigned_abs}
use Rattle.std.specs.Prelude.{⊤, decimal, nat_le}
use Rattle.std.specs.List.{list_all, list_any, starts_with, onto_first}
use Rattle.std.specs.Char.{is_ascii_hexdigit}
use Rattle.std.specs.Fmt.{digits, digit_glyph, digits_onto}
use Rattle.std.proofs.lemmas.Bool.Decides.{nat_tests, Decides-int_eq}
use Rattle.std.proofs.lemmas.Bool.{and_parts}
use Rattle.std.proofs.lemmas.Str.Parse.{digit_from_value}
use Rattle.std.specs.Ordering.{int_eq}
use Rattle.std.proofs.lemmas.Fmt.{length-decimal-le}
use Rattle.mm_decimal.specs.MetresTexts.{metres_text, mm_text}
use Rattle.mm_decimal.specs.Numerals.{Bare, Numeral, Value, HasValue, number_of}
use Rattle.mm_decimal.specs.Millimetres.{IsRead}
use Rattle.mm_decimal.specs.AnswerValues.{millimetres_of}
use Rattle.mm_decimal.specs.declared.limits.TheConstants.{LIMIT}
use Rattle.mm_decimal.specs.declared.numerals.MmRead.{MmRead}
use Rattle.mm_decimal.proofs.Scales.{whole_rounds}
use Rattle.mm_decimal.proofs.Floors.{floor_signed}
use Rattle.mm_decimal.proofs.MeasuredAnswers.{answer_is_measured}
use Rattle.mm_decimal.proofs.RoundTrip.{written_reads, decimal_is, IsDecimal}
use Rattle.plain_laws.proofs.Lists.{same_first}
use Rattle.plain_laws.proofs.Booleans.{and_three}
use Rattle.text_places.specs.Blanks.{is_blank_byte}
use Rattle.dxf_pairs.specs.declared.line_ends.TheConstants.{LINE_FEED}
use Rattle.dxf_pairs.specs.InLines.{IsValue}
use Rattle.dxf_pairs.specs.declared.pairs.Pair.{Pair}
use Rattle.dxf_pairs.specs.declared.faults.PairFault.{PairFault}
use Rattle.dxf_pairs.specs.declared.faults.PairFault.TheVariants.{Binary}
use Rattle.dxf_pairs.specs.declared.pair_lists.TheConstants.{BINARY}
use Rattle.dxf_pairs.specs.Lines.{Line, lines_of_texts, lines, lines_of, without_empty_last}
use Rattle.dxf_pairs.specs.Values.{value_of}
use Rattle.dxf_pairs.specs.Codes.{code_of}
use Rattle.dxf_pairs.specs.Pairs.{ends_drawing, of_two, reading, drawing, behind}
use Rattle.dxf_pairs.specs.Groups.{Group, group_of_two, groups_of_lines, groups_of}
use Rattle.dxf_entities.specs.declared.handles.TheConstants.{MOST_DIGITS}
use Rattle.dxf_entities.specs.Handles.{is_handle}
use Rattle.dxf_entities.specs.Fields.{is_exactly}
use Rattle.dxf_pairs.proofs.Between.{whole_numbers}
use Rattle.dxf_entities.proofs.GroupShapes.{number_by, number_in, is_number}

-- ---- texts that are written as values: numbers and handles
-- every byte comes after the space
abbrev pub IsPlain : List ℕ → Type 0
IsPlain [] = ⊤
IsPlain (byte ∷ text) = (32 < byte) × IsPlain text

plain_at : (text : List ℕ) (i d : ℕ) → IsPlain text → i < length text → 32 < get_or text i d
plain_at [] i d plain within = absurd (omega arith)
plain_at (byte ∷ text) zero d plain within = plain.0
plain_at (byte ∷ text) (suc i) d plain within = plain_at text i d plain.1 (omega arith)

no_feed : (byte : ℕ) → 32 < byte → (byte == LINE_FEED) ≡ false
no_feed byte more = grind (arith, nat_tests)

no_blank : (byte : ℕ) → 32 < byte → is_blank_byte byte ≡ false
no_blank byte more = grind arith

pub plain_value : (text : List ℕ) → IsPlain text → IsValue text
plain_value text plain = grind (arith, no_feed, plain_at, no_blank)

plain_both : (text more : List ℕ) → IsPlain text → IsPlain more → IsPlain (text ++ more)
plain_both [] more plain rest = rest
plain_both (byte ∷ text) more plain rest = (plain.0, plain_both text more plain.1 rest)

plain_glyph : (upper : Bool) (digit : ℕ) → 32 < digit_glyph upper digit
plain_glyph upper digit = grind arith

plain_onto : (k base : ℕ) (upper : Bool) (n : ℕ) (text : List ℕ) → IsPlain text
    → IsPlain (digits_onto k base upper n text)
plain_onto zero base upper n text plain = plain
plain_onto (suc k) base upper n text plain =
    by_test (n / base == 0) (plain_onto k base upper _ _ (plain_glyph upper _, plain)) where
      by_test : (last : Bool) → IsPlain (digits_onto k base upper (n / base) (digit_glyph upper (n % base) ∷ text))
          → IsPlain (cond last (digit_glyph upper (n % base) ∷ text)
          (digits_onto k base upper (n / base) (digit_glyph upper (n % base) ∷ text)))
      by_test true more = (plain_glyph upper _, plain)
      by_test false more = more

pub plain_digits : (base : ℕ) (upper : Bool) (n : ℕ) → IsPlain (digits base upper n)
plain_digits base upper n = unfold digits in plain_onto 64 base upper n [] tt

plain_metres : (size : ℕ) → IsPlain (metres_text size)
plain_metres size = plain_both _ _ (plain_digits 10 false _)
    (omega arith, (omega arith, (omega arith, (omega arith, tt))))

pub plain_written : (mm : ℤ) → IsPlain (mm_text mm)
plain_written (pos size) = plain_metres size
plain_written (negsuc size) = (omega arith, plain_metres _)

plain_hex : (byte : ℕ) → is_ascii_hexdigit byte ≡ true → 32 < byte
plain_hex byte is = grind (arith, nat_tests)

pub plain_hexes : (text : List ℕ) → list_all is_ascii_hexdigit text ≡ true → IsPlain text
plain_hexes [] all = tt
plain_hexes (byte ∷ text) all = grind (arith, and_parts, plain_hex, (plain_hexes text))

-- ---- lines whose groups come to an end are those of a drawing
-- a group that ends a drawing
abbrev pub ends : Group → Bool
ends group = ends_drawing group.code group.value

-- pairs are read
pub record AreRead (result : Result (List Pair) PairFault) : Type 0 where
  pub pairs : List Pair
  pub is : result ≡ Ok pairs

behind_read : (pair : Pair) (rest : Result (List Pair) PairFault) → AreRead rest → AreRead (behind (pair ∷ []) rest)
behind_read pair rest read = record { pairs = pair ∷ read.pairs; is = ap (behind (pair ∷ [])) read.is }

two_read : (first second : Line) (code : Option ℤ) (rest : Result (List Pair) PairFault) (groups : List Group)
    → (list_any ends groups ≡ true → AreRead rest)
    → list_any ends (group_of_two code (value_of second.text) groups) ≡ true → AreRead (of_two first second code rest)
two_read first second None rest groups more some = absurd (cc)
two_read first second (Some code) rest groups more some = grind (arith, behind_read)

-- the line of a text in this many bytes
abbrev past : ℕ → ℕ → List ℕ → ℕ
past size start text = min (start + length text + 1) size

lines_read : (size start number : ℕ) (texts : List (List ℕ)) → list_any ends (groups_of_lines texts) ≡ true
    → AreRead (reading (lines_of_texts size start number texts))
lines_read size start number [] some = absurd (cc)
lines_read size start number (first ∷ []) some = absurd (cc)
lines_read size start number (first ∷ second ∷ texts) some =
    grind (arith, two_read, (lines_read size (past size (past size start first) second) (number + 1 + 1) texts))

-- a line of a group code does not begin with a letter
no_code : (text : List ℕ) (code : ℤ) → code_of (65 ∷ text) ≡ Some code → ⊥
no_code text code is = grind (arith, whole_numbers, digit_from_value, same_first)

no_group : (code : Option ℤ) (value : List ℕ) (groups : List Group) → ((number : ℤ) → code ≡ Some number → ⊥)
    → list_any ends (group_of_two code value groups) ≡ true → ⊥
no_group None value groups never some = cc
no_group (Some code) value groups never some = never code refl

no_lines : (text : List ℕ) (texts : List (List ℕ)) → list_any ends (groups_of_lines ((65 ∷ text) ∷ texts)) ≡ true → ⊥
no_lines text [] some = cc
no_lines text (second ∷ texts) some = no_group _ _ _ (no_code text) some

first_line : (parts : List (List ℕ)) → list_any ends (groups_of_lines (without_empty_last (onto_first 65 parts))) ≡ true
    → ⊥
first_line [] some = no_lines [] [] some
first_line (part ∷ []) some = no_lines part [] some
first_line (part ∷ next ∷ parts) some = no_lines part _ some

no_binary : (bytes : List ℕ) → starts_with nat_eq bytes BINARY.now ≡ true → list_any ends (groups_of bytes) ≡ true → ⊥
no_binary [] is some = absurd (cc)
no_binary (byte ∷ bytes) is some = by_test (nat_eq 65 byte) refl is where
  by_test : (same : Bool) → nat_eq 65 byte ≡ same → starts_with nat_eq (byte ∷ bytes) BINARY.now ≡ true → ⊥
  by_test true same is =
      let capital : byte ≡ 65 = grind (arith, nat_tests, same) in grind (arith, first_line)
  by_test false same is = let never : false ≡ true = rw same at is in cc

-- a text whose groups come to an end is one of a drawing, with these groups
pub is_drawing : (bytes : List ℕ) → list_any ends (groups_of bytes) ≡ true → AreRead (drawing bytes)
is_drawing bytes some = by_test (starts_with nat_eq bytes BINARY.now) refl where
  by_test : (binary : Bool) → starts_with nat_eq bytes BINARY.now ≡ binary
      → AreRead (cond binary (Err Binary) (reading (lines bytes)))
  by_test true is = absurd (no_binary bytes is some)
  by_test false is = lines_read (length bytes) 0 1 (lines_of bytes) some

-- ---- numbers that are written are read: images, counts and handles
abbrev pub exact_read : ℤ → MmRead
exact_read mm = record { mm = mm; exact = true }

pub measured_written : (mm : ℤ) → unsigned_abs mm ≤ LIMIT → millimetres_of (mm_text mm) ≡ Ok (exact_read mm)
measured_written mm within = sym (answer_is_measured (mm_text mm) (Ok (exact_read mm)) (written_reads mm within))

kept_always : (exact : Bool) (mm : ℤ) → number_by exact (Ok (exact_read mm)) ≡ Some mm
kept_always true mm = refl
kept_always false mm = refl

-- an image's number
pub number_written : (exact : Bool) (mm : ℤ) → unsigned_abs mm ≤ LIMIT → number_in exact (mm_text mm) ≡ Some mm
number_written exact mm within = ap (number_by exact) (measured_written mm within) ∙ kept_always exact mm

abbrev whole_numeral : ℕ → Numeral
whole_numeral number = record { sign = Bare; whole = decimal number; fraction = None; power = None }

abbrev whole_value : ℕ → Value
whole_value number = record { negative = false; digits = number; places = 0; lowered = false; power = 0 }

append_none : (xs : List ℕ) → xs ++ [] ≡ xs
append_none [] = refl
append_none (x ∷ xs) = ap (λ more. x ∷ more) (append_none xs)

-- a count of fewer than 2^32
module _ (number : ℕ) (small : number < 2 ^ 32) where
  is : IsDecimal number (decimal number)
  is = decimal_is number (omega arith)

  spelled : HasValue (decimal number) (whole_value number)
  spelled = (
    whole_numeral number,
    (
      record {
        whole = is.all;
        fraction = tt;
        some = subst (λ (t : List ℕ). 0 < length t) (sym (append_none _)) is.some;
        power = tt;
      },
      sym (append_none _),
    ),
    ap (λ n. record { negative = false; digits = n; places = 0; lowered = false; power = 0 }) (ap number_of (append_none
        _) ∙ is.worth),
  )

  short : length (decimal number) ≤ 17
  short = length-decimal-le 17 number (omega arith) (omega arith) (omega arith)

  read_so : IsRead (whole_value number) (exact_read (pos (1000 * number)))
  read_so = grind (arith, floor_signed, whole_rounds, unsigned_abs)

  measured_count : millimetres_of (decimal number) ≡ Ok (exact_read (pos (1000 * number)))
  measured_count = sym (answer_is_measured (decimal number) (Ok (exact_read (pos (1000 * number))))
      (omega (arith, short), (whole_value number, spelled, read_so)))

pub count_written : (number : ℕ) → number < 2 ^ 32 → is_number number (digits 10 false number) ≡ true
count_written number small =
    let same : int_eq (pos (1000 * number)) (pos (1000 * number)) ≡ true = grind (arith, Decides-int_eq) in
    ap (is_exactly (pos (1000 * number))) (measured_count number small) ∙ same

-- a handle's text is hexadecimal, and not too long
hex_glyph : (digit : ℕ) → digit < 16 → is_ascii_hexdigit (digit_glyph true digit) ≡ true
hex_glyph digit small = grind arith

hexes : (k n : ℕ) (text : List ℕ) → list_all is_ascii_hexdigit text ≡ true
    → list_all is_ascii_hexdigit (digits_onto k 16 true n text) ≡ true
hexes zero n text all = all
hexes (suc k) n text all =
    let here : list_all is_ascii_hexdigit (digit_glyph true (n % 16) ∷ text) ≡ true = grind (arith, hex_glyph) in
    by_test (n / 16 == 0) here (hexes k _ _ here) where
      by_test : (last : Bool) → list_all is_ascii_hexdigit (digit_glyph true (n % 16) ∷ text) ≡ true
          → list_all is_ascii_hexdigit (digits_onto k 16 true (n / 16) (digit_glyph true (n % 16) ∷ text)) ≡ true
          → list_all is_ascii_hexdigit (cond last (digit_glyph true (n % 16) ∷ text)
          (digits_onto k 16 true (n / 16) (digit_glyph true (n % 16) ∷ text))) ≡ true
      by_test true here more = here
      by_test false here more = more

digits_grow : (k n : ℕ) (text : List ℕ) → length text ≤ length (digits_onto k 16 true n text)
digits_grow zero n text = omega arith
digits_grow (suc k) n text = by_test (n / 16 == 0) (digits_grow k _ _) where
  by_test : (last : Bool) → length (digit_glyph true (n % 16) ∷ text)
      ≤ length (digits_onto k 16 true (n / 16) (digit_glyph true (n % 16) ∷ text))
      → length text ≤ length (cond last (digit_glyph true (n % 16) ∷ text)
      (digits_onto k 16 true (n / 16) (digit_glyph true (n % 16) ∷ text)))
  by_test true more = omega arith
  by_test false more = omega arith

one_digit : (k n : ℕ) (text : List ℕ) → 0 < length (digits_onto (suc k) 16 true n text)
one_digit k n text = grind (arith, digits_grow)

-- a number of few digits
digits_few : (k n most : ℕ) (text : List ℕ) → n < 16 ^ suc most
    → length (digits_onto k 16 true n text) ≤ suc most + length text
digits_few zero n most text small = omega arith
digits_few (suc k) n most text small = by_test (n / 16 == 0) refl tt (λ m t less. digits_few k _ m t less) where
  by_most : (most : ℕ) → n < 16 ^ suc most → (n / 16 ≡ 0 → ⊥)
      → ((m : ℕ) (t : List ℕ) → n / 16 < 16 ^ suc m → length (digits_onto k 16 true (n / 16) t) ≤ suc m + length t)
      → length (digits_onto k 16 true (n / 16) (digit_glyph true (n % 16) ∷ text)) ≤ suc most + length text
  by_most zero small some rest = absurd (some (let power : 16 ^ suc 0 ≡ 16 = refl in omega arith))
  by_most (suc most) small some rest = grind arith

  by_test : (last : Bool) → (n / 16 == 0) ≡ last → Unit {0}
      → ((m : ℕ) (t : List ℕ) → n / 16 < 16 ^ suc m → length (digits_onto k 16 true (n / 16) t) ≤ suc m + length t)
      → length (cond last (digit_glyph true (n % 16) ∷ text)
      (digits_onto k 16 true (n / 16) (digit_glyph true (n % 16) ∷ text))) ≤ suc most + length text
  by_test true last more rest = omega arith
  by_test false last more rest = grind (arith, by_most)

passes_le : (a b : ℕ) → a ≤ b → nat_le a b ≡ true
passes_le a b is = grind (arith, nat_tests)

pub handle_written : (number : ℕ) → number < 16 ^ MOST_DIGITS → is_handle (digits 16 true number) ≡ true
unfolding digits
handle_written number small =
    let text = digits_onto 64 16 true number [] in
    let few : length text ≤ 15 + 0 = digits_few 64 number 14 [] small in
    let some : 0 < length text = one_digit 63 number [] in
    let low : nat_le 1 (length text) ≡ true = passes_le 1 _ some in
    let high : nat_le (length text) 15 ≡ true = passes_le _ 15 few in
    and_three (nat_le 1 (length text)) (nat_le (length text) 15) (list_all is_ascii_hexdigit text) low high
    (hexes 64 number [] refl)
