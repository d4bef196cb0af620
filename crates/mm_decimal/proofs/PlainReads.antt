-- A plain numeral is read as the scan reads it.
use Rattle.std.proofs.Common.{◌≡◌, ℕ, ◌+◌, ◌-◌, ◌*◌, ◌^◌, ◌<◌, ◌≤◌, List, [], ◌∷◌, ◌++◌, length, take, drop, get_or}
use Rattle.std.proofs.Common.{refl, sym, ap, ◌∙◌, subst, arith, lit<, length-append, Bool, true, false, add-one}
use Rattle.std.proofs.Common.{add-zero, zero-add}
use Rattle.std.specs.Prelude.{Option, Some, None, IfSome}
use Rattle.std.specs.List.{AllByRecursion}
use Rattle.std.proofs.Math.Nat.{pow-succ', pow-le-pow_right, one-le-pow}
use Rattle.std.proofs.Math.Seq.{take-length}
use Rattle.std.proofs.lemmas.List.{take_more, append-nil}
use Rattle.plain_laws.proofs.Lists.{all_append}
use Rattle.mm_decimal.specs.Numerals.{Sign, Bare, Minus, Numeral, IsDigit, Value, HasValue, number_of, is_minus}
use Rattle.mm_decimal.specs.Numerals.{sign_text, fraction_text, fraction_digits}
use Rattle.mm_decimal.specs.Millimetres.{signed_of, IsRead}
use Rattle.mm_decimal.specs.InsideRounds.{HasSize}
use Rattle.mm_decimal.specs.Answers.{Reads}
use Rattle.mm_decimal.specs.InsidePlainNumerals.{Write, IsPlain}
use Rattle.mm_decimal.specs.declared.limits.TheConstants.{LIMIT}
use Rattle.mm_decimal.specs.declared.numerals.MmRead.{MmRead}
use Rattle.mm_decimal.proofs.Values.{number_after, number_after-is, number_after-append, number_after-none}
use Rattle.mm_decimal.proofs.Scales.{whole_rounds}
use Rattle.mm_decimal.proofs.Floors.{value_read_so}

number_behind : (digits more : List ℕ) → number_of (digits ++ more) ≡ number_of digits * 10 ^ length more
    + number_of more
number_behind digits more =
    sym (number_after-none (digits ++ more)) ∙ number_after-append 0 digits more
    ∙ number_after-is (number_after 0 digits) more
    ∙ ap (λ n. n * 10 ^ length more + number_of more) (number_after-none digits)

-- one digit more
pub writes_more : (text : List ℕ) (count number : ℕ) → count < length text → IsDigit (get_or text count 0)
    → Write (take count text) number
    → Write (take (count + 1) text) (number * 10 + (get_or text count 0 - 48))
writes_more text count number within digit h =
    grind (arith, get_or text count 0, take_more text count 0 within, all_append, number_behind)

pub less_than : (number count : ℕ) → number < 10 ^ count → count ≤ 15 → number < 10 ^ 15
less_than number count small few = let grows : 10 ^ count ≤ 10 ^ 15 =
    pow-le-pow_right (lit< tt) {j = 15} few in omega (arith, small, grows)

pub below : (number count : ℕ) → number < 10 ^ count → count ≤ 16 → number < 10 ^ 16
below number count small few = let grows : 10 ^ count ≤ 10 ^ 16 =
    pow-le-pow_right (lit< tt) {j = 16} few in omega (arith, small, grows)

pub stays_small : (number count digit : ℕ) → number < 10 ^ count → digit ≤ 9 → number * 10 + digit < 10 ^ (count + 1)
stays_small number count digit small few = rw (add-one, pow-succ' 10 count) (omega (arith, small))

-- ---- a plain numeral
module _ (whole fraction : List ℕ) (number rest : ℕ) where
  -- the thousandths of the digits before the point and of those after it
  worth_of : Write whole number → number_of fraction * 1000 ≡ rest * 10 ^ length fraction
      → 1000 * number_of (whole ++ fraction) ≡ (number * 1000 + rest) * 10 ^ length fraction
  worth_of h is = grind (arith, number_behind)

module _ (whole : List ℕ) (part : Option (List ℕ)) (size : ℕ)
    (worth : 1000 * number_of (whole ++ fraction_digits part) ≡ size * 10 ^ length (fraction_digits part)) where
  abbrev fraction : List ℕ
  fraction = fraction_digits part

  abbrev digits : ℕ
  digits = number_of (whole ++ fraction)

  abbrev value : (sign : Sign) → Value
  value sign = record {
    negative = is_minus sign;
    digits = digits;
    places = length fraction;
    lowered = false;
    power =
        0;
  }

  moved : digits * 10 ^ 3 ≡ size * 10 ^ (0 + (length fraction + 0))
  moved = rw (zero-add (length fraction + 0), add-zero (length fraction)) (omega (arith, worth))

  so : (sign : Sign) → size ≤ LIMIT → HasSize (is_minus sign) (digits * 10 ^ 3) (10 ^ (0 + (length fraction + 0)))
      (record { size = size; exact = true })
  so sign within = grind (arith, whole_rounds, one-le-pow, moved)

  reads : (sign : Sign) → size ≤ LIMIT → IsRead (value sign)
      (record { mm = signed_of (is_minus sign) size; exact = true })
  reads sign within = value_read_so (value sign) 0 (record { size = size; exact = true }) (omega arith) (so sign within)

  abbrev numeral : Sign → Numeral
  numeral sign = record { sign = sign; whole = whole; fraction = part; power = None }

  has_value : (sign : Sign) (text : List ℕ) → text ≡ whole ++ fraction_text part → 0 < length whole
      → AllByRecursion IsDigit whole → AllByRecursion IsDigit fraction
      → HasValue (sign_text sign ++ text) (value sign)
  has_value sign text is some a b = (
    numeral sign,
    grind (arith, length-append, append-nil),
    refl,
  )

reads_plain : (sign : Sign) (text : List ℕ) (size : ℕ) → IsPlain text size → size ≤ LIMIT
    → length (sign_text sign ++ text) ≤ 64
    → Reads (sign_text sign ++ text) (record { mm = signed_of (is_minus sign) size; exact = true })
reads_plain sign text size h within short = (
  short,
  (
    value h.whole h.fraction size h.worth sign,
    has_value h.whole h.fraction size h.worth sign text h.is h.some h.whole_are h.fraction_are,
    reads h.whole h.fraction size h.worth sign within,
  ),
)

pub plain_with : (digits behind more : List ℕ) (number count value rest : ℕ) → behind ≡ 46 ∷ drop 1 behind
    → more ≡ drop 1 behind
    → length more ≤ count → count ≤ length more → Write (take count more) value → 1000 * value ≡ rest * 10 ^ count
    → Write digits number → 0 < length digits → IsPlain (digits ++ behind) (number * 1000 + rest)
plain_with digits behind more number count value rest is more_is low high front size writes some =
    let same : count ≡ length more = omega (arith, low, high) in
    let all : Write more value = subst (λ l. Write l value) (ap (λ n. take n more) same ∙ take-length more) front in
    let moved : 1000 * value ≡ rest * 10 ^ length more = size ∙ ap (λ n. rest * 10 ^ n) same in
    record {
      whole = digits;
      fraction = Some more;
      is = ap (λ t. digits ++ t) (is ∙ ap (λ t. 46 ∷ t) (sym more_is));
      some = some;
      whole_are = writes.all;
      fraction_are = all.all;
      worth = worth_of digits more number rest writes (omega (arith, all.worth, moved));
    }

-- what is read, where it is in range
pub some_read : (result : Option MmRead) (negative : Bool) (size : ℕ) (text : List ℕ)
    → IfSome result (λ read. size ≤ LIMIT)
    → IfSome result (λ read. read ≡ record { mm = signed_of negative size; exact = true })
    → (size ≤ LIMIT → Reads text (record { mm = signed_of negative size; exact = true }))
    → IfSome result (λ read. Reads text read)
some_read result negative size text limit is reads = grind (arith, reads)

pub reads_bare : (text : List ℕ) (size : ℕ) → IsPlain text size → length text ≤ 16 → size ≤ LIMIT
    → Reads text (record { mm = signed_of false size; exact = true })
reads_bare text size h short within = reads_plain Bare text size h within (omega (arith, short))

pub reads_minus : (text more : List ℕ) (size : ℕ) → text ≡ 45 ∷ drop 1 text → more ≡ drop 1 text → IsPlain more size
    → length more ≤ 16 → size ≤ LIMIT
    → Reads text (record { mm = signed_of true size; exact = true })
reads_minus text more size is more_is h short within =
    grind (arith, (reads_plain Minus more size h within (omega (arith, short))))
