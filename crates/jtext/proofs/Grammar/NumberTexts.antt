-- Which texts lead through a number.
use Rattle.std.proofs.Common.{◌≡◌, ℕ, ◌≤◌, ◌⊎◌, inl, inr, List, [], ◌∷◌, ◌++◌, true, refl, ap, ◌∙◌, arith}
use Rattle.std.specs.Prelude.{Option, Some, None, IsSomeAnd}
use Rattle.std.specs.List.{AllByRecursion}
use Rattle.std.proofs.lemmas.Option.{same_Some}
use Rattle.text_places.specs.Machine.{run}
use Rattle.text_places.proofs.Runs.{run_on}
use Rattle.jtext.specs.Numbers.{IsDigit, AreDigits, IsMinus, IsInt, IsFraction, IsMark, IsSign, IsExponent, IsNumber}
use Rattle.jtext.specs.InsideSigns.{byte_sign}
use Rattle.jtext.specs.InsideTokens.{number_after, number_step, is_last_place, IsDigits}
use Rattle.jtext.specs.declared.signs.Sign.{Sign}
use Rattle.jtext.specs.declared.signs.Sign.TheVariants as signs
use Rattle.jtext.specs.declared.number.NumberPlace.{NumberPlace}
use Rattle.jtext.specs.declared.number.NumberPlace.TheVariants as numbers
use Rattle.jtext.proofs.CodeReads.Pieces.{some_next, some_more}
use Rattle.jtext.proofs.Grammar.ByteSigns.{HasSign, has_sign, digit_sign, nonzero_sign, mark_sign}

-- where digits may go on, and where the first one may be
abbrev AfterDigit : NumberPlace → NumberPlace
AfterDigit numbers.Minus = numbers.Minus
AfterDigit numbers.Zero = numbers.Zero
AfterDigit numbers.Whole = numbers.Whole
AfterDigit numbers.Point = numbers.Fraction
AfterDigit numbers.Fraction = numbers.Fraction
AfterDigit numbers.Mark = numbers.Exponent
AfterDigit numbers.MarkSign = numbers.Exponent
AfterDigit numbers.Exponent = numbers.Exponent

abbrev WantsDigits : NumberPlace → Type 0
WantsDigits numbers.Minus = ⊥
WantsDigits numbers.Zero = ⊥
WantsDigits place = Unit {0}

digit_after : (place : NumberPlace) → WantsDigits place → (sign : Sign) → (sign ≡ signs.Zero) ⊎ (sign ≡ signs.Digit)
    → number_after place sign ≡ Some (AfterDigit place)
digit_after numbers.Whole wants sign (inl h) = ap (number_after numbers.Whole) h
digit_after numbers.Whole wants sign (inr h) = ap (number_after numbers.Whole) h
digit_after numbers.Point wants sign (inl h) = ap (number_after numbers.Point) h
digit_after numbers.Point wants sign (inr h) = ap (number_after numbers.Point) h
digit_after numbers.Fraction wants sign (inl h) = ap (number_after numbers.Fraction) h
digit_after numbers.Fraction wants sign (inr h) = ap (number_after numbers.Fraction) h
digit_after numbers.Mark wants sign (inl h) = ap (number_after numbers.Mark) h
digit_after numbers.Mark wants sign (inr h) = ap (number_after numbers.Mark) h
digit_after numbers.MarkSign wants sign (inl h) = ap (number_after numbers.MarkSign) h
digit_after numbers.MarkSign wants sign (inr h) = ap (number_after numbers.MarkSign) h
digit_after numbers.Exponent wants sign (inl h) = ap (number_after numbers.Exponent) h
digit_after numbers.Exponent wants sign (inr h) = ap (number_after numbers.Exponent) h
digit_after place wants sign h = absurd wants

pub digits_read : (place : NumberPlace) → IsDigits place → (digits : List ℕ) → AllByRecursion IsDigit digits
    → run number_step place digits ≡ Some place
digits_read place is [] all = refl
digits_read numbers.Whole is (digit ∷ digits) all =
    grind (arith, digit_after, digit_sign, (digits_read numbers.Whole is digits all.1))
digits_read numbers.Fraction is (digit ∷ digits) all =
    grind (arith, digit_after, digit_sign, (digits_read numbers.Fraction is digits all.1))
digits_read numbers.Exponent is (digit ∷ digits) all =
    grind (arith, digit_after, digit_sign, (digits_read numbers.Exponent is digits all.1))
digits_read place is digits all = absurd is

-- at least one digit after a point, a mark or its sign
first_digits : (place : NumberPlace) → WantsDigits place → IsDigits (AfterDigit place) → (digits : List ℕ)
    → AreDigits digits → run number_step place digits ≡ Some (AfterDigit place)
first_digits place wants is [] all = absurd (omega (arith, all.1))
first_digits place wants is (digit ∷ digits) all = grind (arith, digit_after, digit_sign, digits_read)

-- what the places before an exponent do with a mark
abbrev TakesMark : NumberPlace → Type 0
TakesMark numbers.Zero = Unit {0}
TakesMark numbers.Whole = Unit {0}
TakesMark numbers.Fraction = Unit {0}
TakesMark place = ⊥

mark_taken : (place : NumberPlace) → TakesMark place → number_after place signs.Mark ≡ Some numbers.Mark
mark_taken numbers.Zero takes = refl
mark_taken numbers.Whole takes = refl
mark_taken numbers.Fraction takes = refl
mark_taken place takes = absurd takes

mark_last : (place : NumberPlace) → TakesMark place → is_last_place place ≡ true
mark_last numbers.Zero takes = refl
mark_last numbers.Whole takes = refl
mark_last numbers.Fraction takes = refl
mark_last place takes = absurd takes

-- leads to a place where a number may end
abbrev LeadsToLast : NumberPlace → List ℕ → Type 0
LeadsToLast place text = (last : NumberPlace) × (run number_step place text ≡ Some last) × (is_last_place last ≡ true)

signed_digits : (sign digits : List ℕ) → IsSign sign → AreDigits digits
    → run number_step numbers.Mark (sign ++ digits) ≡ Some numbers.Exponent
signed_digits sign digits (inl h) all = rw h (first_digits numbers.Mark tt tt digits all)
signed_digits sign digits (inr (inl h)) all = rw h (first_digits numbers.MarkSign tt tt digits all)
signed_digits sign digits (inr (inr h)) all = rw h (first_digits numbers.MarkSign tt tt digits all)

exponent_read : (place : NumberPlace) → TakesMark place → (exponent : List ℕ) → IsExponent exponent
    → LeadsToLast place exponent
exponent_read place takes exponent (inl h) = (place, ap (run number_step place) h, mark_last place takes)
exponent_read place takes exponent (inr (mark, sign, digits, is_mark, is_sign, all, text)) = (
  numbers.Exponent,
  ap (run number_step place) text ∙ rw (mark_sign mark is_mark, mark_taken place takes)
      (signed_digits sign digits is_sign all),
  refl,
)

-- the whole number, and what follows it
abbrev TakesPoint : NumberPlace → Type 0
TakesPoint numbers.Zero = Unit {0}
TakesPoint numbers.Whole = Unit {0}
TakesPoint place = ⊥

point_taken : (place : NumberPlace) → TakesPoint place → number_after place signs.Point ≡ Some numbers.Point
point_taken numbers.Zero takes = refl
point_taken numbers.Whole takes = refl
point_taken place takes = absurd takes

point_mark : (place : NumberPlace) → TakesPoint place → TakesMark place
point_mark numbers.Zero takes = tt
point_mark numbers.Whole takes = tt
point_mark place takes = absurd takes

fraction_read : (place : NumberPlace) → TakesPoint place → (fraction exponent : List ℕ) → IsFraction fraction
    → IsExponent exponent → LeadsToLast place (fraction ++ exponent)
fraction_read place takes fraction exponent (inl h) is_exponent =
    rw h (exponent_read place (point_mark place takes) exponent is_exponent)
fraction_read place takes fraction exponent (inr (digits, all, text)) is_exponent =
    let (last, was, ends) = exponent_read numbers.Fraction tt exponent is_exponent in (
      last,
      ap (λ (f : List ℕ). run number_step place (f ++ exponent)) text
          ∙ rw (point_taken place takes) (run_on number_step numbers.Point numbers.Fraction digits exponent
          (first_digits numbers.Point tt tt digits all) ∙ was),
      ends,
    )

-- the place after the first byte of a number
abbrev pub first_number : Sign → Option NumberPlace
first_number signs.Minus = Some numbers.Minus
first_number signs.Zero = Some numbers.Zero
first_number signs.Digit = Some numbers.Whole
first_number sign = None

whole_read : (place : NumberPlace) (digits fraction exponent : List ℕ)
    → (place ≡ numbers.Zero × (digits ≡ [])) ⊎ (place ≡ numbers.Whole × AllByRecursion IsDigit digits)
    → IsFraction fraction → IsExponent exponent → LeadsToLast place (digits ++ (fraction ++ exponent))
whole_read place digits fraction exponent (inl (is, none)) is_fraction is_exponent =
    rw (is, none) (fraction_read numbers.Zero tt fraction exponent is_fraction is_exponent)
whole_read place digits fraction exponent (inr (is, all)) is_fraction is_exponent =
    let (last, was, ends) = fraction_read numbers.Whole tt fraction exponent is_fraction is_exponent in
    rw is (
      last,
      run_on number_step numbers.Whole numbers.Whole digits (fraction ++ exponent)
          (digits_read numbers.Whole tt digits all) ∙ was,
      ends,
    )

-- the first digit and all after it
digits_first : (byte : ℕ) (digits fraction exponent : List ℕ)
    → ((byte ≡ 48) × (digits ≡ [])) ⊎ ((49 ≤ byte) × (byte ≤ 57) × AllByRecursion IsDigit digits)
    → IsFraction fraction → IsExponent exponent
    → (first : NumberPlace) × (number_step numbers.Minus byte ≡ Some first)
    × (first_number (byte_sign byte) ≡ Some first) × LeadsToLast first (digits ++ (fraction ++ exponent))
digits_first byte digits fraction exponent (inl (is, none)) is_fraction is_exponent = (
  numbers.Zero,
  ap (number_step numbers.Minus) is,
  ap (λ (b : ℕ). first_number (byte_sign b)) is,
  whole_read numbers.Zero digits fraction exponent (inl (refl, none)) is_fraction is_exponent,
)
digits_first byte digits fraction exponent (inr (low, high, all)) is_fraction is_exponent = (
  numbers.Whole,
  ap (number_after numbers.Minus) (nonzero_sign byte low high),
  ap first_number (nonzero_sign byte low high),
  whole_read numbers.Whole digits fraction exponent (inr (refl, all)) is_fraction is_exponent,
)

-- A number is a first byte and a rest that leads to a place where it may end.
abbrev pub IsRead : List ℕ → Type 0
IsRead text = (byte : ℕ) × (rest : List ℕ) × (first : NumberPlace) × (text ≡ byte ∷ rest)
    × (first_number (byte_sign byte) ≡ Some first) × LeadsToLast first rest

parts_read : (text minus whole fraction exponent : List ℕ) → IsMinus minus → IsInt whole → IsFraction fraction
    → IsExponent exponent
    → text ≡ minus ++ (whole ++ (fraction ++ exponent)) → IsRead text
parts_read text minus [] fraction exponent is_minus is_whole is_fraction is_exponent all = absurd is_whole
parts_read text minus (byte ∷ digits) fraction exponent (inl none) is_whole is_fraction is_exponent all =
    let (first, step, begins, leads) = digits_first byte digits fraction exponent is_whole is_fraction is_exponent in (
      byte,
      digits ++ (fraction ++ exponent),
      first,
      all
          ∙ ap (λ (m : List ℕ). m ++ (byte ∷ (digits ++ (fraction ++ exponent)))) none,
      begins,
      leads,
    )
parts_read text minus (byte ∷ digits) fraction exponent (inr sign) is_whole is_fraction is_exponent all =
    let (first, step, begins, leads) = digits_first byte digits fraction exponent is_whole is_fraction is_exponent in (
      45,
      byte ∷ (digits ++ (fraction ++ exponent)),
      numbers.Minus,
      all ∙ ap (λ (m : List ℕ). m ++ (byte ∷ (digits ++ (fraction ++ exponent)))) sign,
      refl,
      (leads.0, rw step leads.1, leads.2),
    )

pub number_read : (text : List ℕ) → IsNumber text → IsRead text
number_read text number =
    parts_read text number.minus number.whole number.fraction number.exponent number.minus_is number.whole_is
    number.fraction_is number.exponent_is number.all

-- What completes a number from each place on.
abbrev Ends : NumberPlace → List ℕ → Type 0
Ends numbers.Minus rest = (whole fraction exponent : List ℕ) × IsInt whole × IsFraction fraction × IsExponent exponent
    × (rest ≡ whole ++ (fraction ++ exponent))
Ends numbers.Zero rest = (fraction exponent : List ℕ) × IsFraction fraction × IsExponent exponent
    × (rest ≡ fraction ++ exponent)
Ends numbers.Whole rest =
    (digits fraction exponent : List ℕ) × AllByRecursion IsDigit digits × IsFraction fraction × IsExponent exponent
    × (rest ≡ digits ++ (fraction ++ exponent))
Ends numbers.Point rest = (digits exponent : List ℕ) × AreDigits digits × IsExponent exponent
    × (rest ≡ digits ++ exponent)
Ends numbers.Fraction rest = (digits exponent : List ℕ) × AllByRecursion IsDigit digits × IsExponent exponent
    × (rest ≡ digits ++ exponent)
Ends numbers.Mark rest = (sign digits : List ℕ) × IsSign sign × AreDigits digits × (rest ≡ sign ++ digits)
Ends numbers.MarkSign rest = AreDigits rest
Ends numbers.Exponent rest = AllByRecursion IsDigit rest

ends_here : (place : NumberPlace) → is_last_place place ≡ true → Ends place []
ends_here numbers.Zero last = ([], [], inl refl, inl refl, refl)
ends_here numbers.Whole last = ([], [], [], tt, inl refl, inl refl, refl)
ends_here numbers.Fraction last = ([], [], tt, inl refl, refl)
ends_here numbers.Exponent last = tt
ends_here place last = cc

-- a digit of either sign
zero_digit : (byte : ℕ) → byte ≡ 48 → IsDigit byte
zero_digit byte is = (omega arith, omega arith)

nonzero_digit : (byte : ℕ) → (49 ≤ byte) × (byte ≤ 57) → IsDigit byte
nonzero_digit byte is = (omega arith, omega arith)

one_more : (byte : ℕ) (digits : List ℕ) → IsDigit byte → AllByRecursion IsDigit digits → AreDigits (byte ∷ digits)
one_more byte digits is all = ((is, all), omega arith)

whole_more : (byte : ℕ) (rest : List ℕ) → IsDigit byte → Ends numbers.Whole rest → Ends numbers.Whole (byte ∷ rest)
whole_more byte rest is (digits, fraction, exponent, all, f, e, text) =
    (byte ∷ digits, fraction, exponent, (is, all), f, e, ap (λ (r : List ℕ). byte ∷ r) text)

fraction_more : (byte : ℕ) (rest : List ℕ) → IsDigit byte → Ends numbers.Fraction rest
    → Ends numbers.Fraction (byte ∷ rest)
fraction_more byte rest is (digits, exponent, all, e, text) =
    (byte ∷ digits, exponent, (is, all), e, ap (λ (r : List ℕ). byte ∷ r) text)

point_more : (byte : ℕ) (rest : List ℕ) → IsDigit byte → Ends numbers.Fraction rest → Ends numbers.Point (byte ∷ rest)
point_more byte rest is (digits, exponent, all, e, text) =
    (byte ∷ digits, exponent, one_more byte digits is all, e, ap (λ (r : List ℕ). byte ∷ r) text)

a_fraction : (byte : ℕ) (rest : List ℕ) → byte ≡ 46 → Ends numbers.Point rest
    → (fraction exponent : List ℕ) × IsFraction fraction × IsExponent exponent × (byte ∷ rest ≡ fraction ++ exponent)
a_fraction byte rest is (digits, exponent, all, e, text) =
    (46 ∷ digits, exponent, inr (digits, all, refl), e, rw (is, text) refl)

an_exponent : (byte : ℕ) (rest : List ℕ) → IsMark byte → Ends numbers.Mark rest → IsExponent (byte ∷ rest)
an_exponent byte rest is (sign, digits, s, all, text) =
    inr (byte, sign, digits, is, s, all, ap (λ (r : List ℕ). byte ∷ r) text)

-- one byte before what completes
number_back : (place : NumberPlace) (sign : Sign) (byte : ℕ) (rest : List ℕ) → HasSign sign byte
    → IsSomeAnd (number_after place sign) (λ next. Ends next rest) → Ends place (byte ∷ rest)
number_back numbers.Minus signs.Zero byte rest is (fraction, exponent, f, e, text) =
    (byte ∷ [], fraction, exponent, inl (is, refl), f, e, ap (λ (r : List ℕ). byte ∷ r) text)
number_back numbers.Minus signs.Digit byte rest is (digits, fraction, exponent, all, f, e, text) =
    (byte ∷ digits, fraction, exponent, inr (is.0, is.1, all), f, e, ap (λ (r : List ℕ). byte ∷ r) text)
number_back numbers.Zero signs.Point byte rest is h = a_fraction byte rest is h
number_back numbers.Zero signs.Mark byte rest is h = ([], byte ∷ rest, inl refl, an_exponent byte rest is h, refl)
number_back numbers.Whole signs.Zero byte rest is h = whole_more byte rest (zero_digit byte is) h
number_back numbers.Whole signs.Digit byte rest is h = whole_more byte rest (nonzero_digit byte is) h
number_back numbers.Whole signs.Point byte rest is h =
    let (fraction, exponent, f, e, text) = a_fraction byte rest is h in ([], fraction, exponent, tt, f, e, text)
number_back numbers.Whole signs.Mark byte rest is h =
    ([], [], byte ∷ rest, tt, inl refl, an_exponent byte rest is h, refl)
number_back numbers.Point signs.Zero byte rest is h = point_more byte rest (zero_digit byte is) h
number_back numbers.Point signs.Digit byte rest is h = point_more byte rest (nonzero_digit byte is) h
number_back numbers.Fraction signs.Zero byte rest is h = fraction_more byte rest (zero_digit byte is) h
number_back numbers.Fraction signs.Digit byte rest is h = fraction_more byte rest (nonzero_digit byte is) h
number_back numbers.Fraction signs.Mark byte rest is h = ([], byte ∷ rest, tt, an_exponent byte rest is h, refl)
number_back numbers.Mark signs.Plus byte rest is h = (43 ∷ [], rest, inr (inl refl), h, ap (λ (b : ℕ). b ∷ rest) is)
number_back numbers.Mark signs.Minus byte rest is h = (45 ∷ [], rest, inr (inr refl), h, ap (λ (b : ℕ). b ∷ rest) is)
number_back numbers.Mark signs.Zero byte rest is h =
    ([], byte ∷ rest, inl refl, one_more byte rest (zero_digit byte is) h, refl)
number_back numbers.Mark signs.Digit byte rest is h =
    ([], byte ∷ rest, inl refl, one_more byte rest (nonzero_digit byte is) h, refl)
number_back numbers.MarkSign signs.Zero byte rest is h = one_more byte rest (zero_digit byte is) h
number_back numbers.MarkSign signs.Digit byte rest is h = one_more byte rest (nonzero_digit byte is) h
number_back numbers.Exponent signs.Zero byte rest is h = (zero_digit byte is, h)
number_back numbers.Exponent signs.Digit byte rest is h = (nonzero_digit byte is, h)
number_back place sign byte rest is h = absurd h

number_ends : (place last : NumberPlace) (rest : List ℕ) → run number_step place rest ≡ Some last
    → is_last_place last ≡ true → Ends place rest
number_ends place last [] was ends = ends_here place (ap is_last_place (same_Some place last was) ∙ ends)
number_ends place last (byte ∷ rest) was ends =
    number_back place (byte_sign byte) byte rest (has_sign byte)
    (some_more (number_step place byte) (λ next. run number_step next rest ≡ Some last) (λ next. Ends next rest)
    (λ next on. number_ends next last rest on ends)
    (some_next (number_step place byte) (λ next. run number_step next rest) last was))

-- what was read from its first byte to an end is a number
number_of : (sign : Sign) (byte : ℕ) (rest : List ℕ) → HasSign sign byte
    → IsSomeAnd (first_number sign) (λ first. Ends first rest) → IsNumber (byte ∷ rest)
number_of signs.Minus byte rest is (whole, fraction, exponent, w, f, e, text) = record {
  minus = 45 ∷ [];
  whole = whole;
  fraction = fraction;
  exponent = exponent;
  minus_is = inr refl;
  whole_is = w;
  fraction_is = f;
  exponent_is = e;
  all = rw (is, text) refl;
}
number_of signs.Zero byte rest is (fraction, exponent, f, e, text) = record {
  minus = [];
  whole = byte ∷ [];
  fraction = fraction;
  exponent = exponent;
  minus_is = inl refl;
  whole_is = inl (is, refl);
  fraction_is = f;
  exponent_is = e;
  all = ap (λ (r : List ℕ). byte ∷ r) text;
}
number_of signs.Digit byte rest is (digits, fraction, exponent, all, f, e, text) = record {
  minus = [];
  whole = byte ∷ digits;
  fraction = fraction;
  exponent = exponent;
  minus_is = inl refl;
  whole_is = inr (is.0, is.1, all);
  fraction_is = f;
  exponent_is = e;
  all = ap (λ (r : List ℕ). byte ∷ r) text;
}
number_of sign byte rest is h = absurd h

pub number_only : (sign : Sign) (byte : ℕ) (rest : List ℕ) (first last : NumberPlace) → HasSign sign byte
    → first_number sign ≡ Some first → run number_step first rest ≡ Some last
    → is_last_place last ≡ true → IsNumber (byte ∷ rest)
number_only sign byte rest first last is begins was ends =
    number_of sign byte rest is (rw begins (number_ends first last rest was ends))
