-- Lines of digits between blanks.
use Rattle.std.proofs.Common.{◌≡◌, ◌==◌, inl, inr, true, ◌-◌, ◌*◌, ℕ, pos, ◌<◌, ◌≤◌, ◌+◌, List, [], ◌∷◌, ◌++◌, length, take, drop}
use Rattle.std.proofs.Common.{get_or, false, refl, sym, ◌∙◌, ap, subst, arith, add-one, append_assoc}
use Rattle.std.proofs.Common.{take-add}
use Rattle.std.specs.Prelude.{Some}
use Rattle.std.specs.List.{prefix_len, AllPass}
use Rattle.std.specs.Int.{IsInRange}
use Rattle.std.specs.Str.Parse.{AllDigits, digits_value}
use Rattle.std.proofs.lemmas.Str.Parse.{digit_at}
use Rattle.std.proofs.lemmas.Int.Digits.{digits_value-lt}
use Rattle.std.proofs.lemmas.List.{get_or_default, get_or-take, length-take, length-take-le, length-drop}
use Rattle.std.proofs.lemmas.List.Elements.{All-append, All-cons}
use Rattle.std.proofs.lemmas.Str.{digit_value_digit}
use Rattle.std.specs.Char.{digit_value}
use Rattle.std.proofs.lemmas.List.Sums.{prefix_len-le-length, prefix_len_passes}
use Rattle.std.proofs.Math.Nat.{pow-le-pow_right}
use Rattle.std.proofs.Math.Seq.{split_at}
use Rattle.dxf_pairs.specs.declared.line_ends.TheConstants.{LINE_FEED}
use Rattle.dxf_pairs.specs.declared.codes.TheConstants.{MOST_CODE}
use Rattle.dxf_pairs.specs.Lines.{lines_of}
use Rattle.text_places.specs.Blanks.{is_blank_byte}
use Rattle.dxf_pairs.specs.Codes.{code_of}
use Rattle.dxf_pairs.specs.InLines.{IsOneLine}
use Rattle.dxf_pairs.specs.InsidePlainCodes.{IsDigit, AreInThree}
use Rattle.dxf_pairs.proofs.LineLists.{line_before_text}
use Rattle.dxf_pairs.proofs.Between.{whole_numbers}
use Rattle.dxf_pairs.proofs.InLines.{blanks_one_line}

-- no digit ends a line
digit_stays : (byte : ℕ) → IsInRange 48 57 byte → (byte == LINE_FEED) ≡ false
digit_stays byte (low, high) = grind arith

digits_stay : (text : List ℕ) → AllDigits 10 text → IsOneLine text
digits_stay text digits = λ k d below. rw (get_or_default text k d 0 below)
    (digit_stays (get_or text k 0) (digit_at text k digits below))

-- the blanks in front
blanks_in_front : (text : List ℕ) (count : ℕ) → count ≡ prefix_len is_blank_byte text
    → AllPass is_blank_byte (take count text)
blanks_in_front text count is = grind (arith, length-take, prefix_len-le-length, get_or-take, prefix_len_passes)

-- four digits at most are no number that is too great
few_digits : (digits : List ℕ) → AllDigits 10 digits → length digits ≤ 4 → digits_value 10 digits ≤ MOST_CODE
few_digits digits all few = grind (arith, digits_value-lt, pow-le-pow_right)

-- the number of this many digits at the front
pub front_small : (text : List ℕ) (count number : ℕ) → count ≤ length text → count ≤ 4 → AllDigits 10 (take count text)
    → number ≡ digits_value 10 (take count text) → number ≤ MOST_CODE
front_small text count number within few all is = grind (arith, length-take-le, few_digits)

-- one to four digits between blanks
module _ (front middle back : List ℕ) (before : AllPass is_blank_byte front) (behind : AllPass is_blank_byte back)
    (digits : AllDigits 10 middle) where
  one_between : IsOneLine (front ++ (middle ++ back))
  one_between = All-append (λ byte. (byte == LINE_FEED) ≡ false) front (middle ++ back) (blanks_one_line front before)
      (All-append (λ byte. (byte == LINE_FEED) ≡ false) middle back (digits_stay middle digits)
      (blanks_one_line back behind))

  code_between : 0 < length middle → length middle ≤ 4
      → code_of (front ++ (middle ++ back)) ≡ Some (pos (digits_value 10 middle))
  code_between some few =
      (whole_numbers (front ++ (middle ++ back)) (pos (digits_value 10 middle))).1 (
        front,
        [],
        middle,
        back,
        record {
          whole = refl;
          blanks_before = before;
          blanks_behind = behind;
          numeral = (some, digits);
          small = few_digits middle digits few;
          signed = inl (inl refl, refl);
        },
      )

-- a text that begins with blanks, digits, and blanks up to a line feed
pub record IsPlain (text : List ℕ) (before digits behind : ℕ) : Type 0 where
  pub blanks_before : before ≡ prefix_len is_blank_byte text
  pub blanks_behind : behind ≡ prefix_len is_blank_byte (drop (before + digits) text)
  pub all_digits : AllDigits 10 (take digits (drop before text))
  pub some : 0 < digits
  pub few : digits ≤ 4
  pub within : before + digits + behind < length text
  pub feed : get_or text (before + digits + behind) 0 ≡ LINE_FEED

module _ (text : List ℕ) (before digits behind : ℕ) (is : IsPlain text before digits behind) where
  abbrev front : List ℕ
  front = take before text

  abbrev middle : List ℕ
  middle = take digits (drop before text)

  abbrev back : List ℕ
  back = take behind (drop (before + digits) text)

  parts : take (before + digits + behind) text ≡ front ++ (middle ++ back)
  parts = rw (take-add (before + digits) behind text, take-add before digits text) (append_assoc front middle back)

  blank_front : AllPass is_blank_byte front
  blank_front = blanks_in_front text before is.blanks_before

  blank_back : AllPass is_blank_byte back
  blank_back = blanks_in_front (drop (before + digits) text) behind is.blanks_behind

  size : length middle ≡ digits
  size = let left = length-drop before text in length-take-le digits (drop before text) (omega (arith, is.within))

  one : IsOneLine (take (before + digits + behind) text)
  one = subst IsOneLine (sym parts) (one_between front middle back blank_front blank_back is.all_digits)

  pub plain_line : lines_of text ≡ take (before + digits + behind) text
      ∷ lines_of (drop (before + digits + behind + 1) text)
  plain_line =
      let end = before + digits + behind in
      let cut : text ≡ take end text ++ (get_or text end 0 ∷ drop (end + 1) text) =
      rw add-one (split_at text end 0 is.within) in
      let whole : text ≡ take end text ++ (LINE_FEED ∷ drop (end + 1) text) = cc in
      ap lines_of whole ∙ line_before_text (take end text) (drop (end + 1) text) one

  pub plain_number : code_of (take (before + digits + behind) text) ≡ Some (pos (digits_value 10 middle))
  plain_number = rw parts (code_between front middle back blank_front blank_back is.all_digits
      (omega (arith, size, is.some)) (omega (arith, size, is.few)))

-- ---- three places
nothing : AllPass is_blank_byte []
nothing = λ i d within. absurd (omega arith)

more : (a : ℕ) (blanks : List ℕ) → is_blank_byte a ≡ true → AllPass is_blank_byte blanks
    → AllPass is_blank_byte (a ∷ blanks)
more a blanks is all = All-cons (λ (byte : ℕ). is_blank_byte byte ≡ true) a blanks is all

space : (a : ℕ) → a ≡ 32 → is_blank_byte a ≡ true
space a is = ap is_blank_byte is

carriage_return : AllPass is_blank_byte (13 ∷ [])
carriage_return = more 13 [] refl nothing

worth : (a : ℕ) → IsDigit a → (digit_value a < 10) × (digit_value a ≡ a - 48)
worth a digit = let is = digit_value_digit a digit in (omega (arith, digit.1), omega arith)

padded_line : (a b c : ℕ) (rest : List ℕ) → AreInThree a b c
    → (lines_of (a ∷ b ∷ c ∷ 13 ∷ LINE_FEED ∷ rest) ≡ (a ∷ b ∷ c ∷ 13 ∷ []) ∷ lines_of rest)
    × (code_of (a ∷ b ∷ c ∷ 13 ∷ []) ≡ Some (pos (100 * (a - 48) + 10 * (b - 48) + (c - 48))))
padded_line a b c rest (last, inl (mid, inr first)) =
    let x = worth a first in let y = worth b mid in let z = worth c last in
    let digits : AllDigits 10 (a ∷ b ∷ c ∷ []) = (x.0, (y.0, (z.0, tt))) in
    let value : digits_value 10 (a ∷ b ∷ c ∷ []) ≡ 100 * (a - 48) + 10 * (b - 48) + (c - 48) = omega (arith, x.1, y.1, z.1) in (
      line_before_text (a ∷ b ∷ c ∷ 13 ∷ []) rest (one_between [] (a ∷ b ∷ c ∷ []) (13 ∷ []) nothing carriage_return digits),
      rw (← value) (code_between [] (a ∷ b ∷ c ∷ []) (13 ∷ []) nothing carriage_return digits (omega arith) (omega arith)),
    )
padded_line a b c rest (last, inl (mid, inl blank)) =
    let y = worth b mid in let z = worth c last in
    let digits : AllDigits 10 (b ∷ c ∷ []) = (y.0, (z.0, tt)) in
    let front : AllPass is_blank_byte (a ∷ []) = more a [] (space a blank) nothing in
    let value : digits_value 10 (b ∷ c ∷ []) ≡ 100 * (a - 48) + 10 * (b - 48) + (c - 48) = omega (arith, blank, y.1, z.1) in (
      line_before_text (a ∷ b ∷ c ∷ 13 ∷ []) rest (one_between (a ∷ []) (b ∷ c ∷ []) (13 ∷ []) front carriage_return digits),
      rw (← value) (code_between (a ∷ []) (b ∷ c ∷ []) (13 ∷ []) front carriage_return digits (omega arith) (omega arith)),
    )
padded_line a b c rest (last, inr (blank, second)) =
    let z = worth c last in
    let digits : AllDigits 10 (c ∷ []) = (z.0, tt) in
    let front : AllPass is_blank_byte (a ∷ b ∷ []) = more a (b ∷ []) (space a blank)
    (more b [] (space b second) nothing) in
    let value : digits_value 10 (c ∷ []) ≡ 100 * (a - 48) + 10 * (b - 48) + (c - 48) = omega (arith, blank, second, z.1) in (
      line_before_text (a ∷ b ∷ c ∷ 13 ∷ []) rest (one_between (a ∷ b ∷ []) (c ∷ []) (13 ∷ []) front carriage_return digits),
      rw (← value) (code_between (a ∷ b ∷ []) (c ∷ []) (13 ∷ []) front carriage_return digits (omega arith) (omega arith)),
    )

-- the first five bytes of a text
five : (text : List ℕ) → 4 < length text → get_or text 3 0 ≡ 13 → get_or text 4 0 ≡ LINE_FEED
    → text ≡ get_or text 0 0 ∷ get_or text 1 0 ∷ get_or text 2 0 ∷ 13 ∷ LINE_FEED ∷ drop 5 text
five (a ∷ b ∷ c ∷ d ∷ e ∷ rest) long at feed =
    ap (λ (r : ℕ). a ∷ b ∷ c ∷ r ∷ e ∷ rest) at ∙ ap (λ (f : ℕ). a ∷ b ∷ c ∷ 13 ∷ f ∷ rest) feed
five [] long at feed = absurd (omega arith)
five (a ∷ []) long at feed = absurd (omega arith)
five (a ∷ b ∷ []) long at feed = absurd (omega arith)
five (a ∷ b ∷ c ∷ []) long at feed = absurd (omega arith)
five (a ∷ b ∷ c ∷ d ∷ []) long at feed = absurd (omega arith)

-- a text that begins with such a line, by its first bytes
pub padded : (text : List ℕ) → 4 < length text → get_or text 3 0 ≡ 13 → get_or text 4 0 ≡ LINE_FEED
    → AreInThree (get_or text 0 0) (get_or text 1 0) (get_or text 2 0)
    → (lines_of text ≡ take 4 text ∷ lines_of (drop 5 text)) × (code_of (take 4 text)
    ≡ Some (pos (100 * (get_or text 0 0 - 48) + 10 * (get_or text 1 0 - 48) + (get_or text 2 0 - 48))))
padded text long at feed three =
    let whole = five text long at feed in
    let line = ap (λ (t : List ℕ). take 4 t) whole in
    let here = padded_line (get_or text 0 0) (get_or text 1 0) (get_or text 2 0) (drop 5 text) three in (
      ap lines_of whole ∙ here.0 ∙ ap (λ (l : List ℕ). l ∷ lines_of (drop 5 text)) (sym line),
      ap code_of line ∙ here.1,
    )
