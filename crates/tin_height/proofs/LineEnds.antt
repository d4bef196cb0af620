-- Where the lines of a list of points end, which of them are blank, and that a row ends where its line does.
use Rattle.std.proofs.Common.{◌≡◌, ◌⊎◌, inl, inr, ℕ, zero, suc, ◌+◌, ◌<◌, ◌≤◌, List, [], ◌∷◌, length, take, drop, Bool, true}
use Rattle.std.proofs.Common.{false, refl, sym, ap, ◌∙◌, subst, arith, drop-drop}
use Rattle.std.specs.Prelude.{◌==◌, ◌&&◌, ◌||◌, cond, not, nat_le, if◌then◌else◌, slice_index, Result, Ok, Err, IfOk}
use Rattle.std.specs.List.{list_all, prefix_len, position_or_len}
use Rattle.std.specs.Char.{is_ascii_alphabetic}
use Rattle.std.proofs.lemmas.Bool.{eqb-true, false≢true, leb-true, leb-false, or_parts}
use Rattle.std.proofs.lemmas.List.Sums.{prefix_len-drop_yes, prefix_len-drop_no, prefix_len-drop_all, prefix_len-le-length}
use Rattle.mm_decimal.specs.AnswerValues.{millimetres_of}
use Rattle.mm_decimal.specs.Answers.{loss_of}
use Rattle.mm_decimal.specs.declared.numerals.MmRead.{MmRead}
use Rattle.mm_decimal.specs.declared.numerals.NumFault.{NumFault}
use Rattle.sheet_base.specs.declared.flags.How.{How}
use Rattle.sheet_base.specs.declared.faults.LayerFault.{LayerFault}
use Rattle.sheet_base.specs.declared.faults.LayerFault.TheVariants.{Bad, Inexact}
use Rattle.text_places.specs.Blanks.{is_blank_byte}
use Rattle.tin_height.specs.Points.{is_numeric, number_length, past_blanks, numeral_or_fault, number_at, next_number}
use Rattle.tin_height.specs.Points.{is_feed, is_line_end, line_end, line_row, row_at, then_read}
use Rattle.tin_height.specs.declared.points.Numeral.{Numeral}
use Rattle.tin_height.specs.declared.points.LineRow.{LineRow}

-- how many bytes of a text are before its first line feed
abbrev pub line_length : List ℕ → ℕ
line_length text = position_or_len is_feed text

-- ---- bytes that are passed over in a line
module _ (q : ℕ → Bool) where
  no_feed : q 10 ≡ false → (byte : ℕ) → q byte ≡ true → is_feed byte ≡ false
  no_feed stops byte passes = by (is_feed byte) refl
    where
      by : (b : Bool) → is_feed byte ≡ b → b ≡ false
      by false is = refl
      by true is = absurd (false≢true (sym stops ∙ ap q (sym (eqb-true byte 10 is)) ∙ passes))

  skip : q 10 ≡ false → (text : List ℕ)
      → prefix_len q text + line_length (drop (prefix_len q text) text) ≡ line_length text
  skip stops [] = refl
  skip stops (byte ∷ text) = by (q byte) refl (skip stops text)
    where
      by : (b : Bool) → q byte ≡ b
          → prefix_len q text + line_length (drop (prefix_len q text) text) ≡ line_length text
          → cond b (1 + prefix_len q text) 0 + line_length (drop (cond b (1 + prefix_len q text) 0) (byte ∷ text))
          ≡ line_length (byte ∷ text)
      by false is later = omega arith
      by true is later =
          let on : 1 + prefix_len q text ≡ suc (prefix_len q text) = omega arith in
          let more : line_length (byte ∷ text) ≡ 1 + line_length text =
          ap (λ (b : Bool). cond (not b) (1 + line_length text) 0) (no_feed stops byte is) in
          let same : line_length (drop (1 + prefix_len q text) (byte ∷ text))
          ≡ line_length (drop (prefix_len q text) text) =
          ap (λ (n : ℕ). line_length (drop n (byte ∷ text))) on in
          omega (arith, more, same, later)

  prefix_all : (text : List ℕ) → list_all q (take (prefix_len q text) text) ≡ true
  prefix_all [] = refl
  prefix_all (byte ∷ text) = by (q byte) refl (prefix_all text)
    where
      by : (b : Bool) → q byte ≡ b → list_all q (take (prefix_len q text) text) ≡ true
          → list_all q (take (cond b (1 + prefix_len q text) 0) (byte ∷ text)) ≡ true
      by false is later = refl
      by true is later =
          let on : 1 + prefix_len q text ≡ suc (prefix_len q text) = omega arith in
          ap (λ (n : ℕ). list_all q (take n (byte ∷ text))) on
          ∙ ap (λ (b : Bool). b && list_all q (take (prefix_len q text) text)) is ∙ later

  longer_not_all : (n : ℕ) (text : List ℕ) → prefix_len q text < n → n ≤ length text
      → list_all q (take n text) ≡ false
  longer_not_all zero text less within = absurd (omega (arith, less))
  longer_not_all (suc n) [] less within = absurd (omega (arith, within))
  longer_not_all (suc n) (byte ∷ text) less within =
      by (q byte) refl less (λ fewer. longer_not_all n text fewer (omega (arith, within)))
    where
      by : (b : Bool) → q byte ≡ b → cond b (1 + prefix_len q text) 0 < suc n
          → (prefix_len q text < n → list_all q (take n text) ≡ false)
          → (q byte && list_all q (take n text)) ≡ false
      by false is few later = ap (λ (b : Bool). b && list_all q (take n text)) is
      by true is few later = ap (λ (b : Bool). b && list_all q (take n text)) is ∙ later (omega (arith, few))

-- ---- a numeral ends where its text does
accepted_end : (how : How) (at end : ℕ) (answer : Result MmRead NumFault)
    → IfOk (numeral_or_fault how at end answer) (λ (numeral : Numeral). numeral.end ≡ end)
accepted_end how at end (Err fault) = tt
accepted_end how at end (Ok read) = by_test (how.exact && not read.exact)
  where
    by_test : (test : Bool)
        → IfOk {E = LayerFault} (if test then Err (Inexact at) else Ok (record { mm = read.mm; inexact = loss_of read; end = end }))
        (λ (numeral : Numeral). numeral.end ≡ end)
    by_test true = tt
    by_test false = refl

number_run : (text : List ℕ) → (number_length text ≡ 0) ⊎ (number_length text ≡ prefix_len is_numeric text)
number_run [] = inl refl
number_run (byte ∷ text) = by (is_ascii_alphabetic byte)
  where
    by : (b : Bool) → ((if b then 0 else prefix_len is_numeric (byte ∷ text)) ≡ 0)
        ⊎ ((if b then 0 else prefix_len is_numeric (byte ∷ text)) ≡ prefix_len is_numeric (byte ∷ text))
    by true = inl refl
    by false = inr refl

-- ---- what is read after another
if_more : {A : Type 0} (r : Result A LayerFault) (P Q : A → Type 0) → IfOk r P → ((value : A) → P value → Q value)
    → IfOk r Q
if_more (Ok value) P Q h more = more value h
if_more (Err fault) P Q h more = tt

then_more : {A B : Type 0} (f : A → Result B LayerFault) (r : Result A LayerFault) (P : A → Type 0) (Q : B → Type 0)
    → IfOk r P → ((value : A) → P value → IfOk (f value) Q) → IfOk (then_read f r) Q
then_more f (Ok value) P Q h more = more value h
then_more f (Err fault) P Q h more = tt

-- ---- places of the bytes
module _ (bytes : List ℕ) where
  -- the place of the end of the line that has this place
  abbrev pub line_past : ℕ → ℕ
  line_past place = place + line_length (drop place bytes)

  past_skip : (q : ℕ → Bool) → q 10 ≡ false → (place : ℕ)
      → line_past (place + prefix_len q (drop place bytes)) ≡ line_past place
  past_skip q stops place =
      let n : ℕ = prefix_len q (drop place bytes) in
      let same : line_length (drop (place + n) bytes) ≡ line_length (drop n (drop place bytes)) =
      ap line_length (sym (drop-drop n place bytes)) in
      omega (arith, same, skip q stops (drop place bytes))

  number_skip : (place : ℕ) → line_past (place + number_length (drop place bytes)) ≡ line_past place
  number_skip place = by (number_length (drop place bytes)) (number_run (drop place bytes))
    where
      by : (n : ℕ) → (n ≡ 0) ⊎ (n ≡ prefix_len is_numeric (drop place bytes))
          → line_past (place + n) ≡ line_past place
      by n (inl none) = let same : place + n ≡ place = omega (arith, none) in ap line_past same
      by n (inr run) = ap (λ (m : ℕ). line_past (place + m)) run ∙ past_skip is_numeric refl place

  pub end_zero : (place : ℕ) → is_line_end bytes place ≡ true → line_length (drop place bytes) ≡ 0
  end_zero place = by (nat_le (length bytes) place) refl
    where
      by : (b : Bool) → nat_le (length bytes) place ≡ b → (b || is_feed (slice_index bytes place)) ≡ true
          → line_length (drop place bytes) ≡ 0
      by true behind is = prefix_len-drop_all (λ byte. not (is_feed byte)) bytes place
          (leb-true (length bytes) place behind)
      by false inside is = prefix_len-drop_no (λ byte. not (is_feed byte)) bytes place 0
          (leb-false (length bytes) place inside) (ap not is)

  end_more : (place : ℕ) → is_line_end bytes place ≡ false → 0 < line_length (drop place bytes)
  end_more place is =
      let parts = or_parts (nat_le (length bytes) place) (is_feed (slice_index bytes place)) is in
      let more : line_length (drop place bytes) ≡ 1 + line_length (drop (place + 1) bytes) =
      prefix_len-drop_yes (λ byte. not (is_feed byte)) bytes place 0 (leb-false (length bytes) place parts.0)
      (ap not parts.1) in
      omega (arith, more)

  number_past : (how : How) (place : ℕ)
      → IfOk (number_at how bytes place) (λ (numeral : Numeral). line_past numeral.end ≡ line_past place)
  number_past how place = by (number_length (drop place bytes) == 0)
    where
      by : (b : Bool) → IfOk (if b then Err (Bad place) else numeral_or_fault how place
          (place + number_length (drop place bytes))
          (millimetres_of (take (number_length (drop place bytes)) (drop place bytes))))
          (λ (numeral : Numeral). line_past numeral.end ≡ line_past place)
      by true = tt
      by false = if_more (numeral_or_fault how place (place + number_length (drop place bytes))
          (millimetres_of (take (number_length (drop place bytes)) (drop place bytes))))
          (λ (numeral : Numeral). numeral.end ≡ place + number_length (drop place bytes))
          (λ (numeral : Numeral). line_past numeral.end ≡ line_past place)
          (accepted_end how place (place + number_length (drop place bytes)) _)
          (λ numeral is. ap line_past is ∙ number_skip place)

  next_past : (how : How) (place from : ℕ) → line_past place ≡ line_past from
      → IfOk (next_number how bytes place) (λ (numeral : Numeral). line_past numeral.end ≡ line_past from)
  next_past how place from same = if_more (number_at how bytes (past_blanks bytes place))
      (λ (numeral : Numeral). line_past numeral.end ≡ line_past (past_blanks bytes place))
      (λ (numeral : Numeral). line_past numeral.end ≡ line_past from)
      (number_past how (past_blanks bytes place))
      (λ numeral is. is ∙ past_skip is_blank_byte refl place ∙ same)

  close_past : (place from : ℕ) → line_past place ≡ line_past from
      → IfOk (line_end bytes place) (λ (end : ℕ). end ≡ line_past from)
  close_past place from same = by (is_line_end bytes (past_blanks bytes place)) refl
    where
      by : (b : Bool) → is_line_end bytes (past_blanks bytes place) ≡ b
          → IfOk {E = LayerFault} (if b then Ok (past_blanks bytes place) else Err (Bad (past_blanks bytes place)))
          (λ (end : ℕ). end ≡ line_past from)
      by true ends = omega (arith, end_zero (past_blanks bytes place) ends, past_skip is_blank_byte refl place, same)
      by false goes = tt

  -- a row that is read ends where the line ends in which it begins
  module _ (how : How) (from : ℕ) where
    abbrev EndsLine : LineRow → Type 0
    EndsLine line = line.line_end ≡ line_past from

    by_end : (x y z : Numeral) → line_past z.end ≡ line_past from
        → IfOk (then_read (λ (end : ℕ). Ok (line_row from x y z end)) (line_end bytes z.end)) EndsLine
    by_end x y z same = then_more (λ (end : ℕ). Ok (line_row from x y z end)) (line_end bytes z.end)
        (λ (end : ℕ). end ≡ line_past from) EndsLine (close_past z.end from same) (λ end is. is)

    by_third : (x y : Numeral) → line_past y.end ≡ line_past from
        → IfOk (then_read (λ (z : Numeral). then_read (λ (end : ℕ). Ok (line_row from x y z end)) (line_end bytes z.end))
        (next_number how bytes y.end)) EndsLine
    by_third x y same = then_more
        (λ (z : Numeral). then_read (λ (end : ℕ). Ok (line_row from x y z end)) (line_end bytes z.end))
        (next_number how bytes y.end) (λ (z : Numeral). line_past z.end ≡ line_past from) EndsLine
        (next_past how y.end from same) (λ z so. by_end x y z so)

    by_second : (x : Numeral) → line_past x.end ≡ line_past from
        → IfOk (then_read (λ (y : Numeral). then_read (λ (z : Numeral). then_read (λ (end : ℕ).
        Ok (line_row from x y z end)) (line_end bytes z.end)) (next_number how bytes y.end))
        (next_number how bytes x.end)) EndsLine
    by_second x same = then_more
        (λ (y : Numeral). then_read (λ (z : Numeral). then_read (λ (end : ℕ).
        Ok (line_row from x y z end)) (line_end bytes z.end)) (next_number how bytes y.end))
        (next_number how bytes x.end) (λ (y : Numeral). line_past y.end ≡ line_past from) EndsLine
        (next_past how x.end from same) (λ y so. by_third x y so)

    pub row_past : IfOk (row_at how bytes from) EndsLine
    row_past = then_more
        (λ (x : Numeral). then_read (λ (y : Numeral). then_read (λ (z : Numeral). then_read (λ (end : ℕ).
        Ok (line_row from x y z end)) (line_end bytes z.end)) (next_number how bytes y.end))
        (next_number how bytes x.end))
        (number_at how bytes from) (λ (x : Numeral). line_past x.end ≡ line_past from) EndsLine
        (number_past how from) (λ x so. by_second x so)

  -- ---- blank lines
  abbrev first : ℕ → ℕ
  first from = past_blanks bytes from

  pub past_first : (from : ℕ) → line_past (first from) ≡ line_past from
  past_first from = past_skip is_blank_byte refl from

  pub is_blank : (from : ℕ) → is_line_end bytes (first from) ≡ true
      → list_all is_blank_byte (take (line_length (drop from bytes)) (drop from bytes)) ≡ true
  is_blank from ends =
      let all : prefix_len is_blank_byte (drop from bytes) ≡ line_length (drop from bytes) =
      omega (arith, end_zero (first from) ends, past_first from) in
      subst (λ (n : ℕ). list_all is_blank_byte (take n (drop from bytes)) ≡ true) all
      (prefix_all is_blank_byte (drop from bytes))

  pub is_not_blank : (from : ℕ) → is_line_end bytes (first from) ≡ false
      → list_all is_blank_byte (take (line_length (drop from bytes)) (drop from bytes)) ≡ false
  is_not_blank from goes = longer_not_all is_blank_byte (line_length (drop from bytes)) (drop from bytes)
      (omega (arith, end_more (first from) goes, past_first from))
      (prefix_len-le-length (λ byte. not (is_feed byte)) (drop from bytes))
