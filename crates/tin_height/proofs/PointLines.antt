-- The lines of a list of points are read one after another.
use Rattle.std.proofs.Common.{◌≡◌, ◌⊎◌, inl, inr, ℕ, ◌+◌, ◌<◌, ◌≤◌, List, [], ◌∷◌, ◌++◌, length, take, drop, Bool, true, false}
use Rattle.std.proofs.Common.{refl, sym, ap, ap₂, ◌∙◌, subst, unsigned_abs, arith, append-nil, append_assoc, drop-drop}
use Rattle.std.proofs.Common.{length-take-le, take_all}
use Rattle.std.proofs.lemmas.Bool.{cases_lt}
use Rattle.std.proofs.lemmas.List.{drop_all}
use Rattle.std.proofs.lemmas.List.Splits.{slice_split_first, slice_split_none}
use Rattle.std.proofs.lemmas.List.Sums.{fails_before_first}
use Rattle.std.specs.Prelude.{◌&&◌, not, if◌then◌else◌, Result, Ok, Err, IfOk, IsErrAnd}
use Rattle.mm_decimal.specs.AnswerValues.{millimetres_of}
use Rattle.mm_decimal.specs.Answers.{loss_of}
use Rattle.mm_decimal.specs.declared.limits.TheConstants.{LIMIT}
use Rattle.mm_decimal.specs.declared.numerals.MmRead.{MmRead}
use Rattle.mm_decimal.specs.declared.numerals.NumFault.{NumFault}
use Rattle.mm_decimal.proofs.MeasuredAnswers.{read_within}
use Rattle.sheet_base.specs.declared.flags.How.{How}
use Rattle.sheet_base.specs.declared.faults.LayerFault.{LayerFault}
use Rattle.sheet_base.specs.declared.faults.LayerFault.TheVariants.{Inexact, NoMemory}
use Rattle.tin_height.specs.Points.{past_blanks, numeral_or_fault, is_feed, is_line_end, row_at, then_read, text_lines, joined_rows}
use Rattle.tin_height.specs.Points.{line_rows, rows_of, reading, ArePointsOf}
use Rattle.tin_height.specs.declared.points.Points.{Points}
use Rattle.tin_height.specs.declared.points.Numeral.{Numeral}
use Rattle.tin_height.specs.declared.points.LineRow.{LineRow}
use Rattle.tin_height.proofs.LineEnds.{line_length, line_past, end_zero, past_first, is_blank, is_not_blank, row_past}

-- ---- a number is within reach
pub number_within : (how : How) (at end : ℕ) (text : List ℕ)
    → IfOk (numeral_or_fault how at end (millimetres_of text)) (λ (numeral : Numeral). unsigned_abs numeral.mm ≤ LIMIT)
number_within how at end text = by_answer (millimetres_of text) refl
  where
    by_test : (test : Bool) (read : MmRead) → unsigned_abs read.mm ≤ LIMIT
        → IfOk {E = LayerFault} (if test then Err (Inexact at) else Ok (record { mm = read.mm; inexact = loss_of read; end = end }))
        (λ (numeral : Numeral). unsigned_abs numeral.mm ≤ LIMIT)
    by_test true read h = tt
    by_test false read h = h

    by_answer : (answer : Result MmRead NumFault) → millimetres_of text ≡ answer
        → IfOk (numeral_or_fault how at end answer) (λ (numeral : Numeral). unsigned_abs numeral.mm ≤ LIMIT)
    by_answer (Err fault) is = tt
    by_answer (Ok read) is = by_test (how.exact && not read.exact) read (read_within text read is)

-- ---- the first line of a text
module _ (how : How) (bytes : List ℕ) where
  rows_first : (from : ℕ) (text : List ℕ) → rows_of how bytes from (text_lines text)
      ≡ joined_rows (line_rows how bytes from (take (line_length text) text))
      (rows_of how bytes (from + line_length text + 1) (text_lines (drop (line_length text + 1) text)))
  rows_first from text = by (cases_lt (line_length text) (length text))
    where
      by : (line_length text < length text) ⊎ (length text ≤ line_length text)
          → rows_of how bytes from (text_lines text)
          ≡ joined_rows (line_rows how bytes from (take (line_length text) text))
          (rows_of how bytes (from + line_length text + 1) (text_lines (drop (line_length text + 1) text)))
      by (inl more) =
          ap (rows_of how bytes from) (slice_split_first is_feed text 0 more)
          ∙ ap (λ (n : ℕ). joined_rows (line_rows how bytes from (take (line_length text) text))
          (rows_of how bytes (from + n + 1) (text_lines (drop (line_length text + 1) text))))
          (length-take-le (line_length text) text (omega (arith, more)))
      by (inr last) =
          let alone : text_lines text ≡ text ∷ [] = slice_split_none is_feed text
          (λ k d within. fails_before_first is_feed text k d (omega (arith, within, last))) in
          ap (rows_of how bytes from) alone
          ∙ sym (ap₂ (λ (line rest : List ℕ). joined_rows (line_rows how bytes from line)
          (rows_of how bytes (from + line_length text + 1) (text_lines rest)))
          (take_all (line_length text) text last) (drop_all (line_length text + 1) text (omega (arith, last))))

  -- the rows of the lines from a place on
  abbrev after : ℕ → Result (List LineRow) LayerFault
  after place = rows_of how bytes place (text_lines (drop place bytes))

  rows_step : (from : ℕ) → after from
      ≡ joined_rows (line_rows how bytes from (take (line_length (drop from bytes)) (drop from bytes)))
      (after (line_past bytes from + 1))
  rows_step from =
      let n : ℕ = line_length (drop from bytes) in
      let place : from + (n + 1) ≡ from + n + 1 = omega arith in
      rows_first from (drop from bytes)
      ∙ ap (λ (rest : List ℕ). joined_rows (line_rows how bytes from (take n (drop from bytes)))
      (rows_of how bytes (from + n + 1) (text_lines rest)))
      (drop-drop (n + 1) from bytes ∙ ap (λ (k : ℕ). drop k bytes) place)

-- ---- line by line
joined_none : (rows : List LineRow) (later : Result (List LineRow) LayerFault)
    → joined_rows (Ok rows) (joined_rows (Ok []) later) ≡ joined_rows (Ok rows) later
joined_none rows (Ok others) = refl
joined_none rows (Err fault) = refl

joined_two : (rows more : List LineRow) (later : Result (List LineRow) LayerFault)
    → joined_rows (Ok rows) (joined_rows (Ok more) later) ≡ joined_rows (Ok (rows ++ more)) later
joined_two rows more (Ok others) = ap Ok (sym (append_assoc rows more others))
joined_two rows more (Err fault) = refl

joined_alone : (later : Result (List LineRow) LayerFault) → later ≡ joined_rows (Ok []) later
joined_alone (Ok others) = refl
joined_alone (Err fault) = refl

-- these rows are read up to this place, and the whole is what follows them
pub record IsReadTo (how : How) (bytes : List ℕ) (from : ℕ) (whole : Result (List LineRow) LayerFault)
    (lines : List LineRow) : Type 0 where
  pub whole_is : whole ≡ joined_rows (Ok lines) (rows_of how bytes from (text_lines (drop from bytes)))

pub nothing_read : (how : How) (bytes : List ℕ) → IsReadTo how bytes 0 (reading how bytes) []
nothing_read how bytes = record { whole_is = joined_alone (reading how bytes) }

module _ (how : How) (bytes : List ℕ) (from : ℕ) (whole : Result (List LineRow) LayerFault) (lines : List LineRow)
    (h : IsReadTo how bytes from whole lines) where
  abbrev first : ℕ
  first = past_blanks bytes from

  abbrev this_line : List ℕ
  this_line = take (line_length (drop from bytes)) (drop from bytes)

  step : whole ≡ joined_rows (Ok lines) (joined_rows (line_rows how bytes from this_line) (after how bytes (line_past bytes from + 1)))
  step = h.whole_is ∙ ap (joined_rows (Ok lines)) (rows_step how bytes from)

  pub blank_line : from < length bytes → is_line_end bytes first ≡ true → IsReadTo how bytes (first + 1) whole lines
  blank_line within ends =
      let none : line_rows how bytes from this_line ≡ Ok [] =
      ap (λ (b : Bool). if b then Ok [] else then_read (λ (row : LineRow). Ok (row ∷ [])) (row_at how bytes first))
      (is_blank bytes from ends) in
      let here : line_past bytes from ≡ first = omega (arith, end_zero bytes first ends, past_first bytes from) in
      record {
        whole_is = step
            ∙ ap (λ (rows : Result (List LineRow) LayerFault). joined_rows (Ok lines) (joined_rows rows
            (after how bytes (line_past bytes from + 1)))) none
            ∙ joined_none lines (after how bytes (line_past bytes from + 1))
            ∙ ap (λ (place : ℕ). joined_rows (Ok lines) (after how bytes (place + 1))) here;
      }

  row_so : is_line_end bytes first ≡ false
      → line_rows how bytes from this_line ≡ then_read (λ (row : LineRow). Ok (row ∷ [])) (row_at how bytes first)
  row_so goes =
      ap (λ (b : Bool). if b then Ok [] else then_read (λ (row : LineRow). Ok (row ∷ [])) (row_at how bytes first))
      (is_not_blank bytes from goes)

  pub row_line : from < length bytes → is_line_end bytes first ≡ false → (line : LineRow)
      → row_at how bytes first ≡ Ok line → first ≤ line.line_end
      → IsReadTo how bytes (line.line_end + 1) whole (lines ++ line ∷ [])
  row_line within goes line read onward =
      let one : line_rows how bytes from this_line ≡ Ok (line ∷ []) =
      row_so goes ∙ ap (then_read (λ (row : LineRow). Ok (row ∷ []))) read in
      let ended : line.line_end ≡ line_past bytes first =
      subst (λ (r : Result LineRow LayerFault). IfOk r (λ (row : LineRow). row.line_end ≡ line_past bytes first)) read
      (row_past bytes how first) in
      let there : line_past bytes from ≡ line.line_end = sym (ended ∙ past_first bytes from) in
      record {
        whole_is = step
            ∙ ap (λ (rows : Result (List LineRow) LayerFault). joined_rows (Ok lines) (joined_rows rows
            (after how bytes (line_past bytes from + 1)))) one
            ∙ joined_two lines (line ∷ []) (after how bytes (line_past bytes from + 1))
            ∙ ap (λ (place : ℕ). joined_rows (Ok (lines ++ line ∷ [])) (after how bytes (place + 1))) there;
      }

  pub row_fault : from < length bytes → is_line_end bytes first ≡ false → (fault : LayerFault)
      → row_at how bytes first ≡ Err fault → whole ≡ Err fault
  row_fault within goes fault read =
      let refused : line_rows how bytes from this_line ≡ Err fault =
      row_so goes ∙ ap (then_read (λ (row : LineRow). Ok (row ∷ []))) read in
      step
      ∙ ap (λ (rows : Result (List LineRow) LayerFault). joined_rows (Ok lines) (joined_rows rows
      (after how bytes (line_past bytes from + 1)))) refused

  pub lines_end : length bytes ≤ from → whole ≡ Ok lines
  lines_end end = h.whole_is
      ∙ ap (λ (rest : List ℕ). joined_rows (Ok lines) (rows_of how bytes from (text_lines rest))) (drop_all from bytes end)
      ∙ ap Ok (append-nil lines)

-- ---- the answer
pub points_fault : (fault : LayerFault) (result : Result Points LayerFault) (wanted : Result (List LineRow) LayerFault)
    → IsErrAnd result (λ e. e ≡ fault) → wanted ≡ Err fault → ArePointsOf result wanted
points_fault fault (Ok points) wanted h is = absurd h
points_fault fault (Err NoMemory) wanted h is = tt
points_fault fault (Err other) wanted h is = is ∙ ap Err (sym h)
