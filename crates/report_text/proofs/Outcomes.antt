-- Any bytes are the text of a report or bad at a line, and what is written is read again.
use Rattle.std.proofs.Common.{◌≡◌, ◌≢◌, ℕ, zero, suc, ◌+◌, ◌≤◌, ◌⊎◌, inl, inr, List, [], ◌∷◌, ◌++◌, length, Option}
use Rattle.std.proofs.Common.{Some, None, Result, Ok, Err, refl, sym, ◌∙◌, ap, arith, length-append}
use Rattle.std.proofs.lemmas.Bool.Decides.{eqb_tells}
use Rattle.report_text.specs.declared.faults.ReportFault.{ReportFault}
use Rattle.report_text.specs.declared.faults.ReportFault.TheVariants.{Bad, NoMemory}
use Rattle.report_text.specs.declared.lines.TheConstants.{LINE_FEED}
use Rattle.report_text.specs.Beginnings.{IsReportText, IsLine, IsBadAt}
use Rattle.report_text.specs.Laws.{IsAnswerTo, GivesBack}
use Rattle.report_text.specs.Reports.{ReportContents}
use Rattle.report_text.specs.ReportText.{report_text}
use Rattle.report_text.specs.InsideSteps.{State, at_title, at_end, step}
use Rattle.report_text.proofs.LineLaws.{contents_of}
use Rattle.report_text.proofs.OneReport.{one_report}
use Rattle.report_text.proofs.ReadPrefixes.{Reached, one_more, stops_here, ends_here, is_whole}

-- ---- a first line

-- a text is a line, or a line with its line feed and more after it
pub record HasLine (text : List ℕ) : Type 0 where
  pub line : List ℕ
  pub behind : List ℕ
  pub is_line : IsLine line
  pub whole : text ≡ line ++ LINE_FEED ∷ behind

same_byte : (b : ℕ) → (b ≡ LINE_FEED) ⊎ (b ≢ LINE_FEED)
same_byte b =
    elim (eqb_tells b LINE_FEED) [
      | inl same ↦ inl same.1
      | inr other ↦ inr other.1
    ]

first_line : (text : List ℕ) → IsLine text ⊎ HasLine text
first_line [] = inl tt
first_line (b ∷ text) = by_byte (same_byte b) (first_line text)
  where
    by_byte : (b ≡ LINE_FEED) ⊎ (b ≢ LINE_FEED) → IsLine text ⊎ HasLine text → IsLine (b ∷ text) ⊎ HasLine (b ∷ text)
    by_byte (inl feed) later = inr (record { line = []; behind = text; is_line = tt; whole = ap (λ x. x ∷ text) feed })
    by_byte (inr other) (inl is_line) = inl (other, is_line)
    by_byte (inr other) (inr has) = inr (record {
      line = b ∷ has.line;
      behind = has.behind;
      is_line =
          (other, has.is_line);
      whole = ap (λ t. b ∷ t) has.whole;
    })

-- ---- the outcome

abbrev Outcome : List ℕ → Type 0
Outcome bytes = ((report : ReportContents) × IsReportText bytes report) ⊎ ((line : ℕ) × IsBadAt bytes line)

-- where nothing comes after the lines that were read
at_the_end : (bytes : List ℕ) (number : ℕ) (state : State) → Reached bytes [] number state → Outcome bytes
at_the_end bytes number (at_end tin rows changes sides) reached =
    inl (contents_of tin rows changes sides, is_whole bytes number tin rows changes sides reached)
at_the_end bytes other state reached = inr (other, ends_here bytes [] other state reached tt (λ ends nothing. ends))

-- where a line is that is not ended
in_a_line : (bytes rest : List ℕ) (number : ℕ) (state : State) → Reached bytes rest number state → IsLine rest
    → Outcome bytes
in_a_line bytes [] number state reached is_line = at_the_end bytes number state reached
in_a_line bytes (b ∷ rest) number state reached is_line =
    inr (number, ends_here bytes (b ∷ rest) number state reached is_line (λ ends nothing. cc))

shorter : (rest line behind : List ℕ) (most : ℕ) → rest ≡ line ++ LINE_FEED ∷ behind → length rest ≤ suc most
    → length behind ≤ most
shorter rest line behind most is few =
    let size : length rest ≡ length line + suc (length behind) = ap length is
    ∙ length-append line (LINE_FEED ∷ behind) in
    omega (arith, size)

-- by the next line, where what follows it has an outcome
by_step : (bytes rest : List ℕ) (number : ℕ) (state : State) → Reached bytes rest number state → (has : HasLine rest)
    → ((next : State) → Reached bytes has.behind (number + 1) next → Outcome bytes) → (next : Option State)
    → step state has.line ≡ next → Outcome bytes
by_step bytes rest number state reached has later None stops =
    inr (number, stops_here bytes rest has.line has.behind number state reached has.is_line has.whole stops)
by_step bytes rest number state reached has later (Some next) leads =
    later next (one_more bytes rest has.line has.behind number state next reached has.is_line has.whole leads)

outcome_from : (most : ℕ) (bytes rest : List ℕ) (number : ℕ) (state : State) → length rest ≤ most
    → Reached bytes rest number state → Outcome bytes
outcome_from zero bytes [] number state few reached = at_the_end bytes number state reached
outcome_from zero bytes (b ∷ rest) number state few reached = absurd (omega arith)
outcome_from (suc most) bytes rest number state few reached =
    elim (first_line rest) [
      | inl is_line ↦ in_a_line bytes rest number state reached is_line
      | inr has ↦ by_step bytes rest number state reached has
          (λ next later. outcome_from most bytes has.behind (number + 1) next
          (shorter rest has.line has.behind most has.whole few) later)
          (step state has.line) refl
    ]

pub some_outcome : (bytes : List ℕ) → Outcome bytes
some_outcome bytes =
    outcome_from (length bytes) bytes bytes 1 at_title (omega arith)
    (record { lines = []; whole = refl; are_lines = tt; counted = refl; leads = refl })

-- ---- writing and reading

pub written_read : (bytes : List ℕ) (report : ReportContents) (answer : Result ReportContents ReportFault)
    → IsReportText bytes report → IsAnswerTo bytes answer → GivesBack report answer
written_read bytes report (Ok read) text is = one_report bytes read report is text
written_read bytes report (Err (Bad line)) text is = is.no_text (report, text)
written_read bytes report (Err NoMemory) text is = tt

pub read_written : (bytes : List ℕ) (report : ReportContents) → IsAnswerTo bytes (Ok report)
    → report_text report ≡ bytes
read_written bytes report is = sym is.spelled
