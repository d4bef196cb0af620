-- A text is that of one report, and bytes are bad at one line.
use Rattle.std.proofs.Common.{◌≡◌, ℕ, suc, ◌+◌, ◌⊎◌, inl, inr, List, [], ◌∷◌, ◌++◌, length, Option, refl, sym, ◌∙◌, ap}
use Rattle.std.proofs.Common.{append_assoc, append-nil, subst}
use Rattle.std.specs.List.{AllByRecursion}
use Rattle.tin_base.specs.declared.pieces.Change.{Change}
use Rattle.ring_side.specs.declared.kinds.SideChange.{SideChange}
use Rattle.text_places.specs.Machine.{run}
use Rattle.text_places.specs.Places.{Begins}
use Rattle.text_places.proofs.Fronts.{begins_front}
use Rattle.report_text.specs.declared.drafts.TinRow.{TinRow}
use Rattle.report_text.specs.declared.lines.TheConstants.{LINE_FEED}
use Rattle.report_text.specs.declared.rows.LayerRow.{LayerRow}
use Rattle.report_text.specs.Beginnings.{IsReportText, IsSomeText, IsLine, IsBadAt}
use Rattle.report_text.specs.ReportText.{report_lines, text_of_lines}
use Rattle.report_text.specs.Reports.{ReportContents}
use Rattle.report_text.specs.InsideSteps.{at_title, at_end, step}
use Rattle.report_text.proofs.LongerTexts.{text_of_lines-append}
use Rattle.text_fields.proofs.StepChains.{some_is}
use Rattle.report_text.proofs.LineLaws.{contents_of}
use Rattle.report_text.proofs.LineTexts.{front_lines, one_line}
use Rattle.report_text.proofs.PrintableLines.{report_is_lines}
use Rattle.report_text.proofs.LineRecognition.{tin_of_report, run_report}

-- ---- one report

-- texts of lines that are one have the same lines
same_lines : (all other : List (List ℕ)) → AllByRecursion IsLine all → AllByRecursion IsLine other
    → text_of_lines all ≡ text_of_lines other → all ≡ other
same_lines all other are_all are_other same =
    let front = front_lines all other [] are_all are_other (same ∙ sym (append-nil (text_of_lines other))) in
    by_more front.more front.whole front.behind
  where
    nothing : (line behind : List ℕ) → [] ≡ line ++ LINE_FEED ∷ behind → ⊥
    nothing [] behind is = cc
    nothing (b ∷ line) behind is = cc

    by_more : (more : List (List ℕ)) → all ≡ other ++ more → [] ≡ text_of_lines more → all ≡ other
    by_more [] whole behind = whole ∙ append-nil other
    by_more (line ∷ more) whole behind = absurd
        (nothing line (text_of_lines more) (behind ∙ append_assoc line (LINE_FEED ∷ []) (text_of_lines more)))

same_parts : (tin other : TinRow) (rows others : List LayerRow) (changes others' : List Change)
    (sides others'' : Option (List SideChange))
    → at_end tin rows changes sides ≡ at_end other others others' others''
    → contents_of tin rows changes sides ≡ contents_of other others others' others''
same_parts tin other rows others changes others' sides others'' same =
    let tins : tin ≡ other = cc in
    let layers : rows ≡ others = cc in
    let changed : changes ≡ others' = cc in
    let told : sides ≡ others'' = cc in
    ap (λ t. contents_of t rows changes sides) tins
    ∙ (ap (λ r. contents_of other r changes sides) layers
    ∙ (ap (λ c. contents_of other others c sides) changed ∙ ap (λ s. contents_of other others others' s) told))

pub one_report : (bytes : List ℕ) (report other : ReportContents) → IsReportText bytes report → IsReportText bytes other
    → report ≡ other
one_report bytes report other is is_other =
    let lines = same_lines (report_lines report) (report_lines other) (report_is_lines report is.kept is.held)
    (report_is_lines other is_other.kept is_other.held) (sym is.spelled ∙ is_other.spelled) in
    let end = run_report report is.kept is.held in
    let other_end = run_report other is_other.kept is_other.held in
    same_parts (tin_of_report report) (tin_of_report other) report.layers other.layers report.changes other.changes
    report.sides other.sides
    (some_is (at_end (tin_of_report report) report.layers report.changes report.sides)
    (at_end (tin_of_report other) other.layers other.changes other.sides)
    (sym end ∙ (ap (run step at_title) lines ∙ other_end)))

-- ---- one line

-- of two cuts after lines, one has a line more at least, or both have as many
pub record HasLineMore (front other : List (List ℕ)) (rest : List ℕ) : Type 0 where
  pub line : List ℕ
  pub behind : List ℕ
  pub more : List (List ℕ)
  pub is_line : IsLine line
  pub whole : rest ≡ line ++ LINE_FEED ∷ behind
  pub longer : other ≡ front ++ line ∷ more

cuts : (front other : List (List ℕ)) (rest rest' : List ℕ) → AllByRecursion IsLine front → AllByRecursion IsLine other
    → text_of_lines front ++ rest ≡ text_of_lines other ++ rest'
    → (length front ≡ length other) ⊎ (HasLineMore front other rest ⊎ HasLineMore other front rest')
cuts [] [] rest rest' are are' same = inl refl
cuts [] (line ∷ other) rest rest' are are' same = inr (inl (record {
  line = line;
  behind = text_of_lines other ++ rest';
  more = other;
  is_line = are'.0;
  whole = same ∙ (append_assoc (line ++ LINE_FEED ∷ []) (text_of_lines other) rest'
      ∙ append_assoc line (LINE_FEED ∷ []) (text_of_lines other ++ rest'));
  longer = refl;
}))
cuts (line ∷ front) [] rest rest' are are' same = inr (inr (record {
  line = line;
  behind = text_of_lines front ++ rest;
  more = front;
  is_line = are.0;
  whole = sym same ∙ (append_assoc (line ++ LINE_FEED ∷ []) (text_of_lines front) rest
      ∙ append_assoc line (LINE_FEED ∷ []) (text_of_lines front ++ rest));
  longer = refl;
}))
cuts (line ∷ front) (line' ∷ other) rest rest' are are' same =
    let left = append_assoc (line ++ LINE_FEED ∷ []) (text_of_lines front) rest
    ∙ append_assoc line (LINE_FEED ∷ []) (text_of_lines front ++ rest) in
    let right = append_assoc (line' ++ LINE_FEED ∷ []) (text_of_lines other) rest'
    ∙ append_assoc line' (LINE_FEED ∷ []) (text_of_lines other ++ rest') in
    let one = one_line line line' (text_of_lines front ++ rest) (text_of_lines other ++ rest') are.0 are'.0
    (sym left ∙ (same ∙ right)) in
    elim (cuts front other rest rest' are.1 are'.1 one.behind) [
      | inl equal ↦ inl (ap suc equal)
      | inr (inl more) ↦ inr (inl (record {
        line = more.line;
        behind = more.behind;
        more = more.more;
        is_line =
            more.is_line;
        whole = more.whole;
        longer = cons_same (sym one.line) more.longer;
      }))
      | inr (inr more) ↦ inr (inr (record {
        line = more.line;
        behind = more.behind;
        more = more.more;
        is_line =
            more.is_line;
        whole = more.whole;
        longer = cons_same one.line more.longer;
      }))
    ]
  where
    cons_same : {c d : List ℕ} {a b : List (List ℕ)} → c ≡ d → a ≡ b → c ∷ a ≡ d ∷ b
    cons_same h t = cc

-- a cut after more lines than those before a bad line begins no report
no_more : (bytes : List ℕ) (line other : ℕ) (bad : IsBadAt bytes line) (later : IsBadAt bytes other)
    → HasLineMore bad.before later.before bad.rest → ⊥
no_more bytes line other bad later more =
    let begun : Begins IsSomeText (text_of_lines (bad.before ++ more.line ∷ more.more)) =
    subst (λ ls. Begins IsSomeText (text_of_lines ls)) more.longer later.begun in
    let cut : text_of_lines (bad.before ++ more.line ∷ more.more)
    ≡ (text_of_lines bad.before ++ (more.line ++ LINE_FEED ∷ [])) ++ text_of_lines more.more
    = text_of_lines-append bad.before (more.line ∷ more.more)
    ∙ sym (append_assoc (text_of_lines bad.before) (more.line ++ LINE_FEED ∷ []) (text_of_lines more.more)) in
    bad.stops more.line more.behind more.is_line more.whole
    (begins_front IsSomeText (text_of_lines bad.before ++ (more.line ++ LINE_FEED ∷ [])) (text_of_lines more.more)
    (subst (Begins IsSomeText) cut begun))

pub one_bad_line : (bytes : List ℕ) (line other : ℕ) → IsBadAt bytes line → IsBadAt bytes other → line ≡ other
one_bad_line bytes line other bad later =
    elim (cuts bad.before later.before bad.rest later.rest bad.are_lines later.are_lines
    (sym bad.whole ∙ later.whole)) [
      | inl equal ↦ bad.counted ∙ (ap (λ n. n + 1) equal ∙ sym later.counted)
      | inr (inl more) ↦ absurd (no_more bytes line other bad later more)
      | inr (inr more) ↦ absurd (no_more bytes other line later bad more)
    ]
