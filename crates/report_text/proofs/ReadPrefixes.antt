-- How far the bytes were read, and what follows where reading stops.
use Rattle.std.proofs.Common.{◌≡◌, ℕ, suc, ◌+◌, ◌<◌, ◌≤◌, ◌^◌, List, [], ◌∷◌, ◌++◌, length, Option, Bool, true, false, cond, Some, None, refl, sym, ◌∙◌}
use Rattle.std.proofs.Common.{ap, arith, append_assoc, append-nil, subst, length-append}
use Rattle.std.proofs.lemmas.Option.{same_Some, option_and_then_some}
use Rattle.std.specs.Cmp.Lexicographic.{same_text}
use Rattle.std.specs.List.{AllByRecursion}
use Rattle.std.specs.Str.{bytes_eq}
use Rattle.ring_side.specs.declared.kinds.SideChange.{SideChange}
use Rattle.text_places.specs.Machine.{run}
use Rattle.text_places.specs.Places.{Begins}
use Rattle.text_places.proofs.Runs.{run_next}
use Rattle.text_places.proofs.Machines.{begins_read, begins_none}
use Rattle.std.specs.Global.{Vec}
use Rattle.report_text.specs.declared.drafts.Draft.{Draft}
use Rattle.report_text.specs.declared.drafts.Draft.TheVariants as drafts
use Rattle.report_text.specs.declared.faults.ReportFault.{ReportFault}
use Rattle.report_text.specs.declared.faults.ReportFault.TheVariants.{Bad, NoMemory}
use Rattle.report_text.specs.declared.drafts.TinRow.{TinRow}
use Rattle.report_text.specs.declared.lines.TheConstants.{LINE_FEED}
use Rattle.report_text.specs.declared.rows.LayerRow.{LayerRow}
use Rattle.tin_base.specs.declared.pieces.Change.{Change}
use Rattle.report_text.specs.Beginnings.{IsReportText, IsSomeText, IsLine, IsBadAt, IsFaultOf}
use Rattle.report_text.specs.ReportText.{title, report_lines, text_of_lines}
use Rattle.report_text.specs.Reports.{ReportContents}
use Rattle.report_text.specs.InsideSteps.{State, at_title, at_tin, at_end, step, state_of, Refuses}
use Rattle.report_text.proofs.LongerTexts.{text_of_lines-append}
use Rattle.report_text.proofs.LineLaws.{contents_of}
use Rattle.report_text.proofs.LineTexts.{AreFront, front_lines, one_line, no_feed, more_lines, text_of_more}
use Rattle.report_text.proofs.PrintableLines.{report_is_lines}
use Rattle.report_text.proofs.LineRecognition.{AreReportLines, Ends, lines_of_end, machine}

-- these lines were read and led to this state, the rest is from the line of this number on
pub record Reached (bytes rest : List ℕ) (number : ℕ) (state : State) : Type 0 where
  pub lines : List (List ℕ)
  pub whole : bytes ≡ text_of_lines lines ++ rest
  pub are_lines : AllByRecursion IsLine lines
  pub counted : number ≡ length lines + 1
  pub leads : run step at_title lines ≡ Some state

-- one line more
pub one_more : (bytes rest line behind : List ℕ) (number : ℕ) (state next : State) → Reached bytes rest number state
    → IsLine line → rest ≡ line ++ LINE_FEED ∷ behind
    → step state line ≡ Some next → Reached bytes behind (number + 1) next
one_more bytes rest line behind number state next reached is_line is leads = record {
  lines = reached.lines ++ line ∷ [];
  whole = reached.whole ∙ (ap (λ r. text_of_lines reached.lines ++ r)
      (is ∙ sym (append_assoc line (LINE_FEED ∷ []) behind))
      ∙ (sym (append_assoc (text_of_lines reached.lines) (line ++ LINE_FEED ∷ []) behind)
      ∙ ap (λ t. t ++ behind) (sym (text_of_more reached.lines line))));
  are_lines = more_lines reached.lines line reached.are_lines is_line;
  counted = rw length-append (omega (arith, reached.counted));
  leads = run_next step at_title state reached.lines line reached.leads ∙ leads;
}

-- ---- lines of reports and their texts

some_text : (lines : List (List ℕ)) → Begins AreReportLines lines → Begins IsSomeText (text_of_lines lines)
some_text lines (more, (report, are)) = (
  text_of_lines more,
  (
    report,
    record {
      kept = are.kept;
      held = are.held;
      spelled = sym (text_of_lines-append lines more) ∙ ap text_of_lines are.spelled;
    },
  ),
)

some_lines : (lines : List (List ℕ)) (rest : List ℕ) (report : ReportContents) → AllByRecursion IsLine lines
    → IsReportText (text_of_lines lines ++ rest) report → AreFront (report_lines report) lines rest
some_lines lines rest report are is = front_lines (report_lines report) lines rest
    (report_is_lines report is.kept is.held) are (sym is.spelled)

begins_lines : (lines : List (List ℕ)) → AllByRecursion IsLine lines → Begins IsSomeText (text_of_lines lines)
    → Begins AreReportLines lines
begins_lines lines are (rest, (report, is)) =
    let front = some_lines lines rest report are is in
    (front.more, (report, record { kept = is.kept; held = is.held; spelled = sym front.whole }))

-- ---- where reading stops

-- the next line leads nowhere
pub stops_here : (bytes rest line behind : List ℕ) (number : ℕ) (state : State) → Reached bytes rest number state
    → IsLine line → rest ≡ line ++ LINE_FEED ∷ behind
    → step state line ≡ None → IsBadAt bytes number
stops_here bytes rest line behind number state reached is_line is stops = record {
  before = reached.lines;
  rest = rest;
  whole = reached.whole;
  are_lines = reached.are_lines;
  counted = reached.counted;
  begun = some_text reached.lines (begins_read AreReportLines step at_title Ends machine reached.lines state
      reached.leads);
  stops = λ other more is_other same begins.
      let one = one_line other line more behind is_other is_line (sym same ∙ is) in
      never (subst (λ l. Begins IsSomeText (text_of_lines reached.lines ++ (l ++ LINE_FEED ∷ []))) one.line begins);
  no_text = λ some. never (behind, (some.0, subst (λ b. IsReportText b some.0) cut some.1));
}
  where
    all : List (List ℕ)
    all = reached.lines ++ line ∷ []

    never : Begins IsSomeText (text_of_lines reached.lines ++ (line ++ LINE_FEED ∷ [])) → ⊥
    never begins =
        begins_none AreReportLines step at_title Ends machine.reads (reached.lines ++ line ∷ [])
        (run_next step at_title state reached.lines line reached.leads ∙ stops)
        (begins_lines (reached.lines ++ line ∷ []) (more_lines reached.lines line reached.are_lines is_line)
        (subst (Begins IsSomeText) (sym (text_of_more reached.lines line)) begins))

    cut : bytes ≡ (text_of_lines reached.lines ++ (line ++ LINE_FEED ∷ [])) ++ behind
    cut = reached.whole ∙ (ap (λ r. text_of_lines reached.lines ++ r)
        (is ∙ sym (append_assoc line (LINE_FEED ∷ []) behind))
        ∙ sym (append_assoc (text_of_lines reached.lines) (line ++ LINE_FEED ∷ []) behind))

-- the bytes end in a line, or after lines that are no whole report
pub ends_here : (bytes rest : List ℕ) (number : ℕ) (state : State) → Reached bytes rest number state → IsLine rest
    → (Ends state → rest ≡ [] → ⊥) → IsBadAt bytes number
ends_here bytes rest number state reached is_line open_still = record {
  before = reached.lines;
  rest = rest;
  whole = reached.whole;
  are_lines = reached.are_lines;
  counted = reached.counted;
  begun = some_text reached.lines (begins_read AreReportLines step at_title Ends machine reached.lines state
      reached.leads);
  stops = λ line more is_other same begins. no_feed rest line more is_line same;
  no_text = λ some. whole_text some.0 (some_lines reached.lines rest some.0 reached.are_lines
      (subst (λ b. IsReportText b some.0) reached.whole some.1)) some.1;
}
  where
    by_more : (report : ReportContents) (more : List (List ℕ)) → rest ≡ text_of_lines more
        → report_lines report ≡ reached.lines ++ more → IsReportText bytes report → ⊥
    by_more report [] is_rest are text =
        let read = machine.reads reached.lines (
          report,
          record { kept = text.kept; held = text.held; spelled = sym (append-nil reached.lines) ∙ sym are },
        ) in
        open_still (subst Ends (same_Some read.0 state (sym read.1 ∙ reached.leads)) read.2) is_rest
    by_more report (line ∷ more) is_rest are text =
        no_feed rest line (text_of_lines more) is_line
        (is_rest ∙ append_assoc line (LINE_FEED ∷ []) (text_of_lines more))

    whole_text : (report : ReportContents) → AreFront (report_lines report) reached.lines rest
        → IsReportText bytes report → ⊥
    whole_text report front text = by_more report front.more front.behind front.whole text

-- a whole report was read, and nothing comes after it
pub is_whole : (bytes : List ℕ) (number : ℕ) (tin : TinRow) (rows : List LayerRow) (changes : List Change)
    (sides : Option (List SideChange)) → Reached bytes [] number (at_end tin rows changes sides)
    → IsReportText bytes (contents_of tin rows changes sides)
is_whole bytes number tin rows changes sides reached =
    let are = lines_of_end tin rows changes sides reached.lines reached.leads in
    record {
      kept = are.kept;
      held = are.held;
      spelled = reached.whole ∙ (append-nil (text_of_lines reached.lines) ∙ ap text_of_lines are.spelled);
    }

-- ---- the numbers of lines fit

text_long : (lines : List (List ℕ)) → length lines ≤ length (text_of_lines lines)
text_long [] = omega arith
text_long (line ∷ lines) =
    let later = text_long lines in
    let parts : length (text_of_lines (line ∷ lines)) ≡ (length line + 1) + length (text_of_lines lines) =
    length-append (line ++ LINE_FEED ∷ []) (text_of_lines lines)
    ∙ ap (λ n. n + length (text_of_lines lines)) (length-append line (LINE_FEED ∷ [])) in
    omega (arith, later, parts)

title_long : (sided : Bool) → length (title sided) ≡ 16
unfolding title
title_long false = refl
title_long true = refl

by_title : (line : List ℕ) (state : State) (first second : Bool) → bytes_eq line (title false) ≡ first
    → bytes_eq line (title true) ≡ second → cond first (Some (at_tin false)) (cond second (Some (at_tin true)) None) ≡ Some state
    → length line ≡ 16
by_title line state true second is_first is_second is =
    ap length (same_text line (title false) (sym is_first)) ∙ title_long false
by_title line state false true is_first is_second is =
    ap length (same_text line (title true) (sym is_second)) ∙ title_long true
by_title line state false false is_first is_second is = absurd cc

first_is_title : (line : List ℕ) (lines : List (List ℕ)) (state : State) → run step at_title (line ∷ lines) ≡ Some state
    → length line ≡ 16
first_is_title line lines state is =
    option_and_then_some (λ next. run step next lines) (step at_title line) state is
    (λ next here on. by_title line next (bytes_eq line (title false)) (bytes_eq line (title true)) refl refl here)

-- the first line is the title, so there is room for one more number
pub number_fits : (bytes rest : List ℕ) (number : ℕ) (state : State) → Reached bytes rest number state
    → length bytes < 2 ^ 64 → number + 1 < 2 ^ 64
number_fits bytes rest number state reached small = by_lines reached.lines refl
  where
    size : length bytes ≡ length (text_of_lines reached.lines) + length rest
    size = ap length reached.whole ∙ length-append (text_of_lines reached.lines) rest

    by_lines : (lines : List (List ℕ)) → lines ≡ reached.lines → number + 1 < 2 ^ 64
    by_lines [] are =
        let count : number ≡ 1 = reached.counted ∙ ap (λ ls. length ls + 1) (sym are) in
        omega (arith, count)
    by_lines (line ∷ lines) are =
        let count : number ≡ suc (length lines) + 1 = reached.counted ∙ ap (λ ls. length ls + 1) (sym are) in
        let long : length (text_of_lines (line ∷ lines)) ≡ (length line + 1) + length (text_of_lines lines)
        = length-append (line ++ LINE_FEED ∷ []) (text_of_lines lines)
        ∙ ap (λ n. n + length (text_of_lines lines)) (length-append line (LINE_FEED ∷ [])) in
        let first : length line ≡ 16 =
        first_is_title line lines state (ap (run step at_title) are ∙ reached.leads) in
        let whole : length bytes ≡ length (text_of_lines (line ∷ lines)) + length rest = size
        ∙ ap (λ ls. length (text_of_lines ls) + length rest) (sym are) in
        let rest_long = text_long lines in
        omega (arith, count, long, first, whole, rest_long)

-- ---- a draft that does not end

pub not_whole : (draft : Draft) → Ends (state_of draft)
    → ((tin : TinRow) (rows : Vec LayerRow) (changes : Vec Change) (sides : Option (List SideChange))
    → draft ≡ drafts.Whole tin rows changes sides → ⊥) → ⊥
not_whole (drafts.Whole tin rows changes sides) ends other = other tin rows changes sides refl
not_whole draft ends other = ends

-- ---- what the calls say

pub stops_at : (bytes rest line behind : List ℕ) (number : ℕ) (state : State) (fault : ReportFault)
    → Reached bytes rest number state → IsLine line → rest ≡ line ++ LINE_FEED ∷ behind
    → Refuses fault number (step state line) → IsFaultOf bytes fault
stops_at bytes rest line behind number state (Bad at) reached is_line is refused =
    subst (IsBadAt bytes) (sym refused.0) (stops_here bytes rest line behind number state reached is_line is refused.1)
stops_at bytes rest line behind number state NoMemory reached is_line is refused = tt

pub whole_draft : (bytes rest : List ℕ) (number : ℕ) (draft : Draft) (tin : TinRow) (rows : Vec LayerRow)
    (changes : Vec Change) (sides : Option (List SideChange)) → Reached bytes rest number (state_of draft) → rest ≡ []
    → draft ≡ drafts.Whole tin rows changes sides
    → IsReportText bytes (contents_of tin rows.items changes.items sides)
whole_draft bytes rest number draft tin rows changes sides reached nothing whole =
    is_whole bytes number tin rows.items changes.items sides
    (subst (λ r. Reached bytes r number (at_end tin rows.items changes.items sides)) nothing
    (subst (λ s. Reached bytes rest number s) (ap state_of whole) reached))
