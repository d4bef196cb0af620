-- The reading recognizes the lines of reports, and no others.
use Rattle.std.proofs.Common.{◌≡◌, ℕ, zero, suc, ◌+◌, ◌<◌, ◌≤◌, ◌^◌, List, [], ◌∷◌, ◌++◌, length, map, Option, Some, None}
use Rattle.std.proofs.Common.{Bool, true, false, refl, sym}
use Rattle.std.proofs.Common.{◌∙◌, ap, arith, subst}
use Rattle.std.specs.List.{AllByRecursion}
use Rattle.std.proofs.lemmas.Str.{IsUtf8-from_ascii}
use Rattle.std.proofs.lemmas.Str.Ascii.{IsAscii-nil}
use Rattle.tin_base.specs.declared.pieces.Change.{Change}
use Rattle.tin_base.specs.declared.pieces.Place.{Place}
use Rattle.tin_base.specs.declared.relations.Rel.TheVariants.{Apart, Touching}
use Rattle.ring_side.specs.declared.kinds.Way.TheVariants.{Positive, Negative}
use Rattle.ring_side.specs.declared.kinds.SideChange.{SideChange}
use Rattle.ring_side.specs.declared.kinds.SideChange.TheVariants.{Turn}
use Rattle.ring_side.specs.Differences.{DoesDiffer}
use Rattle.text_places.specs.Machine.{run}
use Rattle.text_places.proofs.Machines.{Recognizes}
use Rattle.report_text.specs.declared.drafts.TinRow.{TinRow}
use Rattle.report_text.specs.declared.rows.LayerRow.{LayerRow}
use Rattle.report_text.specs.ReportText.{title, tin_line, layer_lines, change_line, count_line, end_line, report_lines}
use Rattle.report_text.specs.Reports.{ReportContents, IsReport, IsHeld, IsLayerHeld, IsPrintable, IsPlaceHeld}
use Rattle.report_text.specs.Reports.{IsChangeHeld}
use Rattle.report_text.specs.Reports.{IsChanged, IsSideHeld, AreSidesHeld, DoSidesDiffer}
use Rattle.report_text.specs.ReportText.{are_told, side_line, side_lines}
use Rattle.report_text.specs.InsideSteps.{State, at_title, at_tin, at_layers, at_row, at_changes, at_sides, at_end, step}
use Rattle.report_text.proofs.LineLaws.{contents_of, IsTinHeld, tin_again, tin_line_same}
use Rattle.report_text.proofs.LayerLaws.{IsRowHeld, count_is_no_extents, count_is_no_layer, count_again}
use Rattle.report_text.proofs.ChangeLaws.{IsChangeGood}
use Rattle.report_text.proofs.SideLaws.{IsSideGood, AreSidesGood}
use Rattle.report_text.proofs.LineRuns.{row_passes, run_layers, run_ends, run_sides}
use Rattle.report_text.proofs.LineSpellings.{run_spells}

-- the lines of this report
pub record AreLinesOf (lines : List (List ℕ)) (report : ReportContents) : Type 0 where
  pub kept : IsReport report
  pub held : IsHeld report
  pub spelled : lines ≡ report_lines report

abbrev pub AreReportLines : List (List ℕ) → Type 0
AreReportLines lines = (report : ReportContents) × AreLinesOf lines report

abbrev pub Ends : State → Type 0
Ends at_title = ⊥
Ends (at_tin sided) = ⊥
Ends (at_layers tin rows) = ⊥
Ends (at_row tin rows row) = ⊥
Ends (at_changes tin rows changes left) = ⊥
Ends (at_sides tin rows changes sides left) = ⊥
Ends (at_end tin rows changes sides) = Unit {0}

-- ---- lists of what a report holds

rows_held : (rows : List LayerRow) → AllByRecursion IsLayerHeld rows → AllByRecursion (λ row. IsPrintable row.name) rows
    → AllByRecursion IsRowHeld rows
rows_held [] held printable = tt
rows_held (row ∷ rows) held printable = (
  record { held = held.0; printable = printable.0 },
  rows_held rows held.1
      printable.1,
)

changes_good : (changes : List Change) → AllByRecursion IsChangeHeld changes → AllByRecursion IsChanged changes
    → AllByRecursion IsChangeGood changes
changes_good [] held changed = tt
changes_good (change ∷ changes) held changed =
    (record { held = held.0; changed = changed.0 }, changes_good changes held.1 changed.1)

rows_are_held : (rows : List LayerRow) → AllByRecursion IsRowHeld rows → AllByRecursion IsLayerHeld rows
rows_are_held [] all = tt
rows_are_held (row ∷ rows) all = (all.0.held, rows_are_held rows all.1)

rows_are_printable : (rows : List LayerRow) → AllByRecursion IsRowHeld rows
    → AllByRecursion (λ row. IsPrintable row.name) rows
rows_are_printable [] all = tt
rows_are_printable (row ∷ rows) all = (all.0.printable, rows_are_printable rows all.1)

changes_are_held : (changes : List Change) → AllByRecursion IsChangeGood changes → AllByRecursion IsChangeHeld changes
changes_are_held [] all = tt
changes_are_held (change ∷ changes) all = (all.0.held, changes_are_held changes all.1)

changes_are_changed : (changes : List Change) → AllByRecursion IsChangeGood changes → AllByRecursion IsChanged changes
changes_are_changed [] all = tt
changes_are_changed (change ∷ changes) all = (all.0.changed, changes_are_changed changes all.1)

all_sides_good : (sides : List SideChange) → AllByRecursion IsSideHeld sides → AllByRecursion DoesDiffer sides
    → AllByRecursion IsSideGood sides
all_sides_good [] held differ = tt
all_sides_good (side ∷ sides) held differ =
    (record { held = held.0; differs = differ.0 }, all_sides_good sides held.1 differ.1)

sides_good : (sides : Option (List SideChange)) → AreSidesHeld sides → DoSidesDiffer sides → AreSidesGood sides
sides_good None held differ = tt
sides_good (Some sides) held differ = (all_sides_good sides held.0 differ, held.1)

all_sides_held : (sides : List SideChange) → AllByRecursion IsSideGood sides → AllByRecursion IsSideHeld sides
all_sides_held [] all = tt
all_sides_held (side ∷ sides) all = (all.0.held, all_sides_held sides all.1)

sides_are_held : (sides : Option (List SideChange)) → AreSidesGood sides → AreSidesHeld sides
sides_are_held None good = tt
sides_are_held (Some sides) good = (all_sides_held sides good.0, good.1)

all_sides_differ : (sides : List SideChange) → AllByRecursion IsSideGood sides → AllByRecursion DoesDiffer sides
all_sides_differ [] all = tt
all_sides_differ (side ∷ sides) all = (all.0.differs, all_sides_differ sides all.1)

sides_differ : (sides : Option (List SideChange)) → AreSidesGood sides → DoSidesDiffer sides
sides_differ None good = tt
sides_differ (Some sides) good = all_sides_differ sides good.0

-- ---- the lines of a report are read

abbrev pub tin_of_report : ReportContents → TinRow
tin_of_report report = record {
  sided = are_told report.sides;
  corners = report.corners;
  triangles = report.triangles;
  inexact = report.inexact;
  name =
      report.name;
}

-- from the line of the triangulation on
abbrev behind_title : List LayerRow → List Change → Option (List SideChange) → List (List ℕ)
behind_title rows changes sides = layer_lines 0 rows
    ++ ((count_line (length changes) ∷ map change_line changes) ++ (side_lines sides ++ end_line ∷ []))

-- the layers, the changes and the sides of a report, as they may be written
record AreContentsHeld (tin : TinRow) (rows : List LayerRow) (changes : List Change) (sides : Option (List SideChange))
    : Type 0 where
  pub rows_held : AllByRecursion IsRowHeld rows
  pub few : length rows ≤ 2 ^ 64
  pub good : AllByRecursion IsChangeGood changes
  pub counted : length changes < 2 ^ 64
  pub told : tin.sided ≡ are_told sides
  pub sides_good : AreSidesGood sides

run_rest : (tin : TinRow) (rows : List LayerRow) (changes : List Change) (sides : Option (List SideChange))
    → AreContentsHeld tin rows changes sides
    → run step (at_layers tin []) (behind_title rows changes sides) ≡ Some (at_end tin rows changes sides)
run_rest tin rows changes sides held =
    let few = held.few in
    let room : 0 + length rows ≤ 2 ^ 64 = omega (arith, few) in
    run_layers tin [] rows (length changes) (map change_line changes ++ (side_lines sides ++ end_line ∷ [])) room
    held.rows_held held.counted
    ∙ run_ends tin rows [] changes sides held.good held.told held.sides_good

title_leads : (sided : Bool) (lines : List (List ℕ))
    → run step at_title (title sided ∷ lines) ≡ run step (at_tin sided) lines
unfolding title
title_leads false lines = refl
title_leads true lines = refl

run_whole : (tin : TinRow) (rows : List LayerRow) (changes : List Change) (sides : Option (List SideChange))
    → IsTinHeld tin → AreContentsHeld tin rows changes sides
    → run step at_title (report_lines (contents_of tin rows changes sides)) ≡ Some (at_end tin rows changes sides)
run_whole tin rows changes sides tin_held held =
    ap (λ t. run step at_title (title t ∷ tin_line (contents_of tin rows changes sides)
    ∷ behind_title rows changes sides)) (sym held.told)
    ∙ (title_leads tin.sided (tin_line (contents_of tin rows changes sides) ∷ behind_title rows changes sides)
    ∙ rw (tin_again tin rows changes sides tin_held) (run_rest tin rows changes sides held))

pub run_report : (report : ReportContents) → IsReport report → IsHeld report
    → run step at_title (report_lines report)
    ≡ Some (at_end (tin_of_report report) report.layers report.changes report.sides)
run_report report kept held =
    let tin_held : IsTinHeld (tin_of_report report) =
    record {
      corners = held.corners;
      triangles = held.triangles;
      inexact = held.inexact;
      utf8 =
          held.name;
      printable = kept.name;
    } in
    run_whole (tin_of_report report) report.layers report.changes report.sides tin_held
    (record {
      rows_held = rows_held report.layers held.layers kept.layers;
      few = held.numbered;
      good = changes_good report.changes held.changes kept.changes;
      counted = held.counted;
      told = refl;
      sides_good = sides_good report.sides held.sides kept.sides;
    })

reads : (lines : List (List ℕ)) → AreReportLines lines
    → (last : State) × (run step at_title lines ≡ Some last) × Ends last
reads lines (report, are) = (
  at_end (tin_of_report report) report.layers report.changes report.sides,
  ap (run step at_title)
      are.spelled ∙ run_report report are.kept are.held,
  tt,
)

-- ---- what leads to the end are the lines of a report

pub lines_of_end : (tin : TinRow) (rows : List LayerRow) (changes : List Change) (sides : Option (List SideChange))
    (lines : List (List ℕ)) → run step at_title lines ≡ Some (at_end tin rows changes sides)
    → AreLinesOf lines (contents_of tin rows changes sides)
lines_of_end tin rows changes sides lines is =
    let all = run_spells at_title (at_end tin rows changes sides) lines tt is in
    let layers = all.held.before.layers in
    let tin_held = layers.tin_held in
    let counted = all.held.before.counted in
    record {
      kept = record {
        name = tin_held.printable;
        layers = rows_are_printable rows layers.rows_held;
        changes =
            changes_are_changed changes all.held.before.good;
        sides = sides_differ sides all.held.good;
      };
      held = record {
        corners = tin_held.corners;
        triangles = tin_held.triangles;
        inexact = tin_held.inexact;
        name = tin_held.utf8;
        layers = rows_are_held rows layers.rows_held;
        changes = changes_are_held changes all.held.before.good;
        numbered = layers.numbered;
        counted = omega (arith, counted);
        sides = sides_are_held sides all.held.good;
      };
      spelled = sym all.all ∙ (ap (λ t. title t ∷ tin_line (contents_of tin [] [] None) ∷ behind_title rows changes sides)
          all.held.told
          ∙ ap (λ l. title (are_told sides) ∷ l ∷ behind_title rows changes sides)
          (tin_line_same tin rows changes sides));
    }

only : (lines : List (List ℕ)) (last : State) → run step at_title lines ≡ Some last → Ends last → AreReportLines lines
only lines (at_end tin rows changes sides) is ends =
    (contents_of tin rows changes sides, lines_of_end tin rows changes sides lines is)
only lines last is ends = absurd ends

-- ---- from everywhere some lines lead to an end

abbrev origin : Place
origin = record { layer = 0; path = 0; segment = 0; piece = 0 }

abbrev a_change : Change
a_change = record { first = origin; second = origin; was = Apart; now = Touching }

origin_held : IsPlaceHeld origin
origin_held = record { layer = omega arith; path = omega arith; segment = omega arith; piece = omega arith }

a_change_is_good : IsChangeGood a_change
a_change_is_good = record { held = (origin_held, origin_held); changed = λ same. cc }

abbrev some_changes : ℕ → List Change
some_changes zero = []
some_changes (suc count) = a_change ∷ some_changes count

some_are_many : (count : ℕ) → length (some_changes count) ≡ count
some_are_many zero = refl
some_are_many (suc count) = ap suc (some_are_many count)

some_are_good : (count : ℕ) → AllByRecursion IsChangeGood (some_changes count)
some_are_good zero = tt
some_are_good (suc count) = (a_change_is_good, some_are_good count)

abbrev a_side : SideChange
a_side = Turn 0 0 Positive Negative

a_side_is_good : IsSideGood a_side
a_side_is_good = record { held = record { layer = omega arith; path = omega arith }; differs = λ same. cc }

abbrev some_sides : ℕ → List SideChange
some_sides zero = []
some_sides (suc count) = a_side ∷ some_sides count

some_sides_are_many : (count : ℕ) → length (some_sides count) ≡ count
some_sides_are_many zero = refl
some_sides_are_many (suc count) = ap suc (some_sides_are_many count)

some_sides_are_good : (count : ℕ) → AllByRecursion IsSideGood (some_sides count)
some_sides_are_good zero = tt
some_sides_are_good (suc count) = (a_side_is_good, some_sides_are_good count)

-- sides that are stated or not, and there are none
abbrev no_sides : Bool → Option (List SideChange)
no_sides false = None
no_sides true = Some []

no_sides_told : (sided : Bool) → sided ≡ are_told (no_sides sided)
no_sides_told false = refl
no_sides_told true = refl

no_sides_good : (sided : Bool) → AreSidesGood (no_sides sided)
no_sides_good false = tt
no_sides_good true = (tt, omega arith)

abbrev no_tin : Bool → TinRow
no_tin sided = record { sided = sided; corners = 0; triangles = 0; inexact = 0; name = [] }

no_tin_held : (sided : Bool) → IsTinHeld (no_tin sided)
no_tin_held sided = record {
  corners = omega arith;
  triangles = omega arith;
  inexact = omega arith;
  utf8 =
      IsUtf8-from_ascii [] IsAscii-nil;
  printable = tt;
}

nothing_held : (sided : Bool) → AreContentsHeld (no_tin sided) [] [] (no_sides sided)
nothing_held sided = record {
  rows_held = tt;
  few = omega arith;
  good = tt;
  counted = omega arith;
  told = no_sides_told sided;
  sides_good = no_sides_good sided;
}

abbrev CanEnd : State → Type 0
CanEnd state = (rest : List (List ℕ)) × (last : State) × (run step state rest ≡ Some last) × Ends last

-- the lines of no changes and no sides
abbrev nothing_more : Bool → List (List ℕ)
nothing_more sided = count_line 0 ∷ (side_lines (no_sides sided) ++ end_line ∷ [])

layers_can_end : (tin : TinRow) (rows : List LayerRow)
    → run step (at_layers tin rows) (nothing_more tin.sided) ≡ Some (at_end tin rows [] (no_sides tin.sided))
layers_can_end tin rows = rw (count_is_no_layer (length rows) 0, count_again 0 (omega arith))
    (run_ends tin rows [] [] (no_sides tin.sided) tt (no_sides_told tin.sided) (no_sides_good tin.sided))

ending : (state : State) → CanEnd state
ending at_title = (
  report_lines (contents_of (no_tin false) [] [] None),
  at_end (no_tin false) [] [] None,
  run_whole (no_tin false) [] [] None (no_tin_held false) (nothing_held false),
  tt,
)
ending (at_tin sided) = (
  tin_line (contents_of (no_tin sided) [] [] (no_sides sided)) ∷ behind_title [] [] (no_sides sided),
  at_end (no_tin sided) [] [] (no_sides sided),
  rw (tin_again (no_tin sided) [] [] (no_sides sided) (no_tin_held sided))
      (run_rest (no_tin sided) [] [] (no_sides sided) (nothing_held sided)),
  tt,
)
ending (at_layers tin rows) = (
  nothing_more tin.sided,
  at_end tin rows [] (no_sides tin.sided),
  layers_can_end tin rows,
  tt,
)
ending (at_row tin rows row) = (
  nothing_more tin.sided,
  at_end tin (rows ++ row ∷ []) [] (no_sides tin.sided),
  row_passes tin rows row (count_line 0) (side_lines (no_sides tin.sided) ++ end_line ∷ [])
      (count_is_no_extents (length rows) 0)
      ∙ layers_can_end tin (rows ++ row ∷ []),
  tt,
)
ending (at_changes tin rows changes left) = (
  map change_line (some_changes left) ++ (side_lines (no_sides tin.sided) ++ end_line ∷ []),
  at_end tin rows (changes ++ some_changes left) (no_sides tin.sided),
  subst (λ n. run step (at_changes tin rows changes n)
      (map change_line (some_changes left) ++ (side_lines (no_sides tin.sided) ++ end_line ∷ []))
      ≡ Some (at_end tin rows (changes ++ some_changes left) (no_sides tin.sided))) (some_are_many left)
      (run_ends tin rows changes (some_changes left) (no_sides tin.sided) (some_are_good left)
      (no_sides_told tin.sided) (no_sides_good tin.sided)),
  tt,
)
ending (at_sides tin rows changes sides left) = (
  map side_line (some_sides left) ++ end_line ∷ [],
  at_end tin rows changes (Some (sides ++ some_sides left)),
  subst (λ n. run step (at_sides tin rows changes sides n) (map side_line (some_sides left) ++ end_line ∷ [])
      ≡ Some (at_end tin rows changes (Some (sides ++ some_sides left)))) (some_sides_are_many left)
      (run_sides tin rows changes sides (some_sides left) (some_sides_are_good left)),
  tt,
)
ending (at_end tin rows changes sides) = ([], at_end tin rows changes sides, refl, tt)

pub machine : Recognizes AreReportLines step at_title Ends
machine = record { reads = reads; only = only; ending = ending }
