-- Reading a report line by line: what was read, and what a line makes of it. Only private functions speak of it.
use Rattle.std.specs.Prelude.{◌≡◌, ℕ, zero, suc, Bool, true, false, if◌then◌else◌, List, [], ◌∷◌, ◌++◌, length, Option, None, Some}
use Rattle.std.specs.Prelude.{Result, Ok, Err}
use Rattle.std.specs.Str.{bytes_eq}
use Rattle.tin_base.specs.declared.pieces.Change.{Change}
use Rattle.ring_side.specs.declared.kinds.SideChange.{SideChange}
use Rattle.report_text.specs.declared.drafts.Draft.{Draft}
use Rattle.report_text.specs.declared.drafts.Draft.TheVariants as drafts
use Rattle.report_text.specs.declared.drafts.TinRow.{TinRow}
use Rattle.report_text.specs.declared.faults.ReportFault.{ReportFault}
use Rattle.report_text.specs.declared.faults.ReportFault.TheVariants.{Bad, NoMemory}
use Rattle.report_text.specs.declared.rows.LayerRow.{LayerRow}
use Rattle.report_text.specs.InsideLineKinds.{tin_of, layer_of, is_line_of_extents, count_of, change_of}
use Rattle.report_text.specs.InsideSideKinds.{side_count_of, side_change_of}
use Rattle.report_text.specs.ReportText.{title, end_line}

-- what was read, by what may come next
pub data State : Type 0 where
  at_title : State
  at_tin : Bool → State
  at_layers : TinRow → List LayerRow → State
  at_row : TinRow → List LayerRow → LayerRow → State
  at_changes : TinRow → List LayerRow → List Change → ℕ → State
  at_sides : TinRow → List LayerRow → List Change → List SideChange → ℕ → State
  at_end : TinRow → List LayerRow → List Change → Option (List SideChange) → State

-- a draft without where it lies in memory
abbrev pub state_of : Draft → State
state_of drafts.Title = at_title
state_of (drafts.Tin sided) = at_tin sided
state_of (drafts.Layers tin rows) = at_layers tin rows.items
state_of (drafts.Row tin rows row) = at_row tin rows.items row
state_of (drafts.Changes tin rows changes left) = at_changes tin rows.items changes.items left
state_of (drafts.Sides tin rows changes sides left) = at_sides tin rows.items changes.items sides.items left
state_of (drafts.Whole tin rows changes sides) = at_end tin rows.items changes.items sides

-- after the line of the triangulation
abbrev pub behind_tin : Option TinRow → Option State
behind_tin None = None
behind_tin (Some tin) = Some (at_layers tin [])

abbrev pub behind_count : TinRow → List LayerRow → Option ℕ → Option State
behind_count tin rows None = None
behind_count tin rows (Some count) = Some (at_changes tin rows [] count)

-- after some layers: one more layer, or else the number of changes
abbrev pub behind_layers : TinRow → List LayerRow → Option LayerRow → Option ℕ → Option State
behind_layers tin rows (Some row) count = Some (at_row tin rows row)
behind_layers tin rows None count = behind_count tin rows count

abbrev pub step_of_layers : TinRow → List LayerRow → List ℕ → Option State
step_of_layers tin rows line = behind_layers tin rows (layer_of (length rows) line) (count_of line)

abbrev pub drawing_row : LayerRow → LayerRow
drawing_row row = record row { drawing = true }

-- after a layer that is a drawing if its extents come
abbrev pub step_of_row : TinRow → List LayerRow → LayerRow → List ℕ → Option State
step_of_row tin rows row line =
    if is_line_of_extents (length rows) line then Some (at_layers tin (rows ++ drawing_row row ∷ [])) else step_of_layers tin
    (rows ++ row ∷ []) line

abbrev pub behind_change : TinRow → List LayerRow → List Change → ℕ → Option Change → Option State
behind_change tin rows changes left None = None
behind_change tin rows changes left (Some change) = Some (at_changes tin rows (changes ++ change ∷ []) left)

abbrev pub behind_side_count : TinRow → List LayerRow → List Change → Option ℕ → Option State
behind_side_count tin rows changes None = None
behind_side_count tin rows changes (Some count) = Some (at_sides tin rows changes [] count)

-- after all changes: the end, or where sides are stated their number
abbrev pub behind_changes : Bool → TinRow → List LayerRow → List Change → List ℕ → Option State
behind_changes false tin rows changes line = if bytes_eq line end_line then Some (at_end tin rows changes None) else None
behind_changes true tin rows changes line = behind_side_count tin rows changes (side_count_of line)

-- after some changes, where this many more come
abbrev pub step_of_changes : TinRow → List LayerRow → List Change → ℕ → List ℕ → Option State
step_of_changes tin rows changes zero line = behind_changes tin.sided tin rows changes line
step_of_changes tin rows changes (suc left) line = behind_change tin rows changes left (change_of line)

abbrev pub behind_side : TinRow → List LayerRow → List Change → List SideChange → ℕ → Option SideChange → Option State
behind_side tin rows changes sides left None = None
behind_side tin rows changes sides left (Some side) = Some (at_sides tin rows changes (sides ++ side ∷ []) left)

-- after some changes of sides, where this many more come
abbrev pub step_of_sides : TinRow → List LayerRow → List Change → List SideChange → ℕ → List ℕ → Option State
step_of_sides tin rows changes sides zero line =
    if bytes_eq line end_line then Some (at_end tin rows changes (Some sides)) else None
step_of_sides tin rows changes sides (suc left) line = behind_side tin rows changes sides left (side_change_of line)

-- after the title
abbrev pub step_of_title : List ℕ → Option State
step_of_title line = if bytes_eq line (title false) then Some (at_tin false) else if bytes_eq line (title true) then Some
    (at_tin true) else None

-- what a line makes of what was read, unless no report continues that way
abbrev pub step : State → List ℕ → Option State
step at_title line = step_of_title line
step (at_tin sided) line = behind_tin (tin_of sided line)
step (at_layers tin rows) line = step_of_layers tin rows line
step (at_row tin rows row) line = step_of_row tin rows row line
step (at_changes tin rows changes left) line = step_of_changes tin rows changes left line
step (at_sides tin rows changes sides left) line = step_of_sides tin rows changes sides left line
step (at_end tin rows changes sides) line = None

-- the fault is that the line of this number leads nowhere, or memory ran out
abbrev pub Refuses : ReportFault → ℕ → Option State → Type 0
Refuses (Bad line) number answer = (line ≡ number) × (answer ≡ None)
Refuses NoMemory number answer = Unit {0}

-- a call says where the line of this number leads, or why it leads nowhere
abbrev pub Leads : Result Draft ReportFault → ℕ → Option State → Type 0
Leads (Ok next) number answer = answer ≡ Some (state_of next)
Leads (Err fault) number answer = Refuses fault number answer
