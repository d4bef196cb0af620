-- The lines of a report lead from the start to its end, and from everywhere some lines lead to an end.
use Rattle.std.proofs.Common.{◌≡◌, ℕ, ◌+◌, ◌<◌, ◌≤◌, ◌^◌, Bool, true, false, List, [], ◌∷◌, ◌++◌, length, map, Option, Some, None}
use Rattle.std.proofs.Common.{refl, sym, ◌∙◌, ap, arith, append_assoc, append-nil, subst, length-append}
use Rattle.std.specs.List.{AllByRecursion}
use Rattle.tin_base.specs.declared.pieces.Change.{Change}
use Rattle.ring_side.specs.declared.kinds.SideChange.{SideChange}
use Rattle.text_places.specs.Machine.{run}
use Rattle.report_text.specs.declared.drafts.TinRow.{TinRow}
use Rattle.report_text.specs.declared.rows.LayerRow.{LayerRow}
use Rattle.report_text.specs.InsideLineKinds.{is_line_of_extents}
use Rattle.report_text.specs.ReportText.{layer_line, extents_lines, layer_lines, change_line, count_line, end_line}
use Rattle.report_text.specs.ReportText.{side_line, side_lines, side_count_line, are_told}
use Rattle.report_text.specs.InsideSteps.{at_layers, at_row, at_changes, at_sides, at_end, step, drawing_row, behind_changes}
use Rattle.report_text.proofs.LayerLaws.{IsRowHeld, undrawn, layer_again, extents_again, count_again}
use Rattle.report_text.proofs.LayerLaws.{layer_is_no_extents, count_is_no_extents, count_is_no_layer}
use Rattle.report_text.proofs.ChangeLaws.{IsChangeGood, change_again}
use Rattle.report_text.proofs.SideLaws.{IsSideGood, AreSidesGood, side_again, side_count_again}
use Rattle.text_fields.proofs.Words.{equals_itself}

-- a row that is no drawing is passed by any other line than that of extents
pub row_passes : (tin : TinRow) (rows : List LayerRow) (row : LayerRow) (line : List ℕ) (lines : List (List ℕ))
    → is_line_of_extents (length rows) line ≡ false
    → run step (at_row tin rows row) (line ∷ lines) ≡ run step (at_layers tin (rows ++ row ∷ [])) (line ∷ lines)
row_passes tin rows row line lines other = rw other refl

layers_pass : (tin : TinRow) (rows : List LayerRow) (row : LayerRow) (number : ℕ) (more : List LayerRow) (count : ℕ)
    (rest : List (List ℕ))
    → run step (at_row tin rows row) (layer_lines number more ++ count_line count ∷ rest)
    ≡ run step (at_layers tin (rows ++ row ∷ [])) (layer_lines number more ++ count_line count ∷ rest)
layers_pass tin rows row number [] count rest =
    row_passes tin rows row (count_line count) rest (count_is_no_extents (length rows) count)
layers_pass tin rows row number (next ∷ more) count rest =
    row_passes tin rows row (layer_line number next) _ (layer_is_no_extents (length rows) number next)

as_drawing : (row : LayerRow) → row.drawing ≡ true → drawing_row (undrawn row) ≡ row
as_drawing row is = ap (λ d. record row { drawing = d }) (sym is)

as_other : (row : LayerRow) → row.drawing ≡ false → undrawn row ≡ row
as_other row is = ap (λ d. record row { drawing = d }) (sym is)

-- the lines of layers and of a number of changes are read one after the other
pub run_layers : (tin : TinRow) (rows more : List LayerRow) (count : ℕ) (rest : List (List ℕ))
    → length rows + length more ≤ 2 ^ 64 → AllByRecursion IsRowHeld more → count < 2 ^ 64
    → run step (at_layers tin rows) (layer_lines (length rows) more ++ count_line count ∷ rest)
    ≡ run step (at_changes tin (rows ++ more) [] count) rest
run_layers tin rows [] count rest room held small =
    rw (count_is_no_layer (length rows) count, count_again count small, append-nil rows) refl
run_layers tin rows (row ∷ more) count rest room held small =
    let fits : length rows < 2 ^ 64 = omega arith in
    let behind : List (List ℕ) = layer_lines (length rows + 1) more ++ count_line count ∷ rest in
    let inner : length (rows ++ row ∷ []) + length more ≤ 2 ^ 64 = rw length-append (omega arith) in
    let next : length (rows ++ row ∷ []) ≡ length rows + 1 = rw length-append (omega arith) in
    let later : run step (at_layers tin (rows ++ row ∷ [])) behind
    ≡ run step (at_changes tin (rows ++ row ∷ more) [] count) rest
    = subst (λ n. run step (at_layers tin (rows ++ row ∷ [])) (layer_lines n more ++ count_line count ∷ rest)
    ≡ run step (at_changes tin (rows ++ row ∷ more) [] count) rest) next
    (run_layers tin (rows ++ row ∷ []) more count rest inner held.1 small
    ∙ ap (λ all. run step (at_changes tin all [] count) rest) (append_assoc rows (row ∷ []) more)) in
    let first : run step (at_layers tin rows) (layer_lines (length rows) (row ∷ more) ++ count_line count ∷ rest)
    ≡ run step (at_row tin rows (undrawn row))
    ((extents_lines (length rows) row.drawing ++ layer_lines (length rows + 1) more) ++ count_line count ∷ rest)
    = rw (layer_again (length rows) row fits held.0) refl in
    first ∙ (by_drawing tin rows row more count rest fits row.drawing refl ∙ later)
  where
    by_drawing : (tin : TinRow) (rows : List LayerRow) (row : LayerRow) (more : List LayerRow) (count : ℕ)
        (rest : List (List ℕ)) → length rows < 2 ^ 64 → (drawing : Bool) → row.drawing ≡ drawing
        → run step (at_row tin rows (undrawn row))
        ((extents_lines (length rows) drawing ++ layer_lines (length rows + 1) more) ++ count_line count ∷ rest)
        ≡ run step (at_layers tin (rows ++ row ∷ [])) (layer_lines (length rows + 1) more ++ count_line count ∷ rest)
    by_drawing tin rows row more count rest fits true is = rw (extents_again (length rows) fits, as_drawing row is) refl
    by_drawing tin rows row more count rest fits false is =
        rw (as_other row is) (layers_pass tin rows row (length rows + 1) more count rest)

-- the lines of changes are read up to what comes after them
run_changes : (tin : TinRow) (rows : List LayerRow) (changes more : List Change) (rest : List (List ℕ))
    → AllByRecursion IsChangeGood more
    → run step (at_changes tin rows changes (length more)) (map change_line more ++ rest)
    ≡ run step (at_changes tin rows (changes ++ more) 0) rest
run_changes tin rows changes [] rest good =
    ap (λ all. run step (at_changes tin rows all 0) rest) (sym (append-nil changes))
run_changes tin rows changes (change ∷ more) rest good =
    let later = run_changes tin rows (changes ++ change ∷ []) more rest good.1 in
    rw (change_again change good.0) (later ∙ ap (λ all. run step (at_changes tin rows all 0) rest)
    (append_assoc changes (change ∷ []) more))

-- and those of sides up to the end
pub run_sides : (tin : TinRow) (rows : List LayerRow) (changes : List Change) (sides more : List SideChange)
    → AllByRecursion IsSideGood more
    → run step (at_sides tin rows changes sides (length more)) (map side_line more ++ end_line ∷ [])
    ≡ Some (at_end tin rows changes (Some (sides ++ more)))
run_sides tin rows changes sides [] good = rw (equals_itself end_line, append-nil sides) refl
run_sides tin rows changes sides (side ∷ more) good =
    let later = run_sides tin rows changes (sides ++ side ∷ []) more good.1 in
    rw (side_again side good.0) (later ∙ ap (λ all. Some (at_end tin rows changes (Some all)))
    (append_assoc sides (side ∷ []) more))

-- what comes after all changes leads to the end
run_told : (tin : TinRow) (rows : List LayerRow) (changes : List Change) (sides : Option (List SideChange))
    → tin.sided ≡ are_told sides → AreSidesGood sides
    → run step (at_changes tin rows changes 0) (side_lines sides ++ end_line ∷ [])
    ≡ Some (at_end tin rows changes sides)
run_told tin rows changes None told good =
    let here : step (at_changes tin rows changes 0) end_line ≡ Some (at_end tin rows changes None) =
    ap (λ sided. behind_changes sided tin rows changes end_line) told ∙ rw (equals_itself end_line) refl in
    rw here refl
run_told tin rows changes (Some sides) told good =
    let count : List ℕ = side_count_line (length sides) in
    let here : step (at_changes tin rows changes 0) count ≡ Some (at_sides tin rows changes [] (length sides)) =
    ap (λ sided. behind_changes sided tin rows changes count) told
    ∙ rw (side_count_again (length sides) good.1) refl in
    rw here (run_sides tin rows changes [] sides good.0)

-- the lines of changes, and those of sides where they are stated, lead to the end
pub run_ends : (tin : TinRow) (rows : List LayerRow) (changes more : List Change)
    (sides : Option (List SideChange)) → AllByRecursion IsChangeGood more → tin.sided ≡ are_told sides
    → AreSidesGood sides
    → run step (at_changes tin rows changes (length more)) (map change_line more ++ (side_lines sides ++ end_line ∷ []))
    ≡ Some (at_end tin rows (changes ++ more) sides)
run_ends tin rows changes more sides good told sides_good =
    run_changes tin rows changes more (side_lines sides ++ end_line ∷ []) good
    ∙ run_told tin rows (changes ++ more) sides told sides_good
