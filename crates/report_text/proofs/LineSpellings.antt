-- Reading line by line: the lines of a report lead from the start to its end, no others lead to an end, and from
-- everywhere some lines do.
use Rattle.std.proofs.Common.{◌≡◌, ℕ, zero, suc, ◌+◌, ◌<◌, ◌≤◌, ◌^◌, Bool, true, false, cond, List, [], ◌∷◌, ◌++◌}
use Rattle.std.proofs.Common.{length, map, Option, Some, None, refl, sym, ◌∙◌, ap, arith, append_assoc, append-nil}
use Rattle.std.proofs.Common.{subst, length-append}
use Rattle.std.proofs.lemmas.List.{map-append}
use Rattle.std.proofs.lemmas.Option.{option_and_then_some}
use Rattle.std.specs.Cmp.Lexicographic.{same_text}
use Rattle.std.specs.List.{AllByRecursion}
use Rattle.std.specs.Str.{bytes_eq}
use Rattle.plain_laws.proofs.Lists.{all_push}
use Rattle.tin_base.specs.declared.pieces.Change.{Change}
use Rattle.ring_side.specs.declared.kinds.SideChange.{SideChange}
use Rattle.text_places.specs.Machine.{run}
use Rattle.report_text.specs.declared.drafts.TinRow.{TinRow}
use Rattle.report_text.specs.declared.rows.LayerRow.{LayerRow}
use Rattle.report_text.specs.InsideLineKinds.{tin_of, layer_of, is_line_of_extents, count_of, change_of}
use Rattle.report_text.specs.ReportText.{title, tin_line, layer_line, extents_line, extents_lines, layer_lines}
use Rattle.report_text.specs.ReportText.{change_line, count_line, end_line, are_told, side_line, side_count_line}
use Rattle.report_text.specs.ReportText.{side_lines}
use Rattle.report_text.specs.InsideSideKinds.{side_count_of, side_change_of}
use Rattle.report_text.specs.InsideSteps.{State, at_title, at_tin, at_layers, at_row, at_changes, at_sides, at_end, step}
use Rattle.report_text.specs.InsideSteps.{behind_changes, behind_side_count, behind_side}
use Rattle.report_text.specs.InsideSteps.{behind_tin}
use Rattle.report_text.specs.InsideSteps.{behind_layers, behind_change, drawing_row, step_of_layers}
use Rattle.report_text.proofs.LongerTexts.{layer_lines-append}
use Rattle.text_fields.proofs.StepChains.{some_is, let_through}
use Rattle.report_text.proofs.LineLaws.{contents_of, IsTinHeld, tin_takes}
use Rattle.report_text.proofs.LayerLaws.{IsRowHeld, layer_takes, extents_takes, count_takes}
use Rattle.report_text.proofs.ChangeLaws.{IsChangeGood, change_takes}
use Rattle.report_text.proofs.SideLaws.{IsSideGood, AreSidesGood, side_count_takes, side_change_takes}

-- ---- what was read is spelled by the lines so far

abbrev front_of : TinRow → List LayerRow → List (List ℕ)
front_of tin rows = title tin.sided ∷ tin_line (contents_of tin [] [] None) ∷ layer_lines 0 rows

abbrev pub spelled : State → List (List ℕ)
spelled at_title = []
spelled (at_tin sided) = title sided ∷ []
spelled (at_layers tin rows) = front_of tin rows
spelled (at_row tin rows row) = front_of tin rows ++ (layer_line (length rows) row ∷ [])
spelled (at_changes tin rows changes left) =
    front_of tin rows ++ (count_line (length changes + left) ∷ map change_line changes)
spelled (at_sides tin rows changes sides left) =
    front_of tin rows ++ (count_line (length changes) ∷ (map change_line changes
    ++ (side_count_line (length sides + left) ∷ map side_line sides)))
spelled (at_end tin rows changes sides) = front_of tin rows
    ++ (count_line (length changes) ∷ (map change_line changes ++ (side_lines sides ++ end_line ∷ [])))

-- the triangulation's line and some layers, which are numbered in 64 bits
pub record AreLayersHeld (tin : TinRow) (rows : List LayerRow) : Type 0 where
  pub tin_held : IsTinHeld tin
  pub rows_held : AllByRecursion IsRowHeld rows
  pub numbered : length rows ≤ 2 ^ 64

pub record AreChangesHeld (tin : TinRow) (rows : List LayerRow) (changes : List Change) (left : ℕ) : Type 0 where
  pub layers : AreLayersHeld tin rows
  pub good : AllByRecursion IsChangeGood changes
  pub counted : length changes + left < 2 ^ 64

pub record AreSomeSidesHeld (tin : TinRow) (rows : List LayerRow) (changes : List Change) (sides : List SideChange)
    (left : ℕ) : Type 0 where
  pub before : AreChangesHeld tin rows changes 0
  pub told : tin.sided ≡ true
  pub good : AllByRecursion IsSideGood sides
  pub counted : length sides + left < 2 ^ 64

pub record AreAllHeld (tin : TinRow) (rows : List LayerRow) (changes : List Change) (sides : Option (List SideChange))
    : Type 0 where
  pub before : AreChangesHeld tin rows changes 0
  pub told : tin.sided ≡ are_told sides
  pub good : AreSidesGood sides

pub record IsRowReady (tin : TinRow) (rows : List LayerRow) (row : LayerRow) : Type 0 where
  pub layers : AreLayersHeld tin rows
  pub held : IsRowHeld row
  pub plain : row.drawing ≡ false
  pub small : length rows < 2 ^ 64

abbrev pub IsStateHeld : State → Type 0
IsStateHeld at_title = Unit {0}
IsStateHeld (at_tin sided) = Unit {0}
IsStateHeld (at_layers tin rows) = AreLayersHeld tin rows
IsStateHeld (at_row tin rows row) = IsRowReady tin rows row
IsStateHeld (at_changes tin rows changes left) = AreChangesHeld tin rows changes left
IsStateHeld (at_sides tin rows changes sides left) = AreSomeSidesHeld tin rows changes sides left
IsStateHeld (at_end tin rows changes sides) = AreAllHeld tin rows changes sides

-- a line that leads on is the next one of what is spelled
pub record Spells (state : State) (line : List ℕ) (next : State) : Type 0 where
  pub lines : spelled next ≡ spelled state ++ line ∷ []
  pub held : IsStateHeld next

one_title : (line : List ℕ) (next : State) (sided : Bool) → bytes_eq line (title sided) ≡ true → at_tin sided ≡ next
    → Spells at_title line next
one_title line next sided passes same =
    subst (Spells at_title line) same (record {
      lines =
          ap (λ l. l ∷ []) (sym (same_text line (title sided) (sym passes)));
      held = tt;
    })

title_spells : (line : List ℕ) (next : State) (first second : Bool) → bytes_eq line (title false) ≡ first
    → bytes_eq line (title true) ≡ second
    → cond first (Some (at_tin false)) (cond second (Some (at_tin true)) None) ≡ Some next → Spells at_title line next
title_spells line next true second is_first is_second is =
    one_title line next false is_first (some_is (at_tin false) next is)
title_spells line next false true is_first is_second is =
    one_title line next true is_second (some_is (at_tin true) next is)
title_spells line next false false is_first is_second is = absurd cc

tin_spells : (line : List ℕ) (sided : Bool) (next : State) (read : Option TinRow) → tin_of sided line ≡ read
    → behind_tin read ≡ Some next → Spells (at_tin sided) line next
tin_spells line sided next None read is = absurd cc
tin_spells line sided next (Some tin) read is =
    let taken = tin_takes line sided tin read in
    subst (Spells (at_tin sided) line) (some_is (at_layers tin []) next is) (record {
      lines = ap (λ t. title t ∷ tin_line (contents_of tin [] [] None) ∷ []) taken.told
          ∙ ap (λ l. title sided ∷ l ∷ []) (sym (taken.parts [] [] None));
      held = record { tin_held = taken.held; rows_held = tt; numbered = omega arith };
    })

layers_spell : (tin : TinRow) (rows : List LayerRow) (line : List ℕ) (next : State) (row : Option LayerRow)
    (count : Option ℕ) → AreLayersHeld tin rows
    → layer_of (length rows) line ≡ row → count_of line ≡ count → behind_layers tin rows row count ≡ Some next
    → Spells (at_layers tin rows) line next
layers_spell tin rows line next (Some row) count held of_row of_count is =
    let taken = layer_takes (length rows) line row of_row in
    subst (Spells (at_layers tin rows) line) (some_is (at_row tin rows row) next is) (record {
      lines = ap (λ l. front_of tin rows ++ l ∷ []) (sym taken.parts);
      held = record { layers = held; held = taken.held; plain = taken.plain; small = taken.small };
    })
layers_spell tin rows line next None (Some count) held of_row of_count is =
    let taken = count_takes line count of_count in
    subst (Spells (at_layers tin rows) line) (some_is (at_changes tin rows [] count) next is) (record {
      lines = ap (λ l. front_of tin rows ++ l ∷ []) (ap count_line zero_and ∙ sym taken.0);
      held = record { layers = held; good = tt; counted = omega (arith, taken.1) };
    })
  where
    zero_and : 0 + count ≡ count
    zero_and = omega arith
layers_spell tin rows line next None None held of_row of_count is = absurd cc

one_layer : (rows : List LayerRow) (row : LayerRow)
    → layer_lines 0 (rows ++ row ∷ []) ≡ layer_lines 0 rows
    ++ (layer_line (length rows) row ∷ extents_lines (length rows) row.drawing)
one_layer rows row =
    let count : 0 + length rows ≡ length rows = omega arith in
    subst (λ n. layer_lines 0 (rows ++ row ∷ []) ≡ layer_lines 0 rows
    ++ (layer_line n row ∷ extents_lines n row.drawing)) count (layer_lines-append 0 rows row)

-- a row that is no drawing is a layer
row_joins : (tin : TinRow) (rows : List LayerRow) (row : LayerRow) → row.drawing ≡ false
    → front_of tin (rows ++ row ∷ []) ≡ front_of tin rows ++ (layer_line (length rows) row ∷ [])
row_joins tin rows row plain = ap (λ ls. title tin.sided ∷ tin_line (contents_of tin [] [] None) ∷ ls)
    (one_layer rows row ∙ ap (λ d. layer_lines 0 rows ++ (layer_line (length rows) row ∷ extents_lines (length rows) d))
    plain)

-- one that is a drawing has its extents after it
same_line : (number : ℕ) (row : LayerRow) → layer_line number (drawing_row row) ≡ layer_line number row
unfolding layer_line
same_line number row = refl

drawing_joins : (tin : TinRow) (rows : List LayerRow) (row : LayerRow)
    → front_of tin (rows ++ drawing_row row ∷ []) ≡ (front_of tin rows ++ (layer_line (length rows) row ∷ []))
    ++ (extents_line (length rows) ∷ [])
drawing_joins tin rows row =
    let layers : layer_lines 0 (rows ++ drawing_row row ∷ []) ≡ (layer_lines 0 rows ++ (layer_line (length rows) row ∷ []))
    ++ (extents_line (length rows) ∷ [])
    = one_layer rows (drawing_row row) ∙ (ap (λ l. layer_lines 0 rows ++ (l ∷ extents_line (length rows) ∷ []))
    (same_line (length rows) row)
    ∙ sym (append_assoc (layer_lines 0 rows) (layer_line (length rows) row ∷ []) (extents_line (length rows) ∷ []))) in
    ap (λ ls. title tin.sided ∷ tin_line (contents_of tin [] [] None) ∷ ls) layers

drawn_held : (row : LayerRow) → IsRowHeld row → IsRowHeld (drawing_row row)
drawn_held row is = record {
  held = record {
    paths = is.held.paths;
    segments = is.held.segments;
    pieces = is.held.pieces;
    inexact =
        is.held.inexact;
    dropped = is.held.dropped;
    name = is.held.name;
  };
  printable = is.printable;
}

row_held : (tin : TinRow) (rows : List LayerRow) (row : LayerRow) → IsRowReady tin rows row
    → AreLayersHeld tin (rows ++ row ∷ [])
row_held tin rows row ready = record {
  tin_held = ready.layers.tin_held;
  rows_held = all_push IsRowHeld rows row ready.layers.rows_held ready.held;
  numbered = rw length-append (omega (arith, ready.small));
}

row_spells : (tin : TinRow) (rows : List LayerRow) (row : LayerRow) (line : List ℕ) (next : State) (extents : Bool)
    → IsRowReady tin rows row
    → is_line_of_extents (length rows) line ≡ extents
    → cond extents (Some (at_layers tin (rows ++ drawing_row row ∷ []))) (step_of_layers tin (rows ++ row ∷ []) line)
    ≡ Some next → Spells (at_row tin rows row) line next
row_spells tin rows row line next true ready of_extents is =
    let same : line ≡ extents_line (length rows) = extents_takes (length rows) line of_extents in
    subst (Spells (at_row tin rows row) line) (some_is (at_layers tin (rows ++ drawing_row row ∷ [])) next is) (record {
      lines = drawing_joins tin rows row ∙ ap (λ l. (front_of tin rows ++ (layer_line (length rows) row ∷ [])) ++ l
          ∷ []) (sym same);
      held = record {
        tin_held = ready.layers.tin_held;
        rows_held = all_push IsRowHeld rows (drawing_row row) ready.layers.rows_held (drawn_held row ready.held);
        numbered = rw length-append (omega (arith, ready.small));
      };
    })
row_spells tin rows row line next false ready of_extents is =
    let later = layers_spell tin (rows ++ row ∷ []) line next _ _ (row_held tin rows row ready) refl refl is in
    record { lines = later.lines ∙ ap (λ f. f ++ line ∷ []) (row_joins tin rows row ready.plain); held = later.held }

changes_spell : (tin : TinRow) (rows : List LayerRow) (changes : List Change) (left : ℕ) (line : List ℕ) (next : State)
    (read : Option Change) → AreChangesHeld tin rows changes (suc left)
    → change_of line ≡ read → behind_change tin rows changes left read ≡ Some next
    → Spells (at_changes tin rows changes (suc left)) line next
changes_spell tin rows changes left line next None held read is = absurd cc
changes_spell tin rows changes left line next (Some change) held read is =
    let taken = change_takes line change read in
    let count : length (changes ++ change ∷ []) + left ≡ length changes + suc left = rw length-append (omega arith) in
    let more : map change_line (changes ++ change ∷ []) ≡ map change_line changes ++ line ∷ [] =
    map-append change_line changes (change ∷ []) ∙ ap (λ l. map change_line changes ++ l ∷ []) (sym taken.parts) in
    subst (Spells (at_changes tin rows changes (suc left)) line)
    (some_is (at_changes tin rows (changes ++ change ∷ []) left) next is) (record {
      lines = ap (λ n. front_of tin rows ++ (count_line n ∷ map change_line (changes ++ change ∷ []))) count
          ∙ (ap (λ ls. front_of tin rows ++ (count_line (length changes + suc left) ∷ ls)) more
          ∙ sym (append_assoc (front_of tin rows) (count_line (length changes + suc left) ∷ map change_line changes)
          (line ∷ [])));
      held = record {
        layers = held.layers;
        good =
            all_push IsChangeGood changes change held.good taken.good;
        counted =
            subst (λ n. n < 2 ^ 64) (sym count) held.counted;
      };
    })

-- what comes after all changes
behind_before : (tin : TinRow) (rows : List LayerRow) (changes : List Change) (more : List (List ℕ))
    → front_of tin rows ++ (count_line (length changes) ∷ (map change_line changes ++ more))
    ≡ (front_of tin rows ++ (count_line (length changes + 0) ∷ map change_line changes)) ++ more
behind_before tin rows changes more =
    let count : length changes + 0 ≡ length changes = omega arith in
    ap (λ n. front_of tin rows ++ (count_line n ∷ (map change_line changes ++ more))) (sym count)
    ∙ sym (append_assoc (front_of tin rows) (count_line (length changes + 0) ∷ map change_line changes) more)

-- the end after all changes, where no sides are stated
end_spells : (tin : TinRow) (rows : List LayerRow) (changes : List Change) (line : List ℕ) (next : State)
    → AreChangesHeld tin rows changes 0 → tin.sided ≡ false
    → cond (bytes_eq line end_line) (Some (at_end tin rows changes None)) None ≡ Some next
    → Spells (at_changes tin rows changes 0) line next
end_spells tin rows changes line next held told is =
    let found = let_through (bytes_eq line end_line) (at_end tin rows changes None) next is in
    let same : line ≡ end_line = same_text line end_line (sym found.passes) in
    subst (Spells (at_changes tin rows changes 0) line) found.same (record {
      lines = ap (λ l. front_of tin rows ++ (count_line (length changes) ∷ (map change_line changes ++ l ∷ [])))
          (sym same) ∙ behind_before tin rows changes (line ∷ []);
      held = record { before = held; told = told; good = tt };
    })

-- the number of changes of sides, where they are stated
side_count_spells : (tin : TinRow) (rows : List LayerRow) (changes : List Change) (line : List ℕ) (next : State)
    (read : Option ℕ) → AreChangesHeld tin rows changes 0 → tin.sided ≡ true → side_count_of line ≡ read
    → behind_side_count tin rows changes read ≡ Some next → Spells (at_changes tin rows changes 0) line next
side_count_spells tin rows changes line next None held told read is = absurd cc
side_count_spells tin rows changes line next (Some count) held told read is =
    let taken = side_count_takes line count read in
    let zero_and : 0 + count ≡ count = omega arith in
    subst (Spells (at_changes tin rows changes 0) line) (some_is (at_sides tin rows changes [] count) next is) (record {
      lines = ap (λ l. front_of tin rows ++ (count_line (length changes) ∷ (map change_line changes ++ l ∷ [])))
          (ap side_count_line zero_and ∙ sym taken.0) ∙ behind_before tin rows changes (line ∷ []);
      held = record { before = held; told = told; good = tt; counted = omega (arith, taken.1) };
    })

told_spells : (tin : TinRow) (rows : List LayerRow) (changes : List Change) (line : List ℕ) (next : State)
    (sided : Bool) → AreChangesHeld tin rows changes 0 → tin.sided ≡ sided
    → behind_changes sided tin rows changes line ≡ Some next → Spells (at_changes tin rows changes 0) line next
told_spells tin rows changes line next false held told is = end_spells tin rows changes line next held told is
told_spells tin rows changes line next true held told is =
    side_count_spells tin rows changes line next (side_count_of line) held told refl is

-- the lines before the sides, their number, and some of them, with more after them
behind_sides : (tin : TinRow) (rows : List LayerRow) (changes : List Change) (count : List ℕ)
    (lines more : List (List ℕ))
    → front_of tin rows ++ (count_line (length changes) ∷ (map change_line changes ++ (count ∷ (lines ++ more))))
    ≡ (front_of tin rows ++ (count_line (length changes) ∷ (map change_line changes ++ (count ∷ lines)))) ++ more
behind_sides tin rows changes count lines more =
    ap (λ l. front_of tin rows ++ (count_line (length changes) ∷ l))
    (sym (append_assoc (map change_line changes) (count ∷ lines) more))
    ∙ sym (append_assoc (front_of tin rows) (count_line (length changes) ∷ (map change_line changes ++ (count ∷ lines)))
    more)

sides_spell : (tin : TinRow) (rows : List LayerRow) (changes : List Change) (sides : List SideChange) (left : ℕ)
    (line : List ℕ) (next : State) (read : Option SideChange)
    → AreSomeSidesHeld tin rows changes sides (suc left) → side_change_of line ≡ read
    → behind_side tin rows changes sides left read ≡ Some next
    → Spells (at_sides tin rows changes sides (suc left)) line next
sides_spell tin rows changes sides left line next None held read is = absurd cc
sides_spell tin rows changes sides left line next (Some side) held read is =
    let taken = side_change_takes line side read in
    let count : length (sides ++ side ∷ []) + left ≡ length sides + suc left = rw length-append (omega arith) in
    let more : map side_line (sides ++ side ∷ []) ≡ map side_line sides ++ line ∷ [] =
    map-append side_line sides (side ∷ []) ∙ ap (λ l. map side_line sides ++ l ∷ []) (sym taken.parts) in
    subst (Spells (at_sides tin rows changes sides (suc left)) line)
    (some_is (at_sides tin rows changes (sides ++ side ∷ []) left) next is) (record {
      lines = ap (λ n. front_of tin rows ++ (count_line (length changes) ∷ (map change_line changes
          ++ (side_count_line n ∷ map side_line (sides ++ side ∷ []))))) count
          ∙ (ap (λ ls. front_of tin rows ++ (count_line (length changes) ∷ (map change_line changes
          ++ (side_count_line (length sides + suc left) ∷ ls)))) more
          ∙ behind_sides tin rows changes (side_count_line (length sides + suc left)) (map side_line sides)
          (line ∷ []));
      held = record {
        before = held.before;
        told = held.told;
        good = all_push IsSideGood sides side held.good taken.good;
        counted = subst (λ n. n < 2 ^ 64) (sym count) held.counted;
      };
    })

last_spells : (tin : TinRow) (rows : List LayerRow) (changes : List Change) (sides : List SideChange) (line : List ℕ)
    (next : State) → AreSomeSidesHeld tin rows changes sides 0
    → cond (bytes_eq line end_line) (Some (at_end tin rows changes (Some sides))) None ≡ Some next
    → Spells (at_sides tin rows changes sides 0) line next
last_spells tin rows changes sides line next held is =
    let found = let_through (bytes_eq line end_line) (at_end tin rows changes (Some sides)) next is in
    let same : line ≡ end_line = same_text line end_line (sym found.passes) in
    let count : length sides + 0 ≡ length sides = omega arith in
    let counted = held.counted in
    subst (Spells (at_sides tin rows changes sides 0) line) found.same (record {
      lines = ap (λ l. front_of tin rows ++ (count_line (length changes) ∷ (map change_line changes
          ++ (side_count_line (length sides) ∷ (map side_line sides ++ l ∷ []))))) (sym same)
          ∙ (ap (λ n. front_of tin rows ++ (count_line (length changes) ∷ (map change_line changes
          ++ (side_count_line n ∷ (map side_line sides ++ line ∷ []))))) (sym count)
          ∙ behind_sides tin rows changes (side_count_line (length sides + 0)) (map side_line sides) (line ∷ []));
      held = record { before = held.before; told = held.told; good = (held.good, omega (arith, counted)) };
    })

step_spells : (state : State) (line : List ℕ) (next : State) → IsStateHeld state → step state line ≡ Some next
    → Spells state line next
step_spells at_title line next held is =
    title_spells line next (bytes_eq line (title false)) (bytes_eq line (title true)) refl refl is
step_spells (at_tin sided) line next held is = tin_spells line sided next (tin_of sided line) refl is
step_spells (at_layers tin rows) line next held is =
    layers_spell tin rows line next (layer_of (length rows) line) (count_of line) held refl refl is
step_spells (at_row tin rows row) line next held is =
    row_spells tin rows row line next (is_line_of_extents (length rows) line) held refl is
step_spells (at_changes tin rows changes zero) line next held is =
    told_spells tin rows changes line next tin.sided held refl is
step_spells (at_changes tin rows changes (suc left)) line next held is =
    changes_spell tin rows changes left line next (change_of line) held refl is
step_spells (at_sides tin rows changes sides zero) line next held is =
    last_spells tin rows changes sides line next held is
step_spells (at_sides tin rows changes sides (suc left)) line next held is =
    sides_spell tin rows changes sides left line next (side_change_of line) held refl is
step_spells (at_end tin rows changes sides) line next held is = absurd cc

-- the lines that lead from a state to another are what is spelled between them
pub record Spelled (state : State) (lines : List (List ℕ)) (last : State) : Type 0 where
  pub all : spelled last ≡ spelled state ++ lines
  pub held : IsStateHeld last

pub run_spells : (state last : State) (lines : List (List ℕ)) → IsStateHeld state → run step state lines ≡ Some last
    → Spelled state lines last
run_spells state last [] held is =
    subst (Spelled state []) (some_is state last is) (record { all = sym (append-nil (spelled state)); held = held })
run_spells state last (line ∷ lines) held is =
    option_and_then_some (λ next. run step next lines) (step state line) last is (λ next here on.
    let one = step_spells state line next held here in
    let later = run_spells next last lines one.held on in
    record {
      all = later.all ∙ (ap (λ ls. ls ++ lines) one.lines ∙ append_assoc (spelled state) (line ∷ []) lines);
      held = later.held;
    })
