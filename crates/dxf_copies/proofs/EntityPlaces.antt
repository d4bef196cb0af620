-- The edits of an entity at its pairs.
use Rattle.std.proofs.Common.{◌≡◌, ℕ, ◌+◌, ◌-◌, ◌≤◌, ◌<◌, pos, List, [], ◌∷◌, ◌++◌, drop, Bool, true, false, cond}
use Rattle.std.proofs.Common.{refl, ap, sym, ◌∙◌, subst, arith, inl, inr, Ok, Err, Option, Some, zero, suc, bytes_eq}
use Rattle.std.specs.Prelude.{⊤, flat_map, codes, take_while, int_lt}
use Rattle.std.proofs.lemmas.List.{append_assoc, append-nil}
use Rattle.std.proofs.lemmas.Bool.{and_parts}
use Rattle.std.specs.List.{prefix_len}
use Rattle.std.proofs.lemmas.List.Sums.{take_while-cons}
use Rattle.mm_decimal.specs.AnswerValues.{millimetres_of}
use Rattle.mm_decimal.specs.MetresTexts.{mm_text}
use Rattle.mm_decimal.specs.declared.numerals.NumFault.TheVariants.{Form}
use Rattle.plane_base.specs.declared.shapes.Pt.{Pt}
use Rattle.sheet_base.specs.declared.edits.Edit.{Edit}
use Rattle.sheet_base.specs.declared.edits.What.{What}
use Rattle.sheet_base.specs.declared.edits.What.TheVariants as edits
use Rattle.sheet_base.specs.declared.faults.LayerFault.TheVariants.{Count, Number}
use Rattle.sheet_base.specs.Faults.{and_then}
use Rattle.sheet_base.specs.PointHeights.{Position}
use Rattle.sheet_base.specs.ImageFits.{path_positions}
use Rattle.dxf_pairs.specs.declared.pairs.Pair.{Pair}
use Rattle.dxf_pairs.specs.Lines.{between}
use Rattle.dxf_pairs.specs.Groups.{value_in}
use Rattle.dxf_pairs.specs.Laws.{AreTiles}
use Rattle.dxf_pairs.specs.InLines.{IsValue, StandsInLines, AreInLines, GroupsFollow, EndsDrawing}
use Rattle.dxf_pairs.specs.declared.line_ends.TheConstants.{LINE_FEED}
use Rattle.dxf_entities.specs.declared.fields.Read.{Read}
use Rattle.dxf_entities.specs.declared.drawing.VertexFields.{VertexFields}
use Rattle.dxf_entities.specs.Entities.{is_coded, Entity, is_no_head, entity_of, entity_end, past_pairs}
use Rattle.dxf_entities.specs.Fields.{read_of, coordinate_of, entity_fields}
use Rattle.dxf_entities.specs.Shapes.{value_edit}
use Rattle.dxf_entities.specs.Polylines.{is_group_code, fault_in_group, past_group, vertex_of, begins_vertex}
use Rattle.dxf_entities.specs.Polylines.{is_number_pair, vertices_in, vertex_edits}
use Rattle.dxf_entities.specs.Sections.{is_end_of_section}
use Rattle.dxf_entities.specs.SectionPlaces.{entities_from}
use Rattle.dxf_entities.specs.declared.section_places.Where.TheVariants.{Entities}
use Rattle.dxf_copies.specs.Rendering.{Reading, coded_before, field_copy, field_copies, crossings_of, text_of}
use Rattle.dxf_copies.specs.Rendering.{entity_at, copy_text, copied_from, handle_behind, line_copies}
use Rattle.dxf_copies.specs.Rendering.{vertex_copies, line_text, vertex_text, next_at, run_of}
use Rattle.dxf_copies.specs.declared.copies.Copied.{Copied}
use Rattle.dxf_entities.proofs.Members.{went, IsIn, tiles_follow}
use Rattle.dxf_entities.proofs.EntityEdits.{IsVertex, vertex_is, no_fault}
use Rattle.dxf_entities.proofs.WrittenGroups.{plain_value, plain_written, plain_digits}
use Rattle.dxf_copies.proofs.SplicedPairs.{AddsGroups, StandsOn, StandOn, between_both, nothing_adds, both_add}
use Rattle.dxf_copies.proofs.SplicedPairs.{value_adds, before_is, AreGroup, coded, last_ten, last_twenty, stands_whole}
use Rattle.dxf_copies.proofs.SplicedPairs.{tiles_behind, lines_behind, IsOfValue, StartsAt, no_end, pair_adds, AreBody}
use Rattle.dxf_copies.proofs.SplicedPairs.{IsFront, copied_on, copied_adds, front_taken, entity_is}
use Rattle.dxf_copies.proofs.LightVertices.{in_six}
use Rattle.dxf_copies.proofs.ValueTurns.{AreSome}
use Rattle.dxf_copies.proofs.WholeTurns.{IsSet}

-- ---- the edits of vertices in fields are at their pairs
-- these are the first of the pairs, and there are more
abbrev pub IsProper : List Pair → List Pair → Type 0
IsProper [] [] = ⊥
IsProper [] (pair ∷ pairs) = ⊤
IsProper (field ∷ fields) [] = ⊥
IsProper (field ∷ fields) (pair ∷ pairs) = (field ≡ pair) × IsProper fields pairs

-- a value that is not empty begins before it ends
pub some_between : (bytes : List ℕ) (pair : Pair) → (value_in bytes pair ≡ [] → ⊥) → pair.value < pair.value_end
some_between bytes pair some = grind arith

pub nothing_measured : millimetres_of [] ≡ Err (Form 0)
unfolding millimetres_of
nothing_measured = refl

-- a value that is read is not empty
pub some_value : (bytes : List ℕ) (exact : Bool) (pair : Pair) (read : Read) → coordinate_of bytes exact pair ≡ Ok read
    → pair.value < pair.value_end
some_value bytes exact pair read is = some_between bytes pair (λ none.
    let refused : read_of exact pair (millimetres_of (value_in bytes pair)) ≡ Err (Number pair.value (Form 0)) =
    ap (λ (text : List ℕ). read_of exact pair (millimetres_of text)) none ∙ ap (read_of exact pair) nothing_measured in
    let both : Ok read ≡ Err (Number pair.value (Form 0)) = sym is ∙ refused in cc)

-- a group ends at the start of a pair
pub record EndsAt (pairs : List Pair) (upto : ℕ) : Type 0 where
  pub group : List Pair
  pub next : Pair
  pub rest : List Pair
  pub whole : pairs ≡ group ++ next ∷ rest
  pub starts : next.start ≡ upto
  pub are : AreGroup group

pub ends_at : (bytes : List ℕ) (start line past upto : ℕ) (fields pairs : List Pair) → AreTiles start line pairs past
    → IsProper fields pairs → past_group bytes start fields ≡ Ok upto → EndsAt pairs upto
ends_at bytes start line past upto [] [] tiles proper is = absurd proper
ends_at bytes start line past upto [] (pair ∷ pairs) tiles proper is =
    let same : start ≡ upto = cc in record {
      group = [];
      next = pair;
      rest = pairs;
      whole = refl;
      starts = tiles.0 ∙ same;
      are = tt;
    }
ends_at bytes start line past upto (field ∷ fields) [] tiles proper is = absurd proper
ends_at bytes start line past upto (field ∷ fields) (pair ∷ pairs) tiles proper is =
    by_test (is_group_code field) refl is (λ goes. ends_at bytes pair.end (line + 2) past upto fields pairs tiles.5
    proper.1 goes) where
      by_test : (grouped : Bool) → is_group_code field ≡ grouped → past_group bytes start (field ∷ fields) ≡ Ok upto
          → (past_group bytes pair.end fields ≡ Ok upto → EndsAt pairs upto) → EndsAt (pair ∷ pairs) upto
      by_test true grouped goes_on later =
          let own : past_group bytes field.end fields ≡ Ok upto =
          no_fault (fault_in_group bytes field) (past_group bytes field.end fields) upto (rw grouped at goes_on) in
          let rest = later (subst (λ (p : Pair). past_group bytes p.end fields ≡ Ok upto) proper.0 own) in
          record {
            group = pair ∷ rest.group;
            next = rest.next;
            rest = rest.rest;
            whole = ap (λ (ps : List Pair). pair ∷ ps) rest.whole;
            starts = rest.starts;
            are = (subst (λ (p : Pair). is_group_code p ≡ true) proper.0 grouped, rest.are);
          }
      by_test false out goes_on later =
          let same : start ≡ upto = let e : Ok start ≡ Ok upto = rw out at goes_on in cc in
          record { group = []; next = pair; rest = pairs; whole = refl; starts = tiles.0 ∙ same; are = tt }

-- copies of a vertex's two fields
field_adds : GroupsFollow → (bytes : List ℕ) (x y : Pair) (image : Pt) → StandsInLines bytes x → StandsInLines bytes y
    → is_coded (pos 0) x ≡ false → is_coded (pos 0) y ≡ false → x.value_end ≤ x.end → x.end ≤ y.value → y.start ≡ x.end
    → AddsGroups (field_copy bytes x y image)
field_adds follow bytes x y image x_lines y_lines x_no y_no x_ends y_begins next =
    let middle : between x.value_end y.value bytes ≡ between x.value_end x.end bytes ++ between y.start y.value bytes =
    grind (arith, between_both) in
    let whole = ap (λ (t : List ℕ). between x.start x.value bytes
    ++ (mm_text image.x ++ (t ++ (mm_text image.y ++ between y.value_end y.end bytes)))) middle
    ∙ in_six (between x.start x.value bytes) (mm_text image.x) (between x.value_end x.end bytes)
    (between y.start y.value bytes) (mm_text image.y) (between y.value_end y.end bytes) in subst AddsGroups (sym whole)
    (both_add (between x.start x.value bytes ++ (mm_text image.x ++ between x.value_end x.end bytes))
    (between y.start y.value bytes ++ (mm_text image.y ++ between y.value_end y.end bytes))
    (value_adds follow bytes x (mm_text image.x) x_lines x_no (plain_value (mm_text image.x) (plain_written image.x)))
    (value_adds follow bytes y (mm_text image.y) y_lines y_no (plain_value (mm_text image.y) (plain_written image.y))))

fields_add : (bytes : List ℕ) (x y : Pair) (images : List Pt) → ((image : Pt) → AddsGroups (field_copy bytes x y image))
    → AddsGroups (flat_map (field_copy bytes x y) images)
fields_add bytes x y [] each = nothing_adds
fields_add bytes x y (image ∷ images) each =
    both_add (field_copy bytes x y image) (flat_map (field_copy bytes x y) images) (each image)
    (fields_add bytes x y images each)

copies_add : (bytes : List ℕ) (first second : Option Pair) (x y : Pair) (images : List Pt) → first ≡ Some x
    → second ≡ Some y → ((image : Pt) → AddsGroups (field_copy bytes x y image))
    → AddsGroups (field_copies bytes first second images)
copies_add bytes first second x y images first_is second_is each = grind (arith, AddsGroups, fields_add)

pub in_front_of : (front group rest : List Pair) (x y next : Pair)
    → front ++ (x ∷ y ∷ (group ++ next ∷ rest)) ≡ (front ++ (x ∷ y ∷ group)) ++ next ∷ rest
in_front_of front group rest x y next = sym (append_assoc front (x ∷ y ∷ group) (next ∷ rest))

-- the room for crossings after a vertex
room_stands : GroupsFollow → (read : Reading) (past : ℕ) (front : List Pair) (x y : Pair) (pairs : List Pair)
    (edit : Edit) (point : ℕ) → edit.what ≡ edits.Vertices point → read.pairs ≡ front ++ (x ∷ y ∷ pairs)
    → AreTiles 0 1 read.pairs past → x.code ≡ pos 10 → y.code ≡ pos 20 → EndsAt pairs edit.start → edit.end ≡ edit.start
    → ((image : Pt) → AddsGroups (field_copy read.bytes x y image)) → StandsOn read read.pairs edit
room_stands follow read past front x y pairs edit point what_is are tiles ten twenty ends none each =
    let all : read.pairs ≡ (front ++ (x ∷ y ∷ ends.group)) ++ ends.next ∷ ends.rest = grind (arith, in_front_of) in
    let first : coded_before read (pos 10) edit.start ≡ Some x =
    ap (λ (n : ℕ). coded_before read (pos 10) n) (sym ends.starts)
    ∙ (before_is read (pos 10) (front ++ (x ∷ y ∷ ends.group)) past ends.next ends.rest all tiles
    ∙ last_ten front x y ends.group ten twenty ends.are) in
    let second : coded_before read (pos 20) edit.start ≡ Some y =
    ap (λ (n : ℕ). coded_before read (pos 20) n) (sym ends.starts)
    ∙ (before_is read (pos 20) (front ++ (x ∷ y ∷ ends.group)) past ends.next ends.rest all tiles
    ∙ last_twenty front x y ends.group twenty ends.are) in
    let text : AddsGroups (text_of read edit) =
    rw what_is (copies_add read.bytes (coded_before read (pos 10) edit.start)
    (coded_before read (pos 20) edit.start) x y (crossings_of read.images point) first second each) in
    stands_whole read (front ++ (x ∷ y ∷ ends.group)) (ends.next ∷ ends.rest) edit all
    (inr (inl (record { start = sym ends.starts; end = inl (ends.starts ∙ sym none); text = text })))

-- a number is written in the place of a value
number_stands : (read : Reading) (front : List Pair) (pair : Pair) (pairs : List Pair) (what : What)
    → read.pairs ≡ front ++ pair ∷ pairs → is_coded (pos 0) pair ≡ false → pair.value < pair.value_end
    → IsValue (text_of read (value_edit what pair)) → StandsOn read read.pairs (value_edit what pair)
number_stands read front pair pairs what are no_head some text = grind (arith, stands_whole)

pub in_front_one : (front rest : List Pair) (x : Pair) → front ++ x ∷ rest ≡ (front ++ x ∷ []) ++ rest
in_front_one front rest x = sym (append_assoc front (x ∷ []) rest)

pub in_front_two : (front rest : List Pair) (x y : Pair) → front ++ (x ∷ y ∷ rest) ≡ (front ++ (x ∷ y ∷ [])) ++ rest
in_front_two front rest x y = sym (append_assoc front (x ∷ y ∷ []) rest)

-- both values of a vertex are read
record HaveValues (x y : Pair) : Type 0 where
  east : x.value < x.value_end
  north : y.value < y.value_end

some_numbers : (bytes : List ℕ) (exact : Bool) (x y : Pair) (pairs : List Pair) (vertex : VertexFields)
    → vertex_of bytes exact x y pairs ≡ Ok vertex → HaveValues x y
some_numbers bytes exact x y pairs vertex is = grind (arith, went, some_value)

one_vertex : GroupsFollow → (read : Reading) (past : ℕ) → AreTiles 0 1 read.pairs past
    → AreInLines read.bytes read.pairs → (front fields : List Pair) (x y : Pair) (pairs : List Pair) (vertex : VertexFields)
    (vertices : List VertexFields)
    → read.pairs ≡ front ++ (x ∷ y ∷ pairs) → IsProper fields pairs → x.code ≡ pos 10 → y.code ≡ pos 20
    → IsVertex read.bytes x y fields vertex → HaveValues x y
    → ((n : ℕ) → StandOn read read.pairs (vertex_edits n vertices)) → (n : ℕ)
    → StandOn read read.pairs (vertex_edits n (vertex ∷ vertices))
one_vertex follow read past tiles lines front fields x y [] vertex vertices are proper ten twenty is some rest n =
    absurd (no_more fields proper) where
      no_more : (fs : List Pair) → IsProper fs [] → ⊥
      no_more [] none = none
      no_more (f ∷ fs) none = none
one_vertex follow read past tiles lines front fields x y (next ∷ pairs) vertex vertices are proper ten twenty is some
    rest n =
    let here = tiles_behind front 0 1 past x (y ∷ next ∷ pairs)
    (subst (λ (ps : List Pair). AreTiles 0 1 ps past) are tiles) in
    let own = lines_behind read.bytes front x (y ∷ next ∷ pairs)
    (subst (λ (ps : List Pair). AreInLines read.bytes ps) are lines) in
    let x_no : is_coded (pos 0) x ≡ false = rw ten refl in
    let y_no : is_coded (pos 0) y ≡ false = rw twenty refl in
    let each : (image : Pt) → AddsGroups (field_copy read.bytes x y image) =
    λ image. field_adds follow read.bytes x y image own.0 own.1.0 x_no y_no here.1.4
    (omega (arith, here.1.5.0, here.1.5.2)) here.1.5.0 in
    let ends = ends_at read.bytes y.end (here.0 + 2 + 2) past vertex.past fields (next ∷ pairs) here.1.5.5 proper
    is.past in (
      subst (λ (p : Pair). StandsOn read read.pairs (value_edit (edits.X n) p)) (sym is.east)
          (number_stands read front x (y ∷ next ∷ pairs) (edits.X n) are x_no some.east
          (plain_value _ (plain_written _))),
      (
        subst (λ (p : Pair). StandsOn read read.pairs (value_edit (edits.Y n) p)) (sym is.north)
            (number_stands read (front ++ x ∷ []) y (next ∷ pairs) (edits.Y n)
            (are ∙ in_front_one front (y ∷ next ∷ pairs) x) y_no some.north (plain_value _ (plain_written _))),
        (
          room_stands follow read past front x y (next ∷ pairs)
              (record { start = vertex.past; end = vertex.past; what = edits.Vertices n }) n refl are tiles ten twenty
              ends refl each,
          rest (n + 1),
        ),
      ),
    )

-- what is read of fields that begin a vertex: the first vertex, and those after it
pub record FirstVertex (bytes : List ℕ) (exact : Bool) (first second x y : Pair) (fields : List Pair)
    (vertices : List VertexFields) : Type 0 where
  pub value : VertexFields
  pub made : vertex_of bytes exact first second fields ≡ Ok value
  pub more : List VertexFields
  pub behind : vertices_in bytes exact fields ≡ Ok more
  pub whole : value ∷ more ≡ vertices
  pub vertex : IsVertex bytes x y fields value
  pub ten : x.code ≡ pos 10
  pub twenty : y.code ≡ pos 20

pub first_vertex : (bytes : List ℕ) (exact : Bool) (first second x y : Pair) (fields : List Pair)
    (vertices : List VertexFields) → first ≡ x → second ≡ y → begins_vertex first second ≡ true
    → and_then (λ (vertex : VertexFields). and_then (λ (more : List VertexFields). Ok (vertex ∷ more))
    (vertices_in bytes exact fields)) (vertex_of bytes exact first second fields) ≡ Ok vertices
    → FirstVertex bytes exact first second x y fields vertices
first_vertex bytes exact first second x y fields vertices first_is second_is begins made =
    let one = went (λ (vertex : VertexFields). and_then (λ (more : List VertexFields). Ok (vertex ∷ more))
    (vertices_in bytes exact fields)) (vertex_of bytes exact first second fields) vertices made in
    let more = went (λ (more : List VertexFields). Ok (one.value ∷ more)) (vertices_in bytes exact fields) vertices
    one.gives in
    let whole : one.value ∷ more.value ≡ vertices = cc in
    let codes = and_parts (is_coded (pos 10) first) (is_coded (pos 20) second) begins in
    record {
      value = one.value;
      made = one.is;
      more = more.value;
      behind = more.is;
      whole = whole;
      vertex = subst (λ (p : Pair). IsVertex bytes p y fields one.value) first_is
          (subst (λ (p : Pair). IsVertex bytes first p fields one.value) second_is
          (vertex_is bytes exact first second fields one.value one.is));
      ten = sym (ap (λ (p : Pair). p.code) first_is) ∙ coded first (pos 10) codes.0;
      twenty = sym (ap (λ (p : Pair). p.code) second_is) ∙ coded second (pos 20) codes.1;
    }

-- the edits of vertices that were read of the first of the pairs
vertices_stand : GroupsFollow → (read : Reading) (past : ℕ) → AreTiles 0 1 read.pairs past
    → AreInLines read.bytes read.pairs → (exact : Bool) (front fields pairs : List Pair) (vertices : List VertexFields)
    → read.pairs ≡ front ++ pairs → IsProper fields pairs
    → vertices_in read.bytes exact fields ≡ Ok vertices → (n : ℕ) → StandOn read read.pairs (vertex_edits n vertices)
vertices_stand follow read past tiles lines exact front [] pairs vertices are proper is n = let none : [] ≡ vertices =
    cc in subst (λ (vs : List VertexFields). StandOn read read.pairs (vertex_edits n vs)) none tt
vertices_stand follow read past tiles lines exact front (field ∷ []) pairs vertices are proper is n =
    grind (arith, StandOn)
vertices_stand follow read past tiles lines exact front (first ∷ second ∷ fields) [] vertices are proper is n =
    absurd proper
vertices_stand follow read past tiles lines exact front (first ∷ second ∷ fields) (x ∷ []) vertices are proper is n =
    absurd proper.1
vertices_stand follow read past tiles lines exact front (first ∷ second ∷ fields) (x ∷ y ∷ pairs) vertices are proper is
    n = by_tests (begins_vertex first second) (is_number_pair first) refl is
    (λ vs vs_is m. vertices_stand follow read past tiles lines exact (front ++ (x ∷ y ∷ [])) fields pairs vs
    (are ∙ in_front_two front pairs x y) proper.1.1 vs_is m)
    (λ vs_is. vertices_stand follow read past tiles lines exact (front ++ x ∷ []) (second ∷ fields) (y ∷ pairs) vertices
    (are ∙ in_front_one front (y ∷ pairs) x) proper.1 vs_is n) where
      by_tests : (begins number : Bool) → begins_vertex first second ≡ begins
          → cond begins (and_then (λ (vertex : VertexFields). and_then (λ (more : List VertexFields). Ok (vertex ∷ more))
          (vertices_in read.bytes exact fields)) (vertex_of read.bytes exact first second fields))
          (cond number (Err (Count first.line)) (vertices_in read.bytes exact (second ∷ fields))) ≡ Ok vertices
          → ((vs : List VertexFields) → vertices_in read.bytes exact fields ≡ Ok vs → (m : ℕ)
          → StandOn read read.pairs (vertex_edits m vs)) → (vertices_in read.bytes exact (second ∷ fields) ≡ Ok vertices
          → StandOn read read.pairs (vertex_edits n vertices)) → StandOn read read.pairs (vertex_edits n vertices)
      by_tests true number begins made behind later =
          let v = first_vertex read.bytes exact first second x y fields vertices proper.0 proper.1.0 begins made in
          let some : HaveValues x y = subst (λ (p : Pair). HaveValues p y) proper.0
          (subst (λ (p : Pair). HaveValues first p) proper.1.0
          (some_numbers read.bytes exact first second fields v.value v.made)) in grind (arith, StandOn, one_vertex)
      by_tests false true begins made behind later = absurd (cc)
      by_tests false false begins made behind later = later made

-- ---- the edits of an entity are at the pairs of the drawing
-- the pairs of an entity after its head
pub record AreOfEntity (bytes : List ℕ) (start line : ℕ) (pairs body : List Pair) : Type 0 where
  pub body_lines : AreBody bytes body
  pub tiles : AreTiles start line body (past_pairs start body)
  pub starts : StartsAt (past_pairs start body) pairs
  pub proper : IsProper body pairs

no_body : (bytes : List ℕ) (start line past : ℕ) (pair : Pair) (pairs : List Pair)
    → AreTiles start line (pair ∷ pairs) past → is_coded (pos 0) pair ≡ true
    → AreOfEntity bytes start line (pair ∷ pairs) (take_while is_no_head (pair ∷ pairs))
no_body bytes start line past pair pairs tiles head = grind (arith, take_while-cons)

pub of_entity : (bytes : List ℕ) (start line past : ℕ) (pairs : List Pair) → AreTiles start line pairs past
    → AreInLines bytes pairs → AreOfEntity bytes start line pairs (take_while is_no_head pairs)
of_entity bytes start line past [] tiles lines = absurd lines
of_entity bytes start line past (pair ∷ []) tiles lines = grind (arith, no_body, no_end)
of_entity bytes start line past (pair ∷ next ∷ pairs) tiles lines =
    by_test (is_coded (pos 0) pair) refl (of_entity bytes pair.end (line + 2) past (next ∷ pairs) tiles.5 lines.1) where
      by_test : (head : Bool) → is_coded (pos 0) pair ≡ head
          → AreOfEntity bytes pair.end (line + 2) (next ∷ pairs) (take_while is_no_head (next ∷ pairs))
          → AreOfEntity bytes start line (pair ∷ next ∷ pairs) (take_while is_no_head (pair ∷ next ∷ pairs))
      by_test true head rest = no_body bytes start line past pair (next ∷ pairs) tiles head
      by_test false other rest =
          let more : take_while is_no_head (pair ∷ next ∷ pairs) ≡ pair ∷ take_while is_no_head (next ∷ pairs) =
          take_while-cons is_no_head pair (next ∷ pairs) ∙ rw other refl in grind arith

pub front_proper : (fields body pairs : List Pair) → IsFront fields body → IsProper body pairs → IsProper fields pairs
front_proper [] [] [] front proper = proper
front_proper [] (pair ∷ body) [] front proper = absurd proper
front_proper [] body (pair ∷ pairs) front proper = tt
front_proper (field ∷ fields) [] pairs front proper = absurd front
front_proper (field ∷ fields) (pair ∷ body) [] front proper = absurd proper
front_proper (field ∷ fields) (pair ∷ body) (other ∷ pairs) front proper =
    (front.0 ∙ proper.0, front_proper fields body pairs front.1 proper.1)

-- a pair of the first part of a body is no head, and is among the pairs
in_body : (bytes : List ℕ) (fields body : List Pair) (pair : Pair) → IsFront fields body → AreBody bytes body
    → IsIn pair fields → is_coded (pos 0) pair ≡ false
in_body bytes [] body pair front lines is_in = absurd is_in
in_body bytes (field ∷ fields) [] pair front lines is_in = absurd front
in_body bytes (field ∷ fields) (first ∷ body) pair front lines (inl is) =
    ap (λ (p : Pair). is_coded (pos 0) p) (is ∙ front.0) ∙ lines.1.0
in_body bytes (field ∷ fields) (first ∷ body) pair front lines (inr is_in) =
    in_body bytes fields body pair front.1 lines.1.1 is_in

in_proper : (fields pairs : List Pair) (pair : Pair) → IsProper fields pairs → IsIn pair fields → IsIn pair pairs
in_proper [] pairs pair proper is_in = absurd is_in
in_proper (field ∷ fields) [] pair proper is_in = absurd proper
in_proper (field ∷ fields) (first ∷ pairs) pair proper (inl is) = inl (is ∙ proper.0)
in_proper (field ∷ fields) (first ∷ pairs) pair proper (inr is_in) = inr (in_proper fields pairs pair proper.1 is_in)

pub value_stands : (read : Reading) (pairs : List Pair) (pair : Pair) (edit : Edit) → IsIn pair pairs
    → IsOfValue read pair edit → StandsOn read pairs edit
value_stands read [] pair edit is_in value = absurd is_in
value_stands read (first ∷ pairs) pair edit (inl is) value = inl (subst (λ (p : Pair). IsOfValue read p edit) is value)
value_stands read (first ∷ pairs) pair edit (inr is_in) value =
    inr (inr (value_stands read pairs pair edit is_in value))

-- an edit that writes a number in the place of a value
abbrev pub IsNumber : What → Type 0
IsNumber (edits.X point) = ⊤
IsNumber (edits.Y point) = ⊤
IsNumber (edits.Tally first past) = ⊤
IsNumber what = ⊥

number_text : (read : Reading) (what : What) (pair : Pair) → IsNumber what
    → IsValue (text_of read (value_edit what pair))
number_text read (edits.X point) pair is = plain_value _ (plain_written _)
number_text read (edits.Y point) pair is = plain_value _ (plain_written _)
number_text read (edits.Tally first past) pair is = plain_value _ (plain_digits 10 false _)
number_text read what pair is = absurd is

-- all edits that are made of an entity are at the pairs of the drawing
pub record IsSource (read : Reading) (entity : Entity) : Type 0 where
  pub lines : (path : ℕ) → StandsOn read read.pairs
      (record { start = entity.head.start; end = entity_end entity; what = edits.Lines path })
  pub vertex : (point : ℕ) → StandsOn read read.pairs
      (record { start = entity.head.start; end = entity_end entity; what = edits.Vertex point })
  pub drop : StandsOn read read.pairs (record { start = entity.head.start; end = entity_end entity; what = edits.Drop })
  pub value : (what : What) (pair : Pair) → IsNumber what → IsIn pair (entity_fields entity)
      → pair.value < pair.value_end → StandsOn read read.pairs (value_edit what pair)
  pub vertices : (exact : Bool) (read_vertices : List VertexFields)
      → vertices_in read.bytes exact (entity_fields entity) ≡ Ok read_vertices → (n : ℕ)
      → StandOn read read.pairs (vertex_edits n read_vertices)

lines_add : (bytes : List ℕ) (entity : Entity) (first : Bool) (next : ℕ) (images : List Position)
    → ((copied : Copied) → AddsGroups (copy_text bytes copied entity))
    → AddsGroups (line_copies bytes entity first next images)
lines_add bytes entity first next [] each = nothing_adds
lines_add bytes entity first next (begin ∷ []) each = nothing_adds
lines_add bytes entity first next (begin ∷ end ∷ images) each =
    grind (arith, both_add, (lines_add bytes entity false (handle_behind first next) (end ∷ images) each))

vertices_add : (bytes : List ℕ) (entity : Entity) (first : Bool) (next : ℕ) (images : List Pt)
    → ((copied : Copied) → AddsGroups (copy_text bytes copied entity))
    → AddsGroups (vertex_copies bytes entity first next images)
vertices_add bytes entity first next [] each = nothing_adds
vertices_add bytes entity first next (image ∷ images) each =
    grind (arith, both_add, (vertices_add bytes entity false (handle_behind first next) images each))

pub source_of : GroupsFollow → (read : Reading) (past : ℕ) → AreTiles 0 1 read.pairs past
    → AreInLines read.bytes read.pairs → (front : List Pair) (head next : Pair) (pairs : List Pair)
    → read.pairs ≡ front ++ (head ∷ next ∷ pairs) → IsSource read (entity_of head (next ∷ pairs))
source_of follow read past tiles lines front head next pairs are = record {
  lines = λ path. whole (record { start = head.start; end = entity_end entity; what = edits.Lines path }) refl refl
      (subst (λ (found : Option Entity). AddsGroups (line_text read (next_at read head.start) found path)) (sym found)
      (lines_add read.bytes entity true (next_at read head.start) (path_positions read.sheet.paths read.images path)
      copy_adds));
  vertex = λ point. whole (record { start = head.start; end = entity_end entity; what = edits.Vertex point }) refl refl
      (subst (λ (found : Option Entity). AddsGroups (vertex_text read (next_at read head.start) found point))
      (sym found) (vertices_add read.bytes entity true (next_at read head.start) (run_of read.images point)
      copy_adds));
  drop = whole (record { start = head.start; end = entity_end entity; what = edits.Drop }) refl refl nothing_adds;
  value = λ what pair number is_in some. stands_whole read front (head ∷ next ∷ pairs) (value_edit what pair) are
      (inr (inr (value_stands read (next ∷ pairs) pair (value_edit what pair)
      (in_proper fields (next ∷ pairs) pair proper is_in) (record {
        start = refl;
        end = refl;
        some = some;
        no_head = in_body read.bytes fields entity.pairs pair fields_front of.body_lines is_in;
        text = number_text read what pair number;
      }))));
  vertices = λ exact vs is n. vertices_stand follow read past tiles lines exact (front ++ head ∷ []) fields
      (next ∷ pairs) vs (are ∙ sym (append_assoc front (head ∷ []) (next ∷ pairs))) proper is n;
} where
  entity : Entity
  entity = entity_of head (next ∷ pairs)

  fields : List Pair
  fields = entity_fields entity

  here : (number : ℕ) × AreTiles head.start number (head ∷ next ∷ pairs) past
  here = tiles_behind front 0 1 past head (next ∷ pairs) (subst (λ (ps : List Pair). AreTiles 0 1 ps past) are tiles)

  own : AreInLines read.bytes (head ∷ next ∷ pairs)
  own = lines_behind read.bytes front head (next ∷ pairs)
      (subst (λ (ps : List Pair). AreInLines read.bytes ps) are lines)

  of : AreOfEntity read.bytes head.end (here.0 + 2) (next ∷ pairs) entity.pairs
  of = of_entity read.bytes head.end (here.0 + 2) past (next ∷ pairs) here.1.5 own.1

  fields_front : IsFront fields entity.pairs
  fields_front = front_taken (prefix_len (λ (pair : Pair). int_lt pair.code (pos 1000)) entity.pairs) entity.pairs

  proper : IsProper fields (next ∷ pairs)
  proper = front_proper fields entity.pairs (next ∷ pairs) fields_front of.proper

  found : entity_at read head.start ≡ Some entity
  found = entity_is read front past head (next ∷ pairs) are tiles

  whole : (edit : Edit) → edit.start ≡ head.start → edit.end ≡ entity_end entity → AddsGroups (text_of read edit)
      → StandsOn read read.pairs edit
  whole edit starts ends text = stands_whole read front (head ∷ next ∷ pairs) edit are (inr (inl (record {
    start = starts;
    end = inr (subst (λ (n : ℕ). StartsAt n (next ∷ pairs)) (sym ends) of.starts);
    text = text;
  })))

  copy_adds : (copied : Copied) → AddsGroups (copy_text read.bytes copied entity)
  copy_adds copied =
      let all : copy_text read.bytes copied entity ≡ between head.start head.end read.bytes
      ++ copied_from read.bytes copied (entity_end entity) fields head.end =
      copied_on read.bytes copied (entity_end entity) head.start head.end head.end (here.0 + 2) fields entity.pairs
      (omega (arith, here.1.2, here.1.3, here.1.4)) (omega arith) of.tiles fields_front in subst AddsGroups (sym all)
      (both_add (between head.start head.end read.bytes)
      (copied_from read.bytes copied (entity_end entity) fields head.end)
      (pair_adds follow read.bytes head own.0 here.1.2 here.1.3 here.1.4)
      (copied_adds follow read.bytes copied (entity_end entity) head.end (here.0 + 2) fields entity.pairs of.tiles
      of.body_lines fields_front))

-- ---- an entity in front of the pairs after it
-- the value of a pair on two lines ends before its line does
nothing_ends : (text : List ℕ) → text ++ LINE_FEED ∷ [] ≡ [] → ⊥
nothing_ends [] is = cc
nothing_ends (byte ∷ text) is = cc

pub ends_later : (bytes : List ℕ) (pair : Pair) → StandsInLines bytes pair → pair.value_end ≤ pair.end
    → pair.value_end < pair.end
ends_later bytes pair (first, before, behind_value, lines) order = grind (arith, nothing_ends)

body_some : (bytes : List ℕ) (start line past : ℕ) (pairs : List Pair) → AreTiles start line pairs past
    → AreBody bytes pairs → AreSome pairs
body_some bytes start line past [] tiles body = tt
body_some bytes start line past (pair ∷ pairs) tiles body =
    let later = ends_later bytes pair body.0 tiles.4 in
    (omega (arith, tiles.3, later), body_some bytes pair.end (line + 2) past pairs tiles.5 body.1.1)

-- an entity with more pairs after it than its head
pub set_of : (bytes : List ℕ) (line past : ℕ) (head next : Pair) (pairs : List Pair)
    → AreTiles head.start line (head ∷ next ∷ pairs) past → AreInLines bytes (head ∷ next ∷ pairs)
    → is_coded (pos 0) head ≡ true → IsSet bytes (entity_of head (next ∷ pairs))
set_of bytes line past head next pairs tiles lines is_head =
    let of : AreOfEntity bytes head.end (line + 2) (next ∷ pairs) (entity_of head (next ∷ pairs)).pairs =
    of_entity bytes head.end (line + 2) past (next ∷ pairs) tiles.5 lines.1 in
    let later = ends_later bytes head lines.0 tiles.4 in grind (arith, tiles_follow, body_some)

-- the pair that ends the drawing ends a section
pub last_ends : (bytes : List ℕ) (pair : Pair) → EndsDrawing bytes pair → is_end_of_section bytes pair ≡ true
last_ends bytes pair ends = grind (arith, bytes_eq)

-- the first of the pairs, if there is one, is a head
abbrev pub IsHeadFirst : List Pair → Type 0
IsHeadFirst [] = ⊤
IsHeadFirst (pair ∷ pairs) = is_coded (pos 0) pair ≡ true

pub record IsSplit (pairs body : List Pair) : Type 0 where
  pub behind_body : List Pair
  pub are : pairs ≡ body ++ behind_body
  pub first : IsHeadFirst behind_body

pub split_of : (pairs : List Pair) → IsSplit pairs (take_while is_no_head pairs)
split_of [] = record { behind_body = []; are = refl; first = tt }
split_of (pair ∷ pairs) = by_test (is_coded (pos 0) pair) refl (split_of pairs) where
  by_test : (head : Bool) → is_coded (pos 0) pair ≡ head → IsSplit pairs (take_while is_no_head pairs)
      → IsSplit (pair ∷ pairs) (take_while is_no_head (pair ∷ pairs))
  by_test true head rest =
      let none : take_while is_no_head (pair ∷ pairs) ≡ [] = take_while-cons is_no_head pair pairs ∙ rw head refl in
      subst (IsSplit (pair ∷ pairs)) (sym none) (record { behind_body = pair ∷ pairs; are = refl; first = head })
  by_test false head rest =
      let more : take_while is_no_head (pair ∷ pairs) ≡ pair ∷ take_while is_no_head pairs =
      take_while-cons is_no_head pair pairs ∙ rw head refl in grind arith

never_proper : (pairs : List Pair) → IsProper pairs pairs → ⊥
never_proper [] proper = proper
never_proper (pair ∷ pairs) proper = never_proper pairs proper.1

-- there are pairs after an entity
pub more_behind : (pairs body rest : List Pair) → pairs ≡ body ++ rest → IsProper body pairs → rest ≡ [] → ⊥
more_behind pairs body rest are proper none = grind (arith, append-nil, never_proper)

-- the entities after a body
pub entities_behind : (bytes : List ℕ) (body rest : List Pair) → AreBody bytes body
    → entities_from bytes Entities (body ++ rest) ≡ entities_from bytes Entities rest
entities_behind bytes [] rest are = refl
entities_behind bytes (pair ∷ body) rest are = let here = are.1.0 in rw here (entities_behind bytes body rest are.1.1)
