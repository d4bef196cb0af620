-- That memory runs out is no fault of a drawing.
use Rattle.std.proofs.Common.{◌≡◌, ℕ, ℤ, pos, Bool, true, false, cond, List, [], ◌∷◌, length, ap, refl}
use Rattle.std.specs.Prelude.{◌&&◌, ◌||◌, not, codes, nat_eq, Option, Some, None, Result, Ok, Err}
use Rattle.std.specs.List.{starts_with, list_all}
use Rattle.std.specs.Str.{bytes_eq}
use Rattle.mm_decimal.specs.declared.numerals.MmRead.{MmRead}
use Rattle.mm_decimal.specs.declared.numerals.NumFault.{NumFault}
use Rattle.sheet_base.specs.declared.flags.How.{How}
use Rattle.sheet_base.specs.declared.paths.PathKind.{PathKind}
use Rattle.sheet_base.specs.declared.paths.PathKind.TheVariants as paths
use Rattle.sheet_base.specs.declared.faults.LayerFault.{LayerFault}
use Rattle.sheet_base.specs.declared.faults.LayerFault.TheVariants as faults
use Rattle.dxf_pairs.specs.declared.pairs.Pair.{Pair}
use Rattle.dxf_pairs.specs.declared.faults.PairFault.{PairFault}
use Rattle.dxf_pairs.specs.declared.faults.PairFault.TheVariants as pair_faults
use Rattle.dxf_pairs.specs.declared.pair_lists.TheConstants.{BINARY}
use Rattle.dxf_pairs.specs.Lines.{Line, lines}
use Rattle.dxf_pairs.specs.Codes.{code_of}
use Rattle.dxf_pairs.specs.Groups.{value_in}
use Rattle.dxf_pairs.specs.Pairs.{behind, first_pair, of_two, of_one, drawing, reading as pairs_in}
use Rattle.dxf_entities.specs.declared.drawing.Rise.{Rise}
use Rattle.dxf_entities.specs.declared.drawing.PointFields.{PointFields}
use Rattle.dxf_entities.specs.declared.drawing.VertexFields.{VertexFields}
use Rattle.dxf_entities.specs.declared.fields.Read.{Read}
use Rattle.dxf_entities.specs.declared.points.LineFields.{LineFields}
use Rattle.dxf_entities.specs.Entities.{Entity, entity_end, is_coded, is_of_kind}
use Rattle.dxf_entities.specs.Fields.{entity_fields, at_most_one, field_at, is_there, wanted_at, read_of, coordinate_of}
use Rattle.dxf_entities.specs.Fields.{coordinate_from, equals_number, there_as, not_zero, line_unless_zero, refused_at}
use Rattle.dxf_entities.specs.Fields.{zero_at, in_turn}
use Rattle.sheet_base.specs.Faults.{and_then}
use Rattle.dxf_entities.specs.Seeds.{seed_of}
use Rattle.dxf_entities.specs.Handles.{has_next, handle}
use Rattle.dxf_entities.specs.Shapes.{Shape}
use Rattle.dxf_entities.specs.Points.{spot_at, point_shapes, insert_shapes, second_spot, text_shapes, height, are_level}
use Rattle.dxf_entities.specs.Points.{both_heights, rise_of, line_ends, line_shapes}
use Rattle.dxf_entities.specs.Polylines.{kind_by, kind_of, is_group_code, first_fault, past_group, vertex_of}
use Rattle.dxf_entities.specs.Polylines.{begins_vertex, is_number_pair, vertices_in, count_of, light_shape}
use Rattle.dxf_entities.specs.Polylines.{light_shapes, plain, entity_vertex, own_vertices, ends_polyline, heavy_shapes}
use Rattle.dxf_entities.specs.Kinds.{is_upright, repeat_of, no_second, upright, shapes_of, are_read_alone}
use Rattle.dxf_entities.specs.Kinds.{unless_on_paper, other_shapes, single_shapes, polyline_shapes, shapes_of_item}
use Rattle.dxf_layer.specs.Drawings.{sheet_of, from_pairs, drawing_sheet}
use Rattle.dxf_entities.specs.Items.{Item, single, polyline, items_of}
use Rattle.sheet_base.proofs.MemoryFaults.{Never, never_then, never_either}

-- ---- pairs
abbrev NeverPairs : Result (List Pair) PairFault → Type 0
NeverPairs result = ◌≡◌ {A = Result (List Pair) PairFault} result (Err pair_faults.NoMemory) → ⊥

never_one : (line : Line) (code : Option ℤ) → NeverPairs (of_one line code)
never_one line None = λ is. cc
never_one line (Some code) = λ is. cc

never_behind : (front : List Pair) (rest : Result (List Pair) PairFault) → NeverPairs rest
    → NeverPairs (behind front rest)
never_behind front (Ok more) never = λ is. cc
never_behind front (Err fault) never = λ is. let same : fault ≡ pair_faults.NoMemory = cc in never (ap Err same)

never_first : (pair : Pair) (last : Bool) (rest : Result (List Pair) PairFault) → NeverPairs rest
    → NeverPairs (first_pair pair last rest)
never_first pair true rest never = λ is. cc
never_first pair false rest never = never_behind (pair ∷ []) rest never

never_two : (first second : Line) (code : Option ℤ) (rest : Result (List Pair) PairFault) → NeverPairs rest
    → NeverPairs (of_two first second code rest)
never_two first second None rest never = λ is. cc
never_two first second (Some code) rest never = never_first _ _ rest never

never_lines : (all : List Line) → NeverPairs (pairs_in all)
never_lines [] = λ is. cc
never_lines (first ∷ []) = never_one first (code_of first.text)
never_lines (first ∷ second ∷ more) = never_two first second (code_of first.text) (pairs_in more) (never_lines more)

never_drawing : (bytes : List ℕ) → NeverPairs (drawing bytes)
never_drawing bytes = by (starts_with nat_eq bytes BINARY.now)
  where
    by : (test : Bool) → NeverPairs (cond test (Err pair_faults.Binary) (pairs_in (lines bytes)))
    by true = λ is. cc
    by false = never_lines (lines bytes)

-- ---- fields
never_most : (found : List Pair) → Never (at_most_one found)
never_most [] = λ is. cc
never_most (pair ∷ []) = λ is. cc
never_most (pair ∷ second ∷ pairs) = λ is. cc

never_there : (entity : Entity) (found : Option Pair) → Never (is_there entity found)
never_there entity None = λ is. cc
never_there entity (Some pair) = λ is. cc

never_read : (exact : Bool) (pair : Pair) (result : Result MmRead NumFault) → Never (read_of exact pair result)
never_read exact pair (Err fault) = λ is. cc
never_read exact pair (Ok read) = never_either {A = Read} (exact && not read.exact) _ _ (λ is. cc) (λ is. cc)

never_unless : (bytes : List ℕ) (found : Option Pair) → Never (line_unless_zero bytes found)
never_unless bytes None = λ is. cc
never_unless bytes (Some pair) = never_either {A = Option ℕ} (equals_number bytes 0 pair) _ _ (λ is. cc) (λ is. cc)

never_refused : (fault : ℕ → LayerFault) → ((line : ℕ) → fault line ≡ faults.NoMemory → ⊥)
    → (result : Result (Option ℕ) LayerFault) → Never result → Never (refused_at fault result)
never_refused fault other (Ok None) never = λ is. cc
never_refused fault other (Ok (Some line)) never = λ is. let same : fault line ≡ faults.NoMemory = cc in other line same
never_refused fault other (Err why) never = λ is. let same : why ≡ faults.NoMemory = cc in never (ap Err same)

never_next : (seed found : Option Pair) → Never (has_next seed found)
never_next None None = λ is. cc
never_next (Some next) None = λ is. cc
never_next None (Some own) = λ is. cc
never_next (Some next) (Some own) = λ is. cc

never_kind_by : (bytes : List ℕ) (found : Option Pair) → Never (kind_by bytes found)
never_kind_by bytes None = λ is. cc
never_kind_by bytes (Some pair) =
    never_either (equals_number bytes 0 pair || equals_number bytes 128 pair) _ _ (λ is. cc) (never_either
    (equals_number bytes 1 pair || equals_number bytes 129 pair) _ _ (λ is. cc) (λ is. cc))

never_group : (bytes : List ℕ) (past : ℕ) (pairs : List Pair) → Never (past_group bytes past pairs)
never_group bytes past [] = λ is. cc
never_group bytes past (pair ∷ pairs) =
    never_either (is_group_code pair) _ _ (by (equals_number bytes 0 pair) (is_coded (pos 40) pair || is_coded (pos 41)
    pair) (is_coded (pos 42) pair) (past_group bytes pair.end pairs) (never_group bytes pair.end pairs)) (λ is. cc)
  where
    by : (zero width bulge : Bool) (rest : Result ℕ LayerFault) → Never rest
        → Never (first_fault (cond zero None (cond width (Some (faults.Width pair.line))
        (cond bulge (Some (faults.Bulge pair.line)) None))) rest)
    by true width bulge rest never = never
    by false true bulge rest never = λ is. cc
    by false false true rest never = λ is. cc
    by false false false rest never = never

never_no_second : (found : Option Pair) → Never (no_second found)
never_no_second None = λ is. cc
never_no_second (Some pair) = λ is. cc

never_ended : (bytes : List ℕ) (behind : Option Pair) → Never (ends_polyline bytes behind)
never_ended bytes None = λ is. cc
never_ended bytes (Some pair) =
    never_either {A = Unit {0}} (bytes_eq (value_in bytes pair) (codes "SEQEND")) _ _ (λ is. cc) (λ is. cc)

never_in_turn : {A B : Type 0} (f : A → Result (List B) LayerFault) → ((item : A) → Never (f item))
    → (items : List A) → Never (in_turn f items)
never_in_turn f never [] = λ is. cc
never_in_turn {A} {B} f never (item ∷ items) =
    never_then _ (f item) (never item) (λ here. never_then _ (in_turn f items) (never_in_turn f never items)
    (λ more is. cc))

-- ---- entities and items
module _ (bytes : List ℕ) (how : How) (seed : Option Pair) where
  never_coordinate : (pair : Pair) → Never (coordinate_of bytes how.exact pair)
  never_coordinate pair = never_read how.exact pair _

  never_vertices : (fields : List Pair) → Never (vertices_in bytes how.exact fields)
  never_vertices [] = λ is. cc
  never_vertices (pair ∷ []) = never_either (is_number_pair pair) _ _ (λ is. cc) (λ is. cc)
  never_vertices (pair ∷ next ∷ pairs) =
      let later = λ (vertex : VertexFields). and_then (λ (more : List VertexFields). Ok (vertex ∷ more))
      (vertices_in bytes how.exact pairs) in
      never_either (begins_vertex pair next) (and_then later (vertex_of bytes how.exact pair next pairs))
      (cond (is_number_pair pair) (Err (faults.Count pair.line)) (vertices_in bytes how.exact (next ∷ pairs)))
      (never_then later (vertex_of bytes how.exact pair next pairs) never_vertex
      (λ vertex. never_then (λ (more : List VertexFields). Ok (vertex ∷ more)) (vertices_in bytes how.exact pairs)
      (never_vertices pairs) (λ more is. cc)))
      (never_either (is_number_pair pair) (Err (faults.Count pair.line)) (vertices_in bytes how.exact (next ∷ pairs))
      (λ is. cc) (never_vertices (next ∷ pairs)))
    where
      never_vertex : Never (vertex_of bytes how.exact pair next pairs)
      never_vertex =
          never_then {B = VertexFields} _ (coordinate_of bytes how.exact pair) (never_coordinate pair) (λ east.
          never_then {B = VertexFields} _ (coordinate_of bytes how.exact next) (never_coordinate next) (λ north.
          never_then {B = VertexFields} _ (past_group bytes next.end pairs) (never_group bytes next.end pairs)
          (λ past is. cc)))

  module _ (entity : Entity) where
    never_field : (code : ℤ) → Never (field_at code entity)
    never_field code = never_most _

    never_wanted : (code : ℤ) → Never (wanted_at code entity)
    never_wanted code = never_then _ (field_at code entity) (never_field code) (λ found. never_there entity found)

    never_coordinate_at : (code : ℤ) → Never (coordinate_from bytes how.exact code entity)
    never_coordinate_at code = never_then _ (wanted_at code entity) (never_wanted code) (λ pair. never_coordinate pair)

    never_zero : (fault : ℕ → LayerFault) → ((line : ℕ) → fault line ≡ faults.NoMemory → ⊥) → (code : ℤ)
        → Never (zero_at bytes fault code entity)
    never_zero fault other code = never_refused fault other _ (never_then _ (field_at code entity) (never_field code)
        (λ found. never_unless bytes found))

    never_spot : (x y : ℤ) → Never (spot_at bytes how.exact x y entity)
    never_spot x y = never_then {B = PointFields} _ (coordinate_from bytes how.exact x entity) (never_coordinate_at x) (λ east.
        never_then {B = PointFields} _ (coordinate_from bytes how.exact y entity) (never_coordinate_at y) (λ north is. cc))

    never_point : Never (point_shapes bytes how.exact entity)
    never_point = never_then _ (spot_at bytes how.exact (pos 10) (pos 20) entity) (never_spot _ _) (λ spot is. cc)

    never_insert : Never (insert_shapes bytes how.exact entity)
    never_insert = never_then _ (zero_at bytes faults.Attribs (pos 66) entity) (never_zero _ (λ line is. cc) _)
        (λ none. never_point)

    never_second : Never (second_spot bytes how.exact entity)
    never_second = never_then _ (field_at (pos 72) entity) (never_field _) (λ across. never_then _
        (field_at (pos 73) entity) (never_field _) (λ along. never_either {A = Option PointFields}
        (not_zero bytes across || not_zero bytes along) _ _ (never_then _
        (spot_at bytes how.exact (pos 11) (pos 21) entity) (never_spot _ _) (λ spot is. cc)) (λ is. cc)))

    never_text : Never (text_shapes bytes how.exact entity)
    never_text = never_then _ (spot_at bytes how.exact (pos 10) (pos 20) entity) (never_spot _ _) (λ spot.
        never_then _ (second_spot bytes how.exact entity) never_second (λ second is. cc))

    never_both : (first second : Option Pair) → Never (both_heights bytes how.exact entity first second)
    never_both first second = never_then {B = Rise} _ (is_there entity first) (never_there entity first) (λ low.
        never_then {B = Rise} _ (is_there entity second) (never_there entity second) (λ high.
        never_then {B = Rise} _ (coordinate_of bytes how.exact low) (never_coordinate low) (λ begin.
        never_then {B = Rise} _ (coordinate_of bytes how.exact high) (never_coordinate high) (λ end is. cc))))

    never_rise : Never (rise_of bytes how.exact entity)
    never_rise = never_then _ (field_at (pos 30) entity) (never_field _) (λ first. never_then _
        (field_at (pos 31) entity) (never_field _) (λ second. never_either {A = Option Rise}
        (are_level (height bytes first) (height bytes second)) _ _ (λ is. cc) (never_then {B = Option Rise} _
        (both_heights bytes how.exact entity first second) (never_both first second) (λ rise is. cc))))

    never_handle : Never (handle seed entity)
    never_handle = never_then _ (field_at (pos 5) entity) (never_field _) (λ found. never_next seed found)

    never_line : Never (line_shapes bytes how.exact seed entity)
    never_line = never_then _ (line_ends bytes how.exact seed entity)
        (never_then {B = LineFields} _ (handle seed entity) never_handle (λ own. never_then {B = LineFields} _
        (spot_at bytes how.exact (pos 10) (pos 20) entity) (never_spot _ _) (λ begin. never_then {B = LineFields} _
        (spot_at bytes how.exact (pos 11) (pos 21) entity) (never_spot _ _) (λ end. never_then {B = LineFields} _
        (rise_of bytes how.exact entity) never_rise (λ rise is. cc))))) (λ ends is. cc)

    never_kind : Never (kind_of bytes entity)
    never_kind = never_then _ (field_at (pos 70) entity) (never_field _) (λ found. never_kind_by bytes found)

    never_count : (number : ℕ) → Never (count_of bytes number entity)
    never_count number = never_then _ (wanted_at (pos 90) entity) (never_wanted _) (λ pair. never_either
        (equals_number bytes number pair) _ _ (λ is. cc) (λ is. cc))

    never_light : Never (light_shapes bytes how.exact entity)
    never_light =
        let made = λ (kind : PathKind) (vertices : List VertexFields). and_then
        (λ (count : Pair). Ok (light_shape kind vertices count ∷ [])) (count_of bytes (length vertices) entity) in
        never_then (λ (kind : PathKind). and_then (made kind) (vertices_in bytes how.exact (entity_fields entity)))
        (kind_of bytes entity) never_kind (λ kind. never_then (made kind)
        (vertices_in bytes how.exact (entity_fields entity)) (never_vertices (entity_fields entity)) (λ vertices.
        never_then (λ (count : Pair). Ok (light_shape kind vertices count ∷ []))
        (count_of bytes (length vertices) entity) (never_count (length vertices)) (λ count is. cc)))

    never_plain : Never (plain bytes entity)
    never_plain = never_then _ (zero_at bytes faults.Width (pos 40) entity) (never_zero _ (λ line is. cc) _) (λ begin.
        never_then _ (zero_at bytes faults.Width (pos 41) entity) (never_zero _ (λ line is. cc) _) (λ end.
        never_then _ (zero_at bytes faults.Bulge (pos 42) entity) (never_zero _ (λ line is. cc) _) (λ bulge.
        never_zero _ (λ line is. cc) _)))

    never_own : Never (entity_vertex bytes how.exact seed entity)
    never_own =
        let made : PointFields → VertexFields = λ spot. record { spot = spot; start = entity.head.start; past = entity_end entity } in
        never_then _ (handle seed entity) never_handle (λ own. never_then _
        (spot_at bytes how.exact (pos 10) (pos 20) entity) (never_spot _ _) (λ spot. never_then _ (plain bytes entity)
        never_plain (λ flat is. cc)))

    never_upright : Never (upright bytes entity)
    never_upright = never_either (list_all (is_upright bytes) (entity_fields entity))
        (no_second (repeat_of [] (entity_fields entity))) (Err (faults.Extrusion entity.head.line))
        (never_no_second (repeat_of [] (entity_fields entity))) (λ is. cc)

    never_shapes : Never (shapes_of bytes how seed entity)
    never_shapes =
        never_either (is_of_kind bytes (codes "POINT") entity) (point_shapes bytes how.exact entity) _ never_point
        (never_either (is_of_kind bytes (codes "LINE") entity) (line_shapes bytes how.exact seed entity) _ never_line
        (never_either (is_of_kind bytes (codes "LWPOLYLINE") entity) (light_shapes bytes how.exact entity) _ never_light
        (never_either (is_of_kind bytes (codes "TEXT") entity) (text_shapes bytes how.exact entity)
        (insert_shapes bytes how.exact entity) never_text never_insert)))

    never_single : Never (single_shapes bytes how seed entity)
    never_single = never_either (are_read_alone bytes entity) _ (other_shapes how entity)
        (never_then (λ (flat : Unit {0}). shapes_of bytes how seed entity) (upright bytes entity) never_upright
        (λ flat. never_shapes)) (never_either how.drop_other _ _ (λ is. cc) (λ is. cc))

    never_on_paper : (rest : Result (List Shape) LayerFault) → Never rest → Never (unless_on_paper bytes entity rest)
    never_on_paper rest never = never_then _ (field_at (pos 67) entity) (never_field _) (λ paper. never_either
        (there_as bytes 1 paper) _ rest (λ is. cc) never)

  never_heavy : (entity : Entity) (vertices : List Entity) (behind : Option Pair)
      → Never (heavy_shapes bytes how.exact seed entity vertices behind)
  never_heavy entity vertices behind = never_then _ (kind_of bytes entity) (never_kind entity) (λ kind. never_then _
      (own_vertices bytes how.exact seed vertices) (never_in_turn _ (λ own. never_then _
      (entity_vertex bytes how.exact seed own) (never_own own) (λ vertex is. cc)) vertices) (λ read.
      never_then _ (ends_polyline bytes behind) (never_ended bytes behind) (λ ends is. cc)))

  never_item : (item : Item) → Never (shapes_of_item bytes how seed item)
  never_item (single entity) = never_on_paper entity (single_shapes bytes how seed entity) (never_single entity)
  never_item (polyline entity vertices behind) =
      never_on_paper entity (polyline_shapes bytes how seed entity vertices behind)
      (never_then (λ (flat : Unit {0}). heavy_shapes bytes how.exact seed entity vertices behind)
      (upright bytes entity) (never_upright entity) (λ flat. never_heavy entity vertices behind))

-- ---- a drawing
never_from : (bytes : List ℕ) (how : How) (result : Result (List Pair) PairFault) → NeverPairs result
    → Never (from_pairs bytes how result)
never_from bytes how (Ok pairs) never =
    never_then (λ (shapes : List Shape). Ok (sheet_of (length bytes) (seed_of bytes pairs) shapes))
    (in_turn (shapes_of_item bytes how (seed_of bytes pairs)) (items_of bytes pairs))
    (never_in_turn (shapes_of_item bytes how (seed_of bytes pairs)) (never_item bytes how (seed_of bytes pairs))
    (items_of bytes pairs)) (λ shapes is. cc)
never_from bytes how (Err pair_faults.Binary) never = λ is. cc
never_from bytes how (Err (pair_faults.Code line)) never = λ is. cc
never_from bytes how (Err (pair_faults.Odd line)) never = λ is. cc
never_from bytes how (Err pair_faults.NoEof) never = λ is. cc
never_from bytes how (Err pair_faults.NoMemory) never = λ is. never refl

pub no_memory_fault : (how : How) (bytes : List ℕ) → drawing_sheet how bytes ≡ Err faults.NoMemory → ⊥
no_memory_fault how bytes = never_from bytes how (drawing bytes) (never_drawing bytes)
