-- What is read of an entity's groups alone, without places: fields, points, paths and kinds.
use Rattle.std.proofs.Common.{◌≡◌, Bool, true, false, cond, refl, ap, ◌∙◌, List, [], ◌∷◌, map, Option, None, Some}
use Rattle.std.proofs.Common.{Result, Ok, Err, filter, take_while, ℕ, ◌*◌, ℤ, pos, option_map, length, sym, ◌++◌}
use Rattle.std.proofs.Common.{codes, bytes_eq}
use Rattle.std.specs.List.{list_any, list_all}
use Rattle.std.proofs.lemmas.List.Sums.{take_while-cons}
use Rattle.std.specs.Prelude.{◌&&◌, not, int_lt, if◌then◌else◌, ◌||◌}
use Rattle.std.specs.Ordering.{int_eq}
use Rattle.std.proofs.lemmas.List.{length-map}
use Rattle.mm_decimal.specs.AnswerValues.{millimetres_of}
use Rattle.mm_decimal.specs.declared.numerals.MmRead.{MmRead}
use Rattle.mm_decimal.specs.declared.numerals.NumFault.{NumFault}
use Rattle.plane_base.specs.declared.shapes.Pt.{Pt}
use Rattle.sheet_base.specs.declared.faults.LayerFault.{LayerFault}
use Rattle.sheet_base.specs.Faults.{and_then}
use Rattle.sheet_base.specs.declared.faults.LayerFault.TheVariants as faults
use Rattle.sheet_base.specs.declared.paths.PathKind.{PathKind}
use Rattle.sheet_base.specs.declared.paths.PathKind.TheVariants as paths
use Rattle.sheet_base.specs.PointHeights.{Height, no_heights}
use Rattle.sheet_base.specs.ReadBack.{Ends}
use Rattle.sheet_base.specs.declared.flags.How.{How}
use Rattle.dxf_pairs.specs.declared.pairs.Pair.{Pair}
use Rattle.dxf_pairs.specs.Groups.{Group, group_in, value_in}
use Rattle.dxf_entities.specs.declared.fields.Read.{Read}
use Rattle.dxf_entities.specs.Entities.{Entity, is_coded, is_of_kind}
use Rattle.dxf_entities.specs.Fields.{entity_fields, at_most_one, field_at, is_there, wanted_at, read_of, coordinate_of}
use Rattle.dxf_entities.specs.Fields.{coordinate_from, is_exactly, equals_number, there_as, not_zero, line_unless_zero}
use Rattle.dxf_entities.specs.Fields.{refused_at, zero_at}
use Rattle.dxf_entities.specs.Shapes.{point_of, Shape, heights_by}
use Rattle.dxf_entities.specs.Points.{spot_at, dot_of, point_shapes, insert_shapes, second_by, second_spot, dots_of}
use Rattle.dxf_entities.specs.Points.{text_shapes, height_of, height, are_level, both_heights, unless_level, rise_of}
use Rattle.dxf_entities.specs.Points.{line_of, line_ends, line_shapes}
use Rattle.dxf_entities.specs.declared.drawing.Rise.{Rise}
use Rattle.dxf_entities.specs.declared.drawing.PointFields.{PointFields}
use Rattle.dxf_entities.specs.declared.points.LineFields.{LineFields}
use Rattle.dxf_entities.specs.Handles.{handle, has_next}
use Rattle.dxf_entities.specs.declared.drawing.VertexFields.{VertexFields}
use Rattle.dxf_entities.specs.Polylines.{kind_by, kind_of, kind_with, is_group_code, fault_in_group, first_fault}
use Rattle.dxf_entities.specs.Polylines.{past_group, vertex_of, begins_vertex, is_number_pair, vertices_in}
use Rattle.dxf_entities.specs.Polylines.{count_of, light_shape, light_shapes, plain, entity_vertex}
use Rattle.dxf_entities.specs.Kinds.{is_extrusion, is_upright, any_has_code, repeat_of, no_second, upright, shapes_of}

-- ---- what an answer says without its places: what was made of its value, or nothing where it is refused
-- what is made of a value, where there is one
abbrev pub next : {A B : Type 0} → (A → Option B) → Option A → Option B
next f None = None
next f (Some value) = f value

-- what is made of the value of an answer
abbrev pub told : {A B : Type 0} → (A → B) → Result A LayerFault → Option B
told f (Ok value) = Some (f value)
told f (Err fault) = None

-- one answer after another
pub chain : {A B C D : Type 0} (f : A → C) (g : B → D) (k : A → Result B LayerFault) (later : C → Option D)
    (r : Result A LayerFault) (first : Option C)
    → told f r ≡ first → ((value : A) → told g (k value) ≡ later (f value)) → told g (and_then k r) ≡ next later first
chain f g k later (Ok value) first is each = each value ∙ ap (next later) is
chain f g k later (Err fault) first is each = ap (next later) is

-- one of two answers
pub either_told : {A B : Type 0} (g : A → B) (test : Bool) (a b : Result A LayerFault) (c d : Option B) → told g a ≡ c
    → told g b ≡ d → told g (cond test a b) ≡ cond test c d
either_told g true a b c d first second = first
either_told g false a b c d first second = second

pub filter_mapped : {A B : Type 0} (p : A → Bool) (q : B → Bool) (f : A → B) → ((item : A) → p item ≡ q (f item))
    → (items : List A) → map f (filter p items) ≡ filter q (map f items)
filter_mapped p q f same [] = refl
filter_mapped p q f same (item ∷ items) = by_test (p item) (q (f item)) (same item) (filter_mapped p q f same items)
  where
    by_test : (one two : Bool) → one ≡ two → map f (filter p items) ≡ filter q (map f items)
        → map f (cond one (item ∷ filter p items) (filter p items))
        ≡ cond two (f item ∷ filter q (map f items)) (filter q (map f items))
    by_test true two is rest = rw (← is) (ap (λ more. f item ∷ more) rest)
    by_test false two is rest = rw (← is) rest

pub front_mapped : {A B : Type 0} (p : A → Bool) (q : B → Bool) (f : A → B) → ((item : A) → p item ≡ q (f item))
    → (items : List A) → map f (take_while p items) ≡ take_while q (map f items)
front_mapped p q f same [] = refl
front_mapped p q f same (item ∷ items) = rw (take_while-cons p item items, take_while-cons q (f item) (map f items))
    (by_test (p item) (q (f item)) (same item) (front_mapped p q f same items)) where
      by_test : (one two : Bool) → one ≡ two → map f (take_while p items) ≡ take_while q (map f items)
          → map f (cond one (item ∷ take_while p items) []) ≡ cond two (f item ∷ take_while q (map f items)) []
      by_test true two is rest = rw (← is) (ap (λ more. f item ∷ more) rest)
      by_test false two is rest = rw (← is) refl

any_mapped : {A B : Type 0} (p : A → Bool) (q : B → Bool) (f : A → B) → ((item : A) → p item ≡ q (f item))
    → (items : List A) → list_any p items ≡ list_any q (map f items)
any_mapped p q f same [] = refl
any_mapped p q f same (item ∷ items) = rw (same item, any_mapped p q f same items) refl

all_mapped : {A B : Type 0} (p : A → Bool) (q : B → Bool) (f : A → B) → ((item : A) → p item ≡ q (f item))
    → (items : List A) → list_all p items ≡ list_all q (map f items)
all_mapped p q f same [] = refl
all_mapped p q f same (item ∷ items) = rw (same item, all_mapped p q f same items) refl

-- ---- the fields of an entity as groups, without places, and what is read of them
abbrev pub coded : ℤ → Group → Bool
coded code group = int_eq group.code code

-- the groups before the first code of 1000 or more
abbrev pub fields_in : List Group → List Group
fields_in groups = take_while (λ (group : Group). int_lt group.code (pos 1000)) groups

abbrev pub groups_in : List ℕ → Entity → List Group
groups_in bytes entity = fields_in (map (group_in bytes) entity.pairs)

pub fields_told : (bytes : List ℕ) (entity : Entity)
    → map (group_in bytes) (entity_fields entity) ≡ groups_in bytes entity
fields_told bytes entity = front_mapped (λ (pair : Pair). int_lt pair.code (pos 1000))
    (λ (group : Group). int_lt group.code (pos 1000)) (group_in bytes) (λ pair. refl) entity.pairs

-- one value or none, but not two
abbrev pub one_value : List Group → Option (Option (List ℕ))
one_value [] = Some None
one_value (group ∷ []) = Some (Some group.value)
one_value (group ∷ second ∷ groups) = None

-- the value of the field of the code, looked up
abbrev pub value_at : ℤ → List Group → Option (Option (List ℕ))
value_at code fields = one_value (filter (coded code) fields)

abbrev pub itself : {A : Type 0} → A → A
itself value = value

one_told : (bytes : List ℕ) (pairs : List Pair)
    → told (option_map (value_in bytes)) (at_most_one pairs) ≡ one_value (map (group_in bytes) pairs)
one_told bytes [] = refl
one_told bytes (pair ∷ []) = refl
one_told bytes (pair ∷ second ∷ pairs) = refl

pub field_told : (bytes : List ℕ) (code : ℤ) (entity : Entity)
    → told (option_map (value_in bytes)) (field_at code entity) ≡ value_at code (groups_in bytes entity)
field_told bytes code entity = one_told bytes (filter (is_coded code) (entity_fields entity))
    ∙ (ap one_value (filter_mapped (is_coded code) (coded code) (group_in bytes) (λ pair. refl) (entity_fields entity))
    ∙ ap (value_at code) (fields_told bytes entity))

there_told : (bytes : List ℕ) (entity : Entity) (found : Option Pair)
    → told (value_in bytes) (is_there entity found) ≡ option_map (value_in bytes) found
there_told bytes entity None = refl
there_told bytes entity (Some pair) = refl

-- the value of a field that is wanted
abbrev pub value_wanted : ℤ → List Group → Option (List ℕ)
value_wanted code fields = next itself (value_at code fields)

wanted_told : (bytes : List ℕ) (code : ℤ) (entity : Entity)
    → told (value_in bytes) (wanted_at code entity) ≡ value_wanted code (groups_in bytes entity)
wanted_told bytes code entity =
    chain _ _ _ itself (field_at code entity) _ (field_told bytes code entity) (there_told bytes entity)

-- the number of a value
abbrev pub number_by : Bool → Result MmRead NumFault → Option ℤ
number_by exact (Err fault) = None
number_by exact (Ok read) = if exact && not read.exact then None else Some read.mm

abbrev pub number_in : Bool → List ℕ → Option ℤ
number_in exact value = number_by exact (millimetres_of value)

abbrev pub mm_of : Read → ℤ
mm_of read = read.mm

read_told : (exact : Bool) (pair : Pair) (number : Result MmRead NumFault)
    → told mm_of (read_of exact pair number) ≡ number_by exact number
read_told exact pair (Err fault) = refl
read_told exact pair (Ok read) = either_told mm_of (exact && not read.exact) _ _ None _ refl refl

coordinate_told : (bytes : List ℕ) (exact : Bool) (pair : Pair)
    → told mm_of (coordinate_of bytes exact pair) ≡ number_in exact (value_in bytes pair)
coordinate_told bytes exact pair = read_told exact pair _

abbrev pub number_at : Bool → ℤ → List Group → Option ℤ
number_at exact code fields = next (number_in exact) (value_wanted code fields)

number_told : (bytes : List ℕ) (exact : Bool) (code : ℤ) (entity : Entity)
    → told mm_of (coordinate_from bytes exact code entity) ≡ number_at exact code (groups_in bytes entity)
number_told bytes exact code entity =
    chain _ mm_of _ _ (wanted_at code entity) _ (wanted_told bytes code entity) (coordinate_told bytes exact)

-- the point of the fields of two codes
abbrev pub with_north : ℤ → ℤ → Option Pt
with_north east north = Some (record { x = east; y = north })

abbrev pub with_east : Option ℤ → ℤ → Option Pt
with_east north east = next (with_north east) north

abbrev pub point_at : Bool → ℤ → ℤ → List Group → Option Pt
point_at exact x y fields = next (with_east (number_at exact y fields)) (number_at exact x fields)

point_told : (bytes : List ℕ) (exact : Bool) (x y : ℤ) (entity : Entity)
    → told point_of (spot_at bytes exact x y entity) ≡ point_at exact x y (groups_in bytes entity)
point_told bytes exact x y entity =
    let fields = groups_in bytes entity in
    chain mm_of point_of _ _ (coordinate_from bytes exact x entity) _ (number_told bytes exact x entity) (λ east. chain
    mm_of point_of _ _ (coordinate_from bytes exact y entity) _ (number_told bytes exact y entity) (λ north. refl))

-- a value is a numeral of just this number
abbrev pub is_number : ℕ → List ℕ → Bool
is_number number value = is_exactly (pos (1000 * number)) (millimetres_of value)

-- there is a value of this number
abbrev pub is_value : ℕ → Option (List ℕ) → Bool
is_value number None = false
is_value number (Some value) = is_number number value

pub there_as_told : (bytes : List ℕ) (number : ℕ) (found : Option Pair)
    → there_as bytes number found ≡ is_value number (option_map (value_in bytes) found)
there_as_told bytes number None = refl
there_as_told bytes number (Some pair) = refl

-- there is a value that is not zero
abbrev pub is_other_than_zero : Option (List ℕ) → Bool
is_other_than_zero None = false
is_other_than_zero (Some value) = not (is_number 0 value)

pub not_zero_told : (bytes : List ℕ) (found : Option Pair)
    → not_zero bytes found ≡ is_other_than_zero (option_map (value_in bytes) found)
not_zero_told bytes None = refl
not_zero_told bytes (Some pair) = refl

abbrev pub done_unless : Bool → Option (Unit {0})
done_unless fails = if fails then None else Some tt

-- the field of the code is missing or zero
abbrev pub unless_not_zero : Option (List ℕ) → Option (Unit {0})
unless_not_zero found = done_unless (is_other_than_zero found)

abbrev pub zero_in : ℤ → List Group → Option (Unit {0})
zero_in code fields = next unless_not_zero (value_at code fields)

zero_unless_told : (bytes : List ℕ) (fault : ℕ → LayerFault) (found : Option Pair)
    → told itself (refused_at fault (line_unless_zero bytes found))
    ≡ unless_not_zero (option_map (value_in bytes) found)
zero_unless_told bytes fault None = refl
zero_unless_told bytes fault (Some pair) = by_test (equals_number bytes 0 pair) where
  by_test : (zero : Bool) → told itself (refused_at fault (cond zero (Ok None) (Ok (Some pair.line))))
      ≡ done_unless (not zero)
  by_test true = refl
  by_test false = refl

zero_found : (bytes : List ℕ) (fault : ℕ → LayerFault) (found : Result (Option Pair) LayerFault)
    (value : Option (Option (List ℕ))) → told (option_map (value_in bytes)) found ≡ value
    → told itself (refused_at fault (and_then (line_unless_zero bytes) found)) ≡ next unless_not_zero value
zero_found bytes fault (Ok found) value is = zero_unless_told bytes fault found ∙ ap (next unless_not_zero) is
zero_found bytes fault (Err other) value is = ap (next unless_not_zero) is

pub zero_told : (bytes : List ℕ) (fault : ℕ → LayerFault) (code : ℤ) (entity : Entity)
    → told itself (zero_at bytes fault code entity) ≡ zero_in code (groups_in bytes entity)
zero_told bytes fault code entity = zero_found bytes fault _ _ (field_told bytes code entity)

-- ---- what is read of the groups of an entity, without places: paths and their points
-- a shape without its edits
pub record Outline : Type 0 where
  pub kind : Option PathKind
  pub points : List Pt
  pub heights : List Height

abbrev pub outline : Shape → Outline
outline shape = record {
  kind = shape.kind;
  points = shape.points;
  heights = heights_by shape.rise shape.points;
}

-- one whose points have no heights
abbrev pub flat_outline : Option PathKind → List Pt → Outline
flat_outline kind points = record { kind = kind; points = points; heights = no_heights (length points) }

abbrev pub outlines : List Shape → List Outline
outlines shapes = map outline shapes

abbrev pub dot_outline : Pt → Outline
dot_outline point = flat_outline (Some paths.Dot) (point ∷ [])

abbrev pub one_dot : Pt → Option (List Outline)
one_dot point = Some (dot_outline point ∷ [])

abbrev pub point_outlines : Bool → List Group → Option (List Outline)
point_outlines exact fields = next one_dot (point_at exact (pos 10) (pos 20) fields)

points_told : (bytes : List ℕ) (exact : Bool) (entity : Entity)
    → told outlines (point_shapes bytes exact entity) ≡ point_outlines exact (groups_in bytes entity)
points_told bytes exact entity =
    chain point_of outlines _ one_dot (spot_at bytes exact (pos 10) (pos 20) entity) _ (point_told bytes exact _ _
    entity) (λ spot. refl)

abbrev pub insert_outlines : Bool → List Group → Option (List Outline)
insert_outlines exact fields = next (λ (none : Unit {0}). point_outlines exact fields) (zero_in (pos 66) fields)

inserts_told : (bytes : List ℕ) (exact : Bool) (entity : Entity)
    → told outlines (insert_shapes bytes exact entity) ≡ insert_outlines exact (groups_in bytes entity)
inserts_told bytes exact entity =
    chain itself outlines _ _ (zero_at bytes faults.Attribs (pos 66) entity) _ (zero_told bytes _ _ entity) (λ none.
    points_told bytes exact entity)

-- the second point of a text
abbrev pub some_point : Pt → Option (Option Pt)
some_point point = Some (Some point)

abbrev pub second_with : Bool → List Group → Option (List ℕ) → Option (List ℕ) → Option (Option Pt)
second_with exact fields across along = if is_other_than_zero across || is_other_than_zero along then next some_point
    (point_at exact (pos 11) (pos 21) fields) else Some None

abbrev pub second_in : Bool → List Group → Option (Option Pt)
second_in exact fields = next (λ (across : Option (List ℕ)). next (second_with exact fields across)
    (value_at (pos 73) fields)) (value_at (pos 72) fields)

by_told : (bytes : List ℕ) (exact : Bool) (entity : Entity) (across along : Option Pair)
    → told (option_map point_of) (second_by bytes exact entity across along)
    ≡ second_with exact (groups_in bytes entity) (option_map (value_in bytes) across)
    (option_map (value_in bytes) along)
by_told bytes exact entity across along =
    rw (← not_zero_told bytes across, ← not_zero_told bytes along) (either_told _ (not_zero bytes across || not_zero
    bytes along) _ _ _ _ (chain point_of _ _ some_point (spot_at bytes exact (pos 11) (pos 21) entity) _ (point_told
    bytes exact _ _ entity) (λ spot. refl)) refl)

second_told : (bytes : List ℕ) (exact : Bool) (entity : Entity)
    → told (option_map point_of) (second_spot bytes exact entity) ≡ second_in exact (groups_in bytes entity)
second_told bytes exact entity =
    let fields = groups_in bytes entity in
    chain _ _ _ _ (field_at (pos 72) entity) _ (field_told bytes _ entity) (λ across. chain _ _ _ _ (field_at (pos 73)
    entity) _ (field_told bytes _ entity) (by_told bytes exact entity across))

abbrev pub dots_with : Option Pt → List Outline
dots_with None = []
dots_with (Some point) = dot_outline point ∷ []

abbrev pub text_with : Pt → Option Pt → Option (List Outline)
text_with point second = Some (dot_outline point ∷ dots_with second)

abbrev pub text_outlines : Bool → List Group → Option (List Outline)
text_outlines exact fields = next (λ (point : Pt). next (text_with point) (second_in exact fields))
    (point_at exact (pos 10) (pos 20) fields)

dots_told : (spot : PointFields) (second : Option PointFields)
    → Some (outlines (dot_of spot ∷ dots_of second)) ≡ text_with (point_of spot) (option_map point_of second)
dots_told spot None = refl
dots_told spot (Some other) = refl

texts_told : (bytes : List ℕ) (exact : Bool) (entity : Entity)
    → told outlines (text_shapes bytes exact entity) ≡ text_outlines exact (groups_in bytes entity)
texts_told bytes exact entity =
    let fields = groups_in bytes entity in
    chain point_of outlines _ _ (spot_at bytes exact (pos 10) (pos 20) entity) _ (point_told bytes exact _ _ entity) (λ
    spot. chain _ outlines _ _ (second_spot bytes exact entity) _ (second_told bytes exact entity) (dots_told spot))

-- the heights of a line's two ends, where they differ
abbrev pub height_by : Option (List ℕ) → Option ℤ
height_by None = Some (pos 0)
height_by (Some value) = height_of (millimetres_of value)

height_told : (bytes : List ℕ) (found : Option Pair)
    → height bytes found ≡ height_by (option_map (value_in bytes) found)
height_told bytes None = refl
height_told bytes (Some pair) = refl

abbrev pub mm_ends : Rise → Ends ℤ
mm_ends rise = record { from = rise.begin.mm; to = rise.end.mm }

abbrev pub ends_to : ℤ → ℤ → Option (Ends ℤ)
ends_to from to = Some (record { from = from; to = to })

abbrev pub ends_from : Bool → List ℕ → ℤ → Option (Ends ℤ)
ends_from exact high from = next (ends_to from) (number_in exact high)

abbrev pub ends_of_values : Bool → List ℕ → List ℕ → Option (Ends ℤ)
ends_of_values exact low high = next (ends_from exact high) (number_in exact low)

abbrev pub ends_with : Bool → Option (List ℕ) → List ℕ → Option (Ends ℤ)
ends_with exact second low = next (ends_of_values exact low) second

abbrev pub both_in : Bool → Option (List ℕ) → Option (List ℕ) → Option (Ends ℤ)
both_in exact first second = next (ends_with exact second) first

abbrev pub some_ends : Ends ℤ → Option (Option (Ends ℤ))
some_ends ends = Some (Some ends)

abbrev pub unless_with : Bool → Option (List ℕ) → Option (List ℕ) → Option (Option (Ends ℤ))
unless_with exact first second =
    if are_level (height_by first) (height_by second) then Some None else next some_ends (both_in exact first second)

abbrev pub rise_in : Bool → List Group → Option (Option (Ends ℤ))
rise_in exact fields = next (λ (first : Option (List ℕ)). next (unless_with exact first) (value_at (pos 31) fields))
    (value_at (pos 30) fields)

both_told : (bytes : List ℕ) (exact : Bool) (entity : Entity) (first second : Option Pair)
    → told mm_ends (both_heights bytes exact entity first second)
    ≡ both_in exact (option_map (value_in bytes) first) (option_map (value_in bytes) second)
both_told bytes exact entity first second =
    chain _ mm_ends _ _ (is_there entity first) _ (there_told bytes entity first) (λ low. chain _ mm_ends _ _ (is_there
    entity second) _ (there_told bytes entity second) (λ high. chain mm_of mm_ends _ _ (coordinate_of bytes exact low) _
    (coordinate_told bytes exact low) (λ begin. chain mm_of mm_ends _ _ (coordinate_of bytes exact high) _
    (coordinate_told bytes exact high) (λ end. refl))))

pub unless_told : (bytes : List ℕ) (exact : Bool) (entity : Entity) (first second : Option Pair)
    → told (option_map mm_ends) (unless_level bytes exact entity first second)
    ≡ unless_with exact (option_map (value_in bytes) first) (option_map (value_in bytes) second)
unless_told bytes exact entity first second =
    rw (← height_told bytes first, ← height_told bytes second) (either_told _ (are_level (height bytes first) (height
    bytes second)) _ _ _ _ refl (chain mm_ends _ _ some_ends (both_heights bytes exact entity first second) _ (both_told
    bytes exact entity first second) (λ rise. refl)))

rise_told : (bytes : List ℕ) (exact : Bool) (entity : Entity)
    → told (option_map mm_ends) (rise_of bytes exact entity) ≡ rise_in exact (groups_in bytes entity)
rise_told bytes exact entity =
    let fields = groups_in bytes entity in
    chain _ _ _ _ (field_at (pos 30) entity) _ (field_told bytes _ entity) (λ first. chain _ _ _ _ (field_at (pos 31)
    entity) _ (field_told bytes _ entity) (unless_told bytes exact entity first))

-- an entity that is copied has no handle, or there is a next one
abbrev pub is_seeded : Option Pair → Bool
is_seeded None = false
is_seeded (Some pair) = true

abbrev pub next_with : Bool → Option (List ℕ) → Option (Unit {0})
next_with seeded None = Some tt
next_with seeded (Some handle) = done_unless (not seeded)

abbrev pub handle_in : Bool → List Group → Option (Unit {0})
handle_in seeded fields = next (next_with seeded) (value_at (pos 5) fields)

next_told : (bytes : List ℕ) (seed found : Option Pair)
    → told itself (has_next seed found) ≡ next_with (is_seeded seed) (option_map (value_in bytes) found)
next_told bytes seed None = refl
next_told bytes None (Some pair) = refl
next_told bytes (Some next) (Some pair) = refl

handle_told : (bytes : List ℕ) (seed : Option Pair) (entity : Entity)
    → told itself (handle seed entity) ≡ handle_in (is_seeded seed) (groups_in bytes entity)
handle_told bytes seed entity =
    chain _ itself _ _ (field_at (pos 5) entity) _ (field_told bytes _ entity) (next_told bytes seed)

abbrev pub end_heights : Option (Ends ℤ) → List Height
end_heights None = None ∷ None ∷ []
end_heights (Some ends) = Some ends.from ∷ Some ends.to ∷ []

abbrev pub line_outline : Pt → Pt → Option (Ends ℤ) → Outline
line_outline begin end rise = record {
  kind = Some paths.Line;
  points = begin ∷ end ∷ [];
  heights = end_heights rise;
}

abbrev pub line_with : Bool → List Group → Pt → Pt → Option (List Outline)
line_with exact fields begin end = next (λ (rise : Option (Ends ℤ)). Some (line_outline begin end rise ∷ []))
    (rise_in exact fields)

abbrev pub line_from : Bool → List Group → Pt → Option (List Outline)
line_from exact fields begin = next (line_with exact fields begin) (point_at exact (pos 11) (pos 21) fields)

abbrev pub line_outlines : Bool → Bool → List Group → Option (List Outline)
line_outlines exact seeded fields = next (λ (own : Unit {0}). next (line_from exact fields)
    (point_at exact (pos 10) (pos 20) fields)) (handle_in seeded fields)

-- the outline of a line between two points
abbrev between : LineFields → Outline
between ends = line_outline (point_of ends.begin) (point_of ends.end) (option_map mm_ends ends.rise)

abbrev begin_with : Bool → List Group → Pt → Pt → Option Outline
begin_with exact fields begin end = next (λ (rise : Option (Ends ℤ)). Some (line_outline begin end rise))
    (rise_in exact fields)

abbrev one : Outline → Option (List Outline)
one line = Some (line ∷ [])

ends_told : (bytes : List ℕ) (exact : Bool) (seed : Option Pair) (entity : Entity)
    → told between (line_ends bytes exact seed entity)
    ≡ next (λ (own : Unit {0}). next (λ (begin : Pt). next (begin_with exact (groups_in bytes entity) begin)
    (point_at exact (pos 11) (pos 21) (groups_in bytes entity)))
    (point_at exact (pos 10) (pos 20) (groups_in bytes entity)))
    (handle_in (is_seeded seed) (groups_in bytes entity))
ends_told bytes exact seed entity =
    let fields = groups_in bytes entity in
    chain itself between _ _ (handle seed entity) _ (handle_told bytes seed entity) (λ own. chain point_of between _ _
    (spot_at bytes exact (pos 10) (pos 20) entity) _ (point_told bytes exact _ _ entity) (λ begin. chain point_of
    between _ _ (spot_at bytes exact (pos 11) (pos 21) entity) _ (point_told bytes exact _ _ entity) (λ end. chain _
    between _ _ (rise_of bytes exact entity) _ (rise_told bytes exact entity) (λ rise. refl))))

pushed : (own : Option (Unit {0})) (begin end : Option Pt) (rise : Option (Option (Ends ℤ)))
    → next one (next (λ (o : Unit {0}). next (λ (b : Pt). next
    (λ (e : Pt). next (λ (r : Option (Ends ℤ)). Some (line_outline b e r)) rise) end) begin) own)
    ≡ next (λ (o : Unit {0}). next (λ (b : Pt). next
    (λ (e : Pt). next (λ (r : Option (Ends ℤ)). Some (line_outline b e r ∷ [])) rise) end) begin) own
pushed None begin end rise = refl
pushed (Some own) None end rise = refl
pushed (Some own) (Some begin) None rise = refl
pushed (Some own) (Some begin) (Some end) None = refl
pushed (Some own) (Some begin) (Some end) (Some rise) = refl

line_told : (entity : Entity) (begin end : PointFields) (rise : Option Rise) → outline (line_of entity begin end rise)
    ≡ line_outline (point_of begin) (point_of end) (option_map mm_ends rise)
line_told entity begin end None = refl
line_told entity begin end (Some rise) = refl

lines_told : (bytes : List ℕ) (exact : Bool) (seed : Option Pair) (entity : Entity)
    → told outlines (line_shapes bytes exact seed entity)
    ≡ line_outlines exact (is_seeded seed) (groups_in bytes entity)
lines_told bytes exact seed entity =
    let fields = groups_in bytes entity in
    chain between outlines (λ (ends : LineFields). Ok (line_of entity ends.begin ends.end ends.rise ∷ [])) one
    (line_ends bytes exact seed entity) _ (ends_told bytes exact seed entity)
    (λ ends. ap (λ (line : Outline). Some (line ∷ [])) (line_told entity ends.begin ends.end ends.rise))
    ∙ pushed (handle_in (is_seeded seed) fields) (point_at exact (pos 10) (pos 20) fields)
    (point_at exact (pos 11) (pos 21) fields) (rise_in exact fields)

-- ---- what is read of the groups of polylines and their vertices, without places
-- the kind of a polyline by its flags
abbrev pub kind_from : Option (List ℕ) → Option PathKind
kind_from None = Some paths.Line
kind_from (Some value) = if is_number 0 value || is_number 128 value then Some paths.Line
    else if is_number 1 value || is_number 129 value then Some paths.Loop
    else None

abbrev pub kind_in : List Group → Option PathKind
kind_in fields = next kind_from (value_at (pos 70) fields)

kind_by_told : (bytes : List ℕ) (found : Option Pair)
    → told itself (kind_by bytes found) ≡ kind_from (option_map (value_in bytes) found)
kind_by_told bytes None = refl
kind_by_told bytes (Some pair) =
    either_told itself (equals_number bytes 0 pair || equals_number bytes 128 pair) _ _ _ _ refl (either_told itself
    (equals_number bytes 1 pair || equals_number bytes 129 pair) _ _ _ None refl refl)

pub kind_told : (bytes : List ℕ) (entity : Entity)
    → told itself (kind_of bytes entity) ≡ kind_in (groups_in bytes entity)
kind_told bytes entity =
    chain _ itself _ kind_from (field_at (pos 70) entity) _ (field_told bytes _ entity) (kind_by_told bytes)

-- without points there is no path
abbrev pub kind_of_points : PathKind → List Pt → Option PathKind
kind_of_points kind [] = None
kind_of_points kind (point ∷ points) = Some kind

abbrev pub spots_of : List VertexFields → List Pt
spots_of vertices = map (λ (vertex : VertexFields). point_of vertex.spot) vertices

pub kind_with_told : (kind : PathKind) (vertices : List VertexFields)
    → kind_with kind vertices ≡ kind_of_points kind (spots_of vertices)
kind_with_told kind [] = refl
kind_with_told kind (vertex ∷ vertices) = refl

-- the group of a vertex besides its two numbers
abbrev pub is_of_vertex : Group → Bool
is_of_vertex group = coded (pos 40) group || coded (pos 41) group || coded (pos 42) group || coded (pos 91) group

abbrev pub is_good_in_vertex : Group → Bool
is_good_in_vertex group = is_number 0 group.value || not
    (coded (pos 40) group || coded (pos 41) group || coded (pos 42) group)

abbrev pub first_good : Bool → Option (Unit {0}) → Option (Unit {0})
first_good good rest = if good then rest else None

abbrev pub behind_vertex : List Group → Option (Unit {0})
behind_vertex [] = Some tt
behind_vertex (group ∷ groups) = if is_of_vertex group then first_good (is_good_in_vertex group) (behind_vertex groups)
    else Some tt

abbrev pub nothing : ℕ → Unit {0}
nothing place = tt

good_told : (bytes : List ℕ) (pair : Pair) (rest : Result ℕ LayerFault) (more : Option (Unit {0}))
    → told nothing rest ≡ more
    → told nothing (first_fault (fault_in_group bytes pair) rest)
    ≡ first_good (is_good_in_vertex (group_in bytes pair)) more
good_told bytes pair rest more is = by_tests (equals_number bytes 0 pair) (is_coded (pos 40) pair)
    (is_coded (pos 41) pair)
    (is_coded (pos 42) pair) where
      by_tests : (zero forty one two : Bool) → told nothing (first_fault (cond zero None
          (cond (forty || one) (Some (faults.Width pair.line)) (cond two (Some (faults.Bulge pair.line)) None))) rest)
          ≡ first_good (zero || not (forty || one || two)) more
      by_tests true forty one two = is
      by_tests false true one two = refl
      by_tests false false true two = refl
      by_tests false false false true = refl
      by_tests false false false false = is

past_told : (bytes : List ℕ) (past : ℕ) (pairs : List Pair)
    → told nothing (past_group bytes past pairs) ≡ behind_vertex (map (group_in bytes) pairs)
past_told bytes past [] = refl
past_told bytes past (pair ∷ pairs) =
    either_told nothing (is_group_code pair) _ _ _ _ (good_told bytes pair _ _ (past_told bytes pair.end pairs)) refl

-- the point of two groups and those after them
abbrev pub vertex_with : List Group → ℤ → ℤ → Option Pt
vertex_with behind east north = next (λ (past : Unit {0}). Some (record { x = east; y = north })) (behind_vertex behind)

abbrev pub vertex_from : Bool → Group → Group → List Group → Option Pt
vertex_from exact x y behind = next (λ (east : ℤ). next (vertex_with behind east) (number_in exact y.value))
    (number_in exact x.value)

abbrev pub spot_point : VertexFields → Pt
spot_point vertex = point_of vertex.spot

vertex_told : (bytes : List ℕ) (exact : Bool) (x y : Pair) (behind : List Pair)
    → told spot_point (vertex_of bytes exact x y behind)
    ≡ vertex_from exact (group_in bytes x) (group_in bytes y) (map (group_in bytes) behind)
vertex_told bytes exact x y behind =
    let more = map (group_in bytes) behind in
    chain mm_of spot_point _ _ (coordinate_of bytes exact x) _ (coordinate_told bytes exact x) (λ east. chain mm_of
    spot_point _ _ (coordinate_of bytes exact y) _ (coordinate_told bytes exact y) (λ north. chain nothing spot_point _
    _ (past_group bytes y.end behind) _ (past_told bytes y.end behind) (λ past. refl)))

abbrev pub is_coordinate : Group → Bool
is_coordinate group = coded (pos 10) group || coded (pos 20) group

abbrev pub are_first : Group → Group → Bool
are_first group second = coded (pos 10) group && coded (pos 20) second

abbrev pub joined : Option (List Pt) → Pt → Option (List Pt)
joined more point = next (λ (points : List Pt). Some (point ∷ points)) more

-- the points of vertices in fields, in order
abbrev pub points_in : Bool → List Group → Option (List Pt)
points_in exact [] = Some []
points_in exact (group ∷ []) = if is_coordinate group then None else Some []
points_in exact (group ∷ second ∷ groups) =
    if are_first group second then next (joined (points_in exact groups)) (vertex_from exact group second groups)
    else if is_coordinate group then None
    else points_in exact (second ∷ groups)

vertices_told : (bytes : List ℕ) (exact : Bool) (pairs : List Pair)
    → told spots_of (vertices_in bytes exact pairs) ≡ points_in exact (map (group_in bytes) pairs)
vertices_told bytes exact [] = refl
vertices_told bytes exact (pair ∷ []) = either_told spots_of (is_number_pair pair) _ _ None _ refl refl
vertices_told bytes exact (pair ∷ second ∷ pairs) =
    let groups = map (group_in bytes) pairs in
    either_told spots_of (begins_vertex pair second)
    (and_then (λ (vertex : VertexFields). and_then (λ (more : List VertexFields). Ok (vertex ∷ more))
    (vertices_in bytes exact pairs)) (vertex_of bytes exact pair second pairs))
    (cond (is_number_pair pair) (Err (faults.Count pair.line)) (vertices_in bytes exact (second ∷ pairs)))
    (next (joined (points_in exact groups)) (vertex_from exact (group_in bytes pair) (group_in bytes second) groups))
    (cond (is_coordinate (group_in bytes pair)) None (points_in exact (group_in bytes second ∷ groups)))
    (chain spot_point spots_of (λ (vertex : VertexFields). and_then (λ (more : List VertexFields). Ok (vertex ∷ more))
    (vertices_in bytes exact pairs)) (joined (points_in exact groups))
    (vertex_of bytes exact pair second pairs) (vertex_from exact (group_in bytes pair) (group_in bytes second) groups)
    (vertex_told bytes exact pair second pairs)
    (λ vertex. chain spots_of spots_of (λ (more : List VertexFields). Ok (vertex ∷ more))
    (λ (points : List Pt). Some (spot_point vertex ∷ points)) (vertices_in bytes exact pairs)
    (points_in exact groups)
    (vertices_told bytes exact pairs) (λ more. refl)))
    (either_told spots_of (is_number_pair pair) (Err (faults.Count pair.line))
    (vertices_in bytes exact (second ∷ pairs)) None (points_in exact (group_in bytes second ∷ groups)) refl
    (vertices_told bytes exact (second ∷ pairs)))

-- field 90 counts the points
abbrev pub counts : ℕ → List ℕ → Option (Unit {0})
counts number value = done_unless (not (is_number number value))

abbrev pub count_in : ℕ → List Group → Option (Unit {0})
count_in number fields = next (counts number) (value_wanted (pos 90) fields)

abbrev pub no_pair : Pair → Unit {0}
no_pair pair = tt

-- a wanted field may be followed to what is said of its value
wanted_chain : {B D : Type 0} (bytes : List ℕ) (g : B → D) (k : Pair → Result B LayerFault) (later : List ℕ → Option D)
    (code : ℤ) (entity : Entity)
    → ((pair : Pair) → told g (k pair) ≡ later (value_in bytes pair))
    → told g (and_then k (wanted_at code entity)) ≡ next later (value_wanted code (groups_in bytes entity))
wanted_chain bytes g k later code entity each =
    chain _ g k later (wanted_at code entity) _ (wanted_told bytes code entity) each

count_told : (bytes : List ℕ) (number : ℕ) (entity : Entity)
    → told no_pair (count_of bytes number entity) ≡ count_in number (groups_in bytes entity)
count_told bytes number entity = wanted_chain bytes no_pair _ _ _ entity (λ pair. by_test pair (equals_number bytes
    number pair)) where
      by_test : (pair : Pair) (is : Bool) → told no_pair (cond is (Ok pair) (Err (faults.Count pair.line)))
          ≡ done_unless (not is)
      by_test pair true = refl
      by_test pair false = refl

abbrev pub light_outline : PathKind → List Pt → Outline
light_outline kind points = flat_outline (kind_of_points kind points) points

abbrev pub light_with : List Group → PathKind → List Pt → Option (List Outline)
light_with fields kind points = next (λ (count : Unit {0}). Some (light_outline kind points ∷ []))
    (count_in (length points) fields)

abbrev pub light_from : Bool → List Group → PathKind → Option (List Outline)
light_from exact fields kind = next (light_with fields kind) (points_in exact fields)

abbrev pub light_outlines : Bool → List Group → Option (List Outline)
light_outlines exact fields = next (light_from exact fields) (kind_in fields)

light_is : (bytes : List ℕ) (entity : Entity) (kind : PathKind) (vertices : List VertexFields)
    → told outlines (and_then (λ (count : Pair). Ok (light_shape kind vertices count ∷ []))
    (count_of bytes (length vertices) entity)) ≡ light_with (groups_in bytes entity) kind (spots_of vertices)
light_is bytes entity kind vertices =
    let fields = groups_in bytes entity in
    chain no_pair outlines _ _ (count_of bytes (length vertices) entity) _ (count_told bytes _ entity) (λ count. refl) ∙
    (ap (λ (k : Option PathKind). next (λ (count : Unit {0}). Some (flat_outline k (spots_of vertices) ∷ [])) (count_in
    (length vertices) fields)) (kind_with_told kind vertices) ∙ ap (λ (n : ℕ). next (λ (count : Unit {0}). Some
    (light_outline kind (spots_of vertices) ∷ [])) (count_in n fields)) (sym (length-map vertices _)))

lights_told : (bytes : List ℕ) (exact : Bool) (entity : Entity)
    → told outlines (light_shapes bytes exact entity) ≡ light_outlines exact (groups_in bytes entity)
lights_told bytes exact entity =
    let fields = groups_in bytes entity in
    chain itself outlines (λ (kind : PathKind). and_then
    (λ (vertices : List VertexFields). and_then (λ (count : Pair). Ok (light_shape kind vertices count ∷ []))
    (count_of bytes (length vertices) entity)) (vertices_in bytes exact (entity_fields entity)))
    (light_from exact fields) (kind_of bytes entity) (kind_in fields) (kind_told bytes entity)
    (λ kind. chain spots_of outlines (λ (vertices : List VertexFields). and_then
    (λ (count : Pair). Ok (light_shape kind vertices count ∷ [])) (count_of bytes (length vertices) entity))
    (light_with fields kind) (vertices_in bytes exact (entity_fields entity)) (points_in exact fields)
    (vertices_told bytes exact (entity_fields entity) ∙ ap (points_in exact) (fields_told bytes entity))
    (light_is bytes entity kind))

-- a vertex's entity has no width, no bulge and no flags
abbrev pub plain_in : List Group → Option (Unit {0})
plain_in fields = next (λ (begin : Unit {0}). next
    (λ (end : Unit {0}). next (λ (bulge : Unit {0}). zero_in (pos 70) fields) (zero_in (pos 42) fields))
    (zero_in (pos 41) fields)) (zero_in (pos 40) fields)

pub plain_told : (bytes : List ℕ) (entity : Entity)
    → told itself (plain bytes entity) ≡ plain_in (groups_in bytes entity)
plain_told bytes entity =
    let fields = groups_in bytes entity in
    chain itself itself _ _ (zero_at bytes faults.Width (pos 40) entity) _ (zero_told bytes _ _ entity) (λ begin. chain
    itself itself _ _ (zero_at bytes faults.Width (pos 41) entity) _ (zero_told bytes _ _ entity) (λ end. chain itself
    itself _ _ (zero_at bytes faults.Bulge (pos 42) entity) _ (zero_told bytes _ _ entity) (λ bulge. zero_told bytes _ _
    entity)))

abbrev pub own_with : List Group → Pt → Option Pt
own_with fields point = next (λ (is : Unit {0}). Some point) (plain_in fields)

abbrev pub own_point : Bool → Bool → List Group → Option Pt
own_point exact seeded fields = next (λ (own : Unit {0}). next (own_with fields)
    (point_at exact (pos 10) (pos 20) fields)) (handle_in seeded fields)

pub own_told : (bytes : List ℕ) (exact : Bool) (seed : Option Pair) (entity : Entity)
    → told spot_point (entity_vertex bytes exact seed entity)
    ≡ own_point exact (is_seeded seed) (groups_in bytes entity)
own_told bytes exact seed entity =
    let fields = groups_in bytes entity in
    chain itself spot_point _ _ (handle seed entity) _ (handle_told bytes seed entity) (λ own. chain point_of spot_point
    _ _ (spot_at bytes exact (pos 10) (pos 20) entity) _ (point_told bytes exact _ _ entity) (λ spot. chain itself
    spot_point _ _ (plain bytes entity) _ (plain_told bytes entity) (λ is. refl)))

-- ---- entities without places, and what is read of each by its kind: paths and points
-- an entity without places: the group with which it begins, and those after it
pub record Told : Type 0 where
  pub head : Group
  pub groups : List Group

abbrev pub entity_told : List ℕ → Entity → Told
entity_told bytes entity = record { head = group_in bytes entity.head; groups = map (group_in bytes) entity.pairs }

abbrev pub has_kind : List ℕ → Told → Bool
has_kind kind entity = bytes_eq entity.head.value kind

abbrev pub is_of_extrusion : Group → Bool
is_of_extrusion group = coded (pos 210) group || coded (pos 220) group || coded (pos 230) group

abbrev pub is_flat : Group → Bool
is_flat group = if coded (pos 230) group then is_number 1 group.value else
    (if is_of_extrusion group then is_number 0 group.value else true)

-- no field of an extrusion repeats the code of one before it
abbrev pub not_repeated : List Group → List Group → Option (Unit {0})
not_repeated before [] = Some tt
not_repeated before (group ∷ groups) = if is_of_extrusion group && list_any (coded group.code) before then None else
    not_repeated (before ++ group ∷ []) groups

abbrev pub flat_in : List Group → Option (Unit {0})
flat_in fields = if list_all is_flat fields then not_repeated [] fields else None

any_told : (bytes : List ℕ) (code : ℤ) (before : List Pair)
    → any_has_code code before ≡ list_any (coded code) (map (group_in bytes) before)
any_told bytes code before = any_mapped _ _ _ (λ pair. refl) before

behind_mapped : (bytes : List ℕ) (before : List Pair) (pair : Pair)
    → map (group_in bytes) (before ++ pair ∷ []) ≡ map (group_in bytes) before ++ group_in bytes pair ∷ []
behind_mapped bytes [] pair = refl
behind_mapped bytes (first ∷ before) pair = ap (λ more. group_in bytes first ∷ more) (behind_mapped bytes before pair)

repeated_told : (bytes : List ℕ) (before pairs : List Pair) → told itself (no_second (repeat_of before pairs))
    ≡ not_repeated (map (group_in bytes) before) (map (group_in bytes) pairs)
repeated_told bytes before [] = refl
repeated_told bytes before (pair ∷ pairs) =
    rw (← any_told bytes pair.code before, ← behind_mapped bytes before pair) (by_test (is_extrusion pair &&
    any_has_code pair.code before) (repeated_told bytes _ pairs))
  where
    by_test : (again : Bool) → told itself (no_second (repeat_of (before ++ pair ∷ []) pairs))
        ≡ not_repeated (map (group_in bytes) (before ++ pair ∷ [])) (map (group_in bytes) pairs)
        → told itself (no_second (cond again (Some pair) (repeat_of (before ++ pair ∷ []) pairs)))
        ≡ cond again None (not_repeated (map (group_in bytes) (before ++ pair ∷ [])) (map (group_in bytes) pairs))
    by_test true rest = refl
    by_test false rest = rest

pub upright_told : (bytes : List ℕ) (entity : Entity)
    → told itself (upright bytes entity) ≡ flat_in (groups_in bytes entity)
upright_told bytes entity = rw (
  ← fields_told bytes entity,
  ← all_mapped (is_upright bytes) is_flat (group_in bytes) (λ pair. refl) (entity_fields entity),
) (either_told itself (list_all (is_upright bytes) (entity_fields entity))
    (no_second (repeat_of [] (entity_fields entity)))
    (Err (faults.Extrusion entity.head.line))
    (not_repeated [] (map (group_in bytes) (entity_fields entity))) None (repeated_told bytes [] (entity_fields entity))
    refl)

-- an entity of another kind has no path
abbrev pub left_out : Outline
left_out = flat_outline None []

abbrev pub outlines_in : How → Bool → Told → Option (List Outline)
outlines_in how seeded entity =
    let fields = fields_in entity.groups in
    if has_kind (codes "POINT") entity then point_outlines how.exact fields
    else if has_kind (codes "LINE") entity then line_outlines how.exact seeded fields
    else if has_kind (codes "LWPOLYLINE") entity then light_outlines how.exact fields
    else if has_kind (codes "TEXT") entity then text_outlines how.exact fields
    else insert_outlines how.exact fields

pub shapes_told : (bytes : List ℕ) (how : How) (seed : Option Pair) (entity : Entity)
    → told outlines (shapes_of bytes how seed entity) ≡ outlines_in how (is_seeded seed) (entity_told bytes entity)
shapes_told bytes how seed entity =
    let fields = groups_in bytes entity in
    either_told outlines (is_of_kind bytes (codes "POINT") entity) _ _ _ _ (points_told bytes _ entity) (either_told
    outlines (is_of_kind bytes (codes "LINE") entity) _ _ _ _ (lines_told bytes how.exact seed entity) (either_told
    outlines (is_of_kind bytes (codes "LWPOLYLINE") entity) _ _ _ _ (lights_told bytes _ entity) (either_told outlines
    (is_of_kind bytes (codes "TEXT") entity) _ _ _ _ (texts_told bytes _ entity) (inserts_told bytes _ entity))))

abbrev pub stands_alone : Told → Bool
stands_alone entity =
    has_kind (codes "POINT") entity || has_kind (codes "LINE") entity || has_kind (codes "LWPOLYLINE") entity ||
    has_kind (codes "TEXT") entity || has_kind (codes "INSERT") entity
