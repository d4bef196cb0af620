-- Reading over groups alone: turns at entities, and whole drawings.
use Rattle.std.proofs.Common.{ℕ, pos, Bool, List, [], ◌∷◌, Option, None, Some, codes, bytes_eq, ◌≡◌, ℤ, true, false}
use Rattle.std.proofs.Common.{cond, refl, ap, ◌++◌, map, take_while, zero, suc, ◌+◌, sym, ◌∙◌, length, subst, flat_map}
use Rattle.std.proofs.Common.{option_map, Ok}
use Rattle.std.specs.Prelude.{◌&&◌, ◌||◌, if◌then◌else◌, not, ⊤}
use Rattle.std.specs.List.{range_with_len}
use Rattle.std.proofs.lemmas.List.{append_assoc, map-append}
use Rattle.std.proofs.lemmas.List.Sums.{take_while-cons}
use Rattle.std.proofs.lemmas.Grind.{flat_map-append}
use Rattle.plane_base.specs.declared.shapes.Pt.{Pt}
use Rattle.sheet_base.specs.declared.flags.How.{How}
use Rattle.sheet_base.specs.declared.paths.PathKind.{PathKind}
use Rattle.sheet_base.specs.declared.paths.PathRow.{PathRow}
use Rattle.sheet_base.specs.PointHeights.{Height, no_heights}
use Rattle.sheet_base.specs.Segments.{next_in, segments_in}
use Rattle.sheet_base.specs.ReadBack.{Ends, DoMatch}
use Rattle.sheet_base.proofs.HeightLists.{none_in}
use Rattle.sheet_base.specs.ImageFits.{Runs}
use Rattle.dxf_pairs.specs.Groups.{Group, group_in, value_in}
use Rattle.dxf_pairs.specs.declared.pairs.Pair.{Pair}
use Rattle.dxf_entities.specs.declared.section_places.Where.{Where}
use Rattle.dxf_entities.specs.declared.section_places.Where.TheVariants.{Outside, Begun, Header, Entities, Other}
use Rattle.dxf_entities.specs.Entities.{is_coded, is_no_head, entity_of, Entity, is_of_kind}
use Rattle.dxf_entities.specs.SectionPlaces.{section_by_name, section_behind, begins_entity, entities_from, names_seed}
use Rattle.dxf_entities.specs.SectionPlaces.{seed_from}
use Rattle.dxf_entities.specs.Handles.{is_handle}
use Rattle.dxf_entities.specs.Seeds.{as_seed}
use Rattle.dxf_entities.specs.Shapes.{Shape}
use Rattle.dxf_entities.specs.Sections.{is_end_of_section}
use Rattle.dxf_entities.specs.Fields.{field_at, there_as}
use Rattle.dxf_entities.specs.Kinds.{upright, shapes_of, are_read_alone}
use Rattle.dxf_copies.specs.LevelEnds.{level_again, AreReadAgain}
use Rattle.dxf_entities.proofs.GroupShapes.{next, coded, fields_in, value_at, is_value, Outline, kind_in, Told}
use Rattle.dxf_entities.proofs.GroupShapes.{has_kind, flat_in, left_out, outlines_in, stands_alone, front_mapped}
use Rattle.dxf_entities.proofs.GroupShapes.{is_seeded, light_outline, own_point, entity_told, told, groups_in, itself}
use Rattle.dxf_entities.proofs.GroupShapes.{field_told, there_as_told, upright_told}
use Rattle.dxf_entities.proofs.OutlineEnds.{own_row, both_at, both_by, no_height, outline_ends, all_ends}
use Rattle.dxf_entities.proofs.OutlineEnds.{outline_heights, all_heights, imaged_outline, imaged_outlines}
use Rattle.dxf_entities.proofs.WholeShapes.{points_past}
use Rattle.dxf_entities.proofs.ChangedFields.{Agree, value_same}

-- ---- the entities of a drawing's groups in order, and their paths and points
-- where the next entity is, by the points so far of a polyline that is read
pub data Spot : Type 0 where
  alone : Spot
  kept : Spot
  open_line : PathKind → List Pt → Spot

pub record Turn : Type 0 where
  pub shapes : List Outline
  pub next : Spot

abbrev pub turn_of : List Outline → Turn
turn_of shapes = record { shapes = shapes; next = alone }

abbrev pub some_turn : List Outline → Option Turn
some_turn shapes = Some (turn_of shapes)

abbrev pub other_turn : How → Option Turn
other_turn how = if how.drop_other then Some (turn_of (left_out ∷ [])) else None

abbrev pub stays_turn : Told → Turn
stays_turn entity = record { shapes = []; next = if has_kind (codes "POLYLINE") entity then kept else alone }

abbrev pub opened : PathKind → Option Turn
opened kind = Some (record { shapes = []; next = open_line kind [] })

abbrev pub polyline_turn : List Group → Option Turn
polyline_turn fields = next (λ (flat : Unit {0}). next opened (kind_in fields)) (flat_in fields)

abbrev pub alone_turn : How → Bool → Told → Option Turn
alone_turn how seeded entity = next (λ (flat : Unit {0}). next some_turn (outlines_in how seeded entity))
    (flat_in (fields_in entity.groups))

abbrev pub turn_by_kind : How → Bool → Told → Option Turn
turn_by_kind how seeded entity = if has_kind (codes "POLYLINE") entity then polyline_turn (fields_in entity.groups)
    else if stands_alone entity then alone_turn how seeded entity
    else other_turn how

-- what ends a section is no entity
abbrev pub ends_sections : Group → Bool
ends_sections group = (coded (pos 0) group && bytes_eq group.value (codes "ENDSEC")) ||
    (coded (pos 0) group && bytes_eq group.value (codes "EOF"))

abbrev pub paper_turn : How → Bool → Told → Option (List ℕ) → Option Turn
paper_turn how seeded entity paper = if is_value 1 paper then Some (stays_turn entity) else turn_by_kind how seeded
    entity

abbrev pub free_turn : How → Bool → Told → Option Turn
free_turn how seeded entity = if ends_sections entity.head then Some (turn_of []) else next
    (paper_turn how seeded entity) (value_at (pos 67) (fields_in entity.groups))

abbrev pub kept_turn : How → Bool → Told → Option Turn
kept_turn how seeded entity = if has_kind (codes "VERTEX") entity then Some (record { shapes = []; next = kept })
    else if has_kind (codes "SEQEND") entity then Some (turn_of [])
    else free_turn how seeded entity

-- ---- the paths and points of a drawing by its groups
-- an entity after the points so far of a polyline
abbrev pub with_more : PathKind → List Pt → Pt → Option Turn
with_more kind points point = Some (record { shapes = []; next = open_line kind (points ++ point ∷ []) })

abbrev pub open_turn : How → Bool → PathKind → List Pt → Told → Option Turn
open_turn how seeded kind points entity = if has_kind (codes "VERTEX") entity then next (with_more kind points)
    (own_point how.exact seeded (fields_in entity.groups))
    else if has_kind (codes "SEQEND") entity then Some (turn_of (light_outline kind points ∷ []))
    else None

abbrev pub turn : How → Bool → Spot → Told → Option Turn
turn how seeded alone entity = free_turn how seeded entity
turn how seeded kept entity = kept_turn how seeded entity
turn how seeded (open_line kind points) entity = open_turn how seeded kind points entity

abbrev pub last_turn : Spot → Option (List Outline)
last_turn alone = Some []
last_turn kept = Some []
last_turn (open_line kind points) = None

abbrev pub in_front : List Outline → List Outline → Option (List Outline)
in_front shapes more = Some (shapes ++ more)

-- the outlines of entities in order
abbrev pub walk : How → Bool → Spot → List Told → Option (List Outline)
walk how seeded spot [] = last_turn spot
walk how seeded spot (entity ∷ entities) =
    next (λ (here : Turn). next (in_front here.shapes) (walk how seeded here.next entities))
    (turn how seeded spot entity)

-- sections, by groups
abbrev pub is_group : ℤ → List ℕ → Group → Bool
is_group code value group = coded code group && bytes_eq group.value value

abbrev pub outside_behind : Group → Where
outside_behind group = if is_group (pos 0) (codes "SECTION") group then Begun else Outside

abbrev pub inside_behind : Where → Group → Where
inside_behind place group = if ends_sections group then Outside else place

abbrev pub behind_group : Where → Group → Where
behind_group Outside group = outside_behind group
behind_group Begun group = if coded (pos 2) group then section_by_name group.value else outside_behind group
behind_group Header group = inside_behind Header group
behind_group Entities group = inside_behind Entities group
behind_group Other group = inside_behind Other group

pub behind_told : (bytes : List ℕ) (place : Where) (pair : Pair)
    → section_behind bytes place pair ≡ behind_group place (group_in bytes pair)
behind_told bytes Outside pair = refl
behind_told bytes Begun pair = refl
behind_told bytes Header pair = refl
behind_told bytes Entities pair = refl
behind_told bytes Other pair = refl

abbrev pub begins_told : Where → Group → Bool
begins_told Entities group = coded (pos 0) group
begins_told place group = false

begins_is : (bytes : List ℕ) (place : Where) (pair : Pair)
    → begins_entity place pair ≡ begins_told place (group_in bytes pair)
begins_is bytes Outside pair = refl
begins_is bytes Begun pair = refl
begins_is bytes Header pair = refl
begins_is bytes Entities pair = refl
begins_is bytes Other pair = refl

abbrev pub not_head : Group → Bool
not_head group = not (coded (pos 0) group)

abbrev pub told_from : Group → List Group → Told
told_from head groups = record { head = head; groups = take_while not_head groups }

abbrev pub entities_told : Where → List Group → List Told
entities_told place [] = []
entities_told place (group ∷ groups) =
    let more = entities_told (behind_group place group) groups in
    if begins_told place group then told_from group groups ∷ more else more

entity_is : (bytes : List ℕ) (pair : Pair) (pairs : List Pair)
    → entity_told bytes (entity_of pair pairs) ≡ told_from (group_in bytes pair) (map (group_in bytes) pairs)
entity_is bytes pair pairs = ap (λ (groups : List Group). record { head = group_in bytes pair; groups = groups })
    (front_mapped is_no_head not_head (group_in bytes) (λ other. refl) pairs)

pub entities_are : (bytes : List ℕ) (place : Where) (pairs : List Pair)
    → map (entity_told bytes) (entities_from bytes place pairs) ≡ entities_told place (map (group_in bytes) pairs)
entities_are bytes place [] = refl
entities_are bytes place (pair ∷ pairs) = rw (← behind_told bytes place pair, ← begins_is bytes place pair)
    (by_test (begins_entity place pair) (entities_are bytes (section_behind bytes place pair) pairs)) where
      by_test : (begins : Bool) → map (entity_told bytes) (entities_from bytes (section_behind bytes place pair) pairs)
          ≡ entities_told (section_behind bytes place pair) (map (group_in bytes) pairs)
          → map (entity_told bytes) (cond begins (entity_of pair pairs
          ∷ entities_from bytes (section_behind bytes place pair) pairs)
          (entities_from bytes (section_behind bytes place pair) pairs))
          ≡ cond begins (told_from (group_in bytes pair) (map (group_in bytes) pairs)
          ∷ entities_told (section_behind bytes place pair) (map (group_in bytes) pairs))
          (entities_told (section_behind bytes place pair) (map (group_in bytes) pairs))
      by_test true rest = rw (entity_is bytes pair pairs, rest) refl
      by_test false rest = rest

-- whether there is a next handle
abbrev pub begins_seeded : List Group → Bool
begins_seeded [] = false
begins_seeded (group ∷ groups) = coded (pos 5) group && is_handle group.value

abbrev pub names_next : Where → Group → Bool
names_next Header group = is_group (pos 9) (codes "$HANDSEED") group
names_next place group = false

abbrev pub seeded_from : Where → List Group → Bool
seeded_from place [] = false
seeded_from place (group ∷ groups) = if names_next place group then begins_seeded groups else seeded_from
    (behind_group place group) groups

names_is : (bytes : List ℕ) (place : Where) (pair : Pair)
    → names_seed bytes place pair ≡ names_next place (group_in bytes pair)
names_is bytes Outside pair = refl
names_is bytes Begun pair = refl
names_is bytes Header pair = refl
names_is bytes Entities pair = refl
names_is bytes Other pair = refl

as_told : (bytes : List ℕ) (pairs : List Pair)
    → is_seeded (as_seed bytes pairs) ≡ begins_seeded (map (group_in bytes) pairs)
as_told bytes [] = refl
as_told bytes (pair ∷ pairs) = by_test (is_coded (pos 5) pair && is_handle (value_in bytes pair)) where
  by_test : (good : Bool) → is_seeded (cond good (Some pair) None) ≡ good
  by_test true = refl
  by_test false = refl

pub seeded_told : (bytes : List ℕ) (place : Where) (pairs : List Pair)
    → is_seeded (seed_from bytes place pairs) ≡ seeded_from place (map (group_in bytes) pairs)
seeded_told bytes place [] = refl
seeded_told bytes place (pair ∷ pairs) = rw (← behind_told bytes place pair, ← names_is bytes place pair)
    (by_test (names_seed bytes place pair) (seeded_told bytes (section_behind bytes place pair) pairs)) where
      by_test : (names : Bool) → is_seeded (seed_from bytes (section_behind bytes place pair) pairs)
          ≡ seeded_from (section_behind bytes place pair) (map (group_in bytes) pairs)
          → is_seeded (cond names (as_seed bytes pairs) (seed_from bytes (section_behind bytes place pair) pairs))
          ≡ cond names (begins_seeded (map (group_in bytes) pairs))
          (seeded_from (section_behind bytes place pair) (map (group_in bytes) pairs))
      by_test true rest = as_told bytes pairs
      by_test false rest = rest

-- the outlines of a drawing of these groups
abbrev pub outlines_of : How → List Group → Option (List Outline)
outlines_of how groups = walk how (seeded_from Outside groups) alone (entities_told Outside groups)

-- ---- outlines that are read again: their points are those that were written, and so are their heights, but for lines whose
-- two ends have one height.
-- some outlines are read in the place of others
pub record AreBack (outs wanted : List Outline) : Type 0 where
  pub ends : all_ends outs ≡ all_ends wanted
  pub heights : all_heights outs ≡ map level_again (all_heights wanted)

pub none_back : AreBack [] []
none_back = record { ends = refl; heights = refl }

pub back_both : (outs more wanted others : List Outline) → AreBack outs wanted → AreBack more others
    → AreBack (outs ++ more) (wanted ++ others)
back_both outs more wanted others first second = record {
  ends = flat_map-append outline_ends outs more ∙ (ap (λ (e : List (Ends Pt)). e ++ all_ends more) first.ends
      ∙ (ap (λ (e : List (Ends Pt)). all_ends wanted ++ e) second.ends ∙ sym (flat_map-append outline_ends wanted others)));
  heights = flat_map-append outline_heights outs more ∙ (ap (λ (e : List (Ends Height)). e ++ all_heights more) first.heights
      ∙ (ap (λ (e : List (Ends Height)). map level_again (all_heights wanted) ++ e) second.heights
      ∙ (sym (map-append level_again (all_heights wanted) (all_heights others))
      ∙ ap (map level_again) (sym (flat_map-append outline_heights wanted others)))));
}

-- ---- without heights
abbrev pub AreFlat : List Outline → Type 0
AreFlat [] = ⊤
AreFlat (o ∷ outs) = (o.heights ≡ no_heights (length o.points)) × AreFlat outs

none_at : (count : ℕ) (row : PathRow) (from many : ℕ)
    → map (both_at no_height (no_heights count) row) (range_with_len from many)
    ≡ map level_again (map (both_at no_height (no_heights count) row) (range_with_len from many))
none_at count row from zero = refl
none_at count row from (suc many) =
    let none : Ends Height = record { from = None; to = None } in
    let first : both_at no_height (no_heights count) row from ≡ none =
    rw (none_in count (row.first + from), none_in count (next_in row (row.first + from))) refl in
    let same : both_at no_height (no_heights count) row from
    ≡ level_again (both_at no_height (no_heights count) row from) = first ∙ ap level_again (sym first) in
    ap (λ (e : Ends Height). e ∷ map (both_at no_height (no_heights count) row) (range_with_len (from + 1) many)) same
    ∙ ap (λ (more : List (Ends Height)). level_again (both_at no_height (no_heights count) row from) ∷ more)
    (none_at count row (from + 1) many)

none_level : (kind : Option PathKind) (count : ℕ)
    → both_by no_height kind (no_heights count) ≡ map level_again (both_by no_height kind (no_heights count))
none_level None count = refl
none_level (Some kind) count =
    let row = own_row kind (length (no_heights count)) in none_at count row 0 (segments_in row)

flat_level : (outs : List Outline) → AreFlat outs → all_heights outs ≡ map level_again (all_heights outs)
flat_level [] flat = refl
flat_level (o ∷ outs) flat =
    let own : outline_heights o ≡ map level_again (outline_heights o) =
    ap (both_by no_height o.kind) flat.0 ∙ (none_level o.kind (length o.points)
    ∙ ap (λ (hs : List Height). map level_again (both_by no_height o.kind hs)) (sym flat.0)) in
    ap (λ (e : List (Ends Height)). e ++ all_heights outs) own
    ∙ (ap (λ (e : List (Ends Height)). map level_again (outline_heights o) ++ e) (flat_level outs flat.1)
    ∙ sym (map-append level_again (outline_heights o) (all_heights outs)))

-- outlines without heights are read as they are
pub flat_back : (outs wanted : List Outline) → AreFlat outs → wanted ≡ outs → AreBack outs wanted
flat_back outs wanted flat are = record {
  ends = ap all_ends (sym are);
  heights = flat_level outs flat ∙ ap (λ (list : List Outline). map level_again (all_heights list)) (sym are);
}

-- ---- ends by ends
pub mapped_match : (written again : List (Ends Height)) → again ≡ map level_again written
    → DoMatch AreReadAgain written again
mapped_match written again are = subst (DoMatch AreReadAgain written) (sym are) (each written)
  where
    each : (ends : List (Ends Height)) → DoMatch AreReadAgain ends (map level_again ends)
    each [] = tt
    each (e ∷ ends) = (refl, each ends)

-- ---- what is written in the place of an entity, as entities without places, and what the walk reads of it
abbrev pub told_groups : Told → List Group
told_groups entity = entity.head ∷ entity.groups

abbrev pub groups_told : List Told → List Group
groups_told entities = flat_map told_groups entities

-- none of the groups begins an entity
abbrev pub HaveNoHead : List Group → Type 0
HaveNoHead [] = ⊤
HaveNoHead (group ∷ groups) = (coded (pos 0) group ≡ false) × HaveNoHead groups

-- an entity that ends no section
pub record IsWhole (entity : Told) : Type 0 where
  pub head : coded (pos 0) entity.head ≡ true
  pub goes_on : ends_sections entity.head ≡ false
  pub body : HaveNoHead entity.groups

abbrev pub AreWholeTold : List Told → Type 0
AreWholeTold [] = ⊤
AreWholeTold (entity ∷ entities) = IsWhole entity × AreWholeTold entities

pub no_head_both : (groups more : List Group) → HaveNoHead groups → HaveNoHead more → HaveNoHead (groups ++ more)
no_head_both [] more first second = second
no_head_both (group ∷ groups) more first second = (first.0, no_head_both groups more first.1 second)

-- all begin with this group
abbrev pub AreOf : Group → List Told → Type 0
AreOf head [] = ⊤
AreOf head (entity ∷ entities) = (entity.head ≡ head) × AreOf head entities

-- the groups are those of some entities, and the walk goes over them from one spot to another with outlines of these
-- ends
pub record IsWritten (head : Group) (how : How) (seeded : Bool) (from to : Spot) (wanted : List Outline)
    (groups : List Group) : Type 0 where
  pub entities : List Told
  pub are : groups ≡ groups_told entities
  pub whole : AreWholeTold entities
  pub heads : AreOf head entities
  pub outs : List Outline
  pub walks : (more : List Told) → walk how seeded from (entities ++ more)
      ≡ next (in_front outs) (walk how seeded to more)
  pub same : AreBack outs wanted

pub none_in_front : (more : Option (List Outline)) → more ≡ next (in_front []) more
none_in_front None = refl
none_in_front (Some more) = refl

pub both_in_front : (first second : List Outline) (more : Option (List Outline))
    → next (in_front first) (next (in_front second) more) ≡ next (in_front (first ++ second)) more
both_in_front first second None = refl
both_in_front first second (Some more) = ap Some (sym (append_assoc first second more))

-- one turn
pub turn_walks : (how : How) (seeded : Bool) (from : Spot) (entity : Told) (here : Turn) (more : List Told)
    → turn how seeded from entity ≡ Some here
    → walk how seeded from (entity ∷ more) ≡ next (in_front here.shapes) (walk how seeded here.next more)
turn_walks how seeded from entity here more is =
    ap (next (λ (t : Turn). next (in_front t.shapes) (walk how seeded t.next more))) is

-- one entity in the place of one
pub one_written : (how : How) (seeded : Bool) (from : Spot) (entity : Told) (here : Turn) (wanted : List Outline)
    → IsWhole entity → turn how seeded from entity ≡ Some here → AreBack here.shapes wanted
    → IsWritten entity.head how seeded from here.next wanted (told_groups entity)
one_written how seeded from entity here wanted whole is back = record {
  entities = entity ∷ [];
  are = sym (append_nil_groups (told_groups entity));
  whole = (whole, tt);
  heads = (refl, tt);
  outs = here.shapes;
  walks = λ more. turn_walks how seeded from entity here more is;
  same = back;
} where
  append_nil_groups : (groups : List Group) → groups ++ [] ≡ groups
  append_nil_groups [] = refl
  append_nil_groups (group ∷ groups) = ap (λ (rest : List Group). group ∷ rest) (append_nil_groups groups)

-- ---- entities without places in front of groups, and the walk over both
-- nothing, or what begins with a head
abbrev pub IsHeaded : List Group → Type 0
IsHeaded [] = ⊤
IsHeaded (group ∷ groups) = coded (pos 0) group ≡ true

-- a group that is no head ends no section
goes_on : (group : Group) → coded (pos 0) group ≡ false → ends_sections group ≡ false
goes_on group is = rw is refl

front_of : (groups rest : List Group) → HaveNoHead groups → IsHeaded rest
    → take_while not_head (groups ++ rest) ≡ groups
front_of [] [] none headed = refl
front_of [] (group ∷ rest) none headed = take_while-cons not_head group rest ∙ rw headed refl
front_of (group ∷ groups) rest none headed = take_while-cons not_head group (groups ++ rest)
    ∙ (let here = none.0 in rw here (ap (λ (g : List Group). group ∷ g) (front_of groups rest none.1 headed)))

past_body : (groups rest : List Group) → HaveNoHead groups
    → entities_told Entities (groups ++ rest) ≡ entities_told Entities rest
past_body [] rest none = refl
past_body (group ∷ groups) rest none =
    let here = none.0 in rw here (past_body groups rest none.1)

-- whole entities in front of what begins with a head
pub entities_front : (entities : List Told) (rest : List Group) → AreWholeTold entities → IsHeaded rest
    → entities_told Entities (groups_told entities ++ rest) ≡ entities ++ entities_told Entities rest
entities_front [] rest whole headed = refl
entities_front (entity ∷ entities) rest whole headed =
    let head = whole.0.head in
    let on = whole.0.goes_on in
    let join : (entity.groups ++ groups_told entities) ++ rest ≡ entity.groups ++ (groups_told entities ++ rest) =
    append_assoc entity.groups (groups_told entities) rest in
    let front : take_while not_head (entity.groups ++ (groups_told entities ++ rest)) ≡ entity.groups =
    front_of entity.groups (groups_told entities ++ rest) whole.0.body (all_headed entities whole.1) in
    let later : entities_told Entities (entity.groups ++ (groups_told entities ++ rest)) ≡ entities
    ++ entities_told Entities rest = past_body entity.groups (groups_told entities ++ rest) whole.0.body
    ∙ entities_front entities rest whole.1 headed in
    rw (join, on, head, later) (ap (λ (g : List Group). (record { head = entity.head; groups = g })
    ∷ (entities ++ entities_told Entities rest)) front)
  where
    all_headed : (entities : List Told) → AreWholeTold entities → IsHeaded (groups_told entities ++ rest)
    all_headed [] all = headed
    all_headed (first ∷ entities) all = all.0.head

pub headed_front : (entities : List Told) (rest : List Group) → AreWholeTold entities → IsHeaded rest
    → IsHeaded (groups_told entities ++ rest)
headed_front [] rest whole headed = headed
headed_front (entity ∷ entities) rest whole headed = whole.0.head

pub imaged_both : (images : Runs) (first : ℕ) (shapes more : List Shape)
    → imaged_outlines images first (shapes ++ more) ≡ imaged_outlines images first shapes
    ++ imaged_outlines images (points_past first shapes) more
imaged_both images first [] more = refl
imaged_both images first (shape ∷ shapes) more = ap (λ (rest : List Outline). imaged_outline images first shape ∷ rest)
    (imaged_both images (first + length shape.points) shapes more)

-- ---- A turn at an entity whose fields agree with those of an entity that was read
-- an entity that is read by itself, and not on paper
pub record IsReadSo (bytes : List ℕ) (how : How) (seed : Option Pair) (entity : Entity) (shapes : List Shape) : Type 0
  where
    pub goes_on : is_end_of_section bytes entity.head ≡ false
    pub paper : Option Pair
    pub paper_is : field_at (pos 67) entity ≡ Ok paper
    pub off_paper : there_as bytes 1 paper ≡ false
    pub polyline : is_of_kind bytes (codes "POLYLINE") entity ≡ false
    pub alone : are_read_alone bytes entity ≡ true
    pub flat : upright bytes entity ≡ Ok tt
    pub shapes_are : shapes_of bytes how seed entity ≡ Ok shapes

-- where its fields agree, the new entity is read as such a one
pub turn_kept : (bytes : List ℕ) (how : How) (seed : Option Pair) (entity : Entity) (shapes : List Shape)
    (groups : List Group) (new : List Outline) → IsReadSo bytes how seed entity shapes
    → Agree (groups_in bytes entity) (fields_in groups)
    → outlines_in how (is_seeded seed) (record { head = group_in bytes entity.head; groups = groups }) ≡ Some new
    → free_turn how (is_seeded seed) (record { head = group_in bytes entity.head; groups = groups })
    ≡ Some (turn_of new)
turn_kept bytes how seed entity shapes groups new read agree are =
    let made : Told = record { head = group_in bytes entity.head; groups = groups } in
    let paper : value_at (pos 67) (fields_in groups) ≡ Some (option_map (value_in bytes) read.paper) =
    value_same (groups_in bytes entity) (fields_in groups) (pos 67) agree refl
    ∙ (sym (field_told bytes (pos 67) entity) ∙ ap (told (option_map (value_in bytes))) read.paper_is) in
    let off : is_value 1 (option_map (value_in bytes) read.paper) ≡ false = sym (there_as_told bytes 1 read.paper)
    ∙ read.off_paper in
    let flat : flat_in (fields_in groups) ≡ Some tt = agree.flat
    ∙ (sym (upright_told bytes entity) ∙ ap (told itself) read.flat) in
    let goes_on = read.goes_on in
    let polyline = read.polyline in
    let alone = read.alone in
    let by_kinds : turn_by_kind how (is_seeded seed) made ≡ Some (turn_of new) = rw (polyline, alone, flat, are) refl in
    rw (goes_on, paper, off) by_kinds
