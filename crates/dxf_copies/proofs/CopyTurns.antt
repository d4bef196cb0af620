-- Copies of lines and of vertices are read again.
use Rattle.std.proofs.Common.{◌≡◌, ℕ, ℤ, pos, Bool, true, false, refl, ap, sym, ◌∙◌, subst, List, [], ◌∷◌, map}
use Rattle.std.proofs.Common.{take_while, option_map, ◌≤◌, Option, None, Some, Ok, zero, suc, ◌+◌, ◌-◌, ◌<◌, ◌++◌}
use Rattle.std.proofs.Common.{length, codes, arith, max}
use Rattle.std.specs.Prelude.{int_lt, unsigned_abs, if◌then◌else◌, ⊤}
use Rattle.std.specs.Option.{is_some}
use Rattle.std.specs.Ordering.{int_eq}
use Rattle.std.proofs.lemmas.List.Sums.{take_while-cons}
use Rattle.std.specs.List.{range_with_len}
use Rattle.std.proofs.lemmas.List.{append-nil, append_assoc}
use Rattle.mm_decimal.specs.declared.limits.TheConstants.{LIMIT}
use Rattle.mm_decimal.specs.MetresTexts.{mm_text}
use Rattle.plane_base.specs.declared.shapes.Pt.{Pt}
use Rattle.sheet_base.specs.PointHeights.{Height, Position, IsHeightWithinReach, points_with_heights}
use Rattle.sheet_base.specs.ImageFits.{IsWithinReach}
use Rattle.sheet_base.specs.ReadBack.{Ends}
use Rattle.sheet_base.specs.declared.flags.How.{How}
use Rattle.sheet_base.specs.declared.paths.PathKind.{PathKind}
use Rattle.sheet_base.specs.declared.paths.PathKind.TheVariants as paths
use Rattle.sheet_base.specs.Segments.{no_point}
use Rattle.dxf_pairs.specs.declared.pairs.Pair.{Pair}
use Rattle.dxf_pairs.specs.Groups.{Group, group_in, value_in}
use Rattle.dxf_pairs.specs.InLines.{GroupsFollow}
use Rattle.dxf_entities.specs.declared.drawing.Rise.{Rise}
use Rattle.dxf_entities.specs.declared.drawing.PointFields.{PointFields as Read_point}
use Rattle.dxf_entities.specs.declared.fields.Read.{Read}
use Rattle.dxf_entities.specs.declared.points.LineFields.{LineFields}
use Rattle.dxf_entities.specs.Entities.{Entity, is_of_kind}
use Rattle.dxf_entities.specs.Fields.{entity_fields, field_at, wanted_at, coordinate_from}
use Rattle.dxf_entities.specs.Handles.{handle, has_next}
use Rattle.dxf_entities.specs.Points.{spot_at, rise_of, line_of}
use Rattle.dxf_entities.specs.Polylines.{plain}
use Rattle.dxf_copies.specs.declared.copies.Copied.{Copied}
use Rattle.dxf_copies.specs.declared.copies.Value.{Value}
use Rattle.dxf_copies.specs.declared.copies.Value.TheVariants as values
use Rattle.dxf_copies.specs.Rendering.{value_for, value_text, line_copy, new_handle, handle_behind, line_copies}
use Rattle.dxf_copies.specs.Rendering.{vertex_copies, copy_text, vertex_copy}
use Rattle.dxf_copies.specs.LevelEnds.{level_again}
use Rattle.dxf_entities.proofs.Members.{went, field_is, wanted_is, coordinate_is}
use Rattle.dxf_entities.proofs.EntityEdits.{has_heights, both_carried, HasLine}
use Rattle.dxf_entities.proofs.WrittenGroups.{measured_written, number_written}
use Rattle.dxf_entities.proofs.GroupShapes.{next, told, fields_in, groups_in, fields_told, itself, value_at}
use Rattle.dxf_entities.proofs.GroupShapes.{value_wanted, point_at, zero_in, is_seeded, next_with, handle_in, height_by}
use Rattle.dxf_entities.proofs.GroupShapes.{mm_ends, unless_with, rise_in, unless_told, line_outline, line_outlines}
use Rattle.dxf_entities.proofs.GroupShapes.{plain_in, plain_told, own_point, Outline, end_heights, Told, outlines_in}
use Rattle.dxf_entities.proofs.ChangedFields.{may_change, with_value, DoStay, Agree, value_same, field_changed}
use Rattle.dxf_entities.proofs.ChangedFields.{wanted_changed, point_changed, agree_by}
use Rattle.dxf_entities.proofs.OutlineEnds.{mapped_on, own_row, both_at, both_in, both_by, no_height, all_ends, all_heights}
use Rattle.dxf_entities.proofs.OutlineEnds.{AreAll, heights_for, heights_wanted}
use Rattle.dxf_copies.proofs.SplicedPairs.{value_of_copy, copy_value, copy_groups, AddsAs, none_added, both_added}
use Rattle.dxf_copies.proofs.SplicedPairs.{IsInLines, copy_added}
use Rattle.dxf_copies.proofs.GroupDrawings.{alone, open_line, turn_of, in_front, walk, turn, with_more, AreBack}
use Rattle.dxf_copies.proofs.GroupDrawings.{IsReadSo, turn_kept, told_groups, groups_told, none_in_front, both_in_front}
use Rattle.dxf_copies.proofs.GroupDrawings.{turn_walks}

-- ---- the turns at copies of a line's entity and of a vertex's
abbrev small : Pair → Bool
small pair = int_lt pair.code (pos 1000)

-- the fields of a copy
fields_copied : (bytes : List ℕ) (copied : Copied) (pairs : List Pair)
    → fields_in (copy_groups bytes copied (take_while small pairs) pairs)
    ≡ map (with_value (copy_value bytes copied)) (take_while small pairs)
fields_copied bytes copied [] = refl
fields_copied bytes copied (pair ∷ pairs) = by_test (small pair) refl (fields_copied bytes copied pairs) where
  by_test : (here : Bool) → small pair ≡ here → fields_in (copy_groups bytes copied (take_while small pairs) pairs)
      ≡ map (with_value (copy_value bytes copied)) (take_while small pairs)
      → fields_in (copy_groups bytes copied (take_while small (pair ∷ pairs)) (pair ∷ pairs))
      ≡ map (with_value (copy_value bytes copied)) (take_while small (pair ∷ pairs))
  by_test true is rest =
      let front : take_while small (pair ∷ pairs) ≡ pair ∷ take_while small pairs = take_while-cons small pair pairs
      ∙ rw is refl in grind (arith, take_while-cons, with_value, copy_value, copy_groups, take_while)
  by_test false is rest = grind (arith, take_while, take_while-cons)

copy_fields : (bytes : List ℕ) (copied : Copied) (entity : Entity)
    → fields_in (copy_groups bytes copied (entity_fields entity) entity.pairs)
    ≡ map (with_value (copy_value bytes copied)) (entity_fields entity)
copy_fields bytes copied entity = fields_copied bytes copied entity.pairs

-- other codes are not replaced
not_replaced : (copied : Copied) (code : ℤ) → may_change code ≡ false → value_for copied code ≡ None
not_replaced copied code stays = grind (arith, option_map)

copy_stays : (bytes : List ℕ) (copied : Copied) (pairs : List Pair) → DoStay bytes (copy_value bytes copied) pairs
copy_stays bytes copied [] = tt
copy_stays bytes copied (pair ∷ pairs) = grind (arith, value_of_copy, not_replaced, (copy_stays bytes copied pairs))

copy_agrees : (bytes : List ℕ) (copied : Copied) (entity : Entity)
    → Agree (groups_in bytes entity) (fields_in (copy_groups bytes copied (entity_fields entity) entity.pairs))
copy_agrees bytes copied entity =
    subst (λ (old : List Group). Agree old (fields_in (copy_groups bytes copied (entity_fields entity) entity.pairs)))
    (fields_told bytes entity)
    (subst (λ (new : List Group). Agree (map (group_in bytes) (entity_fields entity)) new)
    (sym (copy_fields bytes copied entity)) (agree_by bytes (copy_value bytes copied) (entity_fields entity)
    (copy_stays bytes copied (entity_fields entity))))

-- the fields of a point that was read
pub record HasWanted (x y : ℤ) (entity : Entity) (spot : Read_point) : Type 0 where
  pub east : wanted_at x entity ≡ Ok spot.x.pair
  pub north : wanted_at y entity ≡ Ok spot.y.pair

wanted_read : (bytes : List ℕ) (exact : Bool) (code : ℤ) (entity : Entity) (read : Read)
    → coordinate_from bytes exact code entity ≡ Ok read → wanted_at code entity ≡ Ok read.pair
wanted_read bytes exact code entity read is = grind (arith, went, coordinate_is)

pub spot_wanted : (bytes : List ℕ) (exact : Bool) (x y : ℤ) (entity : Entity) (spot : Read_point)
    → spot_at bytes exact x y entity ≡ Ok spot → HasWanted x y entity spot
spot_wanted bytes exact x y entity spot is = grind (arith, went, wanted_read)

-- a wanted field has its value in the copy
copied_wanted : (bytes : List ℕ) (copied : Copied) (code : ℤ) (entity : Entity) (pair : Pair) (value : Value)
    → wanted_at code entity ≡ Ok pair → value_for copied code ≡ Some value
    → value_wanted code (fields_in (copy_groups bytes copied (entity_fields entity) entity.pairs))
    ≡ Some (value_text value)
copied_wanted bytes copied code entity pair value is has =
    let code_is : pair.code ≡ code = (wanted_is code entity pair is).coded in
    ap (value_wanted code) (copy_fields bytes copied entity)
    ∙ (wanted_changed (copy_value bytes copied) code entity pair is
    ∙ ap (λ (found : Option Value). Some (value_of_copy bytes pair found)) (ap (value_for copied) code_is ∙ has))

seeded_still : (seed found : Option Pair) (value : Pair → List ℕ) → has_next seed found ≡ Ok tt
    → next_with (is_seeded seed) (option_map value found) ≡ Some tt
seeded_still seed None value is = refl
seeded_still None (Some pair) value is = absurd (cc)
seeded_still (Some next) (Some pair) value is = refl

copied_handle : (bytes : List ℕ) (copied : Copied) (seed : Option Pair) (entity : Entity) → handle seed entity ≡ Ok tt
    → handle_in (is_seeded seed) (fields_in (copy_groups bytes copied (entity_fields entity) entity.pairs)) ≡ Some tt
copied_handle bytes copied seed entity is =
    let found = went (has_next seed) (field_at (pos 5) entity) tt is in
    ap (handle_in (is_seeded seed)) (copy_fields bytes copied entity) ∙ (ap (next (next_with (is_seeded seed)))
    (field_changed (copy_value bytes copied) (pos 5) entity found.value found.is)
    ∙ seeded_still seed found.value (copy_value bytes copied) found.gives)

-- ---- the heights of a line's two ends in a copy
-- what is read of heights that are written
abbrev pub rise_again : Height → Height → Option (Ends ℤ)
rise_again (Some from) (Some to) = if int_eq from to then None else Some (record { from = from; to = to })
rise_again from to = None

-- a field that a copy has no value for stays
kept_field : (bytes : List ℕ) (copied : Copied) (code : ℤ) (entity : Entity) (found : Option Pair)
    → field_at code entity ≡ Ok found → value_for copied code ≡ None
    → option_map (copy_value bytes copied) found ≡ option_map (value_in bytes) found
kept_field bytes copied code entity None is none = refl
kept_field bytes copied code entity (Some pair) is none =
    let code_is : pair.code ≡ code = (field_is code entity pair is).coded in grind (arith, value_of_copy)

-- one that it has a value for has it
set_field : (bytes : List ℕ) (copied : Copied) (code : ℤ) (entity : Entity) (pair : Pair) (value : Value)
    → field_at code entity ≡ Ok (Some pair) → value_for copied code ≡ Some value
    → copy_value bytes copied pair ≡ value_text value
set_field bytes copied code entity pair value is has =
    let code_is : pair.code ≡ code = (field_is code entity pair is).coded in cc

copied_field : (bytes : List ℕ) (copied : Copied) (code : ℤ) (entity : Entity) (found : Option Pair)
    → field_at code entity ≡ Ok found
    → value_at code (fields_in (copy_groups bytes copied (entity_fields entity) entity.pairs))
    ≡ Some (option_map (copy_value bytes copied) found)
copied_field bytes copied code entity found is = ap (value_at code) (copy_fields bytes copied entity)
    ∙ field_changed (copy_value bytes copied) code entity found is

-- two heights that are written
two_heights : (exact : Bool) (from to : ℤ) → unsigned_abs from ≤ LIMIT → unsigned_abs to ≤ LIMIT
    → unless_with exact (Some (mm_text from)) (Some (mm_text to)) ≡ Some (rise_again (Some from) (Some to))
two_heights exact from to near far = grind (arith, height_by, measured_written, number_written)

-- a copy has the heights of two images where the line has heights, and else those that it had
rise_copied : (bytes : List ℕ) (exact : Bool) (entity : Entity) (copied : Copied) (rise : Option Rise)
    → rise_of bytes exact entity ≡ Ok rise → (from to : Height)
    → value_for copied (pos 30) ≡ option_map values.Metres from
    → value_for copied (pos 31) ≡ option_map values.Metres to
    → is_some from ≡ is_some rise → is_some to ≡ is_some rise → IsHeightWithinReach from → IsHeightWithinReach to
    → rise_in exact (fields_in (copy_groups bytes copied (entity_fields entity) entity.pairs))
    ≡ Some (rise_again from to)
rise_copied bytes exact entity copied None is None None first second from_is to_is near far =
    let fields = has_heights bytes exact entity None is in
    let new = fields_in (copy_groups bytes copied (entity_fields entity) entity.pairs) in
    let low : value_at (pos 30) new ≡ Some (option_map (value_in bytes) fields.first) =
    copied_field bytes copied (pos 30) entity fields.first fields.first_is
    ∙ ap Some (kept_field bytes copied (pos 30) entity fields.first fields.first_is first) in
    let high : value_at (pos 31) new ≡ Some (option_map (value_in bytes) fields.second) =
    copied_field bytes copied (pos 31) entity fields.second fields.second_is
    ∙ ap Some (kept_field bytes copied (pos 31) entity fields.second fields.second_is second) in
    grind (arith, unless_told, told, option_map, mm_ends)
rise_copied bytes exact entity copied (Some rise) is (Some from) (Some to) first second from_is to_is near far =
    let fields = has_heights bytes exact entity (Some rise) is in
    let both = both_carried bytes exact entity fields.first fields.second rise fields.by in
    let new = fields_in (copy_groups bytes copied (entity_fields entity) entity.pairs) in
    let low_is : field_at (pos 30) entity ≡ Ok (Some both.low) = fields.first_is ∙ ap Ok both.low_is in
    let high_is : field_at (pos 31) entity ≡ Ok (Some both.high) = fields.second_is ∙ ap Ok both.high_is in
    let low : value_at (pos 30) new ≡ Some (Some (mm_text from)) =
    copied_field bytes copied (pos 30) entity (Some both.low) low_is ∙ ap (λ (v : List ℕ). Some (Some v))
    (set_field bytes copied (pos 30) entity both.low (values.Metres from) low_is first) in
    let high : value_at (pos 31) new ≡ Some (Some (mm_text to)) =
    copied_field bytes copied (pos 31) entity (Some both.high) high_is ∙ ap (λ (v : List ℕ). Some (Some v))
    (set_field bytes copied (pos 31) entity both.high (values.Metres to) high_is second) in grind (arith, two_heights)
rise_copied bytes exact entity copied None is (Some from) to first second from_is to_is near far =
    absurd (let both : true ≡ false = from_is in cc)
rise_copied bytes exact entity copied None is None (Some to) first second from_is to_is near far =
    absurd (let both : true ≡ false = to_is in cc)
rise_copied bytes exact entity copied (Some rise) is None to first second from_is to_is near far =
    absurd (let both : false ≡ true = from_is in cc)
rise_copied bytes exact entity copied (Some rise) is (Some from) None first second from_is to_is near far =
    absurd (let both : false ≡ true = to_is in cc)

-- an image of a line, and its height where the line has some
pub record IsGoodPosition (some : Bool) (position : Position) : Type 0 where
  pub within : IsWithinReach position.point
  pub height_is : is_some position.height ≡ some
  pub height_within : IsHeightWithinReach position.height

line_copied : (bytes : List ℕ) (exact : Bool) (seed : Option Pair) (entity : Entity) (ends : LineFields)
    (begin end : Position) (given : Option ℕ) → HasLine bytes exact seed entity ends
    → IsGoodPosition (is_some ends.rise) begin → IsGoodPosition (is_some ends.rise) end
    → line_outlines exact (is_seeded seed)
    (fields_in (copy_groups bytes (line_copy begin end given) (entity_fields entity) entity.pairs))
    ≡ Some (line_outline begin.point end.point (rise_again begin.height end.height) ∷ [])
line_copied bytes exact seed entity ends begin end given is near far =
    let copied = line_copy begin end given in
    let new = fields_in (copy_groups bytes copied (entity_fields entity) entity.pairs) in
    let begins = spot_wanted bytes exact (pos 10) (pos 20) entity ends.begin is.begin_is in
    let finals = spot_wanted bytes exact (pos 11) (pos 21) entity ends.end is.end_is in
    let own = copied_handle bytes copied seed entity is.own in
    let first : point_at exact (pos 10) (pos 20) new ≡ Some begin.point =
    point_changed exact (pos 10) (pos 20) new begin.point near.within
    (copied_wanted bytes copied (pos 10) entity ends.begin.x.pair (values.Metres begin.point.x) begins.east refl)
    (copied_wanted bytes copied (pos 20) entity ends.begin.y.pair (values.Metres begin.point.y) begins.north refl) in
    let second : point_at exact (pos 11) (pos 21) new ≡ Some end.point =
    point_changed exact (pos 11) (pos 21) new end.point far.within
    (copied_wanted bytes copied (pos 11) entity ends.end.x.pair (values.Metres end.point.x) finals.east refl)
    (copied_wanted bytes copied (pos 21) entity ends.end.y.pair (values.Metres end.point.y) finals.north refl) in
    let heights = rise_copied bytes exact entity copied ends.rise is.rise_is begin.height end.height refl refl
    near.height_is far.height_is near.height_within far.height_within in cc

-- a vertex that is copied
pub record IsVertexRead (bytes : List ℕ) (exact : Bool) (seed : Option Pair) (entity : Entity)
    (spot : Read_point) : Type 0 where
  pub own : handle seed entity ≡ Ok tt
  pub spot_is : spot_at bytes exact (pos 10) (pos 20) entity ≡ Ok spot
  pub plain_is : plain bytes entity ≡ Ok tt

pub zero_agrees : (old new : List Group) (code : ℤ) → Agree old new → may_change code ≡ false
    → zero_in code new ≡ zero_in code old
zero_agrees old new code agree stays = rw (value_same old new code agree stays) refl

plain_agrees : (old new : List Group) → Agree old new → plain_in new ≡ plain_in old
plain_agrees old new agree = grind (arith, zero_agrees)

vertex_copied : (bytes : List ℕ) (exact : Bool) (seed : Option Pair) (entity : Entity) (spot : Read_point)
    (copied : Copied) → IsVertexRead bytes exact seed entity spot → IsWithinReach copied.begin
    → own_point exact (is_seeded seed) (fields_in (copy_groups bytes copied (entity_fields entity) entity.pairs))
    ≡ Some copied.begin
vertex_copied bytes exact seed entity spot copied is near =
    let new = fields_in (copy_groups bytes copied (entity_fields entity) entity.pairs) in
    let has = spot_wanted bytes exact (pos 10) (pos 20) entity spot is.spot_is in
    let own = copied_handle bytes copied seed entity is.own in
    let point : point_at exact (pos 10) (pos 20) new ≡ Some copied.begin =
    point_changed exact (pos 10) (pos 20) new copied.begin near
    (copied_wanted bytes copied (pos 10) entity spot.x.pair (values.Metres copied.begin.x) has.east refl)
    (copied_wanted bytes copied (pos 20) entity spot.y.pair (values.Metres copied.begin.y) has.north refl) in
    let flat : plain_in new ≡ Some tt = plain_agrees (groups_in bytes entity) new (copy_agrees bytes copied entity)
    ∙ (sym (plain_told bytes entity) ∙ ap (told itself) is.plain_is) in cc

-- ---- the walk over copies of a line's entity, and over copies of a vertex's
-- a copy, without places
abbrev pub copy_told : List ℕ → Entity → Copied → Told
copy_told bytes entity copied = record {
  head = group_in bytes entity.head;
  groups = copy_groups bytes copied (entity_fields entity) entity.pairs;
}

abbrev pub AllWithin : List Pt → Type 0
AllWithin [] = ⊤
AllWithin (point ∷ points) = IsWithinReach point × AllWithin points

abbrev pub lines_told : List ℕ → Entity → Bool → ℕ → List Position → List Told
lines_told bytes entity first next [] = []
lines_told bytes entity first next (begin ∷ []) = []
lines_told bytes entity first next (begin ∷ end ∷ images) =
    copy_told bytes entity (line_copy begin end (new_handle first next))
    ∷ lines_told bytes entity false (handle_behind first next) (end ∷ images)

pub lines_added : GroupsFollow → (bytes : List ℕ) (entity : Entity) → IsInLines bytes entity
    → (first : Bool) (next : ℕ) (images : List Position)
    → AddsAs (line_copies bytes entity first next images) (groups_told (lines_told bytes entity first next images))
lines_added follow bytes entity lines first next [] = none_added
lines_added follow bytes entity lines first next (begin ∷ []) = none_added
lines_added follow bytes entity lines first next (begin ∷ end ∷ images) =
    let copied = line_copy begin end (new_handle first next) in both_added (copy_text bytes copied entity)
    (line_copies bytes entity false (handle_behind first next) (end ∷ images))
    (told_groups (copy_told bytes entity copied))
    (groups_told (lines_told bytes entity false (handle_behind first next) (end ∷ images)))
    (copy_added follow bytes entity copied lines)
    (lines_added follow bytes entity lines false (handle_behind first next) (end ∷ images))

-- lines from image to image
abbrev pub line_list : List Position → List Outline
line_list [] = []
line_list (begin ∷ []) = []
line_list (begin ∷ end ∷ images) = line_outline begin.point end.point (rise_again begin.height end.height)
    ∷ line_list (end ∷ images)

-- a line's entity that is by itself
pub record IsLine (bytes : List ℕ) (how : How) (seed : Option Pair) (entity : Entity) (ends : LineFields) : Type 0 where
  pub read : IsReadSo bytes how seed entity (line_of entity ends.begin ends.end ends.rise ∷ [])
  pub no_point : is_of_kind bytes (codes "POINT") entity ≡ false
  pub is_line : is_of_kind bytes (codes "LINE") entity ≡ true
  pub line : HasLine bytes how.exact seed entity ends

one_line : (bytes : List ℕ) (how : How) (seed : Option Pair) (entity : Entity) (ends : LineFields) (from to : Position)
    (given : Option ℕ) → IsLine bytes how seed entity ends → IsGoodPosition (is_some ends.rise) from
    → IsGoodPosition (is_some ends.rise) to
    → turn how (is_seeded seed) alone (copy_told bytes entity (line_copy from to given))
    ≡ Some (turn_of (line_outline from.point to.point (rise_again from.height to.height) ∷ []))
one_line bytes how seed entity ends from to given is near far =
    let copied = line_copy from to given in
    let line = line_outline from.point to.point (rise_again from.height to.height) in
    let groups = copy_groups bytes copied (entity_fields entity) entity.pairs in
    let no_point = is.no_point in
    let is_line = is.is_line in
    let are : outlines_in how (is_seeded seed) (record { head = group_in bytes entity.head; groups = groups })
    ≡ Some (line ∷ []) =
    rw (no_point, is_line) (line_copied bytes how.exact seed entity ends from to given is.line near far) in
    turn_kept bytes how seed entity (line_of entity ends.begin ends.end ends.rise ∷ []) groups (line ∷ []) is.read
    (copy_agrees bytes copied entity) are

abbrev pub AllGood : Bool → List Position → Type 0
AllGood some [] = ⊤
AllGood some (position ∷ positions) = IsGoodPosition some position × AllGood some positions

pub lines_walk : (bytes : List ℕ) (how : How) (seed : Option Pair) (entity : Entity) (ends : LineFields)
    → IsLine bytes how seed entity ends → (first : Bool) (given : ℕ) (images : List Position)
    → AllGood (is_some ends.rise) images → (more : List Told)
    → walk how (is_seeded seed) alone (lines_told bytes entity first given images ++ more)
    ≡ next (in_front (line_list images)) (walk how (is_seeded seed) alone more)
lines_walk bytes how seed entity ends is first given [] good more = none_in_front (walk how (is_seeded seed) alone more)
lines_walk bytes how seed entity ends is first given (from ∷ []) good more =
    none_in_front (walk how (is_seeded seed) alone more)
lines_walk bytes how seed entity ends is first given (from ∷ to ∷ images) good more =
    let line = line_outline from.point to.point (rise_again from.height to.height) in
    let rest = lines_told bytes entity false (handle_behind first given) (to ∷ images) in
    turn_walks how (is_seeded seed) alone (copy_told bytes entity (line_copy from to (new_handle first given)))
    (turn_of (line ∷ [])) (rest ++ more)
    (one_line bytes how seed entity ends from to (new_handle first given) is good.0 good.1.0)
    ∙ (ap (next (in_front (line ∷ [])))
    (lines_walk bytes how seed entity ends is false (handle_behind first given) (to ∷ images) good.1 more)
    ∙ both_in_front (line ∷ []) (line_list (to ∷ images)) (walk how (is_seeded seed) alone more))

-- ---- the ends of a path from image to image are those of lines between them
module _ {X : Type 0} (none : X) where
  abbrev pub line_ends : List X → List (Ends X)
  line_ends items = both_in none items (own_row paths.Line (length items))

  one_more : (p q r : X) (items : List X)
      → line_ends (p ∷ q ∷ r ∷ items) ≡ (record { from = p; to = q }) ∷ line_ends (q ∷ r ∷ items)
  one_more p q r items =
      let all = p ∷ q ∷ r ∷ items in
      let rest = q ∷ r ∷ items in
      let count : max 1 (length all - 0 - 1) ≡ suc (length items + 1) = omega arith in
      let fewer : max 1 (length rest - 0 - 1) ≡ length items + 1 = omega arith in
      let on_all = both_at none all (own_row paths.Line (length all)) in
      let on_rest = both_at none rest (own_row paths.Line (length rest)) in
      let two : Ends X = record { from = p; to = q } in ap (λ n. map on_all (range_with_len 0 n)) count
      ∙ (ap (λ (e : Ends X). e ∷ map on_all (range_with_len (0 + 1) (length items + 1))) first
      ∙ (ap (λ (more : List (Ends X)). two ∷ more)
      (mapped_on on_all on_rest (0 + 1) 0 (length items + 1) same)
      ∙ ap (λ n. two ∷ map on_rest (range_with_len 0 n)) (sym fewer)))
    where
      first : both_at none (p ∷ q ∷ r ∷ items) (own_row paths.Line (length (p ∷ q ∷ r ∷ items))) 0
          ≡ (record { from = p; to = q })
      first = grind arith

      same : (k : ℕ) → k < length items + 1
          → both_at none (p ∷ q ∷ r ∷ items) (own_row paths.Line (length (p ∷ q ∷ r ∷ items))) (0 + 1 + k)
          ≡ both_at none (q ∷ r ∷ items) (own_row paths.Line (length (q ∷ r ∷ items))) (0 + k)
      same k less = grind arith

-- the points of lines between images
line_points : (ps : List Pt) (hs : List Height) (p q : Pt) (y z : Height) → length hs ≡ length ps
    → all_ends (line_list (points_with_heights (p ∷ q ∷ ps) (y ∷ z ∷ hs))) ≡ line_ends no_point (p ∷ q ∷ ps)
line_points [] [] p q y z each = refl
line_points [] (x ∷ hs) p q y z each = absurd (omega (arith, each))
line_points (r ∷ ps) [] p q y z each = absurd (omega (arith, each))
line_points (r ∷ ps) (x ∷ hs) p q y z each = ap (λ (more : List (Ends Pt)). (record { from = p; to = q }) ∷ more)
    (line_points ps hs q r z x (omega (arith, each))) ∙ sym (one_more no_point p q r ps)

-- the heights of one
pair_level : (some : Bool) (y z : Height) → is_some y ≡ some → is_some z ≡ some
    → both_by no_height (Some paths.Line) (end_heights (rise_again y z))
    ≡ level_again (record { from = y; to = z }) ∷ []
pair_level some None None first second = refl
pair_level some (Some from) (Some to) first second = grind (arith, both_by, no_height, end_heights)
pair_level some None (Some to) first second = absurd (let both : false ≡ true = first ∙ sym second in cc)
pair_level some (Some from) None first second = absurd (let both : true ≡ false = first ∙ sym second in cc)

-- and of all
line_levels : (some : Bool) (ps : List Pt) (hs : List Height) (p q : Pt) (y z : Height) → length hs ≡ length ps
    → AreAll some (y ∷ z ∷ hs)
    → all_heights (line_list (points_with_heights (p ∷ q ∷ ps) (y ∷ z ∷ hs))) ≡ map level_again (line_ends no_height (y ∷ z ∷ hs))
line_levels some [] [] p q y z each all = ap (λ (e : List (Ends Height)). e ++ []) (pair_level some y z all.0 all.1.0)
line_levels some [] (x ∷ hs) p q y z each all = absurd (omega (arith, each))
line_levels some (r ∷ ps) [] p q y z each all = absurd (omega (arith, each))
line_levels some (r ∷ ps) (x ∷ hs) p q y z each all =
    let rest = all_heights (line_list (points_with_heights (q ∷ r ∷ ps) (z ∷ x ∷ hs))) in
    ap (λ (e : List (Ends Height)). e ++ rest) (pair_level some y z all.0 all.1.0)
    ∙ (ap (λ (more : List (Ends Height)). level_again (record { from = y; to = z }) ∷ more)
    (line_levels some ps hs q r z x (omega (arith, each)) all.1)
    ∙ ap (map level_again) (sym (one_more no_height y z x hs)))

-- lines between images are read in the place of the path of these images
pub lines_back : (rise : Option Rise) (ps : List Pt) (hs : List Height) → length hs ≡ length ps → 2 ≤ length ps
    → AreAll (is_some rise) hs → AreBack (line_list (points_with_heights ps hs))
    (record { kind = Some paths.Line; points = ps; heights = heights_for rise ps hs } ∷ [])
lines_back rise [] hs each long all = absurd (omega (arith, long))
lines_back rise (p ∷ []) hs each long all = absurd (omega (arith, long))
lines_back rise (p ∷ q ∷ ps) [] each long all = absurd (omega (arith, each))
lines_back rise (p ∷ q ∷ ps) (y ∷ []) each long all = absurd (omega (arith, each))
lines_back rise (p ∷ q ∷ ps) (y ∷ z ∷ hs) each long all =
    let own = heights_wanted rise (p ∷ q ∷ ps) (y ∷ z ∷ hs) each all in
    record {
      ends = line_points ps hs p q y z (omega (arith, each)) ∙ sym (append-nil (line_ends no_point (p ∷ q ∷ ps)));
      heights = line_levels (is_some rise) ps hs p q y z (omega (arith, each)) all
          ∙ ap (map level_again) (ap (both_by no_height (Some paths.Line)) own
          ∙ sym (append-nil (both_by no_height (Some paths.Line) (heights_for rise (p ∷ q ∷ ps) (y ∷ z ∷ hs)))));
    }

abbrev pub vertices_copied : List ℕ → Entity → Bool → ℕ → List Pt → List Told
vertices_copied bytes entity first next [] = []
vertices_copied bytes entity first next (image ∷ images) =
    copy_told bytes entity (vertex_copy image (new_handle first next))
    ∷ vertices_copied bytes entity false (handle_behind first next) images

pub vertices_added : GroupsFollow → (bytes : List ℕ) (entity : Entity) → IsInLines bytes entity
    → (first : Bool) (next : ℕ) (images : List Pt) → AddsAs (vertex_copies bytes entity first next images)
    (groups_told (vertices_copied bytes entity first next images))
vertices_added follow bytes entity lines first next [] = none_added
vertices_added follow bytes entity lines first next (image ∷ images) =
    let copied = vertex_copy image (new_handle first next) in
    both_added (copy_text bytes copied entity) (vertex_copies bytes entity false (handle_behind first next) images)
    (told_groups (copy_told bytes entity copied))
    (groups_told (vertices_copied bytes entity false (handle_behind first next) images))
    (copy_added follow bytes entity copied lines)
    (vertices_added follow bytes entity lines false (handle_behind first next) images)

pub vertices_walk : (bytes : List ℕ) (how : How) (seed : Option Pair) (entity : Entity) (spot : Read_point)
    → is_of_kind bytes (codes "VERTEX") entity ≡ true → IsVertexRead bytes how.exact seed entity spot
    → (kind : PathKind) (points : List Pt) (first : Bool) (given : ℕ) (images : List Pt) → AllWithin images
    → (more : List Told)
    → walk how (is_seeded seed) (open_line kind points) (vertices_copied bytes entity first given images ++ more)
    ≡ walk how (is_seeded seed) (open_line kind (points ++ images)) more
vertices_walk bytes how seed entity spot is_vertex is kind points first given [] within more =
    ap (λ (ps : List Pt). walk how (is_seeded seed) (open_line kind ps) more) (sym (append-nil points))
vertices_walk bytes how seed entity spot is_vertex is kind points first given (image ∷ images) within more =
    let copied = vertex_copy image (new_handle first given) in
    let point = vertex_copied bytes how.exact seed entity spot copied is within.0 in
    let here : turn how (is_seeded seed) (open_line kind points) (copy_told bytes entity copied)
    ≡ with_more kind points image = rw (is_vertex, point) refl in
    let rest = vertices_copied bytes entity false (handle_behind first given) images in
    turn_walks how (is_seeded seed) (open_line kind points) (copy_told bytes entity copied)
    (record { shapes = []; next = open_line kind (points ++ image ∷ []) }) (rest ++ more) here
    ∙ (sym (none_in_front (walk how (is_seeded seed) (open_line kind (points ++ image ∷ [])) (rest ++ more)))
    ∙ (vertices_walk bytes how seed entity spot is_vertex is kind (points ++ image ∷ []) false
    (handle_behind first given) images within.1 more
    ∙ ap (λ (ps : List Pt). walk how (is_seeded seed) (open_line kind ps) more)
    (append_assoc points (image ∷ []) images)))
