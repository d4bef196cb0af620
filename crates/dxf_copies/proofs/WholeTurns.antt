-- Entities that are written again, kind by kind: points, inserts, texts, lines and vertices.
use Rattle.std.proofs.Common.{◌≡◌, ◌==◌, ℕ, ◌<◌, ℤ, pos, Bool, true, false, refl, ap, sym, ◌∙◌, subst, List, [], ◌∷◌}
use Rattle.std.proofs.Common.{◌++◌, map, flat_map, Option, Some, Ok, arith, codes, ◌+◌, cond, option_map, None, zero}
use Rattle.std.proofs.Common.{suc, ◌-◌, ◌≤◌, length, take, drop, get_or}
use Rattle.std.specs.Prelude.{int_lt, ◌||◌}
use Rattle.std.specs.List.{prefix_len, AllByRecursion}
use Rattle.std.specs.Option.{is_some}
use Rattle.std.proofs.lemmas.List.{append-nil, length-take-le, length-drop, get_or-take, get_or-drop}
use Rattle.std.proofs.lemmas.Bool.Decides.{nat_tests}
use Rattle.std.proofs.lemmas.List.Elements.{recursion_from_All}
use Rattle.mm_decimal.specs.MetresTexts.{mm_text}
use Rattle.plane_base.specs.declared.shapes.Pt.{Pt}
use Rattle.sheet_base.specs.declared.flags.How.{How}
use Rattle.sheet_base.specs.declared.edits.Edit.{Edit}
use Rattle.sheet_base.specs.declared.edits.What.{What}
use Rattle.sheet_base.specs.declared.edits.What.TheVariants as edits
use Rattle.sheet_base.specs.declared.paths.PathKind.TheVariants as paths
use Rattle.sheet_base.specs.declared.faults.LayerFault.TheVariants as faults
use Rattle.sheet_base.specs.ImageFits.{Runs, IsAlone, IsWithinReach, run_begin, images_of, positions_of, path_positions}
use Rattle.sheet_base.specs.Faults.{and_then}
use Rattle.sheet_base.specs.declared.paths.PathKind.{PathKind}
use Rattle.sheet_base.specs.PointHeights.{Height, Position, points_with_heights, IsHeightWithinReach}
use Rattle.sheet_base.proofs.ListParts.{all_parts}
use Rattle.sheet_base.specs.Segments.{no_point}
use Rattle.dxf_pairs.specs.declared.pairs.Pair.{Pair}
use Rattle.dxf_pairs.specs.Groups.{Group, group_in, value_in, groups_of}
use Rattle.dxf_pairs.specs.InLines.{GroupsFollow}
use Rattle.dxf_entities.specs.declared.drawing.PointFields.{PointFields as Read_point}
use Rattle.dxf_entities.specs.Entities.{Entity, is_coded, is_of_kind, entity_end}
use Rattle.dxf_entities.specs.Fields.{entity_fields, wanted_at, zero_at, field_at, not_zero}
use Rattle.dxf_entities.specs.Shapes.{Shape, value_edit, spot_edits}
use Rattle.dxf_entities.specs.Points.{spot_at, dot_of, second_by, second_spot, line_of}
use Rattle.dxf_entities.specs.declared.points.LineFields.{LineFields}
use Rattle.dxf_copies.specs.Rendering.{Reading, image_of, text_of, entity_at, run_of, next_at, vertex_text}
use Rattle.dxf_copies.specs.Rendering.{handle_behind, line_copies, vertex_copies}
use Rattle.dxf_copies.specs.declared.copies.Copied.{Copied}
use Rattle.dxf_copies.specs.PairGroups.{begins_at, covers}
use Rattle.dxf_entities.proofs.Members.{IsIn, Follow, wanted_is, in_taken, lies, went, by_past}
use Rattle.dxf_entities.proofs.GroupShapes.{told, fields_in, groups_in, fields_told, itself, value_wanted, point_at}
use Rattle.dxf_entities.proofs.GroupShapes.{zero_in, zero_told, Outline, flat_outline, is_seeded, dot_outline, Told}
use Rattle.dxf_entities.proofs.GroupShapes.{outlines_in, next, value_at, field_told, not_zero_told, some_point}
use Rattle.dxf_entities.proofs.GroupShapes.{second_in}
use Rattle.dxf_entities.proofs.ChangedFields.{may_change, with_value, changed_fields, Agree, wanted_changed}
use Rattle.dxf_entities.proofs.ChangedFields.{point_changed, agree_by, value_same}
use Rattle.dxf_entities.proofs.OutlineEnds.{imaged_outlines, run_heights, part_length, AreAll}
use Rattle.dxf_copies.proofs.GroupDrawings.{alone, turn_of, ends_sections, IsReadSo, turn_kept, HaveNoHead, IsWritten}
use Rattle.dxf_copies.proofs.GroupDrawings.{one_written, told_groups, AreBack, flat_back, Spot, open_line, walk}
use Rattle.dxf_copies.proofs.GroupDrawings.{none_back, AreOf, IsWhole, AreWholeTold, groups_told, none_in_front}
use Rattle.dxf_copies.proofs.ValueTurns.{stand, stand_silent, AreSilent, IsPlaced, edit_behind, AreSome, IsValueEdit}
use Rattle.dxf_copies.proofs.ValueTurns.{AreValueEdits, own_value, all_valued, others_stay, other_place, first_value}
use Rattle.dxf_copies.proofs.ValueTurns.{later_value, AreGoodImages, image_within, alone_image}
use Rattle.dxf_copies.proofs.SplicedPairs.{AreBody, IsInLines, copy_groups, alone_added}
use Rattle.dxf_copies.proofs.CopyTurns.{HasWanted, spot_wanted, zero_agrees, IsVertexRead, copy_told, AllWithin}
use Rattle.dxf_copies.proofs.CopyTurns.{lines_told, lines_added, line_list, IsLine, lines_walk, AllGood, lines_back}
use Rattle.dxf_copies.proofs.CopyTurns.{vertices_copied, vertices_added, vertices_walk}

-- ---- points, inserts and texts whose values are replaced
-- an entity among the pairs of the drawing
pub record IsSet (bytes : List ℕ) (entity : Entity) : Type 0 where
  pub lines : IsInLines bytes entity
  pub placed : IsPlaced entity.head
  pub is_head : is_coded (pos 0) entity.head ≡ true
  pub follow : Follow entity.head.end entity.pairs (entity_end entity)
  pub some : AreSome entity.pairs

no_heads : (bytes : List ℕ) (value : Pair → List ℕ) (pairs : List Pair) → AreBody bytes pairs
    → HaveNoHead (map (with_value value) pairs)
no_heads bytes value [] body = tt
no_heads bytes value (pair ∷ pairs) body = (body.1.0, no_heads bytes value pairs body.1.1)

head_silent : (head : Pair) (past : ℕ) (pairs : List Pair) → IsPlaced head → Follow head.end pairs past
    → (edits : List Edit) → AreValueEdits pairs edits → AreSilent head edits
head_silent head past pairs placed follow [] are = tt
head_silent head past pairs placed follow (edit ∷ edits) are =
    let at = lies head.end are.0.pair pairs past follow are.0.is_in in (
      edit_behind head edit placed (omega (arith, at.begins, at.code, are.0.start)),
      head_silent head past pairs placed follow edits are.1,
    )

pub in_body : (entity : Entity) (pair : Pair) → IsIn pair (entity_fields entity) → IsIn pair entity.pairs
in_body entity pair is_in = in_taken (prefix_len (λ (p : Pair). int_lt p.code (pos 1000)) entity.pairs) pair
    entity.pairs is_in

-- the groups of the entity with other values
abbrev pub valued : Reading → List Edit → Entity → Told
valued read own entity = record {
  head = group_in read.bytes entity.head;
  groups = map (with_value (own_value read own)) entity.pairs;
}

valued_fields : (read : Reading) (own : List Edit) (entity : Entity)
    → fields_in (valued read own entity).groups ≡ map (with_value (own_value read own)) (entity_fields entity)
valued_fields read own entity = changed_fields (own_value read own) entity

valued_agree : (read : Reading) (entity : Entity) → IsSet read.bytes entity → (own : List Edit)
    → AreValueEdits entity.pairs own → Agree (groups_in read.bytes entity) (fields_in (valued read own entity).groups)
valued_agree read entity set own are =
    subst (λ (old : List Group). Agree old (fields_in (valued read own entity).groups)) (fields_told read.bytes entity)
    (subst (λ (new : List Group). Agree (map (group_in read.bytes) (entity_fields entity)) new)
    (sym (valued_fields read own entity))
    (agree_by read.bytes (own_value read own) (entity_fields entity)
    (others_stay read entity.head.end (entity_end entity) entity.pairs set.follow set.some own are
    (entity_fields entity) (in_body entity))))

-- an entity with only its values replaced
values_written : (read : Reading) (how : How) (seed : Option Pair) (entity : Entity) (shapes : List Shape)
    (own : List Edit) (outs wanted : List Outline) → IsSet read.bytes entity
    → ends_sections (group_in read.bytes entity.head) ≡ false
    → AreValueEdits entity.pairs own → IsReadSo read.bytes how seed entity shapes
    → outlines_in how (is_seeded seed) (valued read own entity) ≡ Some outs → AreBack outs wanted
    → IsWritten (group_in read.bytes entity.head) how (is_seeded seed) alone alone wanted
    (flat_map (stand read own) (entity.head ∷ entity.pairs))
values_written read how seed entity shapes own outs wanted set goes_on are is made back =
    let turn = turn_kept read.bytes how seed entity shapes (valued read own entity).groups outs is
    (valued_agree read entity set own are) made in
    let head : stand read own entity.head ≡ group_in read.bytes entity.head ∷ [] =
    stand_silent read entity.head own (head_silent entity.head (entity_end entity) entity.pairs set.placed
    set.follow own are) in
    let body : flat_map (stand read own) entity.pairs ≡ (valued read own entity).groups =
    all_valued read entity.head.end (entity_end entity) entity.pairs set.follow set.some own are in
    let groups : flat_map (stand read own) (entity.head ∷ entity.pairs) ≡ told_groups (valued read own entity) = cc in
    subst (IsWritten (group_in read.bytes entity.head) how (is_seeded seed) alone alone wanted) (sym groups)
    (one_written how (is_seeded seed) alone (valued read own entity) (turn_of outs) wanted
    (record {
      head = set.is_head;
      goes_on = goes_on;
      body = no_heads read.bytes (own_value read own) entity.pairs set.lines.body;
    }) turn back)

-- an edit of a wanted field
pub wanted_edit : (entity : Entity) (code : ℤ) (what : What) (pair : Pair) → wanted_at code entity ≡ Ok pair
    → may_change code ≡ true → IsValueEdit entity.pairs (value_edit what pair)
wanted_edit entity code what pair is changes =
    let has = wanted_is code entity pair is in
    record {
      pair = pair;
      is_in = in_body entity pair has.is_in;
      changes = ap may_change has.coded ∙ changes;
      start = refl;
      end = refl;
    }

-- two wanted fields of different codes
wanted_apart : (bytes : List ℕ) (entity : Entity) → IsSet bytes entity → (code other : ℤ) (pair second : Pair)
    → wanted_at code entity ≡ Ok pair → wanted_at other entity ≡ Ok second → (code ≡ other → ⊥)
    → (second.value == pair.value) ≡ false
wanted_apart bytes entity set code other pair second is is_too differs = grind (arith, wanted_is, other_place, in_body)

-- the point of two fields whose values are images
point_valued : (read : Reading) (exact : Bool) (x y : ℤ) (entity : Entity) (own : List Edit) (spot : Read_point)
    (point : Pt) → HasWanted x y entity spot → IsWithinReach point
    → own_value read own spot.x.pair ≡ mm_text point.x → own_value read own spot.y.pair ≡ mm_text point.y
    → point_at exact x y (fields_in (valued read own entity).groups) ≡ Some point
point_valued read exact x y entity own spot point has within east north =
    let fields = valued_fields read own entity in
    point_changed exact x y (fields_in (valued read own entity).groups) point within
    (ap (value_wanted x) fields ∙ (wanted_changed (own_value read own) x entity spot.x.pair has.east ∙ ap Some east))
    (ap (value_wanted y) fields ∙ (wanted_changed (own_value read own) y entity spot.y.pair has.north ∙ ap Some north))

-- the image of one dot
dot_wanted : (images : Runs) (count n : ℕ) → AreGoodImages images count → n < count → IsAlone images n
    → (spot : Read_point) → imaged_outlines images n (dot_of spot ∷ []) ≡ dot_outline (image_of images n) ∷ []
dot_wanted images count n good inside lone spot = ap (λ (points : List Pt). flat_outline (Some paths.Dot) points ∷ [])
    (alone_image images count n good inside lone)

one_back : (images : Runs) (count n : ℕ) → AreGoodImages images count → n < count → IsAlone images n
    → (spot : Read_point) → AreBack (dot_outline (image_of images n) ∷ []) (imaged_outlines images n (dot_of spot ∷ []))
one_back images count n good inside lone spot =
    flat_back (dot_outline (image_of images n) ∷ []) (imaged_outlines images n (dot_of spot ∷ [])) (refl, tt)
    (dot_wanted images count n good inside lone spot)

-- the point of an entity with one spot
one_spot : (read : Reading) (exact : Bool) (entity : Entity) (spot : Read_point) (count n : ℕ)
    → IsSet read.bytes entity → spot_at read.bytes exact (pos 10) (pos 20) entity ≡ Ok spot
    → AreGoodImages read.images count → n < count
    → point_at exact (pos 10) (pos 20) (fields_in (valued read (spot_edits n spot) entity).groups)
    ≡ Some (image_of read.images n)
one_spot read exact entity spot count n set is good inside =
    let has = spot_wanted read.bytes exact (pos 10) (pos 20) entity spot is in
    let apart = wanted_apart read.bytes entity set (pos 20) (pos 10) spot.y.pair spot.x.pair has.north has.east
    (λ is. cc) in point_valued read exact (pos 10) (pos 20) entity (spot_edits n spot) spot (image_of read.images n) has
    (image_within read.images count n good inside)
    (first_value read (edits.X n) spot.x.pair (value_edit (edits.Y n) spot.y.pair ∷ []))
    (later_value read (edits.X n) spot.y.pair spot.x.pair (value_edit (edits.Y n) spot.y.pair ∷ []) apart
    ∙ first_value read (edits.Y n) spot.y.pair [])

pub spot_value_edits : (read : Reading) (exact : Bool) (x y : ℤ) (entity : Entity) (spot : Read_point) (n : ℕ)
    → HasWanted x y entity spot → may_change x ≡ true → may_change y ≡ true → (more : List Edit)
    → AreValueEdits entity.pairs more → AreValueEdits entity.pairs (spot_edits n spot ++ more)
spot_value_edits read exact x y entity spot n has one two more are = grind (arith, wanted_edit)

-- a point
pub point_written : (read : Reading) (how : How) (seed : Option Pair) (entity : Entity) (spot : Read_point)
    (count n : ℕ) → IsSet read.bytes entity → ends_sections (group_in read.bytes entity.head) ≡ false
    → IsReadSo read.bytes how seed entity (dot_of spot ∷ []) → is_of_kind read.bytes (codes "POINT") entity ≡ true
    → spot_at read.bytes how.exact (pos 10) (pos 20) entity ≡ Ok spot
    → AreGoodImages read.images count → n < count → IsAlone read.images n
    → IsWritten (group_in read.bytes entity.head) how (is_seeded seed) alone alone
    (imaged_outlines read.images n (dot_of spot ∷ []))
    (flat_map (stand read (spot_edits n spot)) (entity.head ∷ entity.pairs))
point_written read how seed entity spot count n set goes_on is kind spot_is good inside lone =
    let has = spot_wanted read.bytes how.exact (pos 10) (pos 20) entity spot spot_is in
    let are = spot_value_edits read how.exact (pos 10) (pos 20) entity spot n has refl refl [] tt in
    let point = one_spot read how.exact entity spot count n set spot_is good inside in
    values_written read how seed entity (dot_of spot ∷ []) (spot_edits n spot)
    (dot_outline (image_of read.images n) ∷ []) (imaged_outlines read.images n (dot_of spot ∷ [])) set goes_on are
    is
    (rw (kind, point) refl) (one_back read.images count n good inside lone spot)

-- which kind an entity is not
pub record IsInsert (bytes : List ℕ) (entity : Entity) : Type 0 where
  pub no_point : is_of_kind bytes (codes "POINT") entity ≡ false
  pub no_line : is_of_kind bytes (codes "LINE") entity ≡ false
  pub no_light : is_of_kind bytes (codes "LWPOLYLINE") entity ≡ false
  pub no_text : is_of_kind bytes (codes "TEXT") entity ≡ false

-- an insert
pub insert_written : (read : Reading) (how : How) (seed : Option Pair) (entity : Entity) (spot : Read_point)
    (count n : ℕ) → IsSet read.bytes entity → ends_sections (group_in read.bytes entity.head) ≡ false
    → IsReadSo read.bytes how seed entity (dot_of spot ∷ [])
    → IsInsert read.bytes entity → zero_at read.bytes faults.Attribs (pos 66) entity ≡ Ok tt
    → spot_at read.bytes how.exact (pos 10) (pos 20) entity ≡ Ok spot → AreGoodImages read.images count → n < count
    → IsAlone read.images n → IsWritten (group_in read.bytes entity.head) how (is_seeded seed) alone alone
    (imaged_outlines read.images n (dot_of spot ∷ []))
    (flat_map (stand read (spot_edits n spot)) (entity.head ∷ entity.pairs))
insert_written read how seed entity spot count n set goes_on is kind none spot_is good inside lone =
    let has = spot_wanted read.bytes how.exact (pos 10) (pos 20) entity spot spot_is in
    let are = spot_value_edits read how.exact (pos 10) (pos 20) entity spot n has refl refl [] tt in
    let new = fields_in (valued read (spot_edits n spot) entity).groups in
    let point = one_spot read how.exact entity spot count n set spot_is good inside in
    let attribs : zero_in (pos 66) new ≡ Some tt =
    zero_agrees (groups_in read.bytes entity) new (pos 66) (valued_agree read entity set (spot_edits n spot) are) refl
    ∙ (sym (zero_told read.bytes faults.Attribs (pos 66) entity) ∙ ap (told itself) none) in
    let a = kind.no_point in
    let b = kind.no_line in
    let c = kind.no_light in
    let d = kind.no_text in values_written read how seed entity (dot_of spot ∷ []) (spot_edits n spot)
    (dot_outline (image_of read.images n) ∷ []) (imaged_outlines read.images n (dot_of spot ∷ [])) set goes_on are
    is
    (rw (a, b, c, d, attribs, point) refl) (one_back read.images count n good inside lone spot)

-- ---- texts whose values are replaced
-- the second point of a text, as it was looked up
pub record IsSecond (bytes : List ℕ) (exact : Bool) (entity : Entity) (second : Option Read_point) : Type 0 where
  pub across : Option Pair
  pub across_is : field_at (pos 72) entity ≡ Ok across
  pub along : Option Pair
  pub along_is : field_at (pos 73) entity ≡ Ok along
  pub by : second_by bytes exact entity across along ≡ Ok second

pub is_second : (bytes : List ℕ) (exact : Bool) (entity : Entity) (second : Option Read_point)
    → second_spot bytes exact entity ≡ Ok second → IsSecond bytes exact entity second
is_second bytes exact entity second is = grind (arith, went)

-- it is read again, where its two numbers are images
second_again : (bytes : List ℕ) (exact : Bool) (entity : Entity) (second : Option Read_point) (new : List Group)
    (image : Pt) → IsSecond bytes exact entity second → Agree (groups_in bytes entity) new
    → ((spot : Read_point) → second ≡ Some spot → spot_at bytes exact (pos 11) (pos 21) entity ≡ Ok spot
    → point_at exact (pos 11) (pos 21) new ≡ Some image)
    → second_in exact new ≡ Some (option_map (λ (spot : Read_point). image) second)
second_again bytes exact entity second new image is agree again =
    let across : value_at (pos 72) new ≡ Some (option_map (value_in bytes) is.across) =
    value_same (groups_in bytes entity) new (pos 72) agree refl
    ∙ (sym (field_told bytes (pos 72) entity) ∙ ap (told (option_map (value_in bytes))) is.across_is) in
    let along : value_at (pos 73) new ≡ Some (option_map (value_in bytes) is.along) =
    value_same (groups_in bytes entity) new (pos 73) agree refl
    ∙ (sym (field_told bytes (pos 73) entity) ∙ ap (told (option_map (value_in bytes))) is.along_is) in
    rw (across, along, ← not_zero_told bytes is.across, ← not_zero_told bytes is.along)
    (by_test (not_zero bytes is.across || not_zero bytes is.along) is.by) where
      by_test : (wanted : Bool) → cond wanted (and_then (λ (spot : Read_point). Ok (Some spot))
          (spot_at bytes exact (pos 11) (pos 21) entity)) (Ok None) ≡ Ok second
          → cond wanted (next some_point (point_at exact (pos 11) (pos 21) new)) (Some None)
          ≡ Some (option_map (λ (spot : Read_point). image) second)
      by_test true made =
          let found = went (λ (spot : Read_point). Ok (Some spot)) (spot_at bytes exact (pos 11) (pos 21) entity) second
          made in
          let some : second ≡ Some found.value = cc in
          let point = again found.value some found.is in grind arith
      by_test false made = let none : second ≡ None = cc in rw none refl

abbrev pub no_point_kinds : List ℕ → Entity → Type 0
no_point_kinds bytes entity = (is_of_kind bytes (codes "POINT") entity ≡ false)
    × ((is_of_kind bytes (codes "LINE") entity ≡ false) × (is_of_kind bytes (codes "LWPOLYLINE") entity ≡ false))

-- a text with one point
pub text_written : (read : Reading) (how : How) (seed : Option Pair) (entity : Entity) (spot : Read_point) (count n : ℕ)
    → IsSet read.bytes entity → ends_sections (group_in read.bytes entity.head) ≡ false
    → IsReadSo read.bytes how seed entity (dot_of spot ∷ [])
    → no_point_kinds read.bytes entity → is_of_kind read.bytes (codes "TEXT") entity ≡ true
    → spot_at read.bytes how.exact (pos 10) (pos 20) entity ≡ Ok spot → IsSecond read.bytes how.exact entity None
    → AreGoodImages read.images count → n < count → IsAlone read.images n
    → IsWritten (group_in read.bytes entity.head) how (is_seeded seed) alone alone
    (imaged_outlines read.images n (dot_of spot ∷ []))
    (flat_map (stand read (spot_edits n spot)) (entity.head ∷ entity.pairs))
text_written read how seed entity spot count n set goes_on is kinds kind spot_is second good inside lone =
    let has = spot_wanted read.bytes how.exact (pos 10) (pos 20) entity spot spot_is in
    let are = spot_value_edits read how.exact (pos 10) (pos 20) entity spot n has refl refl [] tt in
    let new = fields_in (valued read (spot_edits n spot) entity).groups in
    let point = one_spot read how.exact entity spot count n set spot_is good inside in
    let none : second_in how.exact new ≡ Some None =
    second_again read.bytes how.exact entity None new (image_of read.images n) second
    (valued_agree read entity set (spot_edits n spot) are) (λ other some is_at. absurd (cc)) in
    let a = kinds.0 in
    let b = kinds.1.0 in
    let c = kinds.1.1 in values_written read how seed entity (dot_of spot ∷ []) (spot_edits n spot)
    (dot_outline (image_of read.images n) ∷ []) (imaged_outlines read.images n (dot_of spot ∷ [])) set goes_on are
    is
    (rw (a, b, c, kind, point, none) refl) (one_back read.images count n good inside lone spot)

-- the codes of the numbers of two points differ
twenty_ten_apart : pos 20 ≡ pos 10 → ⊥
twenty_ten_apart is = cc

eleven_ten_apart : pos 11 ≡ pos 10 → ⊥
eleven_ten_apart is = cc

eleven_twenty_apart : pos 11 ≡ pos 20 → ⊥
eleven_twenty_apart is = cc

end_ten_apart : pos 21 ≡ pos 10 → ⊥
end_ten_apart is = cc

end_twenty_apart : pos 21 ≡ pos 20 → ⊥
end_twenty_apart is = cc

end_eleven_apart : pos 21 ≡ pos 11 → ⊥
end_eleven_apart is = cc

-- a text with two points
pub text_both : (read : Reading) (how : How) (seed : Option Pair) (entity : Entity) (spot second : Read_point)
    (count n : ℕ) → IsSet read.bytes entity → ends_sections (group_in read.bytes entity.head) ≡ false
    → IsReadSo read.bytes how seed entity (dot_of spot ∷ dot_of second ∷ []) → no_point_kinds read.bytes entity
    → is_of_kind read.bytes (codes "TEXT") entity ≡ true
    → spot_at read.bytes how.exact (pos 10) (pos 20) entity ≡ Ok spot
    → spot_at read.bytes how.exact (pos 11) (pos 21) entity ≡ Ok second
    → IsSecond read.bytes how.exact entity (Some second) → AreGoodImages read.images count → n + 1 < count
    → IsAlone read.images n → IsAlone read.images (n + 1)
    → IsWritten (group_in read.bytes entity.head) how (is_seeded seed) alone alone
    (imaged_outlines read.images n (dot_of spot ∷ dot_of second ∷ []))
    (flat_map (stand read (spot_edits n spot ++ spot_edits (n + 1) second)) (entity.head ∷ entity.pairs))
text_both read how seed entity spot second count n set goes_on is kinds kind spot_is second_is seconds good inside lone
    lone_too =
    let own = spot_edits n spot ++ spot_edits (n + 1) second in
    let has = spot_wanted read.bytes how.exact (pos 10) (pos 20) entity spot spot_is in
    let has_too = spot_wanted read.bytes how.exact (pos 11) (pos 21) entity second second_is in
    let are : AreValueEdits entity.pairs own =
    spot_value_edits read how.exact (pos 10) (pos 20) entity spot n has refl refl (spot_edits (n + 1) second)
    (spot_value_edits read how.exact (pos 11) (pos 21) entity second (n + 1) has_too refl refl [] tt) in
    let new = fields_in (valued read own entity).groups in
    let apart : (spot.x.pair.value == spot.y.pair.value) ≡ false =
    wanted_apart read.bytes entity set (pos 20) (pos 10) spot.y.pair spot.x.pair has.north has.east twenty_ten_apart in
    let east_x : (spot.x.pair.value == second.x.pair.value) ≡ false =
    wanted_apart read.bytes entity set (pos 11) (pos 10) second.x.pair spot.x.pair has_too.east has.east
    eleven_ten_apart in
    let east_y : (spot.y.pair.value == second.x.pair.value) ≡ false =
    wanted_apart read.bytes entity set (pos 11) (pos 20) second.x.pair spot.y.pair has_too.east has.north
    eleven_twenty_apart in
    let north_x : (spot.x.pair.value == second.y.pair.value) ≡ false =
    wanted_apart read.bytes entity set (pos 21) (pos 10) second.y.pair spot.x.pair has_too.north has.east
    end_ten_apart in
    let north_y : (spot.y.pair.value == second.y.pair.value) ≡ false =
    wanted_apart read.bytes entity set (pos 21) (pos 20) second.y.pair spot.y.pair has_too.north has.north
    end_twenty_apart in
    let north_east : (second.x.pair.value == second.y.pair.value) ≡ false =
    wanted_apart read.bytes entity set (pos 21) (pos 11) second.y.pair second.x.pair has_too.north has_too.east
    end_eleven_apart in
    let y_edits = value_edit (edits.Y n) spot.y.pair ∷ spot_edits (n + 1) second in
    let y_edit = value_edit (edits.Y (n + 1)) second.y.pair ∷ [] in
    let point : point_at how.exact (pos 10) (pos 20) new ≡ Some (image_of read.images n) =
    point_valued read how.exact (pos 10) (pos 20) entity own spot (image_of read.images n) has
    (image_within read.images count n good (omega arith))
    (first_value read (edits.X n) spot.x.pair y_edits)
    (later_value read (edits.X n) spot.y.pair spot.x.pair y_edits apart
    ∙ first_value read (edits.Y n) spot.y.pair (spot_edits (n + 1) second)) in
    let other : point_at how.exact (pos 11) (pos 21) new ≡ Some (image_of read.images (n + 1)) =
    point_valued read how.exact (pos 11) (pos 21) entity own second (image_of read.images (n + 1)) has_too
    (image_within read.images count (n + 1) good inside)
    (later_value read (edits.X n) second.x.pair spot.x.pair y_edits east_x
    ∙ (later_value read (edits.Y n) second.x.pair spot.y.pair (spot_edits (n + 1) second) east_y
    ∙ first_value read (edits.X (n + 1)) second.x.pair y_edit))
    (later_value read (edits.X n) second.y.pair spot.x.pair y_edits north_x
    ∙ (later_value read (edits.Y n) second.y.pair spot.y.pair (spot_edits (n + 1) second) north_y
    ∙ (later_value read (edits.X (n + 1)) second.y.pair second.x.pair y_edit north_east
    ∙ first_value read (edits.Y (n + 1)) second.y.pair []))) in
    let both : second_in how.exact new ≡ Some (Some (image_of read.images (n + 1))) =
    second_again read.bytes how.exact entity (Some second) new (image_of read.images (n + 1)) seconds
    (valued_agree read entity set own are) (λ found some is_at. other) in
    let a = kinds.0 in
    let b = kinds.1.0 in
    let c = kinds.1.1 in
    let image : imaged_outlines read.images n (dot_of spot ∷ dot_of second ∷ []) ≡ dot_outline (image_of read.images n)
    ∷ dot_outline (image_of read.images (n + 1)) ∷ [] = ap (λ (points : List Pt). flat_outline (Some paths.Dot) points
    ∷ imaged_outlines read.images (n + 1) (dot_of second ∷ []))
    (alone_image read.images count n good (omega arith) lone)
    ∙ ap (λ (more : List Outline). dot_outline (image_of read.images n) ∷ more)
    (dot_wanted read.images count (n + 1) good inside lone_too second) in
    values_written read how seed entity (dot_of spot ∷ dot_of second ∷ []) own
    (dot_outline (image_of read.images n) ∷ dot_outline (image_of read.images (n + 1)) ∷ [])
    (imaged_outlines read.images n (dot_of spot ∷ dot_of second ∷ [])) set goes_on are is
    (rw (a, b, c, kind, point, both) refl) (flat_back
    (dot_outline (image_of read.images n) ∷ dot_outline (image_of read.images (n + 1)) ∷ [])
    (imaged_outlines read.images n (dot_of spot ∷ dot_of second ∷ [])) (refl, (refl, tt)) image)

-- ---- entities in whose place copies are, or nothing
-- an edit of the whole entity
abbrev pub whole_of : Entity → What → Edit
whole_of entity what = record { start = entity.head.start; end = entity_end entity; what = what }

-- all pairs after the head are covered
none_of_body : (read : Reading) (start past from : ℕ) (what : What) (pairs : List Pair) → start < from
    → Follow from pairs past → flat_map (stand read (record { start = start; end = past; what = what } ∷ [])) pairs ≡ []
none_of_body read start past from what [] before follow = refl
none_of_body read start past from what (pair ∷ pairs) before follow =
    let edit : Edit = record { start = start; end = past; what = what } in
    let rest = by_past pair.end pairs past follow.4 in
    let begins : begins_at pair edit ≡ false = grind (arith, nat_tests, before, follow.0) in
    let over : pair.start < past = omega (arith, follow.1, follow.2, follow.3, rest) in
    let under : start < pair.start = omega (arith, before, follow.0) in
    let covering : covers pair edit ≡ true = grind (arith, nat_tests, under, over) in
    let later = none_of_body read start past pair.end what pairs
    (omega (arith, before, follow.0, follow.1, follow.2, follow.3)) follow.4 in cc

-- what stands for the pairs of the entity is the edit's text
whole_stand : (read : Reading) (entity : Entity) (what : What) → IsSet read.bytes entity
    → flat_map (stand read (whole_of entity what ∷ [])) (entity.head ∷ entity.pairs)
    ≡ groups_of (text_of read (whole_of entity what))
whole_stand read entity what set =
    let edit = whole_of entity what in
    let rest = by_past entity.head.end entity.pairs (entity_end entity) set.follow in
    let c = set.placed.code in
    let s = set.placed.some in
    let begins : begins_at entity.head edit ≡ true = grind (arith, nat_tests) in
    let over : entity.head.start < entity_end entity = omega arith in
    let covering : covers entity.head edit ≡ true = grind (arith, nat_tests, over) in
    let later = none_of_body read entity.head.start (entity_end entity) entity.head.end what entity.pairs (omega arith)
    set.follow in grind (arith, append-nil)

pub grouped_no_head : (bytes : List ℕ) (pairs : List Pair) → AreBody bytes pairs
    → HaveNoHead (map (group_in bytes) pairs)
grouped_no_head bytes [] body = tt
grouped_no_head bytes (pair ∷ pairs) body = (body.1.0, grouped_no_head bytes pairs body.1.1)

copied_no_head : (bytes : List ℕ) (copied : Copied) (fields pairs : List Pair) → AreBody bytes pairs
    → HaveNoHead (copy_groups bytes copied fields pairs)
copied_no_head bytes copied [] pairs body = grouped_no_head bytes pairs body
copied_no_head bytes copied (field ∷ fields) [] body = tt
copied_no_head bytes copied (field ∷ fields) (pair ∷ pairs) body =
    (body.1.0, copied_no_head bytes copied fields pairs body.1.1)

copy_whole : (bytes : List ℕ) (entity : Entity) (copied : Copied) → IsSet bytes entity
    → ends_sections (group_in bytes entity.head) ≡ false → IsWhole (copy_told bytes entity copied)
copy_whole bytes entity copied set goes_on = grind (arith, copied_no_head)

lines_whole : (bytes : List ℕ) (entity : Entity) → IsSet bytes entity
    → ends_sections (group_in bytes entity.head) ≡ false → (first : Bool) (given : ℕ) (images : List Position)
    → AreWholeTold (lines_told bytes entity first given images)
lines_whole bytes entity set goes_on first given [] = tt
lines_whole bytes entity set goes_on first given (from ∷ []) = tt
lines_whole bytes entity set goes_on first given (from ∷ to ∷ images) =
    grind (arith, copy_whole, (lines_whole bytes entity set goes_on false (handle_behind first given) (to ∷ images)))

vertices_whole : (bytes : List ℕ) (entity : Entity) → IsSet bytes entity
    → ends_sections (group_in bytes entity.head) ≡ false → (first : Bool) (given : ℕ) (images : List Pt)
    → AreWholeTold (vertices_copied bytes entity first given images)
vertices_whole bytes entity set goes_on first given [] = tt
vertices_whole bytes entity set goes_on first given (image ∷ images) =
    grind (arith, copy_whole, (vertices_whole bytes entity set goes_on false (handle_behind first given) images))

lines_of_head : (bytes : List ℕ) (entity : Entity) (first : Bool) (given : ℕ) (images : List Position)
    → AreOf (group_in bytes entity.head) (lines_told bytes entity first given images)
lines_of_head bytes entity first given [] = tt
lines_of_head bytes entity first given (from ∷ []) = tt
lines_of_head bytes entity first given (from ∷ to ∷ images) =
    (refl, lines_of_head bytes entity false (handle_behind first given) (to ∷ images))

vertices_of_head : (bytes : List ℕ) (entity : Entity) (first : Bool) (given : ℕ) (images : List Pt)
    → AreOf (group_in bytes entity.head) (vertices_copied bytes entity first given images)
vertices_of_head bytes entity first given [] = tt
vertices_of_head bytes entity first given (image ∷ images) =
    (refl, vertices_of_head bytes entity false (handle_behind first given) images)

-- all images of a range are in reach
all_within : (points : List Pt) → ((k : ℕ) → k < length points → IsWithinReach (get_or points k no_point))
    → AllWithin points
all_within [] each = tt
all_within (point ∷ points) each = (each 0 (omega arith), all_within points (λ k less. each (suc k) (omega arith)))

pub range_within : (images : Runs) (count first past : ℕ) → AreGoodImages images count → first < past → past ≤ count
    → AllWithin (images_of images first past)
range_within images count first past good order inside =
    grind (arith, length-drop, length-take-le, all_within, get_or-take, get_or-drop)

range_long : (images : Runs) (count first past more : ℕ) → AreGoodImages images count → first + more ≡ past
    → past ≤ count → more ≤ run_begin images past - run_begin images first
range_long images count first past zero good is inside = omega arith
range_long images count first past (suc more) good is inside =
    grind (arith, (range_long images count first (first + more) more good refl (omega arith)))

-- ---- images with their heights
paired_none : (ps : List Pt) → points_with_heights ps [] ≡ []
paired_none [] = refl
paired_none (p ∷ ps) = refl

paired_taken : (n : ℕ) (ps : List Pt) (hs : List Height) → take n (points_with_heights ps hs) ≡ points_with_heights (take n ps) (take n hs)
paired_taken zero ps hs = refl
paired_taken (suc n) [] hs = refl
paired_taken (suc n) (p ∷ ps) [] = refl
paired_taken (suc n) (p ∷ ps) (h ∷ hs) =
    ap (λ (more : List Position). (record { point = p; height = h }) ∷ more) (paired_taken n ps hs)

paired_dropped : (n : ℕ) (ps : List Pt) (hs : List Height) → drop n (points_with_heights ps hs) ≡ points_with_heights (drop n ps) (drop n hs)
paired_dropped zero ps hs = refl
paired_dropped (suc n) [] hs = refl
paired_dropped (suc n) (p ∷ ps) [] = sym (paired_none (drop n ps))
paired_dropped (suc n) (p ∷ ps) (h ∷ hs) = paired_dropped n ps hs

-- those of a range are its images with their heights
positions_are : (images : Runs) (first past : ℕ)
    → positions_of images first past ≡ points_with_heights (images_of images first past) (run_heights images first past)
positions_are images first past = grind (arith, paired_dropped, paired_taken)

abbrev AllReached : List Height → Type 0
AllReached heights = AllByRecursion IsHeightWithinReach heights

paired_good : (some : Bool) (ps : List Pt) (hs : List Height) → length hs ≡ length ps → AllWithin ps
    → AreAll some hs → AllReached hs → AllGood some (points_with_heights ps hs)
paired_good some [] hs each within all reached = tt
paired_good some (p ∷ ps) [] each within all reached = absurd (omega (arith, each))
paired_good some (p ∷ ps) (h ∷ hs) each within all reached =
    grind (arith, (paired_good some ps hs (omega (arith, each)) within.1 all.1 reached.1))

heights_reached : (images : Runs) (count first past : ℕ) → AreGoodImages images count
    → AllReached (run_heights images first past)
heights_reached images count first past good =
    let begins = run_begin images first in
    let behind = all_parts IsHeightWithinReach begins images.heights
    (recursion_from_All IsHeightWithinReach images.heights good.heights_reach) in grind (arith, all_parts)

-- a line that is copied
pub line_written : GroupsFollow → (read : Reading) (how : How) (seed : Option Pair) (entity : Entity)
    (ends : LineFields) (count path n : ℕ) → IsSet read.bytes entity
    → ends_sections (group_in read.bytes entity.head) ≡ false
    → IsLine read.bytes how seed entity ends → entity_at read entity.head.start ≡ Some entity
    → path_positions read.sheet.paths read.images path ≡ positions_of read.images n (n + 2)
    → AreGoodImages read.images count → n + 2 ≤ count → AreAll (is_some ends.rise) (run_heights read.images n (n + 2))
    → IsWritten (group_in read.bytes entity.head) how (is_seeded seed) alone alone
    (imaged_outlines read.images n (line_of entity ends.begin ends.end ends.rise ∷ []))
    (flat_map (stand read (whole_of entity (edits.Lines path) ∷ [])) (entity.head ∷ entity.pairs))
line_written follow read how seed entity ends count path n set goes_on is found are good inside all =
    let given = next_at read entity.head.start in
    let points = images_of read.images n (n + 2) in
    let heights = run_heights read.images n (n + 2) in
    let images = points_with_heights points heights in
    let text : text_of read (whole_of entity (edits.Lines path)) ≡ line_copies read.bytes entity true given images =
    grind (arith, positions_are) in
    let groups : flat_map (stand read (whole_of entity (edits.Lines path) ∷ [])) (entity.head ∷ entity.pairs)
    ≡ groups_told (lines_told read.bytes entity true given images) = whole_stand read entity (edits.Lines path) set
    ∙ (ap groups_of text ∙ alone_added (line_copies read.bytes entity true given images)
    (groups_told (lines_told read.bytes entity true given images))
    (lines_added follow read.bytes entity set.lines true given images)) in
    let rest = length-drop (run_begin read.images n) read.images.points in
    let room = good.runs.inside (n + 2) inside in
    let size : length points ≡ run_begin read.images (n + 2) - run_begin read.images n =
    length-take-le (run_begin read.images (n + 2) - run_begin read.images n)
    (drop (run_begin read.images n) read.images.points) (omega arith) in
    let long : 2 ≤ length points = omega (arith, size, range_long read.images count n (n + 2) 2 good refl inside) in
    let each = part_length read.images.heights read.images.points (run_begin read.images n)
    (run_begin read.images (n + 2)) good.height_each in
    record {
      entities = lines_told read.bytes entity true given images;
      are = groups;
      whole = lines_whole read.bytes entity set goes_on true given images;
      heads = lines_of_head read.bytes entity true given images;
      outs = line_list images;
      walks = lines_walk read.bytes how seed entity ends is true given images
          (paired_good (is_some ends.rise) points heights each
          (range_within read.images count n (n + 2) good (omega arith) inside) all
          (heights_reached read.images count n (n + 2) good));
      same = lines_back ends.rise points heights each long all;
    }

-- an entity that is left out
pub dropped_written : (read : Reading) (how : How) (seeded : Bool) (spot : Spot) (entity : Entity)
    (wanted : List Outline) → IsSet read.bytes entity → AreBack [] wanted
    → IsWritten (group_in read.bytes entity.head) how seeded spot spot wanted
    (flat_map (stand read (whole_of entity edits.Drop ∷ [])) (entity.head ∷ entity.pairs))
dropped_written read how seeded spot entity wanted set back = record {
  entities = [];
  are = whole_stand read entity edits.Drop set;
  whole = tt;
  heads = tt;
  outs = [];
  walks = λ more. none_in_front (walk how seeded spot more);
  same = back;
}

-- the vertex of a polyline that is copied
pub vertex_written : GroupsFollow → (read : Reading) (how : How) (seed : Option Pair) (entity : Entity)
    (spot : Read_point) (kind : PathKind) (points : List Pt) (count n : ℕ) → IsSet read.bytes entity
    → ends_sections (group_in read.bytes entity.head) ≡ false
    → is_of_kind read.bytes (codes "VERTEX") entity ≡ true → IsVertexRead read.bytes how.exact seed entity spot
    → entity_at read entity.head.start ≡ Some entity → AreGoodImages read.images count → n < count
    → IsWritten (group_in read.bytes entity.head) how (is_seeded seed) (open_line kind points)
    (open_line kind (points ++ run_of read.images n)) []
    (flat_map (stand read (whole_of entity (edits.Vertex n) ∷ [])) (entity.head ∷ entity.pairs))
vertex_written follow read how seed entity spot kind points count n set goes_on is_vertex is found good inside =
    let given = next_at read entity.head.start in
    let images = run_of read.images n in
    let text : text_of read (whole_of entity (edits.Vertex n)) ≡ vertex_copies read.bytes entity true given images =
    ap (λ (e : Option Entity). vertex_text read given e n) found in
    let groups : flat_map (stand read (whole_of entity (edits.Vertex n) ∷ [])) (entity.head ∷ entity.pairs)
    ≡ groups_told (vertices_copied read.bytes entity true given images) = whole_stand read entity (edits.Vertex n) set
    ∙ (ap groups_of text ∙ alone_added (vertex_copies read.bytes entity true given images)
    (groups_told (vertices_copied read.bytes entity true given images))
    (vertices_added follow read.bytes entity set.lines true given images)) in
    record {
      entities = vertices_copied read.bytes entity true given images;
      are = groups;
      whole = vertices_whole read.bytes entity set goes_on true given images;
      heads = vertices_of_head read.bytes entity true given images;
      outs = [];
      walks = grind (arith, vertices_walk, range_within, none_in_front, walk, is_seeded, open_line);
      same = none_back;
    }
