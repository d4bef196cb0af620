-- What is written of a polyline with vertices in fields is read again.
use Rattle.std.proofs.Common.{◌≡◌, ◌==◌, ℕ, ◌+◌, ◌<◌, ◌≤◌, Bool, true, false, cond, refl, ap, sym, ◌∙◌, subst, List, []}
use Rattle.std.proofs.Common.{◌∷◌, ◌++◌, filter, flat_map, arith, inl, inr, zero, suc, ◌-◌, ◌^◌, pos, map, length, take}
use Rattle.std.proofs.Common.{drop, get_or, Option, Some, Ok, Err, codes}
use Rattle.std.specs.Prelude.{◌⊎◌}
use Rattle.std.proofs.lemmas.List.{append_assoc, append-nil, length-drop, length-take-le, take-append-drop, length-map}
use Rattle.std.proofs.lemmas.Bool.Decides.{nat_tests}
use Rattle.std.specs.Fmt.{digits}
use Rattle.plane_base.specs.declared.shapes.Pt.{Pt}
use Rattle.sheet_base.specs.declared.edits.Edit.{Edit}
use Rattle.sheet_base.specs.declared.edits.What.TheVariants as edits
use Rattle.sheet_base.specs.declared.flags.How.{How}
use Rattle.sheet_base.specs.declared.paths.PathKind.{PathKind}
use Rattle.sheet_base.specs.declared.faults.LayerFault.TheVariants.{Count}
use Rattle.sheet_base.specs.ImageFits.{Runs, run_begin, images_of}
use Rattle.sheet_base.specs.Segments.{no_point}
use Rattle.dxf_pairs.specs.declared.pairs.Pair.{Pair}
use Rattle.dxf_pairs.specs.Groups.{Group, group_in}
use Rattle.dxf_pairs.specs.Laws.{AreTiles}
use Rattle.dxf_pairs.specs.InLines.{GroupsFollow}
use Rattle.dxf_entities.specs.declared.drawing.VertexFields.{VertexFields}
use Rattle.dxf_entities.specs.Shapes.{value_edit, point_of}
use Rattle.dxf_entities.specs.Polylines.{vertex_edits, kind_of, kind_with, vertices_in, count_of, light_shape}
use Rattle.dxf_entities.specs.Entities.{Entity, is_of_kind, entity_end, past_pairs}
use Rattle.dxf_entities.specs.Fields.{entity_fields, wanted_at}
use Rattle.dxf_copies.specs.PairGroups.{begins_at, covers, is_of_value}
use Rattle.dxf_copies.specs.Rendering.{Reading, crossings_of, image_of}
use Rattle.dxf_entities.proofs.Members.{IsIn, Follow, lies, went, wanted_is}
use Rattle.dxf_entities.proofs.GroupShapes.{coded, fields_in, groups_in, fields_told, itself, one_value, value_wanted}
use Rattle.dxf_entities.proofs.GroupShapes.{next, told, flat_outline, is_seeded, kind_from, kind_in, kind_told}
use Rattle.dxf_entities.proofs.GroupShapes.{count_in, light_outline, light_outlines, points_in, Told}
use Rattle.dxf_entities.proofs.ChangedFields.{may_change, with_value, DoStay, Agree, value_same, wanted_changed, made}
use Rattle.dxf_entities.proofs.ChangedFields.{AreNumbers, numbers_both, left, made_both, fields_made, filter_made}
use Rattle.dxf_entities.proofs.ChangedFields.{other_code, made_agrees}
use Rattle.dxf_entities.proofs.OutlineEnds.{imaged_outlines}
use Rattle.dxf_entities.proofs.Sections.{front_follows}
use Rattle.dxf_entities.proofs.WrittenGroups.{count_written}
use Rattle.dxf_entities.proofs.EntityEdits.{ordered}
use Rattle.dxf_entities.proofs.WholeShapes.{edits_with}
use Rattle.dxf_copies.proofs.ValueTurns.{stand, texts_in, stand_silent, silent_both, edit_behind, all_behind, AreSome}
use Rattle.dxf_copies.proofs.ValueTurns.{some_at, one_of_three, AreValueEdits, none_begun, none_covered, own_value}
use Rattle.dxf_copies.proofs.ValueTurns.{same_place, first_value, later_value, others_stay, other_place, AreGoodImages}
use Rattle.dxf_copies.proofs.LightVertices.{point_groups, AreTexts, AreImages, EndsBehind, behind_less, spread, room}
use Rattle.dxf_copies.proofs.LightVertices.{IsKnown, AreKnown, known_of, again}
use Rattle.dxf_copies.proofs.GroupDrawings.{alone, turn_of, IsReadSo, turn_kept, HaveNoHead, no_head_both, IsWritten}
use Rattle.dxf_copies.proofs.GroupDrawings.{one_written, told_groups, flat_back}
use Rattle.dxf_copies.proofs.SplicedPairs.{AreBody}
use Rattle.dxf_copies.proofs.WholeTurns.{IsSet, in_body, wanted_edit}
use Rattle.dxf_layer.proofs.WrittenDrawings.EntityCases.{is_at, texts_at, written_for, no_images, images_both, kinds_same, IsFound}
use Rattle.dxf_layer.proofs.WrittenDrawings.EntityCases.{LightsAreWritten, not_at_end}

-- ---- what stands for the pairs of a polyline in one entity: images in the places of its values, and those of crossings
-- after its vertices.
-- the edits of the vertices' values, and the rooms after them
abbrev pub number_edits : ℕ → List VertexFields → List Edit
number_edits n [] = []
number_edits n (vertex ∷ vertices) = value_edit (edits.X n) vertex.spot.x.pair
    ∷ value_edit (edits.Y n) vertex.spot.y.pair ∷ number_edits (n + 1) vertices

abbrev pub rooms : ℕ → List VertexFields → List Edit
rooms n [] = []
rooms n (vertex ∷ vertices) = room n vertex ∷ rooms (n + 1) vertices

without_rooms : (q : Edit → Bool) (n : ℕ) (vertices : List VertexFields) (more : List Edit) → filter q (rooms n vertices) ≡ []
    → filter q (vertex_edits n vertices ++ more) ≡ filter q (number_edits n vertices ++ more)
without_rooms q n [] more none = refl
without_rooms q n (vertex ∷ vertices) more none = grind (arith, room, (without_rooms q (n + 1) vertices more))

only_rooms : (q : Edit → Bool) (n : ℕ) (vertices : List VertexFields) (more : List Edit)
    → filter q (number_edits n vertices ++ more) ≡ []
    → filter q (vertex_edits n vertices ++ more) ≡ filter q (rooms n vertices)
only_rooms q n [] more none = none
only_rooms q n (vertex ∷ vertices) more none = grind (arith, room, (only_rooms q (n + 1) vertices more))

-- the texts at a place
abbrev pub texts_of : Reading → ℕ → List VertexFields → ℕ → List Group
texts_of read n vertices place = texts_in read (filter (is_at place) (rooms n vertices))

points_numbers : (points : List Pt) → AreNumbers (point_groups points)
points_numbers [] = tt
points_numbers (point ∷ points) = (refl, (refl, points_numbers points))

module _ (read : Reading) (all : List Pair) where
  none_at : (from n place : ℕ) (vertices : List VertexFields) → EndsBehind place vertices
      → AreKnown read all from n vertices → filter (is_at place) (rooms n vertices) ≡ []
  none_at from n place [] ends known = refl
  none_at from n place (vertex ∷ vertices) ends known =
      let off : is_at place (room n vertex) ≡ false = grind (arith, nat_tests, ends) in
      rw off (none_at vertex.spot.y.pair.end (n + 1) place vertices (behind_less _ place vertices (omega (arith, ends))
      known.1) known.2)

  texts_are : (texts : ℕ → List Group) (from n low : ℕ) (vertices : List VertexFields) → AreKnown read all from n vertices
      → ((place : ℕ) → low < place → texts place ≡ texts_of read n vertices place) → EndsBehind low vertices
      → AreTexts texts read.images n low vertices
  texts_are texts from n low [] known same ends = λ place less. same place less
  texts_are texts from n low (vertex ∷ vertices) known same ends = (
    (λ place less upto. same place less ∙ ap (texts_in read) (none_at from n place (vertex ∷ vertices) upto known)),
    same vertex.past ends ∙ here,
    texts_are texts vertex.spot.y.pair.end (n + 1) vertex.past vertices known.2
        (λ place less. same place (omega (arith, ends, less)) ∙ later place less) known.1,
  ) where
    here : texts_of read n (vertex ∷ vertices) vertex.past ≡ point_groups (crossings_of read.images n)
    here = grind (arith, same_place, none_at, append-nil, room)

    later : (place : ℕ) → vertex.past < place
        → texts_of read n (vertex ∷ vertices) place ≡ texts_of read (n + 1) vertices place
    later place less = let off : is_at place (room n vertex) ≡ false = grind (arith, nat_tests, less) in rw off refl

  texts_numbers : (p : Edit → Bool) (from n : ℕ) (vertices : List VertexFields) → AreKnown read all from n vertices
      → AreNumbers (texts_in read (filter p (rooms n vertices)))
  texts_numbers p from n [] known = tt
  texts_numbers p from n (vertex ∷ vertices) known =
      by_test (p (room n vertex)) (texts_numbers p vertex.spot.y.pair.end (n + 1) vertices known.2) where
        by_test : (here : Bool) → AreNumbers (texts_in read (filter p (rooms (n + 1) vertices)))
            → AreNumbers (texts_in read (cond here (room n vertex ∷ filter p (rooms (n + 1) vertices))
            (filter p (rooms (n + 1) vertices))))
        by_test true rest = grind (arith, numbers_both, room, texts_in, AreNumbers, points_numbers)
        by_test false rest = rest

  images_are : (value : Pair → List ℕ) (more : List Edit) (from n : ℕ) (vertices : List VertexFields)
      → AreKnown read all from n vertices → ((pair : Pair) → from ≤ pair.value
      → value pair ≡ own_value read (number_edits n vertices ++ more) pair) → AreImages value read.images n vertices
  images_are value more from n [] known same = tt
  images_are value more from n (vertex ∷ vertices) known same = (
    same x k.low ∙ first_value read (edits.X n) x (value_edit (edits.Y n) y ∷ rest),
    same y (omega (arith, k.low, k.order)) ∙ (later_value read (edits.X n) y x (value_edit (edits.Y n) y ∷ rest) apart
        ∙ first_value read (edits.Y n) y rest),
    images_are value more y.end (n + 1) vertices known.2 later,
  ) where
    x : Pair
    x = vertex.spot.x.pair

    y : Pair
    y = vertex.spot.y.pair

    k : IsKnown read all from n vertex
    k = known.0

    rest : List Edit
    rest = number_edits (n + 1) vertices ++ more

    apart : (vertex.spot.x.pair.value == vertex.spot.y.pair.value) ≡ false
    apart = let o = known.0.order in grind (arith, nat_tests, o)

    later : (pair : Pair) → vertex.spot.y.pair.end ≤ pair.value
        → value pair ≡ own_value read (number_edits (n + 1) vertices ++ more) pair
    later pair above = grind (arith, later_value)

  value_edits : (from n : ℕ) (vertices : List VertexFields) (more : List Edit) → AreKnown read all from n vertices
      → AreValueEdits all more → AreValueEdits all (number_edits n vertices ++ more)
  value_edits from n [] more known are = are
  value_edits from n (vertex ∷ vertices) more known are =
      grind (arith, may_change, (value_edits vertex.spot.y.pair.end (n + 1) vertices more known.2 are))

  none_cover : (pair : Pair) (n : ℕ) (vertices : List VertexFields) → filter (covers pair) (rooms n vertices) ≡ []
  none_cover pair n [] = refl
  none_cover pair n (vertex ∷ vertices) = let off : covers pair (room n vertex) ≡ false =
      grind (arith, nat_tests) in rw off (none_cover pair (n + 1) vertices)

  module _ (begin last : ℕ) (follow : Follow begin all last) (some : AreSome all) where
    none_of_value : (pair : Pair) → IsIn pair all → (from n : ℕ) (vertices : List VertexFields)
        → AreKnown read all from n vertices → filter (is_of_value pair) (rooms n vertices) ≡ []
    none_of_value pair is_in from n [] known = refl
    none_of_value pair is_in from n (vertex ∷ vertices) known =
        let off : is_of_value pair (room n vertex) ≡ false =
        by_three (one_of_three begin known.0.ending pair all last follow known.0.ending_in is_in) in
        rw off (none_of_value pair is_in vertex.spot.y.pair.end (n + 1) vertices known.2)
      where
        by_three : (known.0.ending ≡ pair) ⊎ ((known.0.ending.end ≤ pair.start) ⊎ (pair.end ≤ known.0.ending.start))
            → (vertex.past == pair.value) ≡ false
        by_three (inl is) =
            let s = some_at pair all some is_in in
            let e = ap (λ (p : Pair). p.end) is in
            let at = known.0.at in grind (arith, nat_tests, s, e, at)
        by_three (inr (inl before)) =
            let c = (lies begin pair all last follow is_in).code in
            let at = known.0.at in grind (arith, nat_tests, c, before, at)
        by_three (inr (inr behind)) =
            let s = some_at pair all some is_in in
            let o = lies begin known.0.ending all last follow known.0.ending_in in
            let c = o.code in
            let v = o.value in
            let i = o.inside in
            let at = known.0.at in grind (arith, nat_tests, s, c, v, i, behind, at)

    module _ (first : ℕ) (vertices : List VertexFields) (more : List Edit) (from : ℕ)
        (known : AreKnown read all from first vertices) (are : AreValueEdits all (number_edits first vertices ++ more))
      where
        abbrev pub value_of : Pair → List ℕ
        value_of pair = own_value read (number_edits first vertices ++ more) pair

        stand_is : (pair : Pair) → IsIn pair all
            → stand read (vertex_edits first vertices ++ more) pair ≡ texts_of read first vertices pair.start
            ++ (with_value value_of pair ∷ [])
        stand_is pair is_in =
            let values = number_edits first vertices ++ more in
            let a = only_rooms (begins_at pair) first vertices more
            (none_begun begin last all follow some pair is_in values are) in
            let b = without_rooms (covers pair) first vertices more (none_cover pair first vertices)
            ∙ none_covered begin last all follow pair is_in values are in
            let c = without_rooms (is_of_value pair) first vertices more
            (none_of_value pair is_in from first vertices known) in rw (a, b, c) refl

        all_stand : (pairs : List Pair) (start line : ℕ) → AreTiles start line pairs last
            → ((pair : Pair) → IsIn pair pairs → IsIn pair all)
            → filter (is_at last) (number_edits first vertices ++ more) ≡ []
            → flat_map (stand read (vertex_edits first vertices ++ more)) pairs
            ++ texts_at read (vertex_edits first vertices ++ more) last
            ≡ made value_of (texts_of read first vertices) start pairs
        all_stand [] start line tiles inner none = ap (texts_in read) (only_rooms (is_at last) first vertices more none)
            ∙ ap (texts_of read first vertices) (sym tiles)
        all_stand (pair ∷ pairs) start line tiles inner none =
            let own = vertex_edits first vertices ++ more in
            let rest = made value_of (texts_of read first vertices) pair.end pairs in
            append_assoc (stand read own pair) (flat_map (stand read own) pairs) (texts_at read own last)
            ∙ (ap (λ (g : List Group). stand read own pair ++ g)
            (all_stand pairs pair.end (line + 2) tiles.5 (λ other is_in. inner other (inr is_in)) none)
            ∙ (ap (λ (g : List Group). g ++ rest) (stand_is pair (inner pair (inl refl)))
            ∙ (append_assoc (texts_of read first vertices pair.start) (with_value value_of pair ∷ []) rest
            ∙ ap (λ (n : ℕ). texts_of read first vertices n ++ (with_value value_of pair ∷ rest)) tiles.0)))

-- ---- what is written of a polyline in one entity is read again
-- a point's image in front of those of the crossings after it
first_taken : (points : List Pt) (b k : ℕ) → b < length points → 0 < k
    → get_or points b no_point ∷ drop 1 (take k (drop b points)) ≡ take k (drop b points)
first_taken [] b k inside some = absurd (omega arith)
first_taken (point ∷ points) zero zero inside some = absurd (omega arith)
first_taken (point ∷ points) zero (suc k) inside some = refl
first_taken (point ∷ points) (suc b) k inside some = first_taken points b k (omega arith) some

run_is : (images : Runs) (count n : ℕ) → AreGoodImages images count → n < count
    → image_of images n ∷ crossings_of images n ≡ images_of images n (n + 1)
run_is images count n good inside = grind (arith, first_taken)

-- the images of vertices are those of a range
spread_is : (images : Runs) (count n : ℕ) (vertices : List VertexFields) → AreGoodImages images count
    → n + length vertices ≤ count → spread images n vertices ≡ images_of images n (n + length vertices)
spread_is images count n [] good inside = sym (no_images images n)
spread_is images count n (vertex ∷ []) good inside =
    ap (λ (more : List Pt). image_of images n ∷ more) (append-nil (crossings_of images n))
    ∙ run_is images count n good (omega arith)
spread_is images count n (vertex ∷ second ∷ vertices) good inside =
    let on : n + 1 + length (second ∷ vertices) ≡ n + length (vertex ∷ second ∷ vertices) = omega arith in
    ap (λ (more : List Pt). image_of images n ∷ (crossings_of images n ++ more))
    (spread_is images count (n + 1) (second ∷ vertices) good (omega arith))
    ∙ (ap (λ (run : List Pt). run ++ images_of images (n + 1) (n + 1 + length (second ∷ vertices)))
    (run_is images count n good (omega arith))
    ∙ (sym (images_both images count n (n + 1) (n + 1 + length (second ∷ vertices)) good (omega arith) (omega arith)
    (omega arith)) ∙ ap (images_of images n) on))

-- the field that counts the vertices
counted : (pair number : Pair) (here : Bool) → cond here (Ok pair) (Err (Count pair.line)) ≡ Ok number → pair ≡ number
counted pair number true is = cc
counted pair number false is = absurd (cc)

count_wanted : (bytes : List ℕ) (size : ℕ) (entity : Entity) (number : Pair) → count_of bytes size entity ≡ Ok number
    → wanted_at (pos 90) entity ≡ Ok number
count_wanted bytes size entity number is = grind (arith, went, counted)

ninety_ten : pos 90 ≡ pos 10 → ⊥
ninety_ten is = cc

ninety_twenty : pos 90 ≡ pos 20 → ⊥
ninety_twenty is = cc

-- the value of the field that counts is that of its own edit
count_value : (read : Reading) (entity : Entity) → IsSet read.bytes entity → (number : Pair) → IsIn number entity.pairs
    → number.code ≡ pos 90 → (first past from n : ℕ) (vertices : List VertexFields)
    → AreKnown read entity.pairs from n vertices
    → own_value read (number_edits n vertices ++ value_edit (edits.Tally first past) number ∷ []) number
    ≡ digits 10 false (length (images_of read.images first past))
count_value read entity set number is_in coded first past from n [] known =
    first_value read (edits.Tally first past) number []
count_value read entity set number is_in coded first past from n (vertex ∷ vertices) known =
    let x = vertex.spot.x.pair in
    let y = vertex.spot.y.pair in
    let k = known.0 in
    let rest = number_edits (n + 1) vertices ++ value_edit (edits.Tally first past) number ∷ [] in
    let east = other_place entity.head.end (entity_end entity) entity.pairs set.follow set.some number x is_in k.x_in
    (λ same. ninety_ten (sym coded ∙ (same ∙ k.ten))) in
    let north = other_place entity.head.end (entity_end entity) entity.pairs set.follow set.some number y is_in k.y_in
    (λ same. ninety_twenty (sym coded ∙ (same ∙ k.twenty))) in
    later_value read (edits.X n) number x (value_edit (edits.Y n) y ∷ rest) east
    ∙ (later_value read (edits.Y n) number y rest north
    ∙ count_value read entity set number is_in coded first past y.end (n + 1) vertices known.2)

zero_ten : pos 0 ≡ pos 10 → ⊥
zero_ten is = cc

zero_twenty : pos 0 ≡ pos 20 → ⊥
zero_twenty is = cc

numbers_no_head : (groups : List Group) → AreNumbers groups → HaveNoHead groups
numbers_no_head [] are = tt
numbers_no_head (group ∷ groups) are = grind (arith, other_code, zero_ten, zero_twenty, (numbers_no_head groups are.1))

made_no_head : (bytes : List ℕ) (value : Pair → List ℕ) (texts : ℕ → List Group)
    → ((place : ℕ) → AreNumbers (texts place)) → (from : ℕ) (pairs : List Pair) → AreBody bytes pairs
    → HaveNoHead (made value texts from pairs)
made_no_head bytes value texts all from [] body = numbers_no_head _ (all from)
made_no_head bytes value texts all from (pair ∷ pairs) body = no_head_both _ _ (numbers_no_head _ (all from))
    (body.1.0, made_no_head bytes value texts all pair.end pairs body.1.1)

body_taken : (bytes : List ℕ) (n : ℕ) (pairs : List Pair) → AreBody bytes pairs → AreBody bytes (take n pairs)
body_taken bytes zero pairs body = tt
body_taken bytes (suc n) [] body = tt
body_taken bytes (suc n) (pair ∷ pairs) body = (body.0, (body.1.0, body_taken bytes n pairs body.1.1))

first_behind : (read : Reading) (all : List Pair) (from n : ℕ) (vertices : List VertexFields)
    → AreKnown read all from n vertices → EndsBehind from vertices
first_behind read all from n [] known = tt
first_behind read all from n (vertex ∷ vertices) known = grind arith

split_of : (read : Reading) (front pairs behind : List Pair) (head : Pair) (n : ℕ)
    → read.pairs ≡ front ++ (head ∷ (pairs ++ behind))
    → read.pairs ≡ (front ++ head ∷ []) ++ (take n pairs ++ (drop n pairs ++ behind))
split_of read front pairs behind head n are =
    are ∙ (ap (λ (ps : List Pair). front ++ (head ∷ (ps ++ behind))) (sym (take-append-drop n pairs))
    ∙ (ap (λ (ps : List Pair). front ++ (head ∷ ps)) (append_assoc (take n pairs) (drop n pairs) behind)
    ∙ sym (append_assoc front (head ∷ []) (take n pairs ++ (drop n pairs ++ behind)))))

fields_follow : (bytes : List ℕ) (entity : Entity) → IsSet bytes entity
    → Follow entity.head.end (entity_fields entity) (past_pairs entity.head.end (entity_fields entity))
fields_follow bytes entity set = front_follows _ _ _ _ set.follow

-- what is known of the vertices in the fields of an entity
pub known_in : GroupsFollow → (read : Reading) (past : ℕ) → AreTiles 0 1 read.pairs past → (exact : Bool)
    (entity : Entity) → IsSet read.bytes entity → (front behind : List Pair)
    → read.pairs ≡ front ++ (entity.head ∷ (entity.pairs ++ behind)) → (vertices : List VertexFields) (n : ℕ)
    → vertices_in read.bytes exact (entity_fields entity) ≡ Ok vertices
    → AreKnown read entity.pairs entity.head.end n vertices
known_in follow read past tiles exact entity set front behind are vertices n is =
    known_of follow read past tiles _ set.some exact _ _ _ vertices _ _ n (split_of read front _ behind _ _ are)
    (body_taken _ _ _ set.lines.body) (in_body entity) (fields_follow _ entity set) is

-- a polyline whose images are written
module _ (follow : GroupsFollow) (read : Reading) (how : How) (seed : Option Pair) (count : ℕ)
    (good : AreGoodImages read.images count) (few : length read.images.points < 2 ^ 32) (past : ℕ)
    (tiles : AreTiles 0 1 read.pairs past) where
  module _ (entity : Entity) (path first : ℕ) (kind : PathKind) (vertices : List VertexFields) (number : Pair)
      (at : IsFound read entity) (vertices_is : vertices_in read.bytes how.exact (entity_fields entity) ≡ Ok vertices)
      (number_is : count_of read.bytes (length vertices) entity ≡ Ok number) (inside : first + length vertices ≤ count)
    where
      known : AreKnown read entity.pairs entity.head.end first vertices
      known = known_in follow read past tiles how.exact entity at.set at.front at.behind at.are vertices first vertices_is

      abbrev tally : List Edit
      tally = value_edit (edits.Tally first (first + length vertices)) number ∷ []

      abbrev own : List Edit
      own = vertex_edits first vertices ++ tally

      abbrev values : List Edit
      values = number_edits first vertices ++ tally

      abbrev value : Pair → List ℕ
      value = own_value read values

      abbrev texts : ℕ → List Group
      texts = texts_of read first vertices

      abbrev groups : List Group
      groups = made value texts entity.head.end entity.pairs

      abbrev points : List Pt
      points = images_of read.images first (first + length vertices)

      number_wanted : wanted_at (pos 90) entity ≡ Ok number
      number_wanted = count_wanted read.bytes (length vertices) entity number number_is

      number_in : IsIn number entity.pairs
      number_in = in_body entity number (wanted_is (pos 90) entity number number_wanted).is_in

      are : AreValueEdits entity.pairs values
      are = value_edits read entity.pairs entity.head.end first vertices tally known
          (wanted_edit entity (pos 90) (edits.Tally first (first + length vertices)) number number_wanted refl, tt)

      numbers : (place : ℕ) → AreNumbers (texts place)
      numbers place = texts_numbers read entity.pairs (is_at place) entity.head.end first vertices known

      stay : DoStay read.bytes value (entity_fields entity)
      stay = others_stay read entity.head.end (entity_end entity) entity.pairs at.set.follow at.set.some values are
          (entity_fields entity) (in_body entity)

      new_fields : fields_in groups ≡ made value texts entity.head.end (entity_fields entity)
      new_fields = fields_made value texts numbers entity.head.end entity.pairs

      agree : Agree (groups_in read.bytes entity) (fields_in groups)
      agree = subst (λ (old : List Group). Agree old (fields_in groups)) (fields_told read.bytes entity)
          (subst (λ (new : List Group). Agree (map (group_in read.bytes) (entity_fields entity)) new) (sym new_fields)
          (made_agrees value texts numbers read.bytes entity.head.end (entity_fields entity) stay))

      ends : EndsBehind entity.head.end vertices
      ends = first_behind read entity.pairs entity.head.end first vertices known

      new_points : points_in how.exact (fields_in groups) ≡ Some points
      new_points =
          let none : texts entity.head.end ≡ [] = ap (texts_in read)
          (none_at read entity.pairs entity.head.end first entity.head.end vertices ends known) in
          let texts_ok : AreTexts texts read.images first entity.head.end vertices =
          texts_are read entity.pairs texts entity.head.end first entity.head.end vertices known (λ place less. refl)
          ends in
          let images_ok : AreImages value read.images first vertices =
          images_are read entity.pairs value tally entity.head.end first vertices known (λ pair above. refl) in
          let all = again read.bytes how.exact read.images count good value texts (entity_fields entity) entity.head.end
          (past_pairs entity.head.end (entity_fields entity)) first vertices
          (fields_follow read.bytes entity at.set) vertices_is inside stay
          images_ok in
          let whole : made value texts entity.head.end (entity_fields entity)
          ≡ left value texts (entity_fields entity) = made_both value texts entity.head.end (entity_fields entity)
          ∙ ap (λ (g : List Group). g ++ left value texts (entity_fields entity)) none in
          ap (points_in how.exact) (new_fields ∙ whole)
          ∙ (all.rest texts_ok ∙ ap Some (spread_is read.images count first vertices good inside))

      few_points : length points < 2 ^ 32
      few_points = by_vertices vertices inside where
        by_vertices : (vs : List VertexFields) → first + length vs ≤ count
            → length (images_of read.images first (first + length vs)) < 2 ^ 32
        by_vertices vs inside =
            let high = good.runs.inside (first + length vs) inside in
            let rest = length-drop (run_begin read.images first) read.images.points in
            let size : length (images_of read.images first (first + length vs))
            ≡ run_begin read.images (first + length vs) - run_begin read.images first =
            length-take-le (run_begin read.images (first + length vs) - run_begin read.images first)
            (drop (run_begin read.images first) read.images.points) (omega arith) in omega (arith, few)

      new_count : count_in (length points) (fields_in groups) ≡ Some tt
      new_count =
          let has = wanted_is (pos 90) entity number number_wanted in
          let same : value_wanted (pos 90) (made value texts entity.head.end (entity_fields entity))
          ≡ value_wanted (pos 90) (map (with_value value) (entity_fields entity)) =
          ap (λ (g : List Group). next itself (one_value g))
          (filter_made value texts numbers (coded (pos 90)) (other_code (pos 90) ninety_ten ninety_twenty)
          entity.head.end (entity_fields entity)) in
          let text : value number ≡ digits 10 false (length points) =
          count_value read entity at.set number number_in has.coded first (first + length vertices) entity.head.end
          first vertices known in
          let found : value_wanted (pos 90) (fields_in groups) ≡ Some (digits 10 false (length points)) =
          ap (value_wanted (pos 90)) new_fields ∙ (same
          ∙ (wanted_changed value (pos 90) entity number number_wanted ∙ ap Some text)) in
          let written = count_written (length points) few_points in rw (found, written) refl

      head_stands : stand read own entity.head ≡ group_in read.bytes entity.head ∷ []
      head_stands =
          let at_number = lies entity.head.end number entity.pairs (entity_end entity) at.set.follow number_in in
          let within = ((ordered read.bytes how.exact (entity_fields entity) entity.head.end
          (past_pairs entity.head.end (entity_fields entity)) vertices
          (fields_follow read.bytes entity at.set) vertices_is).apart first).within in stand_silent read entity.head own
          (silent_both entity.head (vertex_edits first vertices) tally
          (all_behind entity.head entity.head.end (past_pairs entity.head.end (entity_fields entity))
          (vertex_edits first vertices) at.set.placed (omega arith) within) (
            edit_behind entity.head (value_edit (edits.Tally first (first + length vertices)) number) at.set.placed
                (omega (arith, at_number.begins, at_number.code)),
            tt,
          ))

      abbrev told_new : Told
      told_new = record { head = group_in read.bytes entity.head; groups = groups }

      all_written : written_for read (edits_with path first (light_shape kind vertices number ∷ [])) entity
          ≡ told_groups told_new
      all_written =
          let body = all_stand read entity.pairs entity.head.end (entity_end entity) at.set.follow at.set.some first
          vertices tally entity.head.end known are entity.pairs entity.head.end at.set.lines.line at.set.lines.tiles
          (λ pair is_in. is_in)
          (not_at_end entity.head.end (entity_end entity) entity.pairs at.set.follow at.set.some values are) in
          ap (λ (e : List Edit). written_for read e entity) (append-nil own)
          ∙ (append_assoc (stand read own entity.head) (flat_map (stand read own) entity.pairs)
          (texts_at read own (entity_end entity))
          ∙ (ap (λ (g : List Group). g ++ (flat_map (stand read own) entity.pairs
          ++ texts_at read own (entity_end entity))) head_stands
          ∙ ap (λ (g : List Group). group_in read.bytes entity.head ∷ g) body))

      image : imaged_outlines read.images first (light_shape kind vertices number ∷ []) ≡ light_outline kind points ∷ []
      image = ap (λ (n : ℕ). flat_outline (kind_with kind vertices) (images_of read.images first (first + n)) ∷ [])
          (length-map vertices (λ (vertex : VertexFields). point_of vertex.spot))
          ∙ ap (λ (k : Option PathKind). flat_outline k points ∷ [])
          (sym (kinds_same read.images count first kind vertices good inside))

      light_written : IsReadSo read.bytes how seed entity (light_shape kind vertices number ∷ [])
          → is_of_kind read.bytes (codes "POINT") entity ≡ false → is_of_kind read.bytes (codes "LINE") entity ≡ false
          → is_of_kind read.bytes (codes "LWPOLYLINE") entity ≡ true
          → kind_of read.bytes entity ≡ Ok kind → IsWritten (group_in read.bytes entity.head) how (is_seeded seed) alone
          alone (imaged_outlines read.images first (light_shape kind vertices number ∷ []))
          (written_for read (edits_with path first (light_shape kind vertices number ∷ [])) entity)
      light_written is no_point no_line light kind_is =
          let new_kind : kind_in (fields_in groups) ≡ Some kind =
          ap (next kind_from) (value_same (groups_in read.bytes entity) (fields_in groups) (pos 70) agree refl)
          ∙ (sym (kind_told read.bytes entity) ∙ ap (told itself) kind_is) in
          let a = new_points in
          let b = new_count in
          let lines : light_outlines how.exact (fields_in groups) ≡ Some (light_outline kind points ∷ []) =
          rw (new_kind, a, b) refl in
          let turn = turn_kept read.bytes how seed entity (light_shape kind vertices number ∷ []) groups
          (light_outline kind points ∷ []) is agree (rw (no_point, no_line, light) lines) in
          subst (IsWritten (group_in read.bytes entity.head) how (is_seeded seed) alone alone
          (imaged_outlines read.images first (light_shape kind vertices number ∷ []))) (sym all_written)
          (one_written how (is_seeded seed) alone told_new (turn_of (light_outline kind points ∷ []))
          (imaged_outlines read.images first (light_shape kind vertices number ∷ []))
          (record {
            head = at.set.is_head;
            goes_on = at.goes_on;
            body = made_no_head read.bytes value texts numbers entity.head.end entity.pairs at.set.lines.body;
          }) turn
          (flat_back (light_outline kind points ∷ [])
          (imaged_outlines read.images first (light_shape kind vertices number ∷ [])) (refl, tt) image))

  pub lights_written : LightsAreWritten read how seed count
  lights_written entity path first kind vertices number at is no_point no_line light kind_is vertices_is number_is
      inside = light_written entity path first kind vertices number at vertices_is number_is inside is no_point no_line
      light kind_is
