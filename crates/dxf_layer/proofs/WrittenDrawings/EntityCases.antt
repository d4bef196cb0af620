-- What is written in the place of an entity, by its kind.
use Rattle.std.proofs.Common.{◌≡◌, ◌==◌, ℕ, zero, suc, ◌+◌, ◌-◌, ◌<◌, ◌≤◌, Bool, true, false, refl, ap, sym, ◌∙◌, subst}
use Rattle.std.proofs.Common.{List, [], ◌∷◌, ◌++◌, map, filter, flat_map, length, take, drop, Option, Some, arith}
use Rattle.std.proofs.Common.{codes, get_or, pos, cond, None, Ok}
use Rattle.std.proofs.lemmas.List.{append-nil, length-take-le, length-drop, get_or-append-add, length-append, drop-drop, length-map}
use Rattle.std.specs.Prelude.{⊤}
use Rattle.std.specs.Option.{is_some}
use Rattle.std.proofs.lemmas.Bool.Decides.{nat_tests}
use Rattle.std.proofs.Math.Seq.{take-add}
use Rattle.plane_base.specs.declared.shapes.Pt.{Pt}
use Rattle.sheet_base.specs.declared.flags.How.{How}
use Rattle.sheet_base.specs.declared.edits.Edit.{Edit}
use Rattle.sheet_base.specs.declared.paths.PathKind.{PathKind}
use Rattle.sheet_base.specs.declared.paths.PathRow.{PathRow}
use Rattle.sheet_base.specs.ImageFits.{Runs, run_begin, images_of, positions_of, path_positions, no_path, IsAlone}
use Rattle.sheet_base.specs.declared.edits.What.TheVariants as edits
use Rattle.sheet_base.specs.declared.paths.PathKind.TheVariants as paths
use Rattle.sheet_base.specs.declared.faults.LayerFault.TheVariants as faults
use Rattle.sheet_base.specs.Faults.{and_then}
use Rattle.dxf_pairs.specs.declared.pairs.Pair.{Pair}
use Rattle.dxf_pairs.specs.Groups.{Group, group_in}
use Rattle.dxf_pairs.specs.InLines.{GroupsFollow}
use Rattle.dxf_entities.specs.declared.drawing.VertexFields.{VertexFields}
use Rattle.dxf_entities.specs.Entities.{Entity, is_of_kind, entity_end}
use Rattle.dxf_entities.specs.Shapes.{point_of, Shape, spot_edits}
use Rattle.dxf_entities.specs.Polylines.{kind_with, heavy_shape, kind_of, vertices_in, count_of, light_shape}
use Rattle.dxf_entities.specs.Polylines.{light_shapes}
use Rattle.dxf_entities.specs.declared.drawing.PointFields.{PointFields as Read_point}
use Rattle.dxf_entities.specs.Fields.{entity_fields, zero_at}
use Rattle.dxf_entities.specs.Points.{spot_at, dot_of, point_shapes, insert_shapes, second_spot, dots_of, text_shapes}
use Rattle.dxf_entities.specs.Points.{line_of, line_ends, line_shapes}
use Rattle.dxf_entities.specs.declared.points.LineFields.{LineFields}
use Rattle.dxf_copies.specs.Rendering.{Reading, entity_at}
use Rattle.dxf_layer.specs.InsideWalks.{WalkPlace, free, staying, reading}
use Rattle.dxf_entities.proofs.GroupShapes.{Outline, flat_outline, is_seeded, kind_of_points, light_outline}
use Rattle.dxf_entities.proofs.GroupShapes.{entity_told}
use Rattle.dxf_entities.proofs.OutlineEnds.{imaged_outlines, rows_behind, points_of, run_heights, AreAll}
use Rattle.dxf_entities.proofs.EntityEdits.{line_parts}
use Rattle.dxf_entities.proofs.Members.{Follow, went, lies, by_past}
use Rattle.dxf_entities.proofs.WholeShapes.{edits_with}
use Rattle.dxf_copies.proofs.GroupDrawings.{Spot, Turn, turn_of, ends_sections, alone, open_line, IsReadSo, turn}
use Rattle.dxf_copies.proofs.GroupDrawings.{AreBack, flat_back, IsWritten, one_written, told_groups, kept}
use Rattle.dxf_copies.proofs.ValueTurns.{stand, texts_in, AreGoodImages, AreSome, some_at, AreValueEdits}
use Rattle.dxf_copies.proofs.WholeTurns.{IsSet, spot_value_edits, point_written, insert_written, grouped_no_head}
use Rattle.dxf_copies.proofs.WholeTurns.{whole_of, line_written, IsSecond, is_second, text_written, text_both}
use Rattle.dxf_copies.proofs.CopyTurns.{spot_wanted, IsLine}

-- ---- what is written in the place of each entity
-- the spot of the images
abbrev pub imaged_spot : Runs → ℕ → WalkPlace → Spot
imaged_spot images first free = alone
imaged_spot images first staying = kept
imaged_spot images first (reading kind vertices) = open_line kind (images_of images first (first + length vertices))

-- the texts that begin at a place
abbrev pub is_at : ℕ → Edit → Bool
is_at place edit = edit.start == place

abbrev pub texts_at : Reading → List Edit → ℕ → List Group
texts_at read own place = texts_in read (filter (is_at place) own)

-- what stands for an entity: for its pairs, and what is written directly after them
abbrev pub written_for : Reading → List Edit → Entity → List Group
written_for read own entity = flat_map (stand read own) (entity.head ∷ entity.pairs)
    ++ texts_at read own (entity_end entity)

pub no_images : (images : Runs) (first : ℕ) → images_of images first (first + 0) ≡ []
no_images images first = grind arith

-- images of a range by a point between
pub images_both : (images : Runs) (count a b c : ℕ) → AreGoodImages images count → a ≤ b → b < c → c ≤ count
    → images_of images a c ≡ images_of images a b ++ images_of images b c
images_both images count a b c good low high inside =
    let step = good.runs.rises b c high inside in
    let order : run_begin images a ≤ run_begin images b = by_order (b - a) refl in
    let total : run_begin images c - run_begin images a ≡ (run_begin images b - run_begin images a)
    + (run_begin images c - run_begin images b) = omega arith in
    let on : run_begin images a + (run_begin images b - run_begin images a) ≡ run_begin images b = omega arith in
    ap (λ n. take n (drop (run_begin images a) images.points)) total
    ∙ (take-add (run_begin images b - run_begin images a) (run_begin images c - run_begin images b)
    (drop (run_begin images a) images.points)
    ∙ ap (λ (rest : List Pt). images_of images a b ++ take (run_begin images c - run_begin images b) rest)
    (drop-drop (run_begin images b - run_begin images a) (run_begin images a) images.points
    ∙ ap (λ n. drop n images.points) on))
  where
    by_order : (more : ℕ) → b - a ≡ more → run_begin images a ≤ run_begin images b
    by_order zero is = let same : a ≡ b = omega arith in let on : run_begin images a ≡ run_begin images b =
        ap (run_begin images) same in omega arith
    by_order (suc more) is = let rises = good.runs.rises a b (omega arith) (omega arith) in omega arith

-- an entity whose pairs stay
each_stays : (read : Reading) (pairs : List Pair) → flat_map (stand read []) pairs ≡ map (group_in read.bytes) pairs
each_stays read [] = refl
each_stays read (pair ∷ pairs) = ap (λ (more : List Group). group_in read.bytes pair ∷ more) (each_stays read pairs)

pub stays_written : (read : Reading) (how : How) (seeded : Bool) (from : Spot) (entity : Entity) (here : Turn)
    (wanted : List Outline) → IsSet read.bytes entity → ends_sections (group_in read.bytes entity.head) ≡ false
    → turn how seeded from (entity_told read.bytes entity) ≡ Some here → AreBack here.shapes wanted
    → IsWritten (group_in read.bytes entity.head) how seeded from here.next wanted (written_for read [] entity)
stays_written read how seeded from entity here wanted set goes_on is back =
    let groups : written_for read [] entity ≡ told_groups (entity_told read.bytes entity) =
    append-nil (flat_map (stand read []) (entity.head ∷ entity.pairs)) ∙ each_stays read (entity.head ∷ entity.pairs) in
    subst (IsWritten (group_in read.bytes entity.head) how seeded from here.next wanted) (sym groups)
    (one_written how seeded from (entity_told read.bytes entity) here wanted
    (record {
      head = set.is_head;
      goes_on = goes_on;
      body = grouped_no_head read.bytes entity.pairs set.lines.body;
    }) is back)

-- the end of a polyline
pub kinds_same : (images : Runs) (count first : ℕ) (kind : PathKind) (vertices : List VertexFields)
    → AreGoodImages images count → first + length vertices ≤ count
    → kind_of_points kind (images_of images first (first + length vertices)) ≡ kind_with kind vertices
kinds_same images count first kind [] good inside = ap (kind_of_points kind) (no_images images first)
kinds_same images count first kind (vertex ∷ vertices) good inside =
    let past = first + length (vertex ∷ vertices) in
    let begins = good.runs.rises first past (omega arith) inside in
    let ends = good.runs.inside past inside in
    let rest = length-drop (run_begin images first) images.points in
    let size = length-take-le (run_begin images past - run_begin images first)
    (drop (run_begin images first) images.points) (omega arith) in
    some_points (images_of images first past) (omega arith)
  where
    some_points : (points : List Pt) → 0 < length points → kind_of_points kind points ≡ Some kind
    some_points [] some = absurd (omega arith)
    some_points (point ∷ points) some = refl

pub end_written : (read : Reading) (how : How) (seed : Option Pair) (entity : Entity) (kind : PathKind)
    (vertices : List VertexFields) (count first : ℕ) → IsSet read.bytes entity
    → ends_sections (group_in read.bytes entity.head) ≡ false
    → is_of_kind read.bytes (codes "VERTEX") entity ≡ false → is_of_kind read.bytes (codes "SEQEND") entity ≡ true
    → AreGoodImages read.images count → first + length vertices ≤ count
    → IsWritten (group_in read.bytes entity.head) how (is_seeded seed)
    (imaged_spot read.images first (reading kind vertices)) alone
    (imaged_outlines read.images first (heavy_shape kind vertices ∷ [])) (written_for read [] entity)
end_written read how seed entity kind vertices count first set goes_on no_vertex is_end good inside =
    let points = images_of read.images first (first + length vertices) in
    let here : turn how (is_seeded seed) (open_line kind points) (entity_told read.bytes entity)
    ≡ Some (turn_of (light_outline kind points ∷ [])) = rw (no_vertex, is_end) refl in
    let same_count : length (map (λ (vertex : VertexFields). point_of vertex.spot) vertices) ≡ length vertices =
    length-map vertices _ in
    let image : imaged_outlines read.images first (heavy_shape kind vertices ∷ []) ≡ light_outline kind points ∷ [] =
    ap (λ (n : ℕ). flat_outline (kind_with kind vertices) (images_of read.images first (first + n)) ∷ []) same_count ∙
    ap (λ (k : Option PathKind). flat_outline k points ∷ []) (sym (kinds_same _ count first kind vertices good inside))
    in stays_written read how _ _ entity _ _ set goes_on here (flat_back _ _ (refl, tt) image)

-- nothing is written after an entity whose values, or all whose pairs, are replaced
behind_whole : (read : Reading) (own : List Edit) (entity : Entity) → filter (is_at (entity_end entity)) own ≡ []
    → written_for read own entity ≡ flat_map (stand read own) (entity.head ∷ entity.pairs)
behind_whole read own entity none = ap (λ (e : List Edit). flat_map (stand read own) (entity.head ∷ entity.pairs)
    ++ texts_in read e) none ∙ append-nil (flat_map (stand read own) (entity.head ∷ entity.pairs))

-- the images of the path that is first after this many, with their heights
positions_found : (rows before more : List PathRow) (path : ℕ) (images : Runs) (row : PathRow)
    → rows ≡ before ++ row ∷ more → length before ≡ path
    → path_positions rows images path ≡ positions_of images row.first row.past
positions_found rows before more path images row are count =
    let none : length before + 0 ≡ length before = omega arith in
    let at = ap (λ n. get_or (before ++ row ∷ more) n no_path) (sym none) ∙ get_or-append-add before (row ∷ more) 0
    no_path in grind arith

-- ---- what is written in the place of an entity that is read, by its kind
-- each dot's image is alone, and the images of a line that has heights have some, all others none
abbrev pub AloneFor : Option PathKind → Runs → ℕ → Type 0
AloneFor None images first = ⊤
AloneFor (Some paths.Dot) images first = IsAlone images first
AloneFor (Some paths.Line) images first = ⊤
AloneFor (Some paths.Loop) images first = ⊤

abbrev pub DotsAlone : Runs → ℕ → List Shape → Type 0
DotsAlone images first [] = ⊤
DotsAlone images first (shape ∷ shapes) = (AloneFor shape.kind images first
    × AreAll (is_some shape.rise) (run_heights images first (first + length shape.points)))
    × DotsAlone images (first + length shape.points) shapes

-- where the entity is among all pairs, and what is found there
pub record IsFound (read : Reading) (entity : Entity) : Type 0 where
  pub set : IsSet read.bytes entity
  pub goes_on : ends_sections (group_in read.bytes entity.head) ≡ false
  pub found : entity_at read entity.head.start ≡ Some entity
  pub front : List Pair
  pub behind : List Pair
  pub are : read.pairs ≡ front ++ (entity.head ∷ (entity.pairs ++ behind))

-- what was read of the entity, and what it needs of the images
pub record IsNumbered (read : Reading) (count path first : ℕ) (shapes : List Shape) : Type 0 where
  pub more : List Shape
  pub before : List PathRow
  pub rows : read.sheet.paths ≡ before ++ rows_behind first (shapes ++ more)
  pub before_is : length before ≡ path
  pub inside : first + length (points_of shapes) ≤ count
  pub lone : DotsAlone read.images first shapes

-- what is written for polylines with vertices in fields
abbrev pub LightsAreWritten : Reading → How → Option Pair → ℕ → Type 0
LightsAreWritten read how seed count =
    (entity : Entity) (path first : ℕ) (kind : PathKind) (vertices : List VertexFields) (number : Pair) → IsFound read entity
    → IsReadSo read.bytes how seed entity (light_shape kind vertices number ∷ [])
    → is_of_kind read.bytes (codes "POINT") entity ≡ false → is_of_kind read.bytes (codes "LINE") entity ≡ false
    → is_of_kind read.bytes (codes "LWPOLYLINE") entity ≡ true → kind_of read.bytes entity ≡ Ok kind
    → vertices_in read.bytes how.exact (entity_fields entity) ≡ Ok vertices
    → count_of read.bytes (length vertices) entity ≡ Ok number → first + length vertices ≤ count
    → IsWritten (group_in read.bytes entity.head) how (is_seeded seed) alone alone
    (imaged_outlines read.images first (light_shape kind vertices number ∷ []))
    (written_for read (edits_with path first (light_shape kind vertices number ∷ [])) entity)

pub not_at_end : (from past : ℕ) (pairs : List Pair) → Follow from pairs past → AreSome pairs → (own : List Edit)
    → AreValueEdits pairs own → filter (is_at past) own ≡ []
not_at_end from past pairs follow some [] are = refl
not_at_end from past pairs follow some (edit ∷ own) are =
    grind (arith, lies, some_at, (not_at_end from past pairs follow some own are.1))

-- nothing is written after values
values_end : (read : Reading) (entity : Entity) → IsSet read.bytes entity → (own : List Edit)
    → AreValueEdits entity.pairs own → written_for read own entity
    ≡ flat_map (stand read own) (entity.head ∷ entity.pairs)
values_end read entity set own are = behind_whole read own entity (not_at_end _ _ _ set.follow set.some own are)

-- nor after a whole entity
pub whole_end : (read : Reading) (entity : Entity) → IsSet read.bytes entity → (edit : Edit)
    → edit.start ≡ entity.head.start → written_for read (edit ∷ []) entity
    ≡ flat_map (stand read (edit ∷ [])) (entity.head ∷ entity.pairs)
whole_end read entity set edit starts =
    let rest = by_past entity.head.end entity.pairs (entity_end entity) set.follow in
    let c = set.placed.code in
    let s = set.placed.some in
    let before : entity.head.start < entity_end entity = omega arith in
    let off : is_at (entity_end entity) edit ≡ false = grind (arith, nat_tests, starts, before) in
    behind_whole read (edit ∷ []) entity (rw off refl)

abbrev Goal : Reading → How → Option Pair → Entity → ℕ → ℕ → List Shape → Type 0
Goal read how seed entity path first shapes =
    IsWritten (group_in read.bytes entity.head) how (is_seeded seed) alone alone
    (imaged_outlines read.images first shapes) (written_for read (edits_with path first shapes) entity)

-- the second point of a text was read
second_found : (bytes : List ℕ) (exact : Bool) (entity : Entity) (other : Read_point)
    → IsSecond bytes exact entity (Some other) → spot_at bytes exact (pos 11) (pos 21) entity ≡ Ok other
second_found bytes exact entity other second = grind (arith, went)

light_count : (kind : PathKind) (vertices : List VertexFields) (number : Pair) (first count : ℕ)
    → first + length (points_of (light_shape kind vertices number ∷ [])) ≤ count → first + length vertices ≤ count
light_count kind vertices number first count inside = grind (arith, length-append, points_of, length-map)

module _ (read : Reading) (how : How) (seed : Option Pair) (count : ℕ) (follow : GroupsFollow)
    (good : AreGoodImages read.images count) (lights : LightsAreWritten read how seed count) (entity : Entity)
    (path first : ℕ) (at : IsFound read entity) where
  point_case : (shapes : List Shape) → IsReadSo read.bytes how seed entity shapes
      → IsNumbered read count path first shapes → is_of_kind read.bytes (codes "POINT") entity ≡ true
      → point_shapes read.bytes how.exact entity ≡ Ok shapes → Goal read how seed entity path first shapes
  point_case shapes is numbered kind made =
      let spot = went (λ (s : Read_point). Ok (dot_of s ∷ [])) (spot_at read.bytes how.exact (pos 10) (pos 20) entity)
      shapes made in
      let same : shapes ≡ dot_of spot.value ∷ [] = cc in
      let is_too = subst (IsReadSo read.bytes how seed entity) same is in
      let numbered_too = subst (IsNumbered read count path first) same numbered in
      let has = spot_wanted read.bytes how.exact (pos 10) (pos 20) entity spot.value spot.is in
      let are = spot_value_edits read how.exact (pos 10) (pos 20) entity spot.value first has refl refl [] tt in
      subst (Goal read how seed entity path first) (sym same)
      (subst (IsWritten (group_in read.bytes entity.head) how (is_seeded seed) alone alone
      (imaged_outlines read.images first (dot_of spot.value ∷ [])))
      (sym (values_end read entity at.set (spot_edits first spot.value) are))
      (point_written read how seed entity spot.value count first at.set at.goes_on is_too kind spot.is good
      (omega (arith, numbered_too.inside)) numbered_too.lone.0.0))

  insert_case : (shapes : List Shape) → IsReadSo read.bytes how seed entity shapes
      → IsNumbered read count path first shapes → is_of_kind read.bytes (codes "POINT") entity ≡ false
      → is_of_kind read.bytes (codes "LINE") entity ≡ false
      → is_of_kind read.bytes (codes "LWPOLYLINE") entity ≡ false → is_of_kind read.bytes (codes "TEXT") entity ≡ false
      → insert_shapes read.bytes how.exact entity ≡ Ok shapes → Goal read how seed entity path first shapes
  insert_case shapes is numbered no_point no_line no_light no_text made =
      let none = went (λ (n : Unit {0}). point_shapes read.bytes how.exact entity)
      (zero_at read.bytes faults.Attribs (pos 66) entity) shapes made in
      let spot = went (λ (s : Read_point). Ok (dot_of s ∷ [])) (spot_at read.bytes how.exact (pos 10) (pos 20) entity)
      shapes none.gives in
      let same : shapes ≡ dot_of spot.value ∷ [] = cc in
      let is_too = subst (IsReadSo read.bytes how seed entity) same is in
      let numbered_too = subst (IsNumbered read count path first) same numbered in
      let has = spot_wanted read.bytes how.exact (pos 10) (pos 20) entity spot.value spot.is in
      let are = spot_value_edits read how.exact (pos 10) (pos 20) entity spot.value first has refl refl [] tt in
      subst (Goal read how seed entity path first) (sym same)
      (subst (IsWritten (group_in read.bytes entity.head) how (is_seeded seed) alone alone
      (imaged_outlines read.images first (dot_of spot.value ∷ [])))
      (sym (values_end read entity at.set (spot_edits first spot.value) are))
      (insert_written read how seed entity spot.value count first at.set at.goes_on is_too
      (record { no_point = no_point; no_line = no_line; no_light = no_light; no_text = no_text }) none.is spot.is
      good (omega (arith, numbered_too.inside)) numbered_too.lone.0.0))

  text_case : (shapes : List Shape) → IsReadSo read.bytes how seed entity shapes
      → IsNumbered read count path first shapes → is_of_kind read.bytes (codes "POINT") entity ≡ false
      → is_of_kind read.bytes (codes "LINE") entity ≡ false
      → is_of_kind read.bytes (codes "LWPOLYLINE") entity ≡ false → is_of_kind read.bytes (codes "TEXT") entity ≡ true
      → text_shapes read.bytes how.exact entity ≡ Ok shapes → Goal read how seed entity path first shapes
  text_case shapes is numbered no_point no_line no_light kind made =
      let spot = went (λ (s : Read_point). and_then (λ (t : Option Read_point). Ok (dot_of s ∷ dots_of t))
      (second_spot read.bytes how.exact entity)) (spot_at read.bytes how.exact (pos 10) (pos 20) entity) shapes
      made in
      let second = went (λ (t : Option Read_point). Ok (dot_of spot.value ∷ dots_of t))
      (second_spot read.bytes how.exact entity) shapes spot.gives in
      let same : shapes ≡ dot_of spot.value ∷ dots_of second.value = cc in
      let has = spot_wanted read.bytes how.exact (pos 10) (pos 20) entity spot.value spot.is in
      subst (Goal read how seed entity path first) (sym same)
      (by_second spot.value spot.is second.value second.is
      (is_second read.bytes how.exact entity second.value second.is)
      (subst (IsReadSo read.bytes how seed entity) same is)
      (subst (IsNumbered read count path first) same numbered))
    where
      by_second : (spot : Read_point) → spot_at read.bytes how.exact (pos 10) (pos 20) entity ≡ Ok spot
          → (second : Option Read_point) → second_spot read.bytes how.exact entity ≡ Ok second
          → IsSecond read.bytes how.exact entity second
          → IsReadSo read.bytes how seed entity (dot_of spot ∷ dots_of second)
          → IsNumbered read count path first (dot_of spot ∷ dots_of second)
          → Goal read how seed entity path first (dot_of spot ∷ dots_of second)
      by_second spot spot_is None second_is seconds is numbered =
          let has = spot_wanted read.bytes how.exact (pos 10) (pos 20) entity spot spot_is in
          let are = spot_value_edits read how.exact (pos 10) (pos 20) entity spot first has refl refl [] tt in
          subst (IsWritten (group_in read.bytes entity.head) how (is_seeded seed) alone alone
          (imaged_outlines read.images first (dot_of spot ∷ [])))
          (sym (values_end read entity at.set (spot_edits first spot) are))
          (text_written read how seed entity spot count first at.set at.goes_on is (no_point, (no_line, no_light)) kind
          spot_is seconds good (omega (arith, numbered.inside)) numbered.lone.0.0)
      by_second spot spot_is (Some other) second_is seconds is numbered =
          let other_is = spot_found other seconds in
          let has = spot_wanted read.bytes how.exact (pos 10) (pos 20) entity spot spot_is in
          let has_too = spot_wanted read.bytes how.exact (pos 11) (pos 21) entity other other_is in
          let are = spot_value_edits read how.exact (pos 10) (pos 20) entity spot first has refl refl
          (spot_edits (first + 1) other) (spot_value_edits read how.exact (pos 11) (pos 21) entity other (first + 1)
          has_too refl refl [] tt) in
          subst (IsWritten (group_in read.bytes entity.head) how (is_seeded seed) alone alone
          (imaged_outlines read.images first (dot_of spot ∷ dot_of other ∷ [])))
          (sym (values_end read entity at.set (spot_edits first spot ++ spot_edits (first + 1) other) are))
          (text_both read how seed entity spot other count first at.set at.goes_on is (no_point, (no_line, no_light))
          kind spot_is other_is seconds good (omega (arith, numbered.inside)) numbered.lone.0.0 numbered.lone.1.0.0)
        where
          spot_found : (other : Read_point) → IsSecond read.bytes how.exact entity (Some other)
              → spot_at read.bytes how.exact (pos 11) (pos 21) entity ≡ Ok other
          spot_found other seconds = second_found read.bytes how.exact entity other seconds

  line_case : (shapes : List Shape) → IsReadSo read.bytes how seed entity shapes
      → IsNumbered read count path first shapes → is_of_kind read.bytes (codes "POINT") entity ≡ false
      → is_of_kind read.bytes (codes "LINE") entity ≡ true
      → line_shapes read.bytes how.exact seed entity ≡ Ok shapes → Goal read how seed entity path first shapes
  line_case shapes is numbered no_point kind made =
      let found = went (λ (e : LineFields). Ok (line_of entity e.begin e.end e.rise ∷ []))
      (line_ends read.bytes how.exact seed entity) shapes made in
      let ends = found.value in
      let own_line = line_parts read.bytes how.exact seed entity ends found.is in
      let same : shapes ≡ line_of entity ends.begin ends.end ends.rise ∷ [] = cc in
      let is_too = subst (IsReadSo read.bytes how seed entity) same is in
      let numbered_too = subst (IsNumbered read count path first) same numbered in
      let line : IsLine read.bytes how seed entity ends = record {
        read = is_too;
        no_point = no_point;
        is_line = kind;
        line = own_line;
      } in
      let row : PathRow = record { kind = paths.Line; first = first; past = first + 2 } in
      let positions = positions_found read.sheet.paths numbered_too.before (rows_behind (first + 2) numbered_too.more)
      path read.images row numbered_too.rows numbered_too.before_is in
      subst (Goal read how seed entity path first) (sym same)
      (subst (IsWritten (group_in read.bytes entity.head) how (is_seeded seed) alone alone
      (imaged_outlines read.images first (line_of entity ends.begin ends.end ends.rise ∷ [])))
      (sym (whole_end read entity at.set (whole_of entity (edits.Lines path)) refl))
      (line_written follow read how seed entity ends count path first at.set at.goes_on line at.found
      positions good numbered_too.inside numbered_too.lone.0.1))

  light_case : (shapes : List Shape) → IsReadSo read.bytes how seed entity shapes
      → IsNumbered read count path first shapes → is_of_kind read.bytes (codes "POINT") entity ≡ false
      → is_of_kind read.bytes (codes "LINE") entity ≡ false
      → is_of_kind read.bytes (codes "LWPOLYLINE") entity ≡ true → light_shapes read.bytes how.exact entity ≡ Ok shapes
      → Goal read how seed entity path first shapes
  light_case shapes is numbered no_point no_line kind made =
      let flags = went _ (kind_of read.bytes entity) shapes made in
      let vertices = went _ (vertices_in read.bytes how.exact (entity_fields entity)) shapes flags.gives in
      let number = went _ (count_of read.bytes (length vertices.value) entity) shapes vertices.gives in
      let same : shapes ≡ light_shape flags.value vertices.value number.value ∷ [] = cc in
      let is_too = subst (IsReadSo read.bytes how seed entity) same is in
      let numbered_too = subst (IsNumbered read count path first) same numbered in
      let inside : first + length vertices.value ≤ count =
      light_inside flags.value vertices.value number.value numbered_too.inside in
      subst (Goal read how seed entity path first) (sym same)
      (lights entity path first flags.value vertices.value number.value at is_too no_point no_line kind flags.is
      vertices.is number.is inside)
    where
      light_inside : (kind : PathKind) (vertices : List VertexFields) (number : Pair)
          → first + length (points_of (light_shape kind vertices number ∷ [])) ≤ count → first + length vertices ≤ count
      light_inside kind vertices number inside = light_count kind vertices number first count inside

  -- an entity that is read by itself
  pub alone_case : (shapes : List Shape) → IsReadSo read.bytes how seed entity shapes
      → IsNumbered read count path first shapes → Goal read how seed entity path first shapes
  alone_case shapes is numbered =
      by_tests (is_of_kind read.bytes (codes "POINT") entity) (is_of_kind read.bytes (codes "LINE") entity)
      (is_of_kind read.bytes (codes "LWPOLYLINE") entity) (is_of_kind read.bytes (codes "TEXT") entity) refl refl refl
      refl is.shapes_are where
        by_tests : (point line light text : Bool) → is_of_kind read.bytes (codes "POINT") entity ≡ point
            → is_of_kind read.bytes (codes "LINE") entity ≡ line
            → is_of_kind read.bytes (codes "LWPOLYLINE") entity ≡ light
            → is_of_kind read.bytes (codes "TEXT") entity ≡ text → cond point (point_shapes read.bytes how.exact entity)
            (cond line (line_shapes read.bytes how.exact seed entity)
            (cond light (light_shapes read.bytes how.exact entity)
            (cond text (text_shapes read.bytes how.exact entity) (insert_shapes read.bytes how.exact entity))))
            ≡ Ok shapes
            → Goal read how seed entity path first shapes
        by_tests true line light text a b c d made = point_case shapes is numbered a made
        by_tests false true light text a b c d made = line_case shapes is numbered a b made
        by_tests false false true text a b c d made = light_case shapes is numbered a b c made
        by_tests false false false true a b c d made = text_case shapes is numbered a b c d made
        by_tests false false false false a b c d made = insert_case shapes is numbered a b c d made
