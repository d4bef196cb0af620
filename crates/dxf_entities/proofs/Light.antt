-- A polyline in one entity, read whole.
use Rattle.std.proofs.Common.{◌≡◌, ℕ, ◌+◌, ◌-◌, ◌≤◌, List, [], ◌∷◌, length, map, Bool, true, false, refl, ap, sym}
use Rattle.std.proofs.Common.{◌∙◌, subst, arith, Result, Ok, Err}
use Rattle.std.specs.Prelude.{nat_lt}
use Rattle.std.proofs.lemmas.Bool.Decides.{nat_tests}
use Rattle.std.proofs.lemmas.List.{append_assoc, length-append, length-map}
use Rattle.sheet_base.specs.Sheets.{Contents}
use Rattle.sheet_base.specs.declared.faults.LayerFault.{LayerFault}
use Rattle.sheet_base.specs.declared.paths.PathKind.{PathKind}
use Rattle.sheet_base.specs.declared.edits.Edit.{Edit}
use Rattle.sheet_base.specs.declared.edits.What.TheVariants.{Tally}
use Rattle.dxf_pairs.specs.declared.pairs.Pair.{Pair}
use Rattle.dxf_entities.specs.declared.drawing.VertexFields.{VertexFields}
use Rattle.dxf_entities.specs.Entities.{Entity}
use Rattle.sheet_base.specs.Faults.{and_then}
use Rattle.dxf_entities.specs.Fields.{entity_fields}
use Rattle.dxf_entities.specs.Shapes.{Shape, point_of, value_edit, rows_of, with_shape}
use Rattle.dxf_entities.specs.Polylines.{kind_of, kind_with, rows_from, vertices_in, count_of}
use Rattle.dxf_entities.specs.Polylines.{light_shape, light_shapes}
use Rattle.dxf_entities.specs.DrawingContents.{with_vertices, with_edits, with_rows, AddsAs, AddsVertices}
use Rattle.dxf_entities.proofs.Vertices.{same_contents}

rows_same : (kind : PathKind) (first : ℕ) (vertices : List VertexFields)
    → rows_from kind first (first + length vertices) ≡ rows_of (kind_with kind vertices) first (first + length vertices)
rows_same kind first [] = let no : nat_lt first (first + 0) ≡ false = grind (arith, nat_tests) in rw no refl
rows_same kind first (vertex ∷ vertices) = let yes : nat_lt first (first + length (vertex ∷ vertices)) ≡ true =
    grind (arith, nat_tests) in rw yes refl

-- the vertices of what was read
abbrev shapes_with : List ℕ → Entity → PathKind → Result (List VertexFields) LayerFault → Result (List Shape) LayerFault
shapes_with bytes entity kind read = and_then (λ vertices. and_then (λ count. Ok (light_shape kind vertices count ∷ []))
    (count_of bytes (length vertices) entity)) read

points_of : (before : Contents) (vertices : List VertexFields)
    → length (with_vertices before vertices).points ≡ length before.points + length vertices
points_of before vertices = length-append before.points (map (λ (v : VertexFields). point_of v.spot) vertices)
    ∙ ap (λ n. length before.points + n) (length-map vertices (λ (v : VertexFields). point_of v.spot))

abbrev pub finished : PathKind → Pair → ℕ → Contents → Contents
finished kind count first mid = with_rows (with_edits mid (value_edit (Tally first (length mid.points)) count ∷ []))
    (rows_from kind first (length mid.points))

-- what the code makes of its own steps
pub finished_by : (kind : PathKind) (count : Pair) (first past begin : ℕ) (edit : Edit) (mid edited now : Contents)
    → now ≡ with_rows edited (rows_from kind first (length edited.points)) → edited ≡ with_edits mid (edit ∷ [])
    → edit ≡ value_edit (Tally first past) count → first ≡ begin → past ≡ length mid.points
    → now ≡ finished kind count begin mid
finished_by kind count first past begin edit mid edited now now_is edited_is edit_is first_is past_is = grind arith

finishes : (kind : PathKind) (count : Pair) (before : Contents) (vertices : List VertexFields)
    → finished kind count (length before.points) (with_vertices before vertices)
    ≡ with_shape before (light_shape kind vertices count)
finishes kind count before vertices = grind (arith, points_of, length-map, rows_same, append_assoc, same_contents)

with_read : (bytes : List ℕ) (entity : Entity) (kind : PathKind) (count : Pair) (before mid : Contents)
    (read : Result (List VertexFields) LayerFault) → AddsVertices before read mid
    → count_of bytes (length mid.points - length before.points) entity ≡ Ok count
    → AddsAs before (shapes_with bytes entity kind read) (finished kind count (length before.points) mid)
with_read bytes entity kind count before mid (Ok vertices) added counted = grind (arith, points_of, finishes)
with_read bytes entity kind count before mid (Err fault) added counted = absurd added

pub light_added : (bytes : List ℕ) (exact : Bool) (entity : Entity) (kind : PathKind) (count : Pair)
    (before mid now : Contents) → kind_of bytes entity ≡ Ok kind
    → AddsVertices before (vertices_in bytes exact (entity_fields entity)) mid
    → count_of bytes (length mid.points - length before.points) entity ≡ Ok count
    → now ≡ finished kind count (length before.points) mid → AddsAs before (light_shapes bytes exact entity) now
light_added bytes exact entity kind count before mid now kind_is added counted now_is =
    subst (λ c. AddsAs before (light_shapes bytes exact entity) c) (sym now_is) (rw kind_is (with_read bytes entity kind
    count before mid _ added counted))

miscounted : (bytes : List ℕ) (entity : Entity) (kind : PathKind) (fault : LayerFault) (before mid : Contents)
    (read : Result (List VertexFields) LayerFault) → AddsVertices before read mid
    → count_of bytes (length mid.points - length before.points) entity ≡ Err fault
    → shapes_with bytes entity kind read ≡ Err fault
miscounted bytes entity kind fault before mid (Ok vertices) added counted = grind (arith, points_of)
miscounted bytes entity kind fault before mid (Err other) added counted = absurd added

pub light_miscounted : (bytes : List ℕ) (exact : Bool) (entity : Entity) (kind : PathKind) (fault : LayerFault)
    (before mid : Contents) → kind_of bytes entity ≡ Ok kind
    → AddsVertices before (vertices_in bytes exact (entity_fields entity)) mid
    → count_of bytes (length mid.points - length before.points) entity ≡ Err fault
    → light_shapes bytes exact entity ≡ Err fault
light_miscounted bytes exact entity kind fault before mid kind_is added counted =
    rw kind_is (miscounted bytes entity kind fault before mid _ added counted)

-- no vertex takes a point away
pub no_fewer : (before mid : Contents) (read : Result (List VertexFields) LayerFault) → AddsVertices before read mid
    → length before.points ≤ length mid.points
no_fewer before mid (Ok vertices) added = omega
    (arith, ap (λ (c : Contents). length c.points) added, points_of before vertices)
no_fewer before mid (Err fault) added = absurd added
