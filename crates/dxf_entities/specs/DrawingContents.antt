-- What is read so far of a drawing, as contents, and what a step adds to it.
use Rattle.std.specs.Prelude.{◌≡◌, ◌≢◌, ℕ, ◌+◌, ◌*◌, ◌≤◌, List, [], ◌∷◌, ◌++◌, length, map, sum_by, drop, Bool, Option}
use Rattle.std.specs.Prelude.{None, Some, Result, Ok, Err}
use Rattle.sheet_base.specs.declared.edits.Edit.{Edit}
use Rattle.sheet_base.specs.declared.paths.PathRow.{PathRow}
use Rattle.sheet_base.specs.declared.faults.LayerFault.{LayerFault}
use Rattle.sheet_base.specs.declared.faults.LayerFault.TheVariants.{NoMemory}
use Rattle.sheet_base.specs.PointHeights.{no_heights}
use Rattle.sheet_base.specs.Sheets.{Contents}
use Rattle.dxf_pairs.specs.declared.pairs.Pair.{Pair}
use Rattle.dxf_entities.specs.Shapes.{Shape, point_of, lost_count, lost_of, with_shapes}
use Rattle.dxf_entities.specs.Polylines.{vertices_in, vertex_edits}
use Rattle.sheet_base.specs.Faults.{and_then}
use Rattle.dxf_entities.specs.declared.drawing.Drawing.{Drawing}
use Rattle.dxf_entities.specs.declared.drawing.PointFields.{PointFields}
use Rattle.dxf_entities.specs.declared.drawing.Rise.{Rise}
use Rattle.dxf_entities.specs.declared.fields.Read.{Read}
use Rattle.dxf_entities.specs.declared.drawing.VertexFields.{VertexFields}
use Rattle.sheet_base.specs.declared.edits.What.TheVariants as edits

abbrev pub contents_of : Drawing → Contents
contents_of drawing = record {
  paths = drawing.paths.items;
  points = drawing.points.items;
  heights = drawing.heights;
  edits =
      drawing.edits.items;
  inexact = drawing.inexact;
  dropped = drawing.dropped;
}

-- a point without a height
abbrev pub with_point : Contents → PointFields → Contents
with_point before spot = record {
  paths = before.paths;
  points = before.points ++ point_of spot ∷ [];
  heights = before.heights ++ None ∷ [];
  edits =
      before.edits;
  inexact = before.inexact + lost_of spot;
  dropped = before.dropped;
}

-- a point with a height
abbrev pub with_raised : Contents → PointFields → Read → Contents
with_raised before spot height = record {
  paths = before.paths;
  points = before.points ++ point_of spot ∷ [];
  heights = before.heights ++ Some height.mm ∷ [];
  edits = before.edits;
  inexact = before.inexact + (lost_of spot + lost_count height.lost);
  dropped = before.dropped;
}

-- the two ends of a line
abbrev pub with_ends : Contents → PointFields → PointFields → Option Rise → Contents
with_ends before begin end None = with_point (with_point before begin) end
with_ends before begin end (Some rise) = with_raised (with_raised before begin rise.begin) end rise.end

abbrev pub with_edits : Contents → List Edit → Contents
with_edits before edits = record {
  paths = before.paths;
  points = before.points;
  heights = before.heights;
  edits =
      before.edits ++ edits;
  inexact = before.inexact;
  dropped = before.dropped;
}

abbrev pub with_rows : Contents → List PathRow → Contents
with_rows before rows = record {
  paths = before.paths ++ rows;
  points = before.points;
  heights = before.heights;
  edits = before.edits;
  inexact =
      before.inexact;
  dropped = before.dropped;
}

-- vertices in fields, without their path
abbrev pub with_vertices : Contents → List VertexFields → Contents
with_vertices before vertices = record {
  paths = before.paths;
  points = before.points ++ map (λ vertex. point_of vertex.spot) vertices;
  heights = before.heights ++ no_heights (length (map (λ vertex. point_of vertex.spot) vertices));
  edits = before.edits ++ vertex_edits (length before.points) vertices;
  inexact = before.inexact + sum_by (λ vertex. lost_of vertex.spot) vertices;
  dropped = before.dropped;
}

-- the lists and counts are no longer than so
pub record HoldsAtMost (count : ℕ) (contents : Contents) : Type 0 where
  pub points : length contents.points ≤ count
  pub heights : length contents.heights ≤ count
  pub paths : length contents.paths ≤ count
  pub inexact : contents.inexact ≤ 3 * count
  pub dropped : contents.dropped ≤ count

-- and grow by no more than that
abbrev pub GrowsBy : ℕ → Contents → Contents → Type 0
GrowsBy more before now = (count : ℕ) → HoldsAtMost count before → HoldsAtMost (count + more) now

-- what was read is added, or the first fault is answered; memory may always run out
abbrev pub AddsAs : Contents → Result (List Shape) LayerFault → Contents → Type 0
AddsAs before (Ok shapes) now = now ≡ with_shapes before shapes
AddsAs before (Err fault) now = ⊥

abbrev pub RefusesBy : {A : Type 0} → Result A LayerFault → LayerFault → Type 0
RefusesBy wanted fault = fault ≢ NoMemory → wanted ≡ Err fault

abbrev pub Reads : Result (List Shape) LayerFault → Contents → Result (Unit {0}) LayerFault → Contents → Type 0
Reads wanted before (Ok done) now = AddsAs before wanted now
Reads wanted before (Err fault) now = RefusesBy wanted fault

-- the vertices in fields that were read are added, or the first fault is answered; memory may always run out
abbrev pub AddsVertices : Contents → Result (List VertexFields) LayerFault → Contents → Type 0
AddsVertices before (Ok vertices) now = now ≡ with_vertices before vertices
AddsVertices before (Err fault) now = ⊥

abbrev pub ReadsVertices : Result (List VertexFields) LayerFault → Contents → Result (Unit {0}) LayerFault → Contents → Type 0
ReadsVertices wanted before (Ok done) now = AddsVertices before wanted now
ReadsVertices wanted before (Err fault) now = RefusesBy wanted fault

-- a vertex with an entity of its own, which copies replace
abbrev pub with_own_vertex : Contents → VertexFields → Contents
with_own_vertex before vertex =
    with_edits (with_point before vertex.spot)
    (record { start = vertex.start; end = vertex.past; what = edits.Vertex (length before.points) } ∷ [])

-- the vertices in fields, by the one with which they begin
abbrev pub vertices_by : List ℕ → Bool → List Pair → Result (Option VertexFields) LayerFault → Result (List VertexFields) LayerFault
vertices_by bytes exact fields (Ok (Some vertex)) =
    and_then (λ more. Ok (vertex ∷ more)) (vertices_in bytes exact (drop 2 fields))
vertices_by bytes exact fields (Ok None) = vertices_in bytes exact (drop 1 fields)
vertices_by bytes exact fields (Err fault) = Err fault
