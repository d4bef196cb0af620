-- The code's steps are those of the walk.
use Rattle.std.proofs.Common.{◌≡◌, ℕ, ◌+◌, List, [], ◌∷◌, ◌++◌, length, map, refl, ap, ◌∙◌, arith, Result, Ok, Err}
use Rattle.std.proofs.Common.{None}
use Rattle.std.specs.Prelude.{sum_by}
use Rattle.std.proofs.lemmas.List.{append_assoc, length-append, length-map, map-append}
use Rattle.std.proofs.lemmas.List.Sums.{sum_by-append}
use Rattle.sheet_base.specs.Sheets.{Contents}
use Rattle.sheet_base.specs.declared.faults.LayerFault.{LayerFault}
use Rattle.sheet_base.specs.declared.edits.What.TheVariants.{Vertex as OfVertex}
use Rattle.dxf_entities.specs.declared.drawing.VertexFields.{VertexFields}
use Rattle.dxf_layer.specs.declared.walks.EntityPlace.TheVariants.{Free}
use Rattle.sheet_base.specs.Faults.{and_then}
use Rattle.dxf_entities.specs.Shapes.{Shape, with_shape}
use Rattle.dxf_entities.specs.Polylines.{copy_edits, own_shape}
use Rattle.dxf_layer.specs.InsideWalks.{shapes_read}
use Rattle.dxf_entities.specs.DrawingContents.{with_own_vertex, AddsAs}
use Rattle.dxf_layer.specs.InsideStands.{GoesTo}
use Rattle.dxf_entities.proofs.Vertices.{same_contents, none_behind, point_in, lost_in}

pub alone_goes : (wanted : Result (List Shape) LayerFault) (before now : Contents) → AddsAs before wanted now
    → GoesTo (and_then (λ shapes. Ok (shapes_read shapes)) wanted) before Free now
alone_goes (Ok shapes) before now added = record { held = added; shows = tt }
alone_goes (Err fault) before now added = absurd added

pub copies_behind : (point : ℕ) (done : List VertexFields) (vertex : VertexFields)
    → copy_edits point (done ++ vertex ∷ []) ≡ copy_edits point done
    ++ record { start = vertex.start; end = vertex.past; what = OfVertex (point + length done) } ∷ []
copies_behind point [] vertex = let at : point + 0 ≡ point = omega arith in rw at refl
copies_behind point (first ∷ done) vertex = grind (arith, (copies_behind (point + 1) done vertex))

pub own_behind : (before : Contents) (done : List VertexFields) (vertex : VertexFields)
    → with_own_vertex (with_shape before (own_shape None done)) vertex
    ≡ with_shape before (own_shape None (done ++ vertex ∷ []))
own_behind before done vertex =
    let n = length before.points in
    let number = length-append before.points (map point_in done) ∙ ap (λ m. n + m) (length-map done point_in) in
    let points : (before.points ++ map point_in done) ++ point_in vertex ∷ [] ≡ before.points
    ++ map point_in (done ++ vertex ∷ []) = rw (
      map-append point_in done (vertex ∷ []),
      append_assoc before.points (map point_in done) (point_in vertex ∷ []),
    ) refl in
    let edits : (before.edits ++ copy_edits n done) ++ record {
      start = vertex.start;
      end = vertex.past;
      what = OfVertex (length (before.points ++ map point_in done));
    } ∷ [] ≡ before.edits ++ copy_edits n (done ++ vertex ∷ []) = rw (
      number,
      copies_behind n done vertex,
      append_assoc before.edits (copy_edits n done)
          (record { start = vertex.start; end = vertex.past; what = OfVertex (n + length done) } ∷ []),
    ) refl in
    let lost : (before.inexact + sum_by lost_in done) + lost_in vertex ≡ before.inexact
    + sum_by lost_in (done ++ vertex ∷ []) = omega (arith, sum_by-append lost_in done (vertex ∷ [])) in
    same_contents _ _ refl points (none_behind _ _ _ _ (map-append point_in done (vertex ∷ []))) edits lost refl
