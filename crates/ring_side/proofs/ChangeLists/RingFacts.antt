-- Rings of layers and the places of spots: near each other, and how many points a ring has.
use Rattle.std.proofs.Common.{◌≡◌, ℕ, ◌+◌, ◌-◌, ◌<◌, ◌≤◌, List, ◌++◌, length, get_or, take, drop, arith, ap, sym, ◌∙◌, subst}
use Rattle.std.proofs.lemmas.List.{length-take-le, length-drop}
use Rattle.std.proofs.lemmas.List.Elements.{All-take, All-drop}
use Rattle.plane_base.specs.declared.shapes.Pt.{Pt}
use Rattle.plane_base.specs.Plane.{IsNear}
use Rattle.sheet_base.specs.declared.paths.PathRow.{PathRow}
use Rattle.sheet_base.specs.Sheets.{Contents}
use Rattle.sheet_base.specs.Segments.{points_in}
use Rattle.sheet_base.specs.ImageFits.{Runs, DoFit, run_begin, row_images}
use Rattle.sheet_base.proofs.ImageRuns.{spread, images_length}
use Rattle.tin_base.specs.declared.frames.Frame.{Frame}
use Rattle.tin_base.specs.declared.frames.Frame.TheVariants.{Source, Target}
use Rattle.ring_side.specs.declared.kinds.Spot.{Spot}
use Rattle.ring_side.specs.declared.kinds.Side.{Side}
use Rattle.ring_side.specs.declared.kinds.SideChange.{SideChange}
use Rattle.ring_side.specs.Sides.{side_of}
use Rattle.ring_side.specs.Rings.{AreNear, AreNearTo}
use Rattle.ring_side.specs.Layers.{AreLayers, AreNearEach}
use Rattle.ring_side.specs.SideChanges.{sheet_at, images_at, path_at, place_of, ring_of, number_of, point_from, point_change}
use Rattle.ring_side.specs.InsideGroups.{IsPath, IsSpot, IsAmong}
use Rattle.ring_side.proofs.PointGroups.Spots.{IsRowIn}

near_to_slice : (ps : List Pt) (q : Pt) (n m : ℕ) → AreNearTo ps q → AreNearTo (take n (drop m ps)) q
near_to_slice ps q n m near = All-take (λ (p : Pt). IsNear p q) n (drop m ps) (All-drop (λ (p : Pt). IsNear p q) m ps near)

near_slices : (ps qs : List Pt) (n m i j : ℕ) → AreNearEach ps qs → AreNearEach (take n (drop m ps)) (take i (drop j qs))
near_slices ps qs n m i j near =
    let part : List Pt = take n (drop m ps) in
    All-take (λ (q : Pt). AreNearTo part q) i (drop j qs)
    (All-drop (λ (q : Pt). AreNearTo part q) j qs
    (λ (k : ℕ) (d : Pt) (within : k < length qs). near_to_slice ps (get_or qs k d) n m (near k d within)))

-- ---- near each other
pub near_ring : (sheets : List Contents) (images : List Runs) (frame : Frame) (layer path : ℕ) → AreLayers sheets images
    → IsPath sheets layer path → AreNear (ring_of sheets images frame layer path)
near_ring sheets images Source layer path layers is =
    let points : List Pt = (sheet_at sheets layer).points in
    let row : PathRow = path_at (sheet_at sheets layer) path in
    near_slices points points (points_in row) row.first (points_in row) row.first (layers.near layer layer is.in_layers is.in_layers)
near_ring sheets images Target layer path layers is =
    let runs : Runs = images_at images layer in
    let row : PathRow = path_at (sheet_at sheets layer) path in
    let count : ℕ = run_begin runs row.past - run_begin runs row.first in
    near_slices runs.points runs.points count (run_begin runs row.first) count (run_begin runs row.first)
    (layers.images_near layer layer is.in_layers is.in_layers)

pub near_place : (sheets : List Contents) (images : List Runs) (frame : Frame) (layer path : ℕ) (spot : Spot) → AreLayers sheets images
    → IsPath sheets layer path → IsSpot sheets spot → IsAmong sheets images frame spot
    → AreNearTo (ring_of sheets images frame layer path) (place_of sheets images frame spot)
near_place sheets images Source layer path spot layers is at among =
    let row : PathRow = path_at (sheet_at sheets layer) path in
    near_to_slice (sheet_at sheets layer).points (place_of sheets images Source spot) (points_in row) row.first
    (layers.near layer spot.layer is.in_layers at.path.in_layers (number_of sheets spot) _ among)
near_place sheets images Target layer path spot layers is at among =
    let runs : Runs = images_at images layer in
    let row : PathRow = path_at (sheet_at sheets layer) path in
    near_to_slice runs.points (place_of sheets images Target spot) (run_begin runs row.past - run_begin runs row.first)
    (run_begin runs row.first)
    (layers.images_near layer spot.layer is.in_layers at.path.in_layers (run_begin (images_at images spot.layer) (number_of sheets spot)) _ among)

-- the points of a ring are near each other, however it is spelled
pub near_form : (points ring : List Pt) → points ≡ ring → AreNear ring → AreNear points
near_form points ring e near = subst AreNear (sym e) near

pub near_form_to : (points ring : List Pt) (p q : Pt) → points ≡ ring → p ≡ q → AreNearTo ring q → AreNearTo points p
near_form_to points ring p q e f near =
    subst (λ (ps : List Pt). AreNearTo ps p) (sym e) (subst (λ (r : Pt). AreNearTo ring r) (sym f) near)

-- ---- how many points
pub row_count : (points : List Pt) (row : PathRow) → IsRowIn row 0 (length points)
    → length (take (points_in row) (drop row.first points)) ≡ points_in row
row_count points row is = grind (arith, length-drop, length-take-le)

pub images_count : (sheet : Contents) (runs : Runs) (row : PathRow) → DoFit sheet runs → IsRowIn row 0 (length sheet.points)
    → points_in row ≤ length (row_images runs row)
images_count sheet runs row fit is =
    let some = is.some in let within = is.within in
    let e : row.first + points_in row ≡ row.past = omega arith in
    let f = ap (run_begin runs) e in
    let a = spread sheet runs fit row.first (points_in row) (omega arith) in
    let b = images_length sheet runs fit row.first row.past within in
    omega (arith, a, b, f)

-- ---- the change of a point
side_as : (points ring : List Pt) (p q : Pt) (side : Side) → side ≡ side_of points p → points ≡ ring → p ≡ q → side ≡ side_of ring q
side_as points ring p q side e f g =
    e ∙ ap (λ (ps : List Pt). side_of ps p) f ∙ ap (side_of ring) g

pub point_added : (sheets : List Contents) (images : List Runs) (layer path : ℕ) (spot : Spot) (points written : List Pt) (p q : Pt)
    (was now : Side) (before after : List SideChange)
    → was ≡ side_of points p → now ≡ side_of written q
    → points ≡ ring_of sheets images Source layer path → written ≡ ring_of sheets images Target layer path
    → p ≡ place_of sheets images Source spot → q ≡ place_of sheets images Target spot
    → after ≡ before ++ point_from layer path spot was now
    → after ≡ before ++ point_change sheets images layer path spot
point_added sheets images layer path spot points written p q was now before after a b e f g h on =
    grind (arith, side_as)
