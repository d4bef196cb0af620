-- The points of a ring are on its border, and their images on that of its written form.
use Rattle.std.proofs.Common.{◌≡◌, ℕ, zero, suc, ◌+◌, ◌-◌, ◌<◌, ◌≤◌, ℤ, pos, ◌+ℤ◌, ◌-ℤ◌, ◌*ℤ◌, Bool, true, false, List, [], ◌∷◌, ◌++◌, length, get_or, take, drop, arith, refl, ap, ◌∙◌}
use Rattle.std.specs.Prelude.{if◌then◌else◌, flat_map}
use Rattle.std.proofs.lemmas.Bool.Decides.{Decides-int_eq}
use Rattle.std.proofs.lemmas.List.{get_or-take, get_or-drop, length-take-le, length-drop}
use Rattle.integer_ring.proofs.Ring.{Expr, num, ◌⊕◌, ◌⊖◌, ◌⊗◌}
use Rattle.integer_ring.proofs.Claims.{solve, ◌≐◌}
use Rattle.plane_base.specs.declared.shapes.Pt.{Pt}
use Rattle.plane_base.specs.Plane.{turn_of, whole}
use Rattle.plane_base.proofs.Bounds.BoxLemmas.{segment_has}
use Rattle.sheet_base.specs.declared.paths.PathRow.{PathRow}
use Rattle.sheet_base.specs.Sheets.{Contents}
use Rattle.sheet_base.specs.Segments.{points_in, point_at}
use Rattle.sheet_base.specs.ImageFits.{Runs, DoFit, run_begin, row_images}
use Rattle.sheet_base.proofs.ImageRuns.{spread, images_length}
use Rattle.tin_base.specs.declared.frames.Frame.TheVariants.{Source, Target}
use Rattle.ring_side.specs.declared.kinds.Side.{Side}
use Rattle.ring_side.specs.declared.kinds.Side.TheVariants.{Border}
use Rattle.ring_side.specs.declared.kinds.SideChange.{SideChange}
use Rattle.ring_side.specs.declared.groups.Group.{Group}
use Rattle.ring_side.specs.Rings.{chain, no_point}
use Rattle.ring_side.specs.Sides.{is_on, is_on_some, side_of}
use Rattle.ring_side.specs.SideChanges.{sheet_at, images_at, path_at, place_of, ring_of, point_change, spots_run}
use Rattle.ring_side.specs.InsideGroups.{IsGroup, spots_in}
use Rattle.ring_side.proofs.PointSides.OnSegments.{all_three, is_between_by}
use Rattle.ring_side.proofs.ChangeLists.NoChanges.{none_of_spot}

abbrev one : Expr
one = num (pos 1)

-- ---- a segment has its end
no_turn : (ax ay bx by : ℤ)
    → ax *ℤ (by *ℤ pos 1 -ℤ by *ℤ pos 1) -ℤ ay *ℤ (bx *ℤ pos 1 -ℤ bx *ℤ pos 1) +ℤ pos 1 *ℤ (bx *ℤ by -ℤ bx *ℤ by) ≡ pos 0
no_turn = solve 4 (λ ax ay bx by.
    ax ⊗ (by ⊗ one ⊖ by ⊗ one) ⊖ ay ⊗ (bx ⊗ one ⊖ bx ⊗ one) ⊕ one ⊗ (bx ⊗ by ⊖ bx ⊗ by) ≐ num (pos 0)) tt

has_end : (a b : Pt) → is_on b (record { from = a; to = b }) ≡ true
has_end a b =
    let inside = (segment_has a b).1 in
    all_three _ _ _ ((Decides-int_eq (turn_of (whole a) (whole b) (whole b)) (pos 0)).1 (no_turn a.x a.y b.x b.y))
    (is_between_by a.x b.x b.x inside.left inside.right) (is_between_by a.y b.y b.y inside.bottom inside.top)

-- ---- a point of a ring is on its border
by_first : (x y : Bool) → x ≡ true → (if x then true else y) ≡ true
by_first true y e = refl
by_first false y e = cc

by_rest : (x y : Bool) → y ≡ true → (if x then true else y) ≡ true
by_rest true y e = refl
by_rest false y e = e

has_point : (a : Pt) (ps : List Pt) (i : ℕ) (d : Pt) → i < length ps → is_on_some (get_or ps i d) (chain a ps) ≡ true
has_point a [] i d h = absurd (omega arith)
has_point a (b ∷ ps) zero d h = by_first (is_on b (record { from = a; to = b })) (is_on_some b (chain b ps)) (has_end a b)
has_point a (b ∷ ps) (suc i) d h = grind (arith, by_rest, get_or, (has_point b ps i d (omega arith)))

border_by : (x : Bool) (s : Side) → x ≡ true → (if x then Border else s) ≡ Border
border_by true s e = refl
border_by false s e = cc

on_border : (ring : List Pt) (i : ℕ) (d p : Pt) → i < length ring → get_or ring i d ≡ p → side_of ring p ≡ Border
on_border ring i d p h e = grind (arith, border_by, get_or, has_point)

-- ---- the points of a path, and their images
part_at : (ps : List Pt) (first count i n : ℕ) (d : Pt) → i < count → first + i ≡ n
    → get_or (take count (drop first ps)) i d ≡ get_or ps n d
part_at ps first count i n d h e =
    get_or-take count (drop first ps) i d h ∙ get_or-drop first ps i d ∙ ap (λ (k : ℕ). get_or ps k d) e

own_was : (sheets : List Contents) (images : List Runs) (layer path vertex : ℕ)
    → (path_at (sheet_at sheets layer) path).past ≤ length (sheet_at sheets layer).points
    → vertex < points_in (path_at (sheet_at sheets layer) path)
    → side_of (ring_of sheets images Source layer path) (place_of sheets images Source (record { layer = layer; path = path; vertex = vertex })) ≡ Border
own_was sheets images layer path vertex within h =
    let sheet : Contents = sheet_at sheets layer in
    let row : PathRow = path_at sheet path in
    let long = length-drop row.first sheet.points in
    let count : length (take (points_in row) (drop row.first sheet.points)) ≡ points_in row =
    length-take-le (points_in row) (drop row.first sheet.points) (omega (arith, long, within)) in
    on_border (take (points_in row) (drop row.first sheet.points)) vertex no_point
    (point_at sheet.points (row.first + vertex)) (omega (arith, count, h))
    (part_at sheet.points row.first (points_in row) vertex (row.first + vertex) no_point h refl)

own_now : (sheets : List Contents) (images : List Runs) (layer path vertex : ℕ) → DoFit (sheet_at sheets layer) (images_at images layer)
    → (path_at (sheet_at sheets layer) path).past ≤ length (sheet_at sheets layer).points
    → vertex < points_in (path_at (sheet_at sheets layer) path)
    → side_of (ring_of sheets images Target layer path) (place_of sheets images Target (record { layer = layer; path = path; vertex = vertex })) ≡ Border
own_now sheets images layer path vertex fit within h =
    let sheet : Contents = sheet_at sheets layer in
    let runs : Runs = images_at images layer in
    let row : PathRow = path_at sheet path in
    let number : ℕ = row.first + vertex in
    let low = spread sheet runs fit row.first vertex (omega (arith, within, h)) in
    let high = spread sheet runs fit number (row.past - number) (omega (arith, within, h)) in
    let e : number + (row.past - number) ≡ row.past = omega (arith, h) in
    let f = ap (run_begin runs) e in
    let count = images_length sheet runs fit row.first row.past within in
    let place : ℕ = run_begin runs number - run_begin runs row.first in
    on_border (row_images runs row) place no_point (point_at runs.points (run_begin runs number))
    (omega (arith, count, low, high, f, h))
    (part_at runs.points (run_begin runs row.first) (run_begin runs row.past - run_begin runs row.first) place
    (run_begin runs number) no_point (omega (arith, low, high, f, h)) (omega (arith, low)))

-- ---- a group of a ring's own points has no changes
none_of_run : (sheets : List Contents) (images : List Runs) (layer path vertex count : ℕ)
    → DoFit (sheet_at sheets layer) (images_at images layer)
    → (path_at (sheet_at sheets layer) path).past ≤ length (sheet_at sheets layer).points
    → vertex + count ≤ points_in (path_at (sheet_at sheets layer) path)
    → flat_map (point_change sheets images layer path) (spots_run layer path vertex count) ≡ []
none_of_run sheets images layer path vertex zero fit within h = refl
none_of_run sheets images layer path vertex (suc count) fit within h =
    ap (λ (cs : List SideChange). cs ++ flat_map (point_change sheets images layer path) (spots_run layer path (vertex + 1) count))
    (none_of_spot sheets images layer path Border (record { layer = layer; path = path; vertex = vertex })
    (own_was sheets images layer path vertex within (omega (arith, h)))
    (own_now sheets images layer path vertex fit within (omega (arith, h))))
    ∙ none_of_run sheets images layer path (vertex + 1) count fit within (omega (arith, h))

pub none_of_own : (sheets : List Contents) (images : List Runs) (layer path : ℕ) (group : Group)
    → DoFit (sheet_at sheets layer) (images_at images layer)
    → (path_at (sheet_at sheets layer) path).past ≤ length (sheet_at sheets layer).points
    → IsGroup sheets group → group.layer ≡ layer → group.path ≡ path
    → flat_map (point_change sheets images layer path) (spots_in group) ≡ []
none_of_own sheets images layer path group fit within is on_layer on_path = grind (arith, none_of_run)
