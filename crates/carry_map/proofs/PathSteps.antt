-- A path, vertex by vertex.
use Rattle.std.proofs.Common.{◌≡◌, ℕ, suc, ◌+◌, ◌-◌, ◌*◌, ◌^◌, ◌<◌, ◌≤◌, List, [], ◌∷◌, ◌++◌, drop, length, ap, refl}
use Rattle.std.proofs.Common.{sym, ◌∙◌, subst, arith}
use Rattle.std.proofs.lemmas.List.{length-append}
use Rattle.plane_base.specs.Plane.{whole}
use Rattle.plane_base.specs.declared.shapes.Pt.{Pt}
use Rattle.sheet_base.specs.declared.paths.PathRow.{PathRow}
use Rattle.sheet_base.specs.PointHeights.{Height, height_in}
use Rattle.sheet_base.specs.ReadBack.{Ends, height_ends_at}
use Rattle.sheet_base.specs.Segments.{points_in, segments_in, point_at, begin_of, end_of}
use Rattle.sheet_base.specs.Sheets.{IsPathFrom}
use Rattle.tin_base.specs.declared.frames.Frame.TheVariants.{Source}
use Rattle.tin_base.specs.declared.pieces.Piece.{Piece}
use Rattle.tin_base.specs.declared.pieces.Place.{Place}
use Rattle.tin_base.specs.Triangulation.{Triangulation}
use Rattle.tin_base.specs.Images.{IsInSome}
use Rattle.tin_base.specs.Segments.{IsInside}
use Rattle.affine_image.specs.RoundedImages.{IsRoundedImage}
use Rattle.sheet_pieces.specs.SheetSegments.{SheetSegment, PathVertex, segment_at, vertex_at, path_vertices}
use Rattle.sheet_pieces.specs.SheetSegments.{segments_begun}
use Rattle.sheet_pieces.proofs.PathVertices.{few, first_vertices, one_vertex_more, begins_one, begins_none}
use Rattle.sheet_pieces.proofs.PathVertices.{first_point_is, next_begins, split_at, in_points}
use Rattle.tin_base.proofs.SegmentSpots.Spots.{first_inside}
use Rattle.carry_map.specs.declared.segments.PathSegment.{PathSegment}
use Rattle.carry_map.specs.declared.segments.Start.{Start}
use Rattle.carry_map.specs.declared.segments.Start.TheVariants.{Found, Guessed}
use Rattle.carry_map.specs.InsideStarts.{IsLeastWith, IsStart}
use Rattle.carry_map.specs.declared.paths.PathAt.{PathAt}
use Rattle.carry_map.specs.declared.faults.CarryFault.{CarryFault}
use Rattle.carry_map.specs.CarriedLists.{IsSegmentCarried, AreCarried}
use Rattle.carry_map.specs.Causes.{IsFirstOutside, IsCause, IsWayCause}
use Rattle.carry_map.proofs.VertexLists.{carried_each, carried_none, carried_on, carried_last, carried_way}
use Rattle.carry_map.proofs.LayerStops.{cause_of_way, cause_between}

-- ---- what holds after some vertices
pub record IsPathCarried (tin : Triangulation) (layer : ℕ) (points : List Pt) (heights : List Height) (path : ℕ)
    (row : PathRow) (most : ℕ) (x x' : List Pt) (a a' : List Height) (r r' : List ℕ) (p p' : List Piece) (j : ℕ)
    (image : Pt) : Type 0 where
  pub carried : AreCarried tin layer (first_vertices points heights path row j) x x' a a' r r' p p'
  pub each : length a' ≡ length x'
  pub image_is : j < points_in row → IsRoundedImage tin (begin_of points row j) image
  pub room : length p' ≤ most
  pub count : length x' + length p ≡ length x + length p'
  pub more : j + length p ≤ length p'

pub path_start : (tin : Triangulation) (layer : ℕ) (points : List Pt) (heights : List Height) (path : ℕ) (row : PathRow)
    (most : ℕ) (x : List Pt) (a : List Height) (r : List ℕ) (p : List Piece) (image : Pt)
    → IsRoundedImage tin (point_at points row.first) image → length p ≤ most → length a ≡ length x
    → IsPathCarried tin layer points heights path row most x x a a r r p p 0 image
path_start tin layer points heights path row most x a r p image is room each = record {
  carried = carried_none tin layer x a r p;
  each = each;
  image_is = λ _. subst (λ (q : Pt). IsRoundedImage tin q image) (first_point_is points row.first) is;
  room = room;
  count = refl;
  more = omega arith;
}

-- ---- how many there are
-- few images while a path is carried, no more than two for each piece
pub few_images : (most n x x' m p p' : ℕ) → n ≡ x → m ≡ p → most ≤ 2 ^ 22 → m ≤ most → p' ≤ most → n ≤ 2 * m
    → x' + p ≡ x + p' → x' + 1 < 2 ^ 31
few_images most n x x' m p p' e f small before after twice count = omega arith

pub few_counted : (n x : ℕ) → n ≡ x → x + 1 < 2 ^ 31 → n < 2 ^ 32
few_counted n x e few = omega arith

pub few_with_one : (m n x : ℕ) → m ≡ n + 1 → n ≡ x → x + 1 < 2 ^ 31 → m < 2 ^ 31
few_with_one m n x e f few = omega arith

-- with the last vertex there are no more than two images for each piece
pub twice_last : (k y n x x' m p m' p' j : ℕ) → k ≡ y → y ≡ x' + 1 → n ≡ x → m ≡ p → m' ≡ p' → n ≤ 2 * m
    → x' + p ≡ x + p' → j + p ≤ p' → 0 < j → k ≤ 2 * m'
twice_last k y n x x' m p m' p' j e f g h i twice count more some = omega arith

-- a place in the path is before its end
pub in_row : (row : PathRow) (j : ℕ) → IsPathFrom row.first row → j < segments_in row → row.first + j < row.past
in_row row j path h = within row.first row.past (in_points row j path h)
  where
    within : (m n : ℕ) → j < n - m → m + j < n
    within m n h = omega arith

-- the way is the path's segment of this number
pub record IsWayAt (points : List Pt) (track : PathAt) (j : ℕ) (way : PathSegment) : Type 0 where
  pub a : way.a ≡ begin_of points track.row j
  pub b : way.b ≡ end_of points track.row j
  pub from : way.from ≡ record { layer = track.from.layer; path = track.from.path; segment = j; piece = 0 }

abbrev made : Pt → Pt → Place → Start → PathSegment
made a b from start = record { a = a; b = b; from = from; start = start }

abbrev way_of : List Pt → PathAt → ℕ → Start → PathSegment
way_of points track j start = made (begin_of points track.row j) (end_of points track.row j)
    (record { layer = track.from.layer; path = track.from.path; segment = j; piece = 0 }) start

way_is : (points : List Pt) (track : PathAt) (j : ℕ) (way : PathSegment) → IsWayAt points track j way
    → way ≡ way_of points track j way.start
way_is points track j way is =
    ap (λ (a : Pt). made a way.b way.from way.start) is.a
    ∙ ap (λ (b : Pt). made (begin_of points track.row j) b way.from way.start) is.b
    ∙ ap (λ (from : Place). made (begin_of points track.row j) (end_of points track.row j) from way.start) is.from

-- the first segment starts where the path's first point was found
pub starts_at : (tin : Triangulation) (points : List Pt) (row : PathRow) (j t : ℕ) (p : Pt) (start : Start)
    → IsLeastWith tin (point_at points row.first) t → p ≡ begin_of points row j
    → ((u : ℕ) → start ≡ Found u → (j ≡ 0) × (u ≡ t)) → IsStart tin p start
starts_at tin points row j t p (Guessed u) least is known = tt
starts_at tin points row j t p (Found u) least is known =
    let first = known u refl in
    subst (λ (q : Pt). IsLeastWith tin q u)
    (first_point_is points row.first ∙ ap (λ (k : ℕ). begin_of points row k) (sym first.0) ∙ sym is)
    (subst (λ (n : ℕ). IsLeastWith tin (point_at points row.first) n) (sym first.1) least)

pub path_next : (tin : Triangulation) (points : List Pt) (heights : List Height) (track : PathAt) (most : ℕ)
    (x x' y z : List Pt) (a a' b c : List Height) (r r' s : List ℕ) (p p' q : List Piece) (j : ℕ) (image end : Pt)
    (way : PathSegment) (ends : Ends Height)
    → IsPathFrom track.row.first track.row → j < segments_in track.row → length a ≡ length x
    → IsPathCarried tin track.from.layer points heights track.from.path track.row most x x' a a' r r' p p' j image
    → IsWayAt points track j way → ends ≡ height_ends_at heights track.row j
    → y ≡ x' ++ image ∷ [] → b ≡ a' ++ ends.from ∷ [] → s ≡ r' ++ length x' ∷ []
    → IsSegmentCarried tin way.a way.b ends way.from y z b c p' q
    → IsInside tin way.a way.b → IsRoundedImage tin way.b end → length q ≤ most
    → length z + length p' + 1 ≡ length y + length q → length p' < length q
    → IsPathCarried tin track.from.layer points heights track.from.path track.row most x z a c r s p q (j + 1) end
path_next tin points heights track most x x' y z a a' b c r r' s p p' q j image end way ends path h each state is high
    ey eb es carried inside is_end room count more =
    let one : AreCarried tin track.from.layer (vertex_at points heights track.from.path track.row j ∷ []) x' z a' c r' s
    p' q =
    carried_way tin track.from.layer (vertex_at points heights track.from.path track.row j)
    (segment_at points heights track.from.path track.row j) image x' y z a' b c r' s p' q
    (begins_one points heights track.from.path track.row j h) (state.image_is here) ey
    (eb ∙ ap (λ (e : Ends Height). a' ++ e.from ∷ []) high) es
    (subst (λ (w : PathSegment). IsInside tin w.a w.b) (way_is points track j way is) inside)
    (subst (λ (w : PathSegment). IsSegmentCarried tin w.a w.b (height_ends_at heights track.row j) w.from y z b c p' q)
    (way_is points track j way is)
    (subst (λ (e : Ends Height). IsSegmentCarried tin way.a way.b e way.from y z b c p' q) high carried)) in
    let all = carried_on tin track.from.layer (first_vertices points heights track.from.path track.row j)
    (vertex_at points heights track.from.path track.row j ∷ []) x x' z a a' c r r' s p p' q state.carried one in
    record {
      carried = subst (λ (vs : List PathVertex). AreCarried tin track.from.layer vs x z a c r s p q)
          (sym (one_vertex_more points heights track.from.path track.row j)) all;
      each = carried_each tin track.from.layer (vertex_at points heights track.from.path track.row j ∷ []) x' z a' c r'
          s
          p' q one state.each;
      image_is = λ further. subst (λ (point : Pt). IsRoundedImage tin point end)
          (is.b ∙ next_begins points track.row j further) is_end;
      room = room;
      count = counted (length z) (length y) (ap (λ (ps : List Pt). length ps) ey ∙ length-append x' (image ∷ []))
          state.count count;
      more = grown state.more more;
    }
  where
    here : j < points_in track.row
    here = let f = few track.row path in within (segments_in track.row) (points_in track.row) h f.upto
      where
        within : (m n : ℕ) → j < m → m ≤ n → j < n
        within m n h k = omega arith

    counted : (m n : ℕ) → n ≡ length x' + 1 → length x' + length p ≡ length x + length p'
        → m + length p' + 1 ≡ n + length q → m + length p ≡ length x + length q
    counted m n e f g = omega arith

    grown : j + length p ≤ length p' → length p' < length q → j + 1 + length p ≤ length q
    grown h k = omega arith

-- ---- the end of the path
-- each vertex but the last begins a segment
pub path_but_last : (tin : Triangulation) (layer : ℕ) (points : List Pt) (heights : List Height) (path : ℕ)
    (row : PathRow) (most : ℕ) (x x' y : List Pt) (a a' b : List Height) (r r' s : List ℕ) (p p' : List Piece) (j : ℕ)
    (image : Pt) (height : Height) → IsPathFrom row.first row
    → j ≡ segments_in row → (j ≡ points_in row → ⊥)
    → IsPathCarried tin layer points heights path row most x x' a a' r r' p p' j image
    → height ≡ height_in heights (row.past - 1) → y ≡ x' ++ image ∷ []
    → b ≡ a' ++ height ∷ [] → s ≡ r' ++ length x' ∷ []
    → AreCarried tin layer (path_vertices points heights path row) x y a b r s p p'
path_but_last tin layer points heights path row most x x' y a a' b r r' s p p' j image height from e other state high ey
    eb es =
    subst (λ (n : ℕ). AreCarried tin layer (first_vertices points heights path row n) x y a b r s p p') last
    (subst (λ (vs : List PathVertex). AreCarried tin layer vs x y a b r s p p')
    (sym (one_vertex_more points heights path row j))
    (carried_on tin layer (first_vertices points heights path row j) (vertex_at points heights path row j ∷ []) x x' y a
    a' b r r' s p p' p' state.carried
    (carried_last tin layer (vertex_at points heights path row j) image x' y a' b r' s p'
    (begins_none points heights path row j (omega arith)) (state.image_is here) ey
    (eb ∙ ap (λ (z : Height). a' ++ z ∷ []) (high ∙ ap (height_in heights) (place row.first row.past from.some last)))
    es)))
  where
    last : j + 1 ≡ points_in row
    last = let f = few row from in there (segments_in row) (points_in row) e f.upto f.least other
      where
        there : (m n : ℕ) → j ≡ m → m ≤ n → n ≤ m + 1 → (j ≡ n → ⊥) → j + 1 ≡ n
        there m n e h k other = grind arith

    here : j < points_in row
    here = up (points_in row) last
      where
        up : (n : ℕ) → j + 1 ≡ n → j < n
        up n e = omega arith

    place : (m n : ℕ) → m < n → j + 1 ≡ n - m → n - 1 ≡ m + j
    place m n h k = omega (arith, h, k)

-- ---- why it is not carried
pub path_cause : (tin : Triangulation) (points : List Pt) (heights : List Height) (track : PathAt) (most : ℕ)
    (x x' : List Pt) (a a' : List Height) (r r' : List ℕ) (p p' : List Piece) (j : ℕ) (image : Pt) (way : PathSegment)
    (fault : CarryFault)
    → IsPathFrom track.row.first track.row → j < segments_in track.row
    → IsPathCarried tin track.from.layer points heights track.from.path track.row most x x' a a' r r' p p' j image
    → IsWayAt points track j way → IsWayCause tin way (length p') most fault
    → IsCause tin track.from.layer (length p) most
    (segments_begun (path_vertices points heights track.from.path track.row))
    fault
path_cause tin points heights track most x x' a a' r r' p p' j image way fault path h state is cause = go state.carried
  where
    go : AreCarried tin track.from.layer (first_vertices points heights track.from.path track.row j) x x' a a' r r' p p'
        → IsCause tin track.from.layer (length p) most
        (segments_begun (path_vertices points heights track.from.path track.row))
        fault
    go carried =
        let own = carried.own in
        let grown : length p' ≡ length p + length own = ap (λ (ps : List Piece). length ps) carried.pieces_are
        ∙ length-append p own in
        subst (λ (ss : List SheetSegment). IsCause tin track.from.layer (length p) most ss fault)
        (sym (split_at points heights track.from.path track.row j path h))
        (cause_between tin track.from.layer (length p) most
        (segments_begun (first_vertices points heights track.from.path track.row j))
        (segment_at points heights track.from.path track.row j ∷ [])
        (segments_begun (drop (suc j) (path_vertices points heights track.from.path track.row))) own fault
        carried.inside
        carried.of_segments
        (subst (λ (n : ℕ). IsCause tin track.from.layer n most
        (segment_at points heights track.from.path track.row j ∷ [])
        fault) grown
        (cause_of_way tin track.from.layer (length p') most (way_of points track j way.start)
        (height_ends_at heights track.row j) fault state.room
        (subst (λ (w : PathSegment). IsWayCause tin w (length p') most fault) (way_is points track j way is) cause))))

-- the first point is in no triangle
pub path_outside : (tin : Triangulation) (points : List Pt) (heights : List Height) (track : PathAt) (most : ℕ)
    (p : List Piece)
    → IsPathFrom track.row.first track.row → length p ≤ most
    → (IsInSome tin Source (whole (point_at points track.row.first)) → ⊥)
    → IsFirstOutside tin track.from.layer (length p) most
    (segments_begun (path_vertices points heights track.from.path track.row)) track.from.path 0
path_outside tin points heights track most p path room none =
    subst (λ (ss : List SheetSegment). IsFirstOutside tin track.from.layer (length p) most ss track.from.path 0)
    (sym (split_at points heights track.from.path track.row 0 path (let f = few track.row path in f.some)))
    (record {
      segment = segment_at points heights track.from.path track.row 0;
      reached = record {
        before = [];
        behind =
            segments_begun (drop 1 (path_vertices points heights track.from.path track.row));
        stands = refl;
        room =
            record { inside = tt; pieces = []; are = refl; room = omega (arith, room) };
      };
      path_is = refl;
      number_is = refl;
      outside = λ inside. none (subst (λ (q : Pt). IsInSome tin Source (whole q))
          (sym (first_point_is points track.row.first))
          (first_inside tin (begin_of points track.row 0) (end_of points track.row 0) inside));
    })
