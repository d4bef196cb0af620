-- The triangulation of complete rows is within the limits.
use Rattle.std.proofs.Common.{◌≡◌, ℕ, suc, zero, ◌<◌, List, [], ◌∷◌, map, length, get_or, Bool, true, false, refl, sym}
use Rattle.std.proofs.Common.{ap, ◌∙◌, subst, arith}
use Rattle.std.specs.Prelude.{if◌then◌else◌, Result, Ok, Err, All, ℤ, ◌-ℤ◌, ◌<ℤ◌}
use Rattle.std.specs.List.{list_any, AllByRecursion}
use Rattle.std.proofs.lemmas.Bool.{or_parts, or_right}
use Rattle.std.proofs.lemmas.List.{length-map}
use Rattle.tin_base.specs.declared.frames.Axis.TheVariants as axes
use Rattle.tin_file.specs.declared.faults.TinFault.TheVariants.{Span}
use Rattle.plane_base.specs.declared.shapes.TheConstants.{SPAN}
use Rattle.tin_base.specs.declared.corners.Corner.{Corner}
use Rattle.tin_base.specs.declared.frames.Frame.{Frame}
use Rattle.tin_base.specs.declared.frames.Frame.TheVariants as frames
use Rattle.tin_base.specs.Triangulation.{triangulation, x_in, y_in, no_corner}
use Rattle.tin_base.specs.Limits.{IsCornerInReach, IsNotFarBelow, IsWithinLimits}
use Rattle.tin_file.specs.Corners.{is_same, is_wide, corners_of, corner_number, number_of_row, counterclockwise_face}
use Rattle.tin_file.specs.Corners.{spans}
use Rattle.tin_file.specs.Keys.{when_passed}
use Rattle.tin_file.specs.TinFiles.{made_of, within_spans}
use Rattle.tin_file.specs.RowContents.{corners_in, face_corners, AreInReach, IsBelow, IsFaceOf, AreFacesOf, IsComplete}
use Rattle.tin_file.specs.declared.vertices.VertexRow.{VertexRow}
use Rattle.tin_file.specs.declared.vertices.Vertices.{Vertices}
use Rattle.tin_file.specs.declared.faults.TinFault.{TinFault}
use Rattle.tin_file.proofs.FileRows.CornerKeys.{corners_have, is_itself}
use Rattle.tin_file.proofs.CallerLemmas.Fresh.{are_different, kept_few, kept_are, number_within}
use Rattle.tin_file.proofs.CallerLemmas.NumberExtremes.{at_of}

-- ---- spans
false_at : {A : Type 0} (p : A → Bool) (xs : List A) (i : ℕ) (d : A) → list_any p xs ≡ false → i < length xs
    → p (get_or xs i d) ≡ false
false_at p [] i d h within = absurd (omega (arith, within))
false_at p (x ∷ xs) zero d h within = (or_parts (p x) (list_any p xs) h).0
false_at p (x ∷ xs) (suc i) d h within = false_at p xs i d (or_parts (p x) (list_any p xs) h).1 (omega (arith, within))

near_on : (coordinate : Corner → ℤ) (corners : List Corner) → is_wide coordinate corners ≡ false → (m n : ℕ)
    → m < length corners → n < length corners
    → (coordinate (get_or corners m no_corner) -ℤ coordinate (get_or corners n no_corner)) <ℤ SPAN
near_on coordinate corners h m n first second = grind (arith, get_or, false_at)

-- no axis of either frame is too wide
pub record AreNarrow (corners : List Corner) : Type 0 where
  pub source_x : is_wide (x_in frames.Source) corners ≡ false
  pub source_y : is_wide (y_in frames.Source) corners ≡ false
  pub target_x : is_wide (x_in frames.Target) corners ≡ false
  pub target_y : is_wide (y_in frames.Target) corners ≡ false

abbrev first_wide : Bool → Bool → Bool → Bool → Result (Unit {0}) TinFault
first_wide a b c d =
    if a then Err (Span frames.Source axes.X)
    else if b then Err (Span frames.Source axes.Y)
    else if c then Err (Span frames.Target axes.X)
    else if d then Err (Span frames.Target axes.Y)
    else Ok tt

pub narrow : (corners : List Corner) → Ok tt ≡ spans corners → AreNarrow corners
narrow corners h = grind arith

pub near_all : (corners : List Corner) → AreNarrow corners → (frame : Frame) (m n : ℕ) → m < length corners
    → n < length corners
    → IsNotFarBelow frame (get_or corners m no_corner) (get_or corners n no_corner)
near_all corners h frame m n first second = grind (arith, near_on)

-- ---- faces
among_at : (rows : List Corner) (i : ℕ) → i < length rows → list_any (is_same (get_or rows i no_corner)) rows ≡ true
among_at [] i within = absurd (omega (arith, within))
among_at (row ∷ rows) zero within = rw (is_itself row) refl
among_at (row ∷ rows) (suc i) within = or_right (is_same (get_or rows i no_corner) row)
    (list_any (is_same (get_or rows i no_corner)) rows) (among_at rows i (omega (arith, within)))

pub row_within : (rows : List Corner) (row : ℕ) → row < length rows → number_of_row rows row < length (corners_of rows)
row_within rows row within = grind (arith, number_within, get_or, corners_have, among_at)

map_at : (f : Corner → ℕ) (rows : List Corner) (i : ℕ) → i < length rows
    → get_or (map f rows) i 0 ≡ f (get_or rows i no_corner)
map_at f [] i within = absurd (omega (arith, within))
map_at f (row ∷ rows) zero within = refl
map_at f (row ∷ rows) (suc i) within = map_at f rows i (omega (arith, within))

face_of : (rows : List Corner) (face : List ℕ) → IsBelow (length rows) face
    → IsFaceOf (corners_of rows) (map (number_of_row rows) face)
face_of rows (p ∷ q ∷ r ∷ []) h = (row_within rows p h.0, row_within rows q h.1, row_within rows r h.2)
face_of rows face h = absurd h

placed_face : (rows : List Corner) (face : List ℕ) → IsBelow (length rows) face
    → face_corners (map (corner_number (corners_of rows)) rows) face ≡ map (number_of_row rows) face
placed_face rows face h = grind (arith, map_at)

faces_of : (rows : List Corner) (faces : List (List ℕ)) → AllByRecursion (IsBelow (length rows)) faces
    → AreFacesOf (corners_of rows) (map (map (number_of_row rows)) faces)
faces_of rows [] h = tt
faces_of rows (face ∷ faces) h = (face_of rows face h.0, faces_of rows faces h.1)

placed_faces : (rows : List Corner) (faces : List (List ℕ)) → AllByRecursion (IsBelow (length rows)) faces
    → map (face_corners (map (corner_number (corners_of rows)) rows)) faces ≡ map (map (number_of_row rows)) faces
placed_faces rows [] h = refl
placed_faces rows (face ∷ faces) h = rw (placed_face rows face h.0)
    (ap (λ fs. map (number_of_row rows) face ∷ fs) (placed_faces rows faces h.1))

oriented_face : (corners : List Corner) (face : List ℕ) → IsFaceOf corners face
    → IsFaceOf corners (counterclockwise_face corners face)
oriented_face corners face h = grind arith

oriented_faces : (corners : List Corner) (faces : List (List ℕ)) → AreFacesOf corners faces
    → AreFacesOf corners (map (counterclockwise_face corners) faces)
oriented_faces corners [] h = tt
oriented_faces corners (face ∷ faces) h = (oriented_face corners face h.0, oriented_faces corners faces h.1)

three_numbers : (corners : List Corner) (face : List ℕ) → IsFaceOf corners face → length face ≡ 3
three_numbers corners face h = grind arith

all_within : (corners : List Corner) (face : List ℕ) → IsFaceOf corners face → All (λ n. n < length corners) face
all_within corners face h = grind (arith, get_or)

pub face_there : (corners : List Corner) (faces : List (List ℕ)) (t : ℕ) → AreFacesOf corners faces → t < length faces
    → IsFaceOf corners (get_or faces t [])
face_there corners [] t h within = absurd (omega (arith, within))
face_there corners (face ∷ faces) zero h within = h.0
face_there corners (face ∷ faces) (suc t) h within = face_there corners faces t h.1 (omega (arith, within))

-- ---- all together
module _ (vertices : Vertices) (triangles : List (List ℕ)) (rows : List VertexRow) (faces : List (List ℕ))
    (h : IsComplete vertices triangles rows faces) where
  abbrev all : List Corner
  all = corners_in rows

  as_long : length all ≡ length rows
  as_long = length-map rows (λ (row : VertexRow). row.corner)

  below : AllByRecursion (IsBelow (length all)) faces
  below = subst (λ n. AllByRecursion (IsBelow n) faces) (sym as_long) h.below

  pub corners_reach : AreInReach vertices.corners.items
  corners_reach = rw h.gathered.corners (kept_are
      (λ corner. IsCornerInReach frames.Source corner × IsCornerInReach frames.Target corner) [] all h.reach)

  triangles_are : triangles ≡ map (map (number_of_row all)) faces
  triangles_are = h.placed_so ∙ ap (λ ns. map (face_corners ns) faces) h.gathered.numbers ∙ placed_faces all faces below

  pub triangles_faces : AreFacesOf vertices.corners.items triangles
  triangles_faces = rw (h.gathered.corners, triangles_are) (faces_of all faces below)

  pub limits : AreNarrow vertices.corners.items → (inexact : ℕ)
      → IsWithinLimits (triangulation vertices.corners.items (map (counterclockwise_face vertices.corners.items) triangles) inexact)
  limits narrow inexact =
      let turned = oriented_faces vertices.corners.items triangles triangles_faces in
      record {
        three = λ t within. three_numbers vertices.corners.items _
            (face_there vertices.corners.items (map (counterclockwise_face vertices.corners.items) triangles) t turned within);
        in_range = λ t within. all_within vertices.corners.items _
            (face_there vertices.corners.items (map (counterclockwise_face vertices.corners.items) triangles) t turned within);
        in_reach = λ frame n within. reach_at frame n within;
        near = near_all vertices.corners.items narrow;
        different = different;
        corner_count = omega (arith, ap length h.gathered.corners, kept_few [] all, as_long, h.few_rows);
        triangle_count = omega (
          arith,
          length-map triangles (counterclockwise_face vertices.corners.items),
          ap length triangles_are,
          length-map faces (map (number_of_row all)),
          h.few_faces,
        );
      }
    where
      reach_at : (frame : Frame) (n : ℕ) → n < length vertices.corners.items
          → IsCornerInReach frame (get_or vertices.corners.items n no_corner)
      reach_at frames.Source n within = (at_of
          (λ corner. IsCornerInReach frames.Source corner × IsCornerInReach frames.Target corner) vertices.corners.items
          n corners_reach within).0
      reach_at frames.Target n within = (at_of
          (λ corner. IsCornerInReach frames.Source corner × IsCornerInReach frames.Target corner) vertices.corners.items
          n corners_reach within).1

      different : (m n : ℕ) → m < length vertices.corners.items → n < length vertices.corners.items
          → get_or vertices.corners.items m no_corner ≡ get_or vertices.corners.items n no_corner → m ≡ n
      different = subst (λ cs. (m n : ℕ) → m < length cs → n < length cs → get_or cs m no_corner ≡ get_or cs n no_corner
          → m ≡ n) (sym h.gathered.corners) (are_different all)

  map_twice : (f : List ℕ → List ℕ) (g : List ℕ → List ℕ) (xs : List (List ℕ))
      → map f (map g xs) ≡ map (λ x. f (g x)) xs
  map_twice f g [] = refl
  map_twice f g (x ∷ xs) = ap (λ ys. f (g x) ∷ ys) (map_twice f g xs)

  made_so : triangulation vertices.corners.items (map (counterclockwise_face vertices.corners.items) triangles) vertices.inexact
      ≡ made_of rows faces
  made_so = grind (arith, triangles_are, map_twice)

  pub spans_pass : Ok tt ≡ spans vertices.corners.items
      → Ok (triangulation vertices.corners.items (map (counterclockwise_face vertices.corners.items) triangles) vertices.inexact)
      ≡ within_spans rows faces
  spans_pass is = ap Ok made_so ∙ ap (λ r. when_passed r (Ok (made_of rows faces))) (is ∙ ap spans h.gathered.corners)
