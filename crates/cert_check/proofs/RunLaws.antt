-- The images by a right list are those of the segment's pieces.
use Rattle.std.proofs.Common.{◌≡◌, ◌≢◌, ◌⊎◌, inl, inr, ℕ, zero, suc, ◌+◌, ◌-◌, ◌*◌, ◌<◌, List, [], ◌∷◌, ◌++◌}
use Rattle.std.proofs.Common.{length, get_or, take, map, append_assoc, ◌≤◌, refl, sym, ◌∙◌, ap, ap₂, subst, arith}
use Rattle.std.proofs.lemmas.List.{take_more, take_all, length-append, length-map, length-take-le, map-append}
use Rattle.plane_base.specs.Plane.{whole}
use Rattle.plane_base.specs.declared.shapes.Pt.{Pt}
use Rattle.plane_base.specs.declared.stretches.Stretch.{Stretch}
use Rattle.plane_base.proofs.MixLaws.Mixes.{same_sym, mix_moved}
use Rattle.sheet_base.specs.PointHeights.{Height, Position, points_of, heights_of}
use Rattle.sheet_base.specs.ReadBack.{Ends}
use Rattle.tin_base.specs.declared.frames.Frame.TheVariants.{Source}
use Rattle.tin_base.specs.Triangulation.{Triangulation, numbers_of, places}
use Rattle.tin_base.specs.Limits.{IsWithinLimits}
use Rattle.tin_base.specs.Soundness.{IsSound}
use Rattle.tin_base.specs.Segments.{Spot, spot_at, at_a, at_b, IsSameSpot, IsInside, IsShared, IsPart, Part}
use Rattle.tin_base.specs.Segments.{ArePiecesAt, ArePiecesOf, part_at}
use Rattle.tin_base.specs.Slices.{spot_of, IsSliceIn}
use Rattle.tin_base.proofs.PieceChains.Apart.{same_last}
use Rattle.tin_base.proofs.SegmentSpots.Ends.{IsSpot, before_trans_left, before_trans_right, same_of}
use Rattle.tin_base.proofs.PieceChains.Outcomes.{outcome}
use Rattle.tin_base.proofs.SegmentSpots.Params.{spot_some, below}
use Rattle.tin_base.proofs.SegmentSpots.SlicedParts.{HasParams, params, within, part_told}
use Rattle.tin_base.proofs.SegmentSpots.Spots.{spot-w, spot_first, spot_last}
use Rattle.affine_image.specs.RoundedImages.{IsRoundedImage, IsRoundedImageAt}
use Rattle.affine_image.proofs.PlaceImages.{rounded_moved}
use Rattle.sheet_pieces.specs.SheetImages.{AreEndsOfAllButLast}
use Rattle.sheet_pieces.specs.SpotHeights.{mixed_height, param_height, crossing_heights}
use Rattle.sheet_pieces.proofs.PartSequences.{same_or, same_of_spots}
use Rattle.sheet_pieces.proofs.OneHeight.{mixed_one}
use Rattle.sheet_pieces.proofs.SpotHeights.{IsInner, inner_height, cut_inner}
use Rattle.cert_check.specs.RightLists.{AreFollowing, IsOneWith, IsRightList}
use Rattle.cert_check.specs.InsideSheetLists.{HasPart, IsEndImage, IsEndHeight, IsEndPosition, AreEndPositions}
use Rattle.cert_check.specs.InsideSheetLists.{IsEndBehind}
use Rattle.cert_check.specs.InsideSheetLists.{IsRunBehind, IsTriangleWith}
use Rattle.cert_check.proofs.ListPoints.{IsRow, row_rest, row_of, right_inside}
use Rattle.cert_check.proofs.ListPasses.{same_trans}

-- ---- the last spot of a slice is that of the part
same_end : (tin : Triangulation) (a b : Pt) (t : ℕ) (slice : Stretch) (f l : Spot) → IsWithinLimits tin
    → t < length tin.triangles → IsSliceIn tin a b t slice → IsPart tin a b t f l → IsSameSpot l (spot_of slice.hi)
same_end tin a b t slice f l limits ht told p = go (params tin a b t slice limits ht told)
  where
    go : HasParams slice → IsSameSpot l (spot_of slice.hi)
    go ends =
        let lo = spot_of slice.lo in let hi = spot_of slice.hi in
        let by_f = within tin a b t slice f limits ht told p.has_first in
        let by_l = within tin a b t slice l limits ht told p.has_last in
        let order = below slice.lo slice.hi ends.lo ends.hi
        (before_trans_left lo f hi (spot_some slice.lo ends.lo) by_f.0
        (before_trans_right f l hi (spot_some slice.hi ends.hi) p.differ by_l.1)) in
        let part = part_told tin a b t slice limits ht told order in
        same_of l hi by_l.1 (p.none_after hi part.has_last)

pub end_told : (tin : Triangulation) (a b : Pt) (t : ℕ) (slice : Stretch) (image : Pt) → IsWithinLimits tin
    → t < length tin.triangles → IsSliceIn tin a b t slice → IsRoundedImageAt tin (spot_at a b (spot_of slice.hi)) image
    → IsEndImage tin a b t image
end_told tin a b t slice image limits ht told is f l p = go (params tin a b t slice limits ht told)
  where
    go : HasParams slice → IsRoundedImageAt tin (spot_at a b l) image
    go ends =
        let hi = spot_of slice.hi in
        rounded_moved tin (spot_at a b hi) (spot_at a b l) image (spot-w a b hi (spot_some slice.hi ends.hi))
        (same_of_spots a b l hi (same_end tin a b t slice f l limits ht told p)) is

pub height_told : (tin : Triangulation) (a b : Pt) (ends : Ends Height) (t : ℕ) (slice : Stretch) → IsWithinLimits tin
    → t < length tin.triangles → IsSliceIn tin a b t slice
    → IsEndHeight tin a b ends t (param_height ends.from ends.to slice.hi)
height_told tin a b ends t slice limits ht told f l p = go (params tin a b t slice limits ht told) p.has_last
  where
    go : HasParams slice → IsShared tin a b t l
        → param_height ends.from ends.to slice.hi ≡ mixed_height l.of_a l.of_b ends.from ends.to
    go high has =
        let hi = spot_of slice.hi in
        sym (mixed_one l.of_a l.of_b hi.of_a hi.of_b ends.from ends.to has.some (spot_some slice.hi high.hi)
        (same_end tin a b t slice f l limits ht told p))

-- a triangle with a part shares its first spot
pub part_shared : (tin : Triangulation) (a b : Pt) (t : ℕ) → HasPart tin a b t → ((s : Spot) → IsShared tin a b t s → ⊥)
    → ⊥
part_shared tin a b t (f, l, part) none = none f part.has_first

-- ---- the images of the ends
ends_more : (tin : Triangulation) (a b : Pt) (ends : Ends Height) (ts : List ℕ) (t : ℕ) (images : List Position)
    (image : Position) → AreEndPositions tin a b ends ts images → IsEndPosition tin a b ends t image
    → AreEndPositions tin a b ends (ts ++ t ∷ []) (images ++ image ∷ [])
ends_more tin a b ends [] t [] image h k = (k, refl)
ends_more tin a b ends [] t (i ∷ images) image h k = absurd (let e = h in cc)
ends_more tin a b ends (u ∷ ts) t [] image h k = absurd h
ends_more tin a b ends (u ∷ ts) t (i ∷ images) image h k = (h.0, ends_more tin a b ends ts t images image h.1 k)

ends_length : (tin : Triangulation) (a b : Pt) (ends : Ends Height) (ts : List ℕ) (images : List Position)
    → AreEndPositions tin a b ends ts images → length images ≡ length ts
ends_length tin a b ends [] images h = ap (λ (is : List Position). length is) h
ends_length tin a b ends (t ∷ ts) [] h = absurd h
ends_length tin a b ends (t ∷ ts) (i ∷ images) h = ap suc (ends_length tin a b ends ts images h.1)

-- ---- no part begins at the last end
none_behind : (m n k o : ℕ) → o ≡ 0 → m * n < k * o → ⊥
none_behind m n k o e h = absurd (grind (arith, e, h))

zero_of : (m n : ℕ) → m * 0 ≡ 1 * n → n ≡ 0
zero_of m n e = omega arith

not_from_b : (tin : Triangulation) (a b : Pt) (t : ℕ) (f l : Spot) → IsPart tin a b t f l → IsSameSpot f at_b → ⊥
not_from_b tin a b t f l part same = none_behind f.of_b l.of_a l.of_b f.of_a (zero_of f.of_b f.of_a same) part.differ

stuck_at_b : (tin : Triangulation) (a b : Pt) (x : Spot) (ts : List ℕ) (last : ℕ) → IsSpot x
    → AreFollowing tin a b x (ts ++ last ∷ []) → IsSameSpot x at_b → ⊥
stuck_at_b tin a b x [] last some (f, l, part, same, ends) e =
    not_from_b tin a b last f l part (same_trans f x at_b some same e)
stuck_at_b tin a b x (t ∷ ts) last some (f, l, part, same, follow) e =
    not_from_b tin a b t f l part (same_trans f x at_b some same e)

-- ---- the ends of the triangles' parts are those of the pieces
ends_of_row : (tin : Triangulation) (a b : Pt) (ends : Ends Height) (x y : Spot) (parts : List Part) (front : List ℕ)
    (last : ℕ) (images : List Position) → IsSound tin → a ≢ b → IsSpot x → IsSpot y → IsRow tin a b x parts
    → ((i : ℕ) → i + 1 < length parts → IsInner a b (part_at parts i).last)
    → AreFollowing tin a b y (front ++ last ∷ []) → IsSameSpot x y → AreEndPositions tin a b ends front images
    → AreEndsOfAllButLast tin a b parts (points_of images) × (heights_of images ≡ crossing_heights a b ends parts)
ends_of_row tin a b ends x y [] front last images sound differ some_x some_y row inner follow same told =
    absurd (stuck_at_b tin a b y front last some_y follow (same_trans y x at_b some_x (sym same) (row.none refl)))
ends_of_row tin a b ends x y (p ∷ []) [] last images sound differ some_x some_y row inner follow same told =
    (ap (λ (is : List Position). points_of is) told, ap (λ (is : List Position). heights_of is) told)
ends_of_row tin a b ends x y (p ∷ []) (t ∷ ts) last images sound differ some_x some_y row inner
    (f, l, part, begins, follow) same told = absurd (go (row.part 0 (omega arith)))
  where
    go : IsPart tin a b p.triangle p.first p.last → ⊥
    go own =
        let has = part.has_last in let has' = own.has_last in
        let first : IsSameSpot p.first f = grind (arith, same_trans) in
        let end = same_last tin a b p.triangle t p.first p.last f l sound differ own part first in
        stuck_at_b tin a b l ts last has.some follow
        (same_trans l p.last at_b has'.some (sym end) (row.ends 0 (omega arith)))
ends_of_row tin a b ends x y (p ∷ q ∷ ps) [] last images sound differ some_x some_y row inner
    (f, l, part, begins, at_end) same told = absurd (go (row.part 0 (omega arith)) (row.part 1 (omega arith)))
  where
    go : IsPart tin a b p.triangle p.first p.last → IsPart tin a b q.triangle q.first q.last → ⊥
    go own next =
        let has = part.has_last in let has' = own.has_last in
        let first : IsSameSpot p.first f = grind (arith, same_trans) in
        let end = same_last tin a b p.triangle last p.first p.last f l sound differ own part first in
        not_from_b tin a b q.triangle q.first q.last next
        (same_trans q.first p.last at_b has'.some (row.joined 0 (omega arith))
        (same_trans p.last l at_b has.some end at_end))
ends_of_row tin a b ends x y (p ∷ q ∷ ps) (t ∷ ts) last [] sound differ some_x some_y row inner follow same told =
    absurd told
ends_of_row tin a b ends x y (p ∷ q ∷ ps) (t ∷ ts) last (image ∷ images) sound differ some_x some_y row inner
    (f, l, part, begins, follow) same told =
    go (row.part 0 (omega arith)) (inner 0 (omega arith)) (λ some_last some_l end.
    ends_of_row tin a b ends p.last l (q ∷ ps) ts last images sound differ some_last some_l
    (row_rest tin a b x p (q ∷ ps) row) (λ i h. inner (suc i) (omega (arith, h))) follow end told.1)
  where
    go : IsPart tin a b p.triangle p.first p.last → IsInner a b p.last
        → (IsSpot p.last → IsSpot l → IsSameSpot p.last l → AreEndsOfAllButLast tin a b (q ∷ ps) (points_of images)
        × (heights_of images ≡ crossing_heights a b ends (q ∷ ps)))
        → AreEndsOfAllButLast tin a b (p ∷ q ∷ ps) (points_of (image ∷ images))
        × (heights_of (image ∷ images) ≡ crossing_heights a b ends (p ∷ q ∷ ps))
    go own within others =
        let has = part.has_last in let has' = own.has_last in
        let first : IsSameSpot p.first f = grind (arith, same_trans) in
        let end = same_last tin a b p.triangle t p.first p.last f l sound differ own part first in
        let here = told.0 in
        let rest = others has'.some has.some end in (
          (
            rounded_moved tin (spot_at a b l) (spot_at a b p.last) image.point (spot-w a b l has.some)
                (same_of_spots a b p.last l end) (here.0 f l part),
            rest.0,
          ),
          ap₂ (λ (h : Height) (hs : List Height). h ∷ hs)
              (grind (arith, mixed_one, inner_height, within)) rest.1,
        )

-- ---- a segment of one point
none_in_front : (tin : Triangulation) (a : Pt) (front : List ℕ) (last : ℕ) → IsOneWith tin a (front ++ last ∷ [])
    → front ≡ []
none_in_front tin a [] last h = refl
none_in_front tin a (t ∷ []) last h = absurd h
none_in_front tin a (t ∷ u ∷ ts) last h = absurd h

one_point : (tin : Triangulation) (a : Pt) (ends : Ends Height) (parts : List Part) (images : List Position)
    → IsInside tin a a → ArePiecesAt tin a parts → images ≡ []
    → AreEndsOfAllButLast tin a a parts (points_of images) × (heights_of images ≡ crossing_heights a a ends parts)
one_point tin a ends parts images inside none e = grind arith

-- ---- the run
run_told : (tin : Triangulation) (a b : Pt) (ends : Ends Height) (front : List ℕ) (last : ℕ) (image : Pt)
    (images : List Position) (points points' : List Pt) (heights heights' : List Height)
    → IsSound tin → IsRightList tin a b (front ++ last ∷ []) → IsRoundedImage tin a image
    → AreEndPositions tin a b ends front images → points' ≡ points ++ image ∷ points_of images
    → heights' ≡ heights ++ ends.from ∷ heights_of images
    → IsRunBehind tin a b ends points points' heights heights'
run_told tin a b ends front last image images points points' heights heights' sound right is told points_on heights_on =
    by_outcome (outcome tin sound a b)
  where
    inside : IsInside tin a b
    inside = right_inside tin a b (front ++ last ∷ []) sound right

    by_ends : (parts : List Part) → ArePiecesOf tin a b parts → (a ≡ b) ⊎ (a ≢ b)
        → AreEndsOfAllButLast tin a b parts (points_of images) × (heights_of images ≡ crossing_heights a b ends parts)
    by_ends parts cut (inl same) =
        subst (λ (q : Pt). AreEndsOfAllButLast tin a q parts (points_of images)
        × (heights_of images ≡ crossing_heights a q ends parts)) same
        (one_point tin a ends parts images (subst (λ (q : Pt). IsInside tin a q) (sym same) inside) (cut.0 same)
        (subst (λ (ts : List ℕ). AreEndPositions tin a b ends ts images)
        (none_in_front tin a front last (right.0 same)) told))
    by_ends parts cut (inr differ) =
        ends_of_row tin a b ends at_a at_a parts front last images sound differ (omega arith) (omega arith)
        (row_of tin a b parts sound differ inside (cut.1 differ))
        (λ i h. cut_inner tin a b parts i sound inside cut h) (right.1 differ) refl told

    by_outcome : ((parts : List Part) × ArePiecesOf tin a b parts × IsInside tin a b) ⊎ (IsInside tin a b → ⊥)
        → IsRunBehind tin a b ends points points' heights heights'
    by_outcome (inl (parts, cut, _)) =
        let last_of = by_ends parts cut (same_or a b) in
        record {
          image = image;
          is_image = is;
          crossings = images;
          parts = parts;
          cut = cut;
          last_images = last_of.0;
          last_heights = last_of.1;
          points_are = points_on;
          heights_are = heights_on;
        }
    by_outcome (inr out) = absurd (out inside)

-- ---- the ends of a right list

-- its first triangle has the first end
first_has : (tin : Triangulation) (a b : Pt) (t : ℕ) (ts : List ℕ) → IsRightList tin a b (t ∷ ts)
    → IsTriangleWith tin t a
first_has tin a b t ts right = go (same_or a b)
  where
    one : (ts : List ℕ) → IsOneWith tin a (t ∷ ts) → IsTriangleWith tin t a
    one [] h = h
    one (u ∷ us) h = absurd h

    way : AreFollowing tin a b at_a (t ∷ ts) → IsTriangleWith tin t a
    way (f, l, part, same, follow) =
        let has = part.has_first in (
          part.in_range,
          mix_moved (spot_at a b at_a) (whole a) (places tin Source (numbers_of tin t)) (spot-w a b at_a (omega arith))
              (same_sym (spot_at a b at_a) (whole a) (spot_first a b))
              (mix_moved (spot_at a b f) (spot_at a b at_a) (places tin Source (numbers_of tin t))
              (spot-w a b f has.some) (same_of_spots a b at_a f (sym same)) has.inside),
        )

    go : (a ≡ b) ⊎ (a ≢ b) → IsTriangleWith tin t a
    go (inl e) = one ts (right.0 e)
    go (inr differ) = way (right.1 differ)

-- and its last triangle the last end
way_end : (tin : Triangulation) (a b : Pt) (x : Spot) (front : List ℕ) (last : ℕ)
    → AreFollowing tin a b x (front ++ last ∷ []) → IsTriangleWith tin last b
way_end tin a b x [] last (f, l, part, same, ends) =
    let has = part.has_last in (
      part.in_range,
      mix_moved (spot_at a b at_b) (whole b) (places tin Source (numbers_of tin last)) (spot-w a b at_b (omega arith))
          (same_sym (spot_at a b at_b) (whole b) (spot_last a b))
          (mix_moved (spot_at a b l) (spot_at a b at_b) (places tin Source (numbers_of tin last))
          (spot-w a b l has.some) (same_of_spots a b at_b l (sym ends)) has.inside),
    )
way_end tin a b x (t ∷ ts) last (f, l, part, same, follow) = way_end tin a b l ts last follow

pub last_has : (tin : Triangulation) (a b : Pt) (front : List ℕ) (last : ℕ) → IsRightList tin a b (front ++ last ∷ [])
    → IsTriangleWith tin last b
last_has tin a b front last right = go (same_or a b)
  where
    one : (front : List ℕ) → IsOneWith tin a (front ++ last ∷ []) → IsTriangleWith tin last a
    one [] h = h
    one (t ∷ []) h = absurd h
    one (t ∷ u ∷ ts) h = absurd h

    go : (a ≡ b) ⊎ (a ≢ b) → IsTriangleWith tin last b
    go (inl e) = subst (λ (q : Pt). IsTriangleWith tin last q) e (one front (right.0 e))
    go (inr differ) = way_end tin a b at_a front last (right.1 differ)

-- each before the last has a part
part_of_way : (tin : Triangulation) (a b : Pt) (x : Spot) (front : List ℕ) (last i : ℕ) → i < length front
    → AreFollowing tin a b x (front ++ last ∷ []) → HasPart tin a b (get_or front i 0)
part_of_way tin a b x [] last i h follow = absurd (omega arith)
part_of_way tin a b x (t ∷ ts) last zero h (f, l, part, same, follow) = (f, l, part)
part_of_way tin a b x (t ∷ ts) last (suc i) h (f, l, part, same, follow) =
    part_of_way tin a b l ts last i (omega arith) follow

pub each_has : (tin : Triangulation) (a b : Pt) (front : List ℕ) (last i : ℕ) → i < length front
    → IsRightList tin a b (front ++ last ∷ []) → HasPart tin a b (get_or front i 0)
each_has tin a b front last i h right = go (same_or a b)
  where
    none : front ≡ [] → ⊥
    none e = absurd (let k = ap (λ (ts : List ℕ). length ts) e in out (length front) k h)
      where
        out : (n : ℕ) → n ≡ 0 → i < n → ⊥
        out n e h = absurd (omega arith)

    go : (a ≡ b) ⊎ (a ≢ b) → HasPart tin a b (get_or front i 0)
    go (inl e) = absurd (none (none_in_front tin a front last (right.0 e)))
    go (inr differ) = part_of_way tin a b at_a front last i h (right.1 differ)

-- ---- the images so far
pub record AreEndsBehind (tin : Triangulation) (a b : Pt) (ends : Ends Height) (front : List ℕ) (i : ℕ)
    (points points' : List Pt) (heights heights' : List Height) : Type 0 where
  pub image : Pt
  pub is : IsRoundedImage tin a image
  pub own : List Position
  pub are_ends : AreEndPositions tin a b ends (take i front) own
  pub points_are : points' ≡ points ++ image ∷ points_of own
  pub heights_are : heights' ≡ heights ++ ends.from ∷ heights_of own

-- items of one image more
item_on : {X : Type 0} (item : Position → X) (x y z : List X) (first : X) (own : List Position) (image : Position)
    → y ≡ x ++ first ∷ map item own → z ≡ y ++ item image ∷ [] → z ≡ x ++ first ∷ map item (own ++ image ∷ [])
item_on item x y z first own image e f = grind (arith, append_assoc, map-append)

pub ends_next : (tin : Triangulation) (a b : Pt) (ends : Ends Height) (front : List ℕ) (i : ℕ)
    (points points' points'' : List Pt) (heights heights' heights'' : List Height) → i < length front
    → AreEndsBehind tin a b ends front i points points' heights heights'
    → IsEndBehind tin a b ends (get_or front i 0) points' points'' heights' heights''
    → AreEndsBehind tin a b ends front (i + 1) points points'' heights heights''
ends_next tin a b ends front i points points' points'' heights heights' heights'' h so_far next =
    grind (
      arith,
      take_more front i 0 h,
      ends_more tin a b ends (take i front) (get_or front i 0) so_far.own next.image so_far.are_ends next.is_end,
      item_on,
    )

all_taken : (front : List ℕ) (i : ℕ) → i ≡ length front → take i front ≡ front
all_taken front i e = grind (arith, take_all)

pub ends_all : (tin : Triangulation) (a b : Pt) (ends : Ends Height) (front : List ℕ) (last i : ℕ)
    (points points' : List Pt) (heights heights' : List Height) → IsSound tin
    → IsRightList tin a b (front ++ last ∷ []) → i ≡ length front
    → AreEndsBehind tin a b ends front i points points' heights heights'
    → IsRunBehind tin a b ends points points' heights heights'
ends_all tin a b ends front last i points points' heights heights' sound right e so_far =
    run_told tin a b ends front last so_far.image so_far.own points points' heights heights' sound right so_far.is
    (subst (λ (ts : List ℕ). AreEndPositions tin a b ends ts so_far.own) (all_taken front i e) so_far.are_ends)
    so_far.points_are so_far.heights_are

-- as many images as triangles, and as many heights
pub ends_count : (tin : Triangulation) (a b : Pt) (ends : Ends Height) (front : List ℕ) (i : ℕ)
    (points points' : List Pt) (heights heights' : List Height) → i ≤ length front
    → AreEndsBehind tin a b ends front i points points' heights heights'
    → (length points' ≡ length points + (i + 1)) × (length heights' ≡ length heights + (i + 1))
ends_count tin a b ends front i points points' heights heights' below so_far =
    grind (arith, ends_length, length-take-le, below, length-append, length-map)

pub first_in : (tin : Triangulation) (a b : Pt) (numbers : List ℕ) → 0 < length numbers → IsRightList tin a b numbers
    → IsTriangleWith tin (get_or numbers 0 0) a
first_in tin a b [] h right = absurd (omega arith)
first_in tin a b (t ∷ ts) h right = first_has tin a b t ts right

pub part_range : (tin : Triangulation) (a b : Pt) (t : ℕ) → HasPart tin a b t → t < length tin.triangles
part_range tin a b t (f, l, part) = part.in_range

-- ---- all but the last of a list, and the last
split_last : (numbers : List ℕ) → 0 < length numbers
    → numbers ≡ take (length numbers - 1) numbers ++ get_or numbers (length numbers - 1) 0 ∷ []
split_last numbers h = grind (arith, take_all, take_more, below)

pub front_length : (numbers : List ℕ) → 0 < length numbers
    → length (take (length numbers - 1) numbers) + 1 ≡ length numbers
front_length numbers h = sym (ap (λ (ts : List ℕ). length ts) (split_last numbers h)
    ∙ length-append (take (length numbers - 1) numbers) (get_or numbers (length numbers - 1) 0 ∷ []))

pub right_split : (tin : Triangulation) (a b : Pt) (numbers : List ℕ) → 0 < length numbers → IsRightList tin a b numbers
    → IsRightList tin a b (take (length numbers - 1) numbers ++ get_or numbers (length numbers - 1) 0 ∷ [])
right_split tin a b numbers h right = subst (λ (ts : List ℕ). IsRightList tin a b ts) (split_last numbers h) right
