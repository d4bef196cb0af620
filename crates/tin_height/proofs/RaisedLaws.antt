-- Points are raised in one way, or one of them is the first that no triangle contains.
use Rattle.std.proofs.Common.{◌≡◌, ◌⊎◌, inl, inr, ℕ, zero, suc, ◌<◌, List, [], ◌∷◌, length, ℤ, pos, ◌+ℤ◌}
use Rattle.std.proofs.Common.{◌<ℤ◌, refl, sym, ap, ap₂, ◌∙◌, subst, arith}
use Rattle.std.specs.Prelude.{slice_get, Some}
use Rattle.std.proofs.lemmas.Int.{ints}
use Rattle.std.proofs.lemmas.Option.{same_Some, slice_get_within}
use Rattle.frac128.specs.Rounding.{half_up_of}
use Rattle.plane_base.specs.Plane.{whole}
use Rattle.plane_base.specs.declared.shapes.Pt.{Pt}
use Rattle.tin_base.specs.declared.frames.Frame.TheVariants.{Source}
use Rattle.tin_base.specs.Triangulation.{Triangulation}
use Rattle.tin_base.specs.Images.{IsInSome}
use Rattle.tin_base.specs.Soundness.{IsSound}
use Rattle.tin_base.specs.Segments.{Part, IsInside, ArePiecesOf}
use Rattle.tin_base.proofs.PieceChains.Outcomes as walks
use Rattle.tin_base.proofs.SegmentSpots.Spots.{first_inside, point_inside}
use Rattle.affine_image.specs.Laws.{RoundedImagesAgree}
use Rattle.affine_image.specs.RoundedImages.{rounded_point}
use Rattle.tin_base.proofs.FrameImages.Agreement.{each_has_image}
use Rattle.affine_image.proofs.HalfUp.{same_rounded}
use Rattle.tin_height.specs.Offsets.{IsRoundedOffset}
use Rattle.tin_height.specs.Raises.{IsRaised, AreRaised, IsFirstOutside, RaisedAreOne, RaisedExist, IsRaisedOrOutside}
use Rattle.tin_height.specs.declared.points.PointRow.{PointRow}
use Rattle.tin_height.specs.declared.raises.Raised.{Raised}
use Rattle.tin_height.proofs.OffsetLemmas.{offset_is_one, offset_exists}
use Rattle.tin_height.proofs.Raising.{inside}

one : pos 0 <ℤ pos 1
one = omega (arith, ints)

-- ---- in one way
module _ (tin : Triangulation) (offsets : List ℤ) (sound : IsSound tin) (each : length offsets ≡ length tin.corners)
    (images : RoundedImagesAgree) where
  one_offset : (p : Pt) (a b : ℤ) → IsRoundedOffset tin offsets p a → IsRoundedOffset tin offsets p b → a ≡ b
  one_offset p a b (n, d, hd, i, is) (m, e, he, j, also) =
      is ∙ (same_rounded n d m e hd he (offset_is_one tin offsets (whole p) n d m e sound each one hd he i j) ∙ sym also)

  one_raised : (row : PointRow) (a b : Raised) → IsRaised tin offsets row a → IsRaised tin offsets row b → a ≡ b
  one_raised row a b x y =
      let p : a.p ≡ b.p = images tin (whole row.p) a.p b.p sound one x.image y.image in
      let o : x.offset ≡ y.offset = one_offset row.p x.offset y.offset x.offset_is y.offset_is in
      let z : a.z ≡ b.z = x.height ∙ (ap (λ (k : ℤ). row.z +ℤ k) o ∙ sym y.height) in
      ap₂ (λ (q : Pt) (h : ℤ). record { p = q; z = h }) p z

  all_raised : (rows : List PointRow) (a b : List Raised) → AreRaised tin offsets rows a → AreRaised tin offsets rows b
      → a ≡ b
  all_raised [] [] [] x y = refl
  all_raised [] [] (one_more ∷ b) x y = absurd y
  all_raised (row ∷ rows) (first ∷ a) [] x y = absurd y
  all_raised (row ∷ rows) (first ∷ a) (other ∷ b) x y =
      ap₂ (λ (r : Raised) (rs : List Raised). r ∷ rs) (one_raised row first other x.0 y.0) (all_raised rows a b x.1 y.1)
  all_raised rows a b x y = absurd x

-- ---- in some way
module _ (tin : Triangulation) (offsets : List ℤ) (sound : IsSound tin) where
  inside_or_not : (p : Pt) → IsInSome tin Source (whole p) ⊎ (IsInSome tin Source (whole p) → ⊥)
  inside_or_not p = by (walks.outcome tin sound p p)
    where
      by : ((parts : List Part) × ArePiecesOf tin p p parts × IsInside tin p p) ⊎ (IsInside tin p p → ⊥)
          → IsInSome tin Source (whole p) ⊎ (IsInSome tin Source (whole p) → ⊥)
      by (inl (parts, are, is)) = inl (first_inside tin p p is)
      by (inr not) = inr (λ is. not (point_inside tin p is))

  some_raised : (row : PointRow) → IsInSome tin Source (whole row.p) → (raised : Raised) × IsRaised tin offsets row raised
  some_raised row is =
      let (r, w, image) = each_has_image tin (whole row.p) one is in
      let (n, d, hd, offset) = offset_exists tin offsets (whole row.p) is in (
        record { p = rounded_point r; z = row.z +ℤ half_up_of n d },
        record {
          image = (r, w, image, refl);
          offset = half_up_of n d;
          offset_is = (n, d, hd, offset, refl);
          height = refl;
        },
      )

  -- a first point outside, with a point before the others that is inside
  later : (row : PointRow) (rows : List PointRow) (point : ℕ) → IsInSome tin Source (whole row.p)
      → IsFirstOutside tin rows point → IsFirstOutside tin (row ∷ rows) (suc point)
  later row rows point is first = record {
    row = first.row;
    row_is = first.row_is;
    outside = first.outside;
    before = before;
  }
    where
      before : (k : ℕ) (other : PointRow) → k < suc point → slice_get (row ∷ rows) k ≡ Some other
          → IsInSome tin Source (whole other.p)
      before zero other less got =
          subst (λ (r : PointRow). IsInSome tin Source (whole r.p)) (same_Some row other got) is
      before (suc k) other less got = first.before k other (omega (arith, less)) got

  raised_or_outside : (rows : List PointRow) → IsRaisedOrOutside tin offsets rows
  raised_or_outside [] = inl ([], tt)
  raised_or_outside (row ∷ rows) = by (inside_or_not row.p) (raised_or_outside rows)
    where
      by : IsInSome tin Source (whole row.p) ⊎ (IsInSome tin Source (whole row.p) → ⊥)
          → IsRaisedOrOutside tin offsets rows → IsRaisedOrOutside tin offsets (row ∷ rows)
      by (inl is) (inl (raised, are)) = let (first, so) = some_raised row is in inl (first ∷ raised, (so, are))
      by (inl is) (inr (point, first)) = inr (suc point, later row rows point is first)
      by (inr not) more = inr (
        0,
        record {
          row = row;
          row_is = refl;
          outside = not;
          before = λ k other less got. absurd (omega (arith, less));
        },
      )

-- ---- not both
module _ (tin : Triangulation) (offsets : List ℤ) where
  row_inside : (rows : List PointRow) (raised : List Raised) → AreRaised tin offsets rows raised → (k : ℕ)
      (row : PointRow) → slice_get rows k ≡ Some row → IsInSome tin Source (whole row.p)
  row_inside [] raised h k row got = absurd (omega (arith, slice_get_within [] k row got))
  row_inside (first ∷ rows) [] h k row got = absurd h
  row_inside (first ∷ rows) (one_more ∷ raised) h zero row got =
      subst (λ (r : PointRow). IsInSome tin Source (whole r.p)) (same_Some first row got)
      (inside tin offsets first one_more h.0)
  row_inside (first ∷ rows) (one_more ∷ raised) h (suc k) row got = row_inside rows raised h.1 k row got

  not_both : (rows : List PointRow) (raised : List Raised) (point : ℕ) → AreRaised tin offsets rows raised
      → IsFirstOutside tin rows point → ⊥
  not_both rows raised point are first = first.outside (row_inside rows raised are point first.row first.row_is)

-- of two first points neither is before the other
not_before : (tin : Triangulation) (rows : List PointRow) (a b : ℕ) → IsFirstOutside tin rows a
    → IsFirstOutside tin rows b → a < b → ⊥
not_before tin rows a b x y less = x.outside (y.before a x.row less x.row_is)

one_first : (tin : Triangulation) (rows : List PointRow) (a b : ℕ) → IsFirstOutside tin rows a
    → IsFirstOutside tin rows b → a ≡ b
one_first tin rows a b x y = omega (arith, not_before tin rows a b x y, not_before tin rows b a y x)

pub raised_are_one : RoundedImagesAgree → RaisedAreOne
raised_are_one images tin offsets rows sound each = record {
  raised = λ a b x y. all_raised tin offsets sound each images rows a b x y;
  outside = λ a b x y. one_first tin rows a b x y;
  apart = λ raised point are first. not_both tin offsets rows raised point are first;
}

pub raised_exist : RaisedExist
raised_exist tin offsets rows sound = raised_or_outside tin offsets sound rows
