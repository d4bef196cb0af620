-- Points are raised one after another.
use Rattle.std.proofs.Common.{◌≡◌, ℕ, zero, suc, ◌<◌, ◌≤◌, List, [], ◌∷◌, ◌++◌, length, take, get_or, ℤ, refl, ap, subst, arith}
use Rattle.std.specs.Prelude.{slice_get, Some}
use Rattle.std.proofs.lemmas.Option.{same_Some, slice_get_within}
use Rattle.plane_base.specs.Plane.{whole}
use Rattle.tin_base.specs.declared.frames.Frame.TheVariants.{Source}
use Rattle.tin_base.specs.Triangulation.{Triangulation, numbers_of}
use Rattle.tin_base.specs.Images.{IsInSome}
use Rattle.tin_base.proofs.FrameImages.Alike.{alike_in}
use Rattle.tin_height.specs.Raises.{IsRaised, AreRaised, IsFirstOutside}
use Rattle.tin_height.specs.declared.points.PointRow.{PointRow}
use Rattle.tin_height.specs.declared.raises.Raised.{Raised}

module _ (tin : Triangulation) (offsets : List ℤ) where
  pub raised_more : (rows : List PointRow) (raised : List Raised) (i : ℕ) (d : PointRow) (one : Raised)
      → AreRaised tin offsets (take i rows) raised
      → i < length rows → IsRaised tin offsets (get_or rows i d) one
      → AreRaised tin offsets (take (suc i) rows) (raised ++ one ∷ [])
  raised_more [] raised i d one h within is = absurd (omega (arith, within))
  raised_more (row ∷ rows) [] zero d one h within is = (is, tt)
  raised_more (row ∷ rows) (first ∷ raised) zero d one h within is = absurd h
  raised_more (row ∷ rows) [] (suc i) d one h within is = absurd h
  raised_more (row ∷ rows) (first ∷ raised) (suc i) d one h within is =
      (h.0, raised_more rows raised i d one h.1 (omega (arith, within)) is)

  pub raised_long : (rows : List PointRow) (raised : List Raised) → AreRaised tin offsets rows raised
      → length raised ≡ length rows
  raised_long [] [] h = refl
  raised_long (row ∷ rows) (one ∷ raised) h = ap suc (raised_long rows raised h.1)
  raised_long rows raised h = absurd h

  take_whole : (rows : List PointRow) (i : ℕ) → length rows ≤ i → take i rows ≡ rows
  take_whole [] zero h = refl
  take_whole [] (suc i) h = refl
  take_whole (row ∷ rows) zero h = absurd (omega (arith, h))
  take_whole (row ∷ rows) (suc i) h = ap (λ rs. row ∷ rs) (take_whole rows i (omega (arith, h)))

  pub raised_all : (rows : List PointRow) (raised : List Raised) (i : ℕ) → AreRaised tin offsets (take i rows) raised
      → length rows ≤ i → AreRaised tin offsets rows raised
  raised_all rows raised i h end = subst (λ rs. AreRaised tin offsets rs raised) (take_whole rows i end) h

  pub inside : (row : PointRow) (one : Raised) → IsRaised tin offsets row one → IsInSome tin Source (whole row.p)
  inside row one h =
      let (r, w, image, is) = h.image in
      let (t, ht, mixes) = image in
      (t, ht, alike_in tin Source (numbers_of tin t) (whole row.p) r mixes)

  before_inside : (rows : List PointRow) (raised : List Raised) (i : ℕ) → AreRaised tin offsets (take i rows) raised
      → (k : ℕ) (other : PointRow) → k < i → slice_get rows k ≡ Some other → IsInSome tin Source (whole other.p)
  before_inside [] raised i h k other less got = absurd (omega (arith, slice_get_within [] k other got))
  before_inside (row ∷ rows) raised zero h k other less got = absurd (omega (arith, less))
  before_inside (row ∷ rows) [] (suc i) h k other less got = absurd h
  before_inside (row ∷ rows) (one ∷ raised) (suc i) h zero other less got =
      subst (λ (r : PointRow). IsInSome tin Source (whole r.p)) (same_Some row other got) (inside row one h.0)
  before_inside (row ∷ rows) (one ∷ raised) (suc i) h (suc k) other less got =
      before_inside rows raised i h.1 k other (omega (arith, less)) got

  got_at : (rows : List PointRow) (i : ℕ) (d : PointRow) → i < length rows → slice_get rows i ≡ Some (get_or rows i d)
  got_at [] i d within = absurd (omega (arith, within))
  got_at (row ∷ rows) zero d within = refl
  got_at (row ∷ rows) (suc i) d within = got_at rows i d (omega (arith, within))

  pub first_outside : (rows : List PointRow) (raised : List Raised) (i : ℕ) (d : PointRow)
      → AreRaised tin offsets (take i rows) raised → i < length rows
      → (IsInSome tin Source (whole (get_or rows i d).p) → ⊥) → IsFirstOutside tin rows i
  first_outside rows raised i d h within outside = record {
    row = get_or rows i d;
    row_is = got_at rows i d within;
    outside = outside;
    before = before_inside rows raised i h;
  }
