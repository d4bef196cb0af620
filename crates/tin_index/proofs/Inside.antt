-- A point inside of a triangle is in no other: it would be on a side.
use Rattle.std.proofs.Common.{◌≡◌, ◌⊎◌, inl, inr, ⊎_elim, ◌↔◌, IsTrue, ℕ, ◌<◌, ◌≤◌, ℤ, pos, ◌<ℤ◌, Bool}
use Rattle.std.proofs.Common.{List, [], ◌∷◌, length, get_or, sym, subst, arith}
use Rattle.std.proofs.lemmas.Bool.{cases_eq}
use Rattle.integer_ring.proofs.Order.{≤_of_<}
use Rattle.plane_base.specs.Plane.{Point, turn_of, IsMix, whole, corners_of}
use Rattle.plane_base.specs.declared.shapes.Pt.{Pt}
use Rattle.plane_base.specs.declared.shapes.Tri.{Tri}
use Rattle.plane_base.proofs.TriangleLaws.InTriangle.{mix_of_turns}
use Rattle.plane_base.proofs.MixLaws.Mixes.{turn_on_side}
use Rattle.tin_base.specs.declared.frames.Frame.TheVariants.{Source}
use Rattle.tin_base.specs.Triangulation.{Triangulation, place, corner_at, numbers_of, places, IsInTriangle}
use Rattle.tin_base.specs.Soundness.{common_of, IsSound}
use Rattle.tin_base.specs.Limits.{IsWithinLimits}
use Rattle.tin_base.proofs.SegmentSpots.Spots.{one}
use Rattle.tin_base.proofs.FrameImages.Weights.{HasAll, common_in_first}
use Rattle.tin_index.specs.InsideLocations.{IsInsideOf, IsOnlyIn}
use Rattle.tin_base.proofs.TriangleLemmas.Members.{has_first_of_two, has_second_of_two, one_of_three}
use Rattle.tin_base.proofs.PieceChains.Overlap.{in_more}
use Rattle.tin_index.proofs.Corners.{not_zero}

-- what a test of three numbers says of three that are equal to them
pub by_tests : (u v w x y z : ℤ) (r : Bool) → u ≡ x → v ≡ y → w ≡ z
    → IsTrue r ↔ ((pos 0 <ℤ u) × (pos 0 <ℤ v) × (pos 0 <ℤ w)) → IsTrue r ↔ ((pos 0 <ℤ x) × (pos 0 <ℤ y) × (pos 0 <ℤ z))
by_tests u v w x y z r e f g h = grind arith

-- of three numbers two at most: those of one side
abbrev OnSide : ℕ → ℕ → ℕ → List ℕ → Type 0
OnSide i j k cs = HasAll (i ∷ j ∷ []) cs ⊎ (HasAll (j ∷ k ∷ []) cs ⊎ HasAll (k ∷ i ∷ []) cs)

on_a_side : (i j k : ℕ) (cs : List ℕ) → length cs ≤ 2 → HasAll (i ∷ j ∷ k ∷ []) cs → OnSide i j k cs
on_a_side i j k [] few all = inl tt
on_a_side i j k (x ∷ []) few all = grind (arith, one_of_three, has_first_of_two, has_second_of_two)
on_a_side i j k (x ∷ y ∷ []) few all = grind (arith, one_of_three, has_first_of_two, has_second_of_two)
on_a_side i j k (x ∷ y ∷ z ∷ cs) few all = absurd (omega arith)

-- the point is to the left of each side of a triangle by its corners' numbers
record IsLeft (tin : Triangulation) (ns : List ℕ) (p : Point) : Type 0 where
  i : ℕ
  j : ℕ
  k : ℕ
  is : ns ≡ i ∷ j ∷ k ∷ []
  first : pos 0 <ℤ turn_of (place Source (corner_at tin i)) (place Source (corner_at tin j)) p
  second : pos 0 <ℤ turn_of (place Source (corner_at tin j)) (place Source (corner_at tin k)) p
  third : pos 0 <ℤ turn_of (place Source (corner_at tin k)) (place Source (corner_at tin i)) p

left_of : (tin : Triangulation) (ns : List ℕ) (r : Tri) (p : Pt) → length ns ≡ 3 → corners_of r ≡ places tin Source ns
    → IsInsideOf r p → IsLeft tin ns (whole p)
left_of tin [] r p e is h = absurd (omega arith)
left_of tin (i ∷ []) r p e is h = absurd (omega arith)
left_of tin (i ∷ j ∷ []) r p e is h = absurd (omega arith)
left_of tin (i ∷ j ∷ k ∷ l ∷ ns) r p e is h = absurd (omega arith)
left_of tin (i ∷ j ∷ k ∷ []) r p e is h = grind (arith, get_or)

not_on_side : (tin : Triangulation) (ns cs : List ℕ) (p : Point) → length cs ≤ 2 → HasAll ns cs → IsLeft tin ns p
    → IsMix p (places tin Source cs) → ⊥
not_on_side tin ns cs p few all left m = go
    (on_a_side left.i left.j left.k cs few (subst (λ (ms : List ℕ). HasAll ms cs) left.is all))
  where
    side : (c d : ℕ) → HasAll (c ∷ d ∷ []) cs
        → pos 0 <ℤ turn_of (place Source (corner_at tin c)) (place Source (corner_at tin d)) p → ⊥
    side c d h t = not_zero (turn_of (place Source (corner_at tin c)) (place Source (corner_at tin d)) p) t
        (turn_on_side (place Source (corner_at tin c)) (place Source (corner_at tin d)) p one one
        (in_more tin (c ∷ d ∷ []) cs p h m))

    go : OnSide left.i left.j left.k cs → ⊥
    go (inl h) = side left.i left.j h left.first
    go (inr (inl h)) = side left.j left.k h left.second
    go (inr (inr h)) = side left.k left.i h left.third

pub only_in : (tin : Triangulation) (t : ℕ) (r : Tri) (p : Pt) → IsWithinLimits tin → IsSound tin
    → t < length tin.triangles → corners_of r ≡ places tin Source (numbers_of tin t)
    → pos 0 <ℤ turn_of (whole r.a) (whole r.b) (whole r.c) → IsInsideOf r p → IsOnlyIn tin t p
only_in tin t r p limits sound ht is positive inside =
    let has : IsInTriangle tin Source t (whole p) = subst (λ (ps : List Point). IsMix (whole p) ps) is
    (mix_of_turns (whole r.a) (whole r.b) (whole r.c) (whole p) one one one one positive
    (≤_of_< (pos 0) (turn_of (whole r.a) (whole r.b) (whole p)) inside.0)
    (≤_of_< (pos 0) (turn_of (whole r.b) (whole r.c) (whole p)) inside.1)
    (≤_of_< (pos 0) (turn_of (whole r.c) (whole r.a) (whole p)) inside.2)) in
    record {
      in_range = ht;
      has = has;
      only = λ u hu m. ⊎_elim (λ e. sym e) (λ differ.
          let fit = sound.fit Source t u differ ht hu in
          absurd (not_on_side tin (numbers_of tin t) (common_of tin t u) (whole p) fit.two_common
          (common_in_first (numbers_of tin t) (numbers_of tin u))
          (left_of tin (numbers_of tin t) r p (limits.three t ht) is inside) (fit.meet (whole p) one has m)))
          (cases_eq t u);
    }
