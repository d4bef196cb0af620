-- The gap as the code finds it, and the laws of the gap.
use Rattle.std.proofs.Common.{◌≡◌, inl, inr, ℕ, ◌+◌, ◌-◌, ◌*◌, ◌<◌, pos, zero, suc, refl, arith}
use Rattle.plain_laws.proofs.Order.{trichotomy}
use Rattle.plane_base.specs.Plane.{Point}
use Rattle.plane_base.specs.declared.shapes.Pt.{Pt}
use Rattle.seg_gap.specs.Gaps.{IsOfSegment, HaveCloser, IsGap}
use Rattle.seg_gap.specs.Laws.{GapIsOne, SegmentsThatShareAPointHaveNoGap, GapIsSymmetric}
use Rattle.seg_gap.specs.InsideEnds.{DoCross, IsSomeMixBelow, IsLeast, IsHalfRoot}
use Rattle.seg_gap.proofs.Sides.{far_apart}
use Rattle.seg_gap.proofs.Places.{none_closer, closer_end, closer_reversed, closer_exchanged, closer_more, same_closer}
use Rattle.seg_gap.proofs.Crossings.{closer_crossing}

-- ---- what the code finds
pub gap_crossing : (a b c d : Pt) → DoCross a b c d → IsGap a b c d 0
gap_crossing a b c d h = grind (arith, closer_crossing 1 a b c d (omega arith) h)

near_end : (value n : ℕ) (a b c d : Pt) → value < n * n → IsSomeMixBelow (pos value) a b c d → HaveCloser n a b c d
near_end value n a b c d h (inl r) = closer_end value n a b c d r h
near_end value n a b c d h (inr (inl r)) = closer_reversed n b a c d (closer_end value n b a c d r h)
near_end value n a b c d h (inr (inr (inl r))) = closer_exchanged n c d a b (closer_end value n c d a b r h)
near_end value n a b c d h (inr (inr (inr r))) =
    closer_exchanged n c d a b (closer_reversed n d c a b (closer_end value n d c a b r h))

pub gap_by_ends : (a b c d : Pt) (value half : ℕ) → (DoCross a b c d → ⊥) → IsLeast a b c d value
    → IsHalfRoot value half → IsGap a b c d half
gap_by_ends a b c d value half apart least root =
    record {
      near = near_end value (2 * half + 1) a b c d root.high least.high;
      far = λ some k.
          none_closer value (2 * half - 1) a b c d
          (far_apart (pos value) a b c d apart (grind arith)) (root.low some) k;
    }

-- ---- the laws
not_below : (a b c d : Pt) (first second : ℕ) → IsGap a b c d first → IsGap a b c d second → first < second → ⊥
not_below a b c d first second g h order =
    h.far (omega arith) (closer_more (2 * first + 1) (2 * second - 1) a b c d (omega arith) g.near)

pub gap_is_one : GapIsOne
gap_is_one a b c d first second g h = grind (arith, trichotomy, not_below)

shared : (n : ℕ) (a b c d : Pt) (p : Point) → 0 < n → IsOfSegment a b p → IsOfSegment c d p → HaveCloser n a b c d
shared n a b c d p some first second = grind (arith, same_closer)

pub no_gap : SegmentsThatShareAPointHaveNoGap
no_gap a b c d p gap first second = (there gap, back)
  where
    there : (n : ℕ) → IsGap a b c d n → n ≡ 0
    there zero g = refl
    there (suc n) g = absurd (g.far (omega arith) (shared (2 * suc n - 1) a b c d p (omega arith) first second))

    back : gap ≡ 0 → IsGap a b c d gap
    back e = grind (arith, shared)

pub gap_is_symmetric : GapIsSymmetric
gap_is_symmetric a b c d gap g =
    record {
      exchanged = record {
        near = closer_exchanged (2 * gap + 1) a b c d g.near;
        far =
            λ some k. g.far some (closer_exchanged (2 * gap - 1) c d a b k);
      };
      reversed = record {
        near = closer_reversed (2 * gap + 1) a b c d g.near;
        far =
            λ some k. g.far some (closer_reversed (2 * gap - 1) b a c d k);
      };
    }
