-- Two segments have one relation and no other.
use Rattle.std.proofs.Common.{inl, inr, pos, ◌<ℤ◌, refl}
use Rattle.plane_base.specs.Plane.{Point, Same}
use Rattle.plane_base.proofs.MixLaws.Mixes.{same_sym, same_trans}
use Rattle.tin_base.specs.declared.relations.Rel.TheVariants.{Apart, Touching, Crossing, Overlapping}
use Rattle.tin_base.specs.Relations.{IsCommonPoint, IsOnlyCommonPoint, IsAnEnd}
use Rattle.meet_rel.specs.Laws.{RelationsAreExclusive}

-- a point in the place of an end is an end
end_moved : (p q e f r s : Point) → pos 0 <ℤ r.w → Same s r → IsAnEnd p q e f r → IsAnEnd p q e f s
end_moved p q e f r s h same (inl k) = inl (same_trans s r p h same k)
end_moved p q e f r s h same (inr (inl k)) = inr (inl (same_trans s r q h same k))
end_moved p q e f r s h same (inr (inr (inl k))) = inr (inr (inl (same_trans s r e h same k)))
end_moved p q e f r s h same (inr (inr (inr k))) = inr (inr (inr (same_trans s r f h same k)))

-- one common point alone, and two that differ
not_both : (p q e f r s t : Point) → IsOnlyCommonPoint p q e f r → IsCommonPoint p q e f s → IsCommonPoint p q e f t
    → (Same s t → ⊥) → ⊥
not_both p q e f r s t only first second differ =
    let c = only.0 in
    differ (same_trans s r t c.positive (only.1 s first) (same_sym t r (only.1 t second)))

-- one that is an end, and one that is not
not_an_end : (p q e f r s : Point) → IsOnlyCommonPoint p q e f r → IsAnEnd p q e f r → IsOnlyCommonPoint p q e f s
    → (IsAnEnd p q e f s → ⊥) → ⊥
not_an_end p q e f r s only end other no_end = let c =
    only.0 in no_end (end_moved p q e f r s c.positive (only.1 s other.0) end)

pub relations_are_exclusive : RelationsAreExclusive
relations_are_exclusive p q e f Apart Touching h k = absurd (h k.0 k.1.0)
relations_are_exclusive p q e f Apart Crossing h k = absurd (h k.0 k.1.0)
relations_are_exclusive p q e f Apart Overlapping h k = absurd (h k.0 k.2)
relations_are_exclusive p q e f Touching Apart h k = absurd (k h.0 h.1.0)
relations_are_exclusive p q e f Touching Crossing h k = absurd (not_an_end p q e f h.0 k.0 h.1 h.2 k.1 k.2)
relations_are_exclusive p q e f Touching Overlapping h k = absurd (not_both p q e f h.0 k.0 k.1 h.1 k.2 k.3 k.4)
relations_are_exclusive p q e f Crossing Apart h k = absurd (k h.0 h.1.0)
relations_are_exclusive p q e f Crossing Touching h k = absurd (not_an_end p q e f k.0 h.0 k.1 k.2 h.1 h.2)
relations_are_exclusive p q e f Crossing Overlapping h k = absurd (not_both p q e f h.0 k.0 k.1 h.1 k.2 k.3 k.4)
relations_are_exclusive p q e f Overlapping Apart h k = absurd (k h.0 h.2)
relations_are_exclusive p q e f Overlapping Touching h k = absurd (not_both p q e f k.0 h.0 h.1 k.1 h.2 h.3 h.4)
relations_are_exclusive p q e f Overlapping Crossing h k = absurd (not_both p q e f k.0 h.0 h.1 k.1 h.2 h.3 h.4)
relations_are_exclusive p q e f _ _ h k = refl
