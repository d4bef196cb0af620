-- Segments with the same common points and the same ends have the same relation.
use Rattle.std.proofs.Common.{inl, inr}
use Rattle.plane_base.specs.Plane.{Point}
use Rattle.plane_base.proofs.MixLaws.Mixes.{mix_swapped}
use Rattle.tin_base.specs.declared.relations.Rel.{Rel}
use Rattle.tin_base.specs.declared.relations.Rel.TheVariants.{Apart, Touching, Crossing, Overlapping}
use Rattle.tin_base.specs.Relations.{IsCommonPoint, IsOnlyCommonPoint, IsAnEnd, HaveRelation}

-- what is common to the first two is common to the second two, and the other way, and ends are ends
pub record AreAlike (p q e f p' q' e' f' : Point) : Type 0 where
  pub forth : (r : Point) → IsCommonPoint p q e f r → IsCommonPoint p' q' e' f' r
  pub back : (r : Point) → IsCommonPoint p' q' e' f' r → IsCommonPoint p q e f r
  pub end_forth : (r : Point) → IsAnEnd p q e f r → IsAnEnd p' q' e' f' r
  pub end_back : (r : Point) → IsAnEnd p' q' e' f' r → IsAnEnd p q e f r

only_alike : (p q e f p' q' e' f' r : Point) → AreAlike p q e f p' q' e' f' → IsOnlyCommonPoint p q e f r
    → IsOnlyCommonPoint p' q' e' f' r
only_alike p q e f p' q' e' f' r a only = (a.forth r only.0, λ s h. only.1 s (a.back s h))

pub alike : (p q e f p' q' e' f' : Point) → AreAlike p q e f p' q' e' f' → (relation : Rel)
    → HaveRelation relation p q e f → HaveRelation relation p' q' e' f'
alike p q e f p' q' e' f' a Apart h = λ r c. h r (a.back r c)
alike p q e f p' q' e' f' a Touching h = (h.0, only_alike p q e f p' q' e' f' h.0 a h.1, a.end_forth h.0 h.2)
alike p q e f p' q' e' f' a Crossing h = (h.0, only_alike p q e f p' q' e' f' h.0 a h.1, λ k. h.2 (a.end_back h.0 k))
alike p q e f p' q' e' f' a Overlapping h = (h.0, h.1, a.forth h.0 h.2, a.forth h.1 h.3, h.4)

-- ---- the first segment from its other end, and the second
first_common : (p q e f r : Point) → IsCommonPoint p q e f r → IsCommonPoint q p e f r
first_common p q e f r c = record { positive = c.positive; first = mix_swapped r p q c.first; second = c.second }

second_common : (p q e f r : Point) → IsCommonPoint p q e f r → IsCommonPoint p q f e r
second_common p q e f r c = record { positive = c.positive; first = c.first; second = mix_swapped r e f c.second }

first_end : (p q e f r : Point) → IsAnEnd p q e f r → IsAnEnd q p e f r
first_end p q e f r (inl k) = inr (inl k)
first_end p q e f r (inr (inl k)) = inl k
first_end p q e f r (inr (inr k)) = inr (inr k)

second_end : (p q e f r : Point) → IsAnEnd p q e f r → IsAnEnd p q f e r
second_end p q e f r (inl k) = inl k
second_end p q e f r (inr (inl k)) = inr (inl k)
second_end p q e f r (inr (inr (inl k))) = inr (inr (inr k))
second_end p q e f r (inr (inr (inr k))) = inr (inr (inl k))

pub first_turned : (p q e f : Point) (relation : Rel) → HaveRelation relation p q e f → HaveRelation relation q p e f
first_turned p q e f =
    alike p q e f q p e f (record {
      forth = λ r. first_common p q e f r;
      back = λ r. first_common q p e f r;
      end_forth =
          λ r. first_end p q e f r;
      end_back = λ r. first_end q p e f r;
    })

pub second_turned : (p q e f : Point) (relation : Rel) → HaveRelation relation p q e f → HaveRelation relation p q f e
second_turned p q e f =
    alike p q e f p q f e (record {
      forth = λ r. second_common p q e f r;
      back =
          λ r. second_common p q f e r;
      end_forth = λ r. second_end p q e f r;
      end_back = λ r. second_end p q f e r;
    })
