-- Two segments of one line: by the later of their first points and the earlier of their last points.
use Rattle.std.proofs.Common.{◌≡◌, ◌⊎◌, inl, inr, subst, sym, arith}
use Rattle.plane_base.specs.Plane.{Point, Same}
use Rattle.plane_base.proofs.MixLaws.Mixes.{same_refl}
use Rattle.tin_base.specs.declared.relations.Rel.TheVariants.{Apart, Touching, Overlapping}
use Rattle.tin_base.specs.Relations.{IsCommonPoint, IsAnEnd, HaveRelation}
use Rattle.meet_rel.proofs.Scale.{Scale, IsOn, IsUpTo, IsLessFar, IsLevel, up_to_trans, level_up, level_down, level_of}
use Rattle.meet_rel.proofs.Scale.{before_up, not_before, up_to_itself, same_level, level_same, between_on, after_first}
use Rattle.meet_rel.proofs.Scale.{before_last, between_of}

-- both segments go on, first is the later of their first points, and last the earlier of their last points
pub record AreSpans (s : Scale) (p q e f first last : Point) : Type 0 where
  pub on_p : IsOn s p
  pub on_q : IsOn s q
  pub on_e : IsOn s e
  pub on_f : IsOn s f
  pub pq : IsUpTo s p q
  pub ef : IsUpTo s e f
  pub first_one : (first ≡ p) ⊎ (first ≡ e)
  pub last_one : (last ≡ q) ⊎ (last ≡ f)
  pub from_p : IsUpTo s p first
  pub from_e : IsUpTo s e first
  pub to_q : IsUpTo s last q
  pub to_f : IsUpTo s last f

on_first : (s : Scale) (p q e f first last : Point) → AreSpans s p q e f first last → IsOn s first
on_first s p q e f first last a = grind (arith, IsOn)

on_last : (s : Scale) (p q e f first last : Point) → AreSpans s p q e f first last → IsOn s last
on_last s p q e f first last a = grind (arith, IsOn)

-- a common point is from first to last
common_on : (s : Scale) (p q e f first last r : Point) → AreSpans s p q e f first last → IsCommonPoint p q e f r
    → IsOn s r
common_on s p q e f first last r a c = between_on s p q r a.on_p a.on_q c.positive c.first

common_from : (s : Scale) (p q e f first last r : Point) → AreSpans s p q e f first last → IsCommonPoint p q e f r
    → IsUpTo s first r
common_from s p q e f first last r a c = go a.first_one
  where
    go : (first ≡ p) ⊎ (first ≡ e) → IsUpTo s first r
    go (inl k) = subst (λ (t : Point). IsUpTo s t r) (sym k) (after_first s p q r a.on_p a.on_q c.positive a.pq c.first)
    go (inr k) = subst (λ (t : Point). IsUpTo s t r) (sym k)
        (after_first s e f r a.on_e a.on_f c.positive a.ef c.second)

common_to : (s : Scale) (p q e f first last r : Point) → AreSpans s p q e f first last → IsCommonPoint p q e f r
    → IsUpTo s r last
common_to s p q e f first last r a c = go a.last_one
  where
    go : (last ≡ q) ⊎ (last ≡ f) → IsUpTo s r last
    go (inl k) = subst (λ (t : Point). IsUpTo s r t) (sym k) (before_last s p q r a.on_p a.on_q c.positive a.pq c.first)
    go (inr k) = subst (λ (t : Point). IsUpTo s r t) (sym k)
        (before_last s e f r a.on_e a.on_f c.positive a.ef c.second)

-- and what is from first to last is common
common_of : (s : Scale) (p q e f first last r : Point) → AreSpans s p q e f first last → IsOn s r → IsUpTo s first r
    → IsUpTo s r last → IsCommonPoint p q e f r
common_of s p q e f first last r a on from to =
    let on_f = on_first s p q e f first last a in let on_l = on_last s p q e f first last a in
    record {
      positive = on.positive;
      first = between_of s p q r a.on_p a.on_q on (up_to_trans s p first r a.on_p on_f on a.from_p from)
          (up_to_trans s r last q on on_l a.on_q to a.to_q);
      second = between_of s e f r a.on_e a.on_f on (up_to_trans s e first r a.on_e on_f on a.from_e from)
          (up_to_trans s r last f on on_l a.on_f to a.to_f);
    }

end_of : (p q e f first : Point) → (first ≡ p) ⊎ (first ≡ e) → IsAnEnd p q e f first
end_of p q e f first (inl k) = inl (subst (λ (t : Point). Same first t) k (same_refl first))
end_of p q e f first (inr k) = inr (inr (inl (subst (λ (t : Point). Same first t) k (same_refl first))))

pub apart : (s : Scale) (p q e f first last : Point) → AreSpans s p q e f first last → IsLessFar s last first
    → HaveRelation Apart p q e f
apart s p q e f first last a before = λ r c.
    not_before s last first before
    (up_to_trans s first r last (on_first s p q e f first last a) (common_on s p q e f first last r a c)
    (on_last s p q e f first last a) (common_from s p q e f first last r a c)
    (common_to s p q e f first last r a c))

pub touching : (s : Scale) (p q e f first last : Point) → AreSpans s p q e f first last → IsLevel s first last
    → HaveRelation Touching p q e f
touching s p q e f first last a level =
    let on_f = on_first s p q e f first last a in let on_l = on_last s p q e f first last a in (
      first,
      (
        common_of s p q e f first last first a on_f (up_to_itself s first) (level_up s first last level),
        λ r c.
            let on_r = common_on s p q e f first last r a c in
            level_same s r first on_r on_f
            (level_of s r first (up_to_trans s r last first on_r on_l on_f (common_to s p q e f first last r a c)
            (level_down s first last level)) (common_from s p q e f first last r a c)),
      ),
      end_of p q e f first a.first_one,
    )

pub overlapping : (s : Scale) (p q e f first last : Point) → AreSpans s p q e f first last → IsLessFar s first last
    → HaveRelation Overlapping p q e f
overlapping s p q e f first last a before =
    let on_f = on_first s p q e f first last a in let on_l = on_last s p q e f first last a in (
      first,
      last,
      common_of s p q e f first last first a on_f (up_to_itself s first) (before_up s first last before),
      common_of s p q e f first last last a on_l (before_up s first last before) (up_to_itself s last),
      λ same. not_before s first last before (level_down s first last (same_level s first last same)),
    )
