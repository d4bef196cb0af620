-- Segments that have the same points have the same ends, and the same relations.
use Rattle.std.proofs.Common.{◌⊎◌, inl, inr, pos, ◌<ℤ◌, [], ◌∷◌}
use Rattle.plane_base.specs.Plane.{Point, Same, IsMix}
use Rattle.plane_base.proofs.MixLaws.Mixes.{same_sym, same_trans, mix_swapped}
use Rattle.tin_base.specs.declared.relations.Rel.{Rel}
use Rattle.tin_base.specs.Relations.{IsAnEnd, HaveRelation}
use Rattle.meet_rel.proofs.Alike.{alike}
use Rattle.meet_rel.proofs.Scale.{Scale, IsOn, IsUpTo, level_of, level_same, between_on, after_first, before_last}
use Rattle.meet_rel.proofs.Scale.{mix_first, mix_last, up_or}

-- from f to l are the points from a to b
pub record HaveSamePoints (f l a b : Point) : Type 0 where
  pub f_positive : pos 0 <ℤ f.w
  pub l_positive : pos 0 <ℤ l.w
  pub a_positive : pos 0 <ℤ a.w
  pub b_positive : pos 0 <ℤ b.w
  pub forth : (r : Point) → pos 0 <ℤ r.w → IsMix r (f ∷ l ∷ []) → IsMix r (a ∷ b ∷ [])
  pub back : (r : Point) → pos 0 <ℤ r.w → IsMix r (a ∷ b ∷ []) → IsMix r (f ∷ l ∷ [])

abbrev pub HaveSameEnds : Point → Point → Point → Point → Type 0
HaveSameEnds f l a b = (Same f a × Same l b) ⊎ (Same f b × Same l a)

pub same_ends : (s : Scale) (f l a b : Point) → IsOn s a → IsOn s b → IsUpTo s a b → HaveSamePoints f l a b
    → HaveSameEnds f l a b
same_ends s f l a b on_a on_b ab h = go (up_or s f l)
  where
    f_in : IsMix f (a ∷ b ∷ [])
    f_in = h.forth f h.f_positive (mix_first f l)

    l_in : IsMix l (a ∷ b ∷ [])
    l_in = h.forth l h.l_positive (mix_last f l)

    a_in : IsMix a (f ∷ l ∷ [])
    a_in = h.back a h.a_positive (mix_first a b)

    b_in : IsMix b (f ∷ l ∷ [])
    b_in = h.back b h.b_positive (mix_last a b)

    on_f : IsOn s f
    on_f = between_on s a b f on_a on_b h.f_positive f_in

    on_l : IsOn s l
    on_l = between_on s a b l on_a on_b h.l_positive l_in

    go : IsUpTo s f l ⊎ IsUpTo s l f → HaveSameEnds f l a b
    go (inl o) = inl (
      level_same s f a on_f on_a (level_of s f a (after_first s f l a on_f on_l h.a_positive o a_in)
          (after_first s a b f on_a on_b h.f_positive ab f_in)),
      level_same s l b on_l on_b (level_of s l b (before_last s a b l on_a on_b h.l_positive ab l_in)
          (before_last s f l b on_f on_l h.b_positive o b_in)),
    )
    go (inr o) = inr (
      level_same s f b on_f on_b (level_of s f b (before_last s a b f on_a on_b h.f_positive ab f_in)
          (before_last s l f b on_l on_f h.b_positive o (mix_swapped b f l b_in))),
      level_same s l a on_l on_a (level_of s l a (after_first s l f a on_l on_f h.a_positive o (mix_swapped a f l a_in))
          (after_first s a b l on_a on_b h.l_positive ab l_in)),
    )

-- a point in the place of one of the ends
end_of : (f l a b r : Point) → HaveSamePoints f l a b → HaveSameEnds f l a b → Same r a ⊎ Same r b → Same r f ⊎ Same r l
end_of f l a b r h (inl e) (inl k) = inl (same_trans r a f h.a_positive k (same_sym f a e.0))
end_of f l a b r h (inl e) (inr k) = inr (same_trans r b l h.b_positive k (same_sym l b e.1))
end_of f l a b r h (inr e) (inl k) = inr (same_trans r a l h.a_positive k (same_sym l a e.1))
end_of f l a b r h (inr e) (inr k) = inl (same_trans r b f h.b_positive k (same_sym f b e.0))

end_back : (f l a b r : Point) → HaveSamePoints f l a b → HaveSameEnds f l a b → Same r f ⊎ Same r l
    → Same r a ⊎ Same r b
end_back f l a b r h (inl e) (inl k) = inl (same_trans r f a h.f_positive k e.0)
end_back f l a b r h (inl e) (inr k) = inr (same_trans r l b h.l_positive k e.1)
end_back f l a b r h (inr e) (inl k) = inr (same_trans r f b h.f_positive k e.0)
end_back f l a b r h (inr e) (inr k) = inl (same_trans r l a h.l_positive k e.1)

left : (p q e f r : Point) → Same r p ⊎ Same r q → IsAnEnd p q e f r
left p q e f r (inl k) = inl k
left p q e f r (inr k) = inr (inl k)

right : (p q e f r : Point) → Same r e ⊎ Same r f → IsAnEnd p q e f r
right p q e f r (inl k) = inr (inr (inl k))
right p q e f r (inr k) = inr (inr (inr k))

split : (p q e f r : Point) → IsAnEnd p q e f r → (Same r p ⊎ Same r q) ⊎ (Same r e ⊎ Same r f)
split p q e f r (inl k) = inl (inl k)
split p q e f r (inr (inl k)) = inl (inr k)
split p q e f r (inr (inr k)) = inr k

-- both segments may stand for others of the same points
pub replaced : (a b c d f l g h : Point) → HaveSamePoints f l a b → HaveSameEnds f l a b → HaveSamePoints g h c d
    → HaveSameEnds g h c d → (relation : Rel) → HaveRelation relation a b c d → HaveRelation relation f l g h
replaced a b c d f l g h first first_ends second second_ends =
    alike a b c d f l g h (record {
      forth = λ r k. record {
        positive = k.positive;
        first = first.back r k.positive k.first;
        second =
            second.back r k.positive k.second;
      };
      back = λ r k. record {
        positive = k.positive;
        first = first.forth r k.positive k.first;
        second =
            second.forth r k.positive k.second;
      };
      end_forth = λ r k. forth r (split a b c d r k);
      end_back = λ r k. back r (split f l g h r k);
    })
  where
    forth : (r : Point) → (Same r a ⊎ Same r b) ⊎ (Same r c ⊎ Same r d) → IsAnEnd f l g h r
    forth r (inl k) = left f l g h r (end_of f l a b r first first_ends k)
    forth r (inr k) = right f l g h r (end_of g h c d r second second_ends k)

    back : (r : Point) → (Same r f ⊎ Same r l) ⊎ (Same r g ⊎ Same r h) → IsAnEnd a b c d r
    back r (inl k) = left a b c d r (end_back f l a b r first first_ends k)
    back r (inr k) = right a b c d r (end_back g h c d r second second_ends k)
