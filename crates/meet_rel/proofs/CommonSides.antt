-- Two triangles on different sides of a common side have of a segment parts that touch where the segment meets the
-- side.
use Rattle.std.proofs.Common.{◌≡◌, ◌⊎◌, inl, inr, ℕ, ◌+◌, ◌<◌, ℤ, pos, neg_ℤ, ◌+ℤ◌, ◌*ℤ◌, ◌≤ℤ◌, ◌<ℤ◌, [], ◌∷◌, refl}
use Rattle.std.proofs.Common.{sym, subst, ◌∙◌, arith}
use Rattle.std.proofs.lemmas.Int.{ints}
use lib.Signed.{lt_z_yes}
use Rattle.integer_ring.proofs.Order.{≤_antisymm, nonneg_pos}
use Rattle.integer_ring.proofs.Signs.{zero_cases}
use Rattle.plane_base.specs.Plane.{Point, Same, turn_of, weighted_sum, IsMix, whole, corners_of}
use Rattle.plane_base.specs.declared.shapes.Pt.{Pt}
use Rattle.plane_base.specs.declared.shapes.Tri.{Tri}
use Rattle.plane_base.proofs.MixLaws.Turns.{turn_cycle, turn_swap}
use Rattle.plane_base.proofs.MixLaws.Mixes.{same_sym, same_moved, mixed, Between, between_weights, mix_swapped, turn_between}
use Rattle.plane_base.proofs.TriangleLaws.InTriangle.{turns_of_mix}
use Rattle.plane_base.proofs.TriangleLaws.CommonPoints.{mix_of_side}
use Rattle.tin_base.specs.declared.relations.Rel.{Rel}
use Rattle.tin_base.specs.declared.relations.Rel.TheVariants.{Touching, Crossing}
use Rattle.tin_base.specs.Relations.{IsCommonPoint, IsOnlyCommonPoint, IsAnEnd, HaveRelation}
use Rattle.meet_rel.specs.declared.clips.Clip.{Clip}
use Rattle.meet_rel.specs.Clips.{IsOf, AreEnds, IsProper, IsSideFrom}
use Rattle.meet_rel.proofs.Scale.{line_moved, mix_first, mix_last}
use Rattle.plain_laws.proofs.Weights.{no_third, no_first, no_second}

one : pos 0 <ℤ pos 1
one = lt_z_yes tt

-- ---- a point of a side is one of the triangle

first_in : (a b c r : Point) → IsMix r (a ∷ b ∷ []) → IsMix r (a ∷ b ∷ c ∷ [])
first_in a b c r m =
    let i = between_weights a b r m in (
      i.k ∷ i.l ∷ 0 ∷ [],
      refl,
      (let h : 0 < i.k + i.l = i.some in omega arith),
      same_moved r (mixed i.k i.l a b) (weighted_sum (i.k ∷ i.l ∷ 0 ∷ []) (a ∷ b ∷ c ∷ []))
          (no_third (pos i.k) (pos i.l) a.x b.x c.x) (no_third (pos i.k) (pos i.l) a.y b.y c.y)
          (no_third (pos i.k) (pos i.l) a.w b.w c.w) i.same,
    )

second_in : (a b c r : Point) → IsMix r (b ∷ c ∷ []) → IsMix r (a ∷ b ∷ c ∷ [])
second_in a b c r m =
    let i = between_weights b c r m in (
      0 ∷ i.k ∷ i.l ∷ [],
      refl,
      (let h : 0 < i.k + i.l = i.some in omega arith),
      same_moved r (mixed i.k i.l b c) (weighted_sum (0 ∷ i.k ∷ i.l ∷ []) (a ∷ b ∷ c ∷ []))
          (no_first (pos i.k) (pos i.l) a.x b.x c.x) (no_first (pos i.k) (pos i.l) a.y b.y c.y)
          (no_first (pos i.k) (pos i.l) a.w b.w c.w) i.same,
    )

third_in : (a b c r : Point) → IsMix r (c ∷ a ∷ []) → IsMix r (a ∷ b ∷ c ∷ [])
third_in a b c r m =
    let i = between_weights c a r m in (
      i.l ∷ 0 ∷ i.k ∷ [],
      refl,
      (let h : 0 < i.k + i.l = i.some in omega arith),
      same_moved r (mixed i.k i.l c a) (weighted_sum (i.l ∷ 0 ∷ i.k ∷ []) (a ∷ b ∷ c ∷ []))
          (no_second (pos i.k) (pos i.l) a.x b.x c.x) (no_second (pos i.k) (pos i.l) a.y b.y c.y)
          (no_second (pos i.k) (pos i.l) a.w b.w c.w) i.same,
    )

-- ---- a side, and the corner on its left
record IsPlaced (t : Tri) (c d : Pt) : Type 0 where
  e : Pt
  positive : pos 0 <ℤ turn_of (whole c) (whole d) (whole e)
  turns : (r : Point) → pos 0 <ℤ r.w → IsMix r (corners_of t)
      → (pos 0 ≤ℤ turn_of (whole c) (whole d) r) × (pos 0 ≤ℤ turn_of (whole d) (whole e) r)
      × (pos 0 ≤ℤ turn_of (whole e) (whole c) r)
  back : (r : Point) → IsMix r (whole c ∷ whole d ∷ []) → IsMix r (corners_of t)

placed : (t : Tri) (c d : Pt) → pos 0 <ℤ turn_of (whole t.a) (whole t.b) (whole t.c) → IsSideFrom t c d → IsPlaced t c d
placed t c d h side = go side
  where
    turns_at : (r : Point) → pos 0 <ℤ r.w → IsMix r (corners_of t)
        → (pos 0 ≤ℤ turn_of (whole t.a) (whole t.b) r) × (pos 0 ≤ℤ turn_of (whole t.b) (whole t.c) r)
        × (pos 0 ≤ℤ turn_of (whole t.c) (whole t.a) r)
    turns_at r hr m = turns_of_mix (whole t.a) (whole t.b) (whole t.c) r one one one hr h m

    first : IsPlaced t t.a t.b
    first = grind (arith, turns_at, first_in)

    second : IsPlaced t t.b t.c
    second = record {
      e = t.a;
      positive = subst (λ (z : ℤ). pos 0 <ℤ z) (turn_cycle (whole t.a) (whole t.b) (whole t.c)) h;
      turns = λ r hr m. let k = turns_at r hr m in (k.1, k.2, k.0);
      back = λ r m. second_in (whole t.a) (whole t.b) (whole t.c) r m;
    }

    third : IsPlaced t t.c t.a
    third = record {
      e = t.b;
      positive = subst (λ (z : ℤ). pos 0 <ℤ z)
          (turn_cycle (whole t.a) (whole t.b) (whole t.c) ∙ turn_cycle (whole t.b) (whole t.c) (whole t.a)) h;
      turns = λ r hr m. let k = turns_at r hr m in (k.2, k.0, k.1);
      back = λ r m. third_in (whole t.a) (whole t.b) (whole t.c) r m;
    }

    moved : (a b : Pt) → c ≡ a → d ≡ b → IsPlaced t a b → IsPlaced t c d
    moved a b ec ed p = subst (λ (x : Pt). IsPlaced t x d) (sym ec) (subst (λ (y : Pt). IsPlaced t a y) (sym ed) p)

    go : IsSideFrom t c d → IsPlaced t c d
    go (inl s) = moved t.a t.b s.0 s.1 first
    go (inr (inl s)) = moved t.b t.c s.0 s.1 second
    go (inr (inr s)) = moved t.c t.a s.0 s.1 third

-- a point of the triangle that is on the line of the side is one of the side
on_side : (t : Tri) (c d : Pt) (r : Point) → IsPlaced t c d → pos 0 <ℤ r.w → IsMix r (corners_of t)
    → turn_of (whole c) (whole d) r ≡ pos 0 → IsMix r (whole c ∷ whole d ∷ [])
on_side t c d r p hr m z = let k = p.turns r hr m in mix_of_side (whole c) (whole d) (whole p.e) r one one hr p.positive
    z k.1 k.2

-- ---- of two weights of a sum of 0
ends_zero : (k l u v : ℤ) → pos 0 ≤ℤ k → pos 0 ≤ℤ l → pos 0 ≤ℤ u → pos 0 ≤ℤ v → k *ℤ u +ℤ l *ℤ v ≡ pos 0
    → (k *ℤ u ≡ pos 0) × (l *ℤ v ≡ pos 0)
ends_zero k l u v hk hl hu hv e = grind (arith, ≤_antisymm)

-- ---- the parts touch
record HaveOnePoint (a b c d : Pt) : Type 0 where
  x : Point
  only : IsOnlyCommonPoint (whole a) (whole b) (whole c) (whole d) x

one_point : (a b c d : Pt) (relation : Rel) → (relation ≡ Touching) ⊎ (relation ≡ Crossing)
    → HaveRelation relation (whole a) (whole b) (whole c) (whole d) → HaveOnePoint a b c d
one_point a b c d relation (inl e) have = let h =
    subst (λ (r : Rel). HaveRelation r (whole a) (whole b) (whole c) (whole d)) e have in record { x = h.0; only = h.1 }
one_point a b c d relation (inr e) have = let h =
    subst (λ (r : Rel). HaveRelation r (whole a) (whole b) (whole c) (whole d)) e have in record { x = h.0; only = h.1 }

touch : (p q : Clip) (c d : Pt) → IsPlaced p.tri c d → IsPlaced q.tri d c → p.a ≡ q.a → p.b ≡ q.b
    → HaveOnePoint p.a p.b c d → (f l g h : Point) → AreEnds p f l → AreEnds q g h → HaveRelation Touching f l g h
touch p q c d s t ea eb o f l g h ends ends' =
    (x, (record { positive = hx; first = on_p; second = ends'.back x hx of_q }, each), end)
  where
    x : Point
    x = o.x

    both : IsCommonPoint (whole p.a) (whole p.b) (whole c) (whole d) x
    both = o.only.0

    hx : pos 0 <ℤ x.w
    hx = both.positive

    of_p : IsOf p x
    of_p = record { between = both.first; inside = s.back x both.second }

    of_q : IsOf q x
    of_q = record {
      between = subst (λ (b : Pt). IsMix x (whole q.a ∷ whole b ∷ [])) eb
          (subst (λ (a : Pt). IsMix x (whole a ∷ whole p.b ∷ [])) ea both.first);
      inside = t.back x (mix_swapped x (whole c) (whole d) both.second);
    }

    on_p : IsMix x (f ∷ l ∷ [])
    on_p = ends.back x hx of_p

    -- a point of the first part on the line of the side is the point
    here : (r : Point) → pos 0 <ℤ r.w → IsOf p r → turn_of (whole c) (whole d) r ≡ pos 0 → Same r x
    here r hr of z = o.only.1 r (record {
      positive = hr;
      first = of.between;
      second =
          on_side p.tri c d r s hr of.inside z;
    })

    level : (u v : ℤ) → u ≡ neg_ℤ v → pos 0 ≤ℤ u → pos 0 ≤ℤ v → u ≡ pos 0
    level u v e hu hv = omega (arith, ints)

    each : (r : Point) → IsCommonPoint f l g h r → Same r x
    each r k =
        let hr = k.positive in let first = ends.forth r hr k.first in let second = ends'.forth r hr k.second in
        here r hr first (level (turn_of (whole c) (whole d) r) (turn_of (whole d) (whole c) r)
        (turn_swap (whole c) (whole d) r) (s.turns r hr first.inside).0 (t.turns r hr second.inside).0)

    first_of : IsOf p f
    first_of = ends.forth f ends.first_positive (mix_first f l)

    last_of : IsOf p l
    last_of = ends.forth l ends.last_positive (mix_last f l)

    i : Between f l x
    i = between_weights f l x on_p

    zero_x : turn_of (whole c) (whole d) x ≡ pos 0
    zero_x = level (turn_of (whole c) (whole d) x) (turn_of (whole d) (whole c) x) (turn_swap (whole c) (whole d) x)
        (s.turns x hx of_p.inside).0 (t.turns x hx of_q.inside).0

    zeros : (pos i.k *ℤ turn_of (whole c) (whole d) f ≡ pos 0) × (pos i.l *ℤ turn_of (whole c) (whole d) l ≡ pos 0)
    zeros =
        ends_zero (pos i.k) (pos i.l) (turn_of (whole c) (whole d) f) (turn_of (whole c) (whole d) l) (nonneg_pos i.k)
        (nonneg_pos i.l)
        (s.turns f ends.first_positive first_of.inside).0 (s.turns l ends.last_positive last_of.inside).0
        (sym (turn_between (whole c) (whole d) f l i.k i.l)
        ∙ line_moved (whole c) (whole d) (mixed i.k i.l f l) x hx (same_sym x (mixed i.k i.l f l) i.same) zero_x)

    no_weight : (k l : ℕ) → 0 < k + l → pos k ≡ pos 0 → pos l ≡ pos 0 → ⊥
    no_weight k l some e e' = absurd (omega (arith, ints))

    end : IsAnEnd f l g h x
    end = by (zero_cases (pos i.k) (turn_of (whole c) (whole d) f) zeros.0)
        (zero_cases (pos i.l) (turn_of (whole c) (whole d) l) zeros.1)
      where
        by : (pos i.k ≡ pos 0) ⊎ (turn_of (whole c) (whole d) f ≡ pos 0)
            → (pos i.l ≡ pos 0) ⊎ (turn_of (whole c) (whole d) l ≡ pos 0) → IsAnEnd f l g h x
        by (inr z) k = inl (same_sym f x (here f ends.first_positive first_of z))
        by (inl e) (inr z) = inr (inl (same_sym l x (here l ends.last_positive last_of z)))
        by (inl e) (inl e') = absurd (no_weight i.k i.l i.some e e')

pub touch_by : (p q : Clip) (c d : Pt) (relation : Rel) → IsProper p → IsProper q → p.a ≡ q.a → p.b ≡ q.b
    → IsSideFrom p.tri c d → IsSideFrom q.tri d c
    → HaveRelation relation (whole p.a) (whole p.b) (whole c) (whole d) → (relation ≡ Touching) ⊎ (relation ≡ Crossing)
    → (f l g h : Point) → AreEnds p f l → AreEnds q g h → HaveRelation Touching f l g h
touch_by p q c d relation hp hq ea eb side side' have is =
    touch p q c d (placed p.tri c d hp.positive side) (placed q.tri d c hq.positive side') ea eb
    (one_point p.a p.b c d relation is have)
