-- Where the ends of a common part lie.
use Rattle.std.proofs.Common.{◌≡◌, ◌↔◌, ◌⊎◌, inl, inr, ℤ, pos, ◌+ℤ◌, ◌-ℤ◌, ◌*ℤ◌, ◌≤ℤ◌, ◌<ℤ◌, zero, suc, sym, ◌∙◌, subst}
use Rattle.std.proofs.Common.{refl}
use lib.Signed.{lt_z_yes, le_z_yes}
use Rattle.integer_ring.proofs.Ring.{num, neg, ◌⊕◌, ◌⊖◌, ◌⊗◌}
use Rattle.integer_ring.proofs.Order.{≤_antisymm}
use Rattle.integer_ring.proofs.Claims.{◌≐◌, ◌≼◌, ◌≺◌, never, gap, over, eqn, ◌⊞◌, ◌⊠◌, ◌because◌, ◌⇒◌, follows, solve}
use Rattle.frac128.specs.declared.frac.Frac.{Frac}
use Rattle.plane_base.specs.Plane.{turn_of, whole, corners_of, along}
use Rattle.plane_base.specs.Slices.{IsParam, IsIn, IsCommon, IsCrossed, IsEnd, LiesAt, AreEnds, IsWholeWay}
use Rattle.plane_base.specs.declared.stretches.Stretch.{Stretch}
use Rattle.plane_base.specs.InsideCourses.{value_at, IsZeroAt, IsBound}
use Rattle.plane_base.specs.InsideSides.{AreOfSides, IsLeftOfAll, IsBoundOfOne, IsZeroOfOne, IsEndBy}
use Rattle.plane_base.specs.declared.stretches.Courses.{Courses}
use Rattle.plane_base.specs.declared.shapes.Pt.{Pt}
use Rattle.plane_base.specs.declared.shapes.Tri.{Tri}
use Rattle.plane_base.specs.declared.stretches.End.{End}
use Rattle.plane_base.specs.declared.stretches.End.TheVariants.{Vertex, Side}
use Rattle.plane_base.proofs.MixLaws.Points.{turn}
use Rattle.plane_base.proofs.MixLaws.Turns.{turn_cycle}
use Rattle.plane_base.proofs.MixLaws.Along.{along-w}
use Rattle.plane_base.proofs.MixLaws.Mixes.{turn_on_side, mix_moved}
use Rattle.plane_base.proofs.TriangleLaws.CommonPoints.{mix_of_side}
use Rattle.plane_base.proofs.CommonParts.Slices.{along_is}

-- ---- a bound of the common part is an end of the way, or a number is 0 there
not_below : (u v n d : ℤ) → pos 0 <ℤ d → pos 0 ≤ℤ value_at u v n d → u ≡ v → u <ℤ pos 0 → ⊥
not_below = follows 4 (λ u v n d. num (pos 0) ≺ d ⇒ num (pos 0) ≼ (d ⊖ n) ⊗ u ⊕ n ⊗ v ⇒ u
    ≐ v ⇒ u ≺ num (pos 0) ⇒ never because gap 1 ⊞ eqn 2 (neg n) ⊞ over 3 ⊠ gap 0 ⊞ over 0) tt

zero_or_end : (V : Type 0) (u v : ℤ) (f : Frac) → pos 0 ≤ℤ value_at u v f.num f.den → IsBound V u v f
    → V ⊎ IsZeroAt u v f
zero_or_end V u v f left (inl end) = inl end
zero_or_end V u v f left (inr (inl z)) = inr z
zero_or_end V u v f left (inr (inr below)) = absurd (not_below u v f.num f.den f.positive left below.0 below.1)

pub zero_of_one : (V W : Type 0) (c : Courses) (f : Frac) → (V → W) → IsLeftOfAll c f.num f.den → IsBoundOfOne V c f
    → IsZeroOfOne W c f
zero_of_one V W c f to_w left bound = go bound
  where
    first : V ⊎ IsZeroAt c.ab.start c.ab.end f → IsZeroOfOne W c f
    first (inl end) = inl (to_w end)
    first (inr z) = inr (inl z)

    second : V ⊎ IsZeroAt c.bc.start c.bc.end f → IsZeroOfOne W c f
    second (inl end) = inl (to_w end)
    second (inr z) = inr (inr (inl z))

    third : V ⊎ IsZeroAt c.ca.start c.ca.end f → IsZeroOfOne W c f
    third (inl end) = inl (to_w end)
    third (inr z) = inr (inr (inr z))

    go : IsBoundOfOne V c f → IsZeroOfOne W c f
    go (inl end) = inl (to_w end)
    go (inr (inl b)) = first (zero_or_end V c.ab.start c.ab.end f left.1 b)
    go (inr (inr (inl b))) = second (zero_or_end V c.bc.start c.bc.end f left.2 b)
    go (inr (inr (inr b))) = third (zero_or_end V c.ca.start c.ca.end f left.3 b)

-- ---- the number of a side is 0 there, and changes, exactly where the side holds the point and is not parallel
one : pos 0 <ℤ pos 1
one = lt_z_yes tt

parallel_same : (ax ay bx by px py qx qy : ℤ) → (bx -ℤ ax) *ℤ (qy -ℤ py) ≡ (by -ℤ ay) *ℤ (qx -ℤ px)
    → turn_of (record { x = px; y = py; w = pos 1 }) (record { x = qx; y = qy; w = pos 1 })
    (record { x = ax; y = ay; w = pos 1 }) ≡ turn_of (record { x = px; y = py; w = pos 1 })
    (record { x = qx; y = qy; w = pos 1 }) (record { x = bx; y = by; w = pos 1 })
parallel_same =
    follows 8 (λ ax ay bx by px py qx qy. (bx ⊖ ax) ⊗ (qy ⊖ py) ≐ (by ⊖ ay) ⊗ (qx ⊖ px)
    ⇒ turn (record { x = px; y = py; w = num (pos 1) }) (record { x = qx; y = qy; w = num (pos 1) })
    (record { x = ax; y = ay; w = num (pos 1) })
    ≐ turn (record { x = px; y = py; w = num (pos 1) }) (record { x = qx; y = qy; w = num (pos 1) })
    (record { x = bx; y = by; w = num (pos 1) }) because eqn 0 (num (pos 1))) tt

same_parallel : (ax ay bx by px py qx qy : ℤ)
    → turn_of (record { x = px; y = py; w = pos 1 }) (record { x = qx; y = qy; w = pos 1 })
    (record { x = ax; y = ay; w = pos 1 }) ≡ turn_of (record { x = px; y = py; w = pos 1 })
    (record { x = qx; y = qy; w = pos 1 }) (record { x = bx; y = by; w = pos 1 })
    → (bx -ℤ ax) *ℤ (qy -ℤ py) ≡ (by -ℤ ay) *ℤ (qx -ℤ px)
same_parallel =
    follows 8 (λ ax ay bx by px py qx qy.
    turn (record { x = px; y = py; w = num (pos 1) }) (record { x = qx; y = qy; w = num (pos 1) })
    (record { x = ax; y = ay; w = num (pos 1) })
    ≐ turn (record { x = px; y = py; w = num (pos 1) }) (record { x = qx; y = qy; w = num (pos 1) })
    (record { x = bx; y = by; w = num (pos 1) })
    ⇒ (bx ⊖ ax) ⊗ (qy ⊖ py) ≐ (by ⊖ ay) ⊗ (qx ⊖ px) because eqn 0 (num (pos 1))) tt

abbrev NonNeg : ℤ → Type 0
NonNeg z = pos 0 ≤ℤ z

-- p, q and r are the corners from the side on, with the numbers of the three sides
crossed_iff : (a b p q r : Pt) (u v s t y z : ℤ) (f : Frac) → pos 0 <ℤ turn_of (whole p) (whole q) (whole r)
    → u ≡ turn_of (whole p) (whole q) (whole a) → v ≡ turn_of (whole p) (whole q) (whole b)
    → s ≡ turn_of (whole q) (whole r) (whole a) → t ≡ turn_of (whole q) (whole r) (whole b)
    → y ≡ turn_of (whole r) (whole p) (whole a) → z ≡ turn_of (whole r) (whole p) (whole b)
    → pos 0 ≤ℤ value_at s t f.num f.den → pos 0 ≤ℤ value_at y z f.num f.den → IsZeroAt u v f ↔ IsCrossed a b p q f
crossed_iff a b p q r u v s t y z f positive eu ev es et ey ez left_s left_y =
    let x = along (whole a) (whole b) f.num f.den in (
      λ h. record {
        holds = mix_of_side (whole p) (whole q) (whole r) x one one (along-w f.num f.den f.positive) positive
            (along_is p q a b u v f.num f.den eu ev ∙ h.1)
            (subst NonNeg (sym (along_is q r a b s t f.num f.den es et)) left_s)
            (subst NonNeg (sym (along_is r p a b y z f.num f.den ey ez)) left_y);
        across = λ parallel. h.0 (eu ∙ parallel_same a.x a.y b.x b.y p.x p.y q.x q.y parallel ∙ sym ev);
      },
      λ c. (
        λ e. c.across (same_parallel a.x a.y b.x b.y p.x p.y q.x q.y (sym eu ∙ e ∙ ev)),
        sym (along_is p q a b u v f.num f.den eu ev) ∙ turn_on_side (whole p) (whole q) x one one c.holds,
      ),
    )

-- ---- the same end, by other facts
same_end : {V W A A' B B' C C' : Type 0} → V ↔ W → A ↔ A' → B ↔ B' → C ↔ C' → (e : End) → IsEnd V A B C e
    → IsEnd W A' B' C' e
same_end v a b c Vertex h = v.0 h
same_end v a b c (Side zero) h = (λ w. h.0 (v.1 w), a.0 h.1)
same_end v a b c (Side (suc zero)) h = (λ w. h.0 (v.1 w), (λ x. h.1.0 (a.1 x), b.0 h.1.1))
same_end v a b c (Side (suc (suc zero))) h = (λ w. h.0 (v.1 w), (λ x. h.1.0 (a.1 x), λ y. h.1.1 (b.1 y), c.0 h.1.2))
same_end v a b c (Side (suc (suc (suc k)))) h = absurd h.1

abbrev Positive : ℤ → Type 0
Positive z = pos 0 <ℤ z

pub lies_at : (a b : Pt) (t : Tri) (c : Courses) (V W : Type 0) (f : Frac) (e : End)
    → pos 0 <ℤ turn_of (whole t.a) (whole t.b) (whole t.c) → AreOfSides a b t c → IsLeftOfAll c f.num f.den → V ↔ W
    → IsEndBy V c f e → LiesAt a b t f W e
lies_at a b t c V W f e positive of left vw h =
    let d1 = subst Positive (turn_cycle (whole t.a) (whole t.b) (whole t.c)) positive in
    let d2 = subst Positive (turn_cycle (whole t.b) (whole t.c) (whole t.a)) d1 in
    let ab = c.ab in let bc = c.bc in let ca = c.ca in
    same_end vw
    (crossed_iff a b t.a t.b t.c ab.start ab.end bc.start bc.end ca.start ca.end f positive of.ab_start of.ab_end
    of.bc_start of.bc_end of.ca_start of.ca_end left.2 left.3)
    (crossed_iff a b t.b t.c t.a bc.start bc.end ca.start ca.end ab.start ab.end f d1 of.bc_start of.bc_end of.ca_start
    of.ca_end of.ab_start of.ab_end left.3 left.1)
    (crossed_iff a b t.c t.a t.b ca.start ca.end ab.start ab.end bc.start bc.end f d2 of.ca_start of.ca_end of.ab_start
    of.ab_end of.bc_start of.bc_end left.1 left.2)
    e h

-- ---- a segment of one point
one_place : (x n d m k : ℤ) → ((k -ℤ m) *ℤ x +ℤ m *ℤ x) *ℤ ((d -ℤ n) *ℤ pos 1 +ℤ n *ℤ pos 1) ≡ ((d -ℤ n) *ℤ x +ℤ n *ℤ x)
    *ℤ ((k -ℤ m) *ℤ pos 1 +ℤ m *ℤ pos 1)
one_place =
    solve 5 (λ x n d m k. ((k ⊖ m) ⊗ x ⊕ m ⊗ x) ⊗ ((d ⊖ n) ⊗ num (pos 1) ⊕ n ⊗ num (pos 1)) ≐ ((d ⊖ n) ⊗ x ⊕ n ⊗ x)
    ⊗ ((k ⊖ m) ⊗ num (pos 1) ⊕ m ⊗ num (pos 1))) tt

in_at_each : (a : Pt) (t : Tri) (n d m k : ℤ) → IsIn a a t n d → IsParam m k → IsIn a a t m k
in_at_each a t n d m k i p = (
  p,
  mix_moved (along (whole a) (whole a) n d) (along (whole a) (whole a) m k) (corners_of t) (along-w n d i.0.0)
      (one_place a.x n d m k, one_place a.y n d m k) i.1,
)

is_vertex : (a b : Pt) (t : Tri) (f : Frac) (V : Type 0) (e : End) → V → LiesAt a b t f V e → e ≡ Vertex
is_vertex a b t f V Vertex v h = refl
is_vertex a b t f V (Side k) v h = absurd (h.0 v)

none_before : (f : Frac) → pos 0 ≤ℤ f.num → (f.num *ℤ pos 1) ≤ℤ (pos 0 *ℤ f.den) → f.num ≡ pos 0
none_before f h k = ≤_antisymm f.num (pos 0)
    (follows 2 (λ x y. x ⊗ num (pos 1) ≼ num (pos 0) ⊗ y ⇒ x ≼ num (pos 0) because gap 0) tt f.num f.den k) h

none_behind : (f : Frac) → f.num ≤ℤ f.den → (pos 1 *ℤ f.den) ≤ℤ (f.num *ℤ pos 1) → f.num ≡ f.den
none_behind f h k = ≤_antisymm f.num f.den h
    (follows 2 (λ x y. num (pos 1) ⊗ y ≼ x ⊗ num (pos 1) ⇒ y ≼ x because gap 0) tt f.num f.den k)

pub whole_way : (a b : Pt) (t : Tri) (s : Stretch) → a ≡ b → IsCommon a b t s → AreEnds a b t s → IsWholeWay s
whole_way a b t s e common ends =
    let zero_to_one : IsParam (pos 0) (pos 1) = (one, le_z_yes tt, le_z_yes tt) in
    let one_to_one : IsParam (pos 1) (pos 1) = (one, le_z_yes tt, le_z_yes tt) in
    let here : IsIn a a t s.lo.num s.lo.den = subst (λ (z : Pt). IsIn a z t s.lo.num s.lo.den) (sym e) common.0 in
    let at_zero : IsIn a b t (pos 0) (pos 1) =
    subst (λ (z : Pt). IsIn a z t (pos 0) (pos 1)) e
    (in_at_each a t s.lo.num s.lo.den (pos 0) (pos 1) here zero_to_one) in
    let at_one : IsIn a b t (pos 1) (pos 1) =
    subst (λ (z : Pt). IsIn a z t (pos 1) (pos 1)) e
    (in_at_each a t s.lo.num s.lo.den (pos 1) (pos 1) here one_to_one) in
    let first : s.lo.num ≡ pos 0 = none_before s.lo common.0.0.1 (common.2 (pos 0) (pos 1) at_zero).0 in
    let last : s.hi.num ≡ s.hi.den = none_behind s.hi common.1.0.2 (common.2 (pos 1) (pos 1) at_one).1 in
    record {
      first = first;
      last = last;
      enter =
          is_vertex a b t s.lo (s.lo.num ≡ pos 0) s.enter first ends.enter;
      leave =
          is_vertex a b t s.hi (s.hi.num ≡ s.hi.den) s.leave last ends.leave;
    }
