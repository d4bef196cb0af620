-- What the parameters of two clips say of the segments between their ends.
use Rattle.std.proofs.Common.{◌≡◌, ◌⊎◌, inl, inr, ℤ, pos, ◌*ℤ◌, ◌≤ℤ◌, ◌<ℤ◌, [], ◌∷◌, sym, ◌∙◌, ap, subst, arith}
use Rattle.std.proofs.lemmas.Int.{ints}
use lib.Signed.{lt_z_yes}
use Rattle.integer_ring.proofs.Order.{≤_or_>, ≤_antisymm, ≤_of_≡}
use Rattle.frac128.specs.Fractions.{IsAtMost, IsBelow, IsSameValue}
use Rattle.frac128.specs.declared.frac.Frac.{Frac}
use Rattle.plane_base.specs.Plane.{Point, Same, IsMix, whole, turn_of}
use Rattle.plane_base.specs.declared.shapes.Pt.{Pt}
use Rattle.plane_base.proofs.MixLaws.Turns.{turn_twice}
use Rattle.plane_base.proofs.MixLaws.Mixes.{same_refl, same_sym, same_trans, mix_moved}
use Rattle.tin_base.specs.declared.relations.Rel.{Rel}
use Rattle.tin_base.specs.declared.relations.Rel.TheVariants.{Apart, Touching, Crossing, Overlapping}
use Rattle.tin_base.specs.Relations.{IsCommonPoint, IsAnEnd, HaveRelation}
use Rattle.meet_rel.specs.declared.clips.Clip.{Clip}
use Rattle.meet_rel.specs.Clips.{AreEnds, at, IsCut, IsRelOf}
use Rattle.meet_rel.specs.Signs.{AreOnOneSide}
use Rattle.meet_rel.proofs.Scale.{level_of, level_up, level_down, same_level, level_same, between_line, between_of}
use Rattle.meet_rel.proofs.Scale.{after_first, before_last, mix_first}
use Rattle.meet_rel.proofs.Spans.{AreSpans, apart, touching, overlapping}
use Rattle.meet_rel.proofs.Ways.{AreDifferent, way, on_at, line_on, at-w, up_at, at_up, before_at}
use Rattle.meet_rel.proofs.EqualSegments.{HaveSamePoints, same_ends, replaced}
use Rattle.meet_rel.proofs.Crossings.{AreAcross, IsOnBoth, meet_once}
use Rattle.meet_rel.proofs.ClipEnds.{same_or_different, one_point}
use Rattle.meet_rel.proofs.ClipPoints.{IsLesser, IsGreater}

one : pos 0 <ℤ pos 1
one = lt_z_yes tt

-- ---- from the parameters to the ends
same_points : (clip : Clip) (u v : Pt) (lo hi : Frac) (f l : Point) → IsCut clip u v lo hi → AreEnds clip f l
    → HaveSamePoints f l (at u v lo) (at u v hi)
same_points clip u v lo hi f l cut ends =
    record {
      f_positive = ends.first_positive;
      l_positive = ends.last_positive;
      a_positive = at-w u v lo;
      b_positive = at-w u v hi;
      forth = λ r hr m. cut.back r hr (ends.forth r hr m);
      back = λ r hr m. ends.back r hr (cut.forth r hr m);
    }

by_cuts : (p q : Clip) (u v x y : Pt) (lo hi lo' hi' : Frac) → AreDifferent u v → AreDifferent x y → IsCut p u v lo hi
    → IsCut q x y lo' hi' → (relation : Rel) → HaveRelation relation (at u v lo) (at u v hi) (at x y lo') (at x y hi')
    → (f l g h : Point) → AreEnds p f l → AreEnds q g h → HaveRelation relation f l g h
by_cuts p q u v x y lo hi lo' hi' d e cut cut' relation have f l g h ends ends' =
    let first = same_points p u v lo hi f l cut ends in let second = same_points q x y lo' hi' g h cut' ends' in
    replaced (at u v lo) (at u v hi) (at x y lo') (at x y hi') f l g h
    first (same_ends (way u v d) f l (at u v lo) (at u v hi) (on_at u v d lo) (on_at u v d hi)
    (up_at u v d lo hi cut.order) first)
    second (same_ends (way x y e) g h (at x y lo') (at x y hi') (on_at x y e lo') (on_at x y e hi')
    (up_at x y e lo' hi' cut'.order) second)
    relation have

-- ---- on one way
pub along_told : (p q : Clip) (u v : Pt) (lo hi lo' hi' first last : Frac) → AreDifferent u v → IsCut p u v lo hi
    → IsCut q u v lo' hi' → IsGreater lo lo' first → IsLesser hi hi' last → (relation : Rel)
    → IsRelOf relation first last
    → (f l g h : Point) → AreEnds p f l → AreEnds q g h → HaveRelation relation f l g h
along_told p q u v lo hi lo' hi' first last d cut cut' is_first is_last relation told =
    by_cuts p q u v u v lo hi lo' hi' d d cut cut' relation (go relation told)
  where
    point : (f g h : Frac) → (f ≡ g) ⊎ (f ≡ h) → (at u v f ≡ at u v g) ⊎ (at u v f ≡ at u v h)
    point f g h (inl e) = inl (ap (λ (z : Frac). at u v z) e)
    point f g h (inr e) = inr (ap (λ (z : Frac). at u v z) e)

    spans : AreSpans (way u v d) (at u v lo) (at u v hi) (at u v lo') (at u v hi') (at u v first) (at u v last)
    spans = record {
      on_p = on_at u v d lo;
      on_q = on_at u v d hi;
      on_e = on_at u v d lo';
      on_f = on_at u v d hi';
      pq = up_at u v d lo hi cut.order;
      ef = up_at u v d lo' hi' cut'.order;
      first_one = point first lo lo' is_first.one_of;
      last_one = point last hi hi' is_last.one_of;
      from_p = up_at u v d lo first is_first.of_first;
      from_e = up_at u v d lo' first is_first.of_second;
      to_q = up_at u v d last hi is_last.of_first;
      to_f = up_at u v d last hi' is_last.of_second;
    }

    go : (relation : Rel) → IsRelOf relation first last
        → HaveRelation relation (at u v lo) (at u v hi) (at u v lo') (at u v hi')
    go Apart h = apart (way u v d) (at u v lo) (at u v hi) (at u v lo') (at u v hi') (at u v first) (at u v last) spans
        (before_at u v d last first h)
    go Touching h =
        touching (way u v d) (at u v lo) (at u v hi) (at u v lo') (at u v hi') (at u v first) (at u v last) spans
        (level_of (way u v d) (at u v first) (at u v last)
        (up_at u v d first last (≤_of_≡ (first.num *ℤ last.den) (last.num *ℤ first.den) h))
        (up_at u v d last first (≤_of_≡ (last.num *ℤ first.den) (first.num *ℤ last.den) (sym h))))
    go Crossing h = absurd h
    go Overlapping h = overlapping (way u v d) (at u v lo) (at u v hi) (at u v lo') (at u v hi') (at u v first)
        (at u v last) spans (before_at u v d first last h)

-- ---- on lines that meet in one point
pub record AreMeeting (p q : Clip) (lo hi t lo' hi' t' : Frac) : Type 0 where
  pub across : AreAcross p.a p.b q.a q.b
  pub cut_p : IsCut p p.a p.b lo hi
  pub cut_q : IsCut q q.a q.b lo' hi'
  pub meets_p : turn_of (whole q.a) (whole q.b) (at p.a p.b t) ≡ pos 0
  pub meets_q : turn_of (whole p.a) (whole p.b) (at q.a q.b t') ≡ pos 0

pub meeting_of : (p q : Clip) (lo hi t lo' hi' t' : Frac) → AreAcross p.a p.b q.a q.b → IsCut p p.a p.b lo hi
    → IsCut q q.a q.b lo' hi' → turn_of (whole q.a) (whole q.b) (at p.a p.b t) ≡ pos 0
    → turn_of (whole p.a) (whole p.b) (at q.a q.b t') ≡ pos 0 → AreMeeting p q lo hi t lo' hi' t'
meeting_of p q lo hi t lo' hi' t' across one other first second =
    record { across = across; cut_p = one; cut_q = other; meets_p = first; meets_q = second }

-- before the one or after the other
abbrev pub IsOutside : Frac → Frac → Frac → Type 0
IsOutside t lo hi = IsBelow t lo ⊎ IsBelow hi t

abbrev pub IsEnd : Frac → Frac → Frac → Type 0
IsEnd t lo hi = IsSameValue t lo ⊎ IsSameValue t hi

pub first_different : (a b c d : Pt) → AreAcross a b c d → AreDifferent a b
first_different a b c d across = go (same_or_different a b)
  where
    zero : (x : Pt) → a ≡ b → turn_of (whole a) (whole b) (whole x) ≡ pos 0
    zero x e = subst (λ (y : Pt). turn_of (whole a) (whole y) (whole x) ≡ pos 0) e (turn_twice (whole a) (whole x))

    go : (a ≡ b) ⊎ AreDifferent a b → AreDifferent a b
    go (inl e) = absurd (across (zero c e ∙ sym (zero d e)))
    go (inr h) = h

second_different : (a b c d : Pt) → AreAcross a b c d → AreDifferent c d
second_different a b c d across = grind (arith, same_or_different, AreDifferent)

not_below : (m n : ℤ) → m <ℤ n → n ≤ℤ m → ⊥
not_below m n h k = absurd (omega (arith, ints))

at_most_of : (m n : ℤ) → (m <ℤ n → ⊥) → n ≤ℤ m
at_most_of m n h = grind (arith, ints)

-- the point at t is between lo and hi exactly where t is
in_span : (u v : Pt) (d : AreDifferent u v) (lo hi t : Frac) → (IsOutside t lo hi → ⊥)
    → IsMix (at u v t) (at u v lo ∷ at u v hi ∷ [])
in_span u v d lo hi t inside =
    between_of (way u v d) (at u v lo) (at u v hi) (at u v t) (on_at u v d lo) (on_at u v d hi) (on_at u v d t)
    (up_at u v d lo t (at_most_of (t.num *ℤ lo.den) (lo.num *ℤ t.den) (λ h. inside (inl h))))
    (up_at u v d t hi (at_most_of (hi.num *ℤ t.den) (t.num *ℤ hi.den) (λ h. inside (inr h))))

not_in_span : (u v : Pt) (d : AreDifferent u v) (lo hi t : Frac) → IsAtMost lo hi → IsOutside t lo hi
    → IsMix (at u v t) (at u v lo ∷ at u v hi ∷ []) → ⊥
not_in_span u v d lo hi t order (inl h) m =
    not_below (t.num *ℤ lo.den) (lo.num *ℤ t.den) h
    (at_up u v d lo t (after_first (way u v d) (at u v lo) (at u v hi) (at u v t) (on_at u v d lo) (on_at u v d hi)
    (at-w u v t) (up_at u v d lo hi order) m))
not_in_span u v d lo hi t order (inr h) m =
    not_below (hi.num *ℤ t.den) (t.num *ℤ hi.den) h
    (at_up u v d t hi (before_last (way u v d) (at u v lo) (at u v hi) (at u v t) (on_at u v d lo) (on_at u v d hi)
    (at-w u v t) (up_at u v d lo hi order) m))

same_at : (u v : Pt) (d : AreDifferent u v) (f g : Frac) → IsSameValue f g → Same (at u v f) (at u v g)
same_at u v d f g e =
    level_same (way u v d) (at u v f) (at u v g) (on_at u v d f) (on_at u v d g)
    (level_of (way u v d) (at u v f) (at u v g) (up_at u v d f g (≤_of_≡ (f.num *ℤ g.den) (g.num *ℤ f.den) e))
    (up_at u v d g f (≤_of_≡ (g.num *ℤ f.den) (f.num *ℤ g.den) (sym e))))

at_same : (u v : Pt) (d : AreDifferent u v) (f g : Frac) → Same (at u v f) (at u v g) → IsSameValue f g
at_same u v d f g s =
    let l = same_level (way u v d) (at u v f) (at u v g) s in
    ≤_antisymm (f.num *ℤ g.den) (g.num *ℤ f.den) (at_up u v d f g (level_up (way u v d) (at u v f) (at u v g) l))
    (at_up u v d g f (level_down (way u v d) (at u v f) (at u v g) l))

pub across_told : (p q : Clip) (lo hi t lo' hi' t' : Frac) → AreMeeting p q lo hi t lo' hi' t' →
    ((IsOutside t lo hi ⊎ IsOutside t' lo' hi') → (f l g h : Point) → AreEnds p f l → AreEnds q g h
    → HaveRelation Apart f l g h)
    × ((IsOutside t lo hi → ⊥) → (IsOutside t' lo' hi' → ⊥) → (IsEnd t lo hi ⊎ IsEnd t' lo' hi') → (f l g h : Point)
    → AreEnds p f l → AreEnds q g h → HaveRelation Touching f l g h)
    × ((IsOutside t lo hi → ⊥) → (IsOutside t' lo' hi' → ⊥) → ((IsEnd t lo hi ⊎ IsEnd t' lo' hi') → ⊥)
    → (f l g h : Point) → AreEnds p f l → AreEnds q g h → HaveRelation Crossing f l g h)
across_told p q lo hi t lo' hi' t' m = (
  λ out. by_cuts p q p.a p.b q.a q.b lo hi lo' hi' d e m.cut_p m.cut_q Apart (none out),
  λ in_p in_q end. by_cuts p q p.a p.b q.a q.b lo hi lo' hi' d e m.cut_p m.cut_q Touching
      (r, (common in_p in_q, only), is_end end),
  λ in_p in_q no_end. by_cuts p q p.a p.b q.a q.b lo hi lo' hi' d e m.cut_p m.cut_q Crossing
      (r, (common in_p in_q, only), λ k. no_end (end_is k)),
)
  where
    d : AreDifferent p.a p.b
    d = first_different p.a p.b q.a q.b m.across

    e : AreDifferent q.a q.b
    e = second_different p.a p.b q.a q.b m.across

    r : Point
    r = at p.a p.b t

    r_on : IsOnBoth p.a p.b q.a q.b (at p.a p.b t)
    r_on = record {
      first = line_on p.a p.b d (at p.a p.b t) (on_at p.a p.b d t);
      second = m.meets_p;
      positive =
          at-w p.a p.b t;
    }

    s_on : IsOnBoth p.a p.b q.a q.b (at q.a q.b t')
    s_on = record {
      first = m.meets_q;
      second = line_on q.a q.b e (at q.a q.b t') (on_at q.a q.b e t');
      positive =
          at-w q.a q.b t';
    }

    same : Same (at p.a p.b t) (at q.a q.b t')
    same = meet_once p.a p.b q.a q.b (at p.a p.b t) (at q.a q.b t') m.across r_on s_on

    common_on : (x : Point) → IsCommonPoint (at p.a p.b lo) (at p.a p.b hi) (at q.a q.b lo') (at q.a q.b hi') x
        → IsOnBoth p.a p.b q.a q.b x
    common_on x c = record {
      first = between_line (whole p.a) (whole p.b) (at p.a p.b lo) (at p.a p.b hi) x (at-w p.a p.b lo) (at-w p.a p.b hi)
          (line_on p.a p.b d (at p.a p.b lo) (on_at p.a p.b d lo))
          (line_on p.a p.b d (at p.a p.b hi) (on_at p.a p.b d hi)) c.first;
      second = between_line (whole q.a) (whole q.b) (at q.a q.b lo') (at q.a q.b hi') x (at-w q.a q.b lo')
          (at-w q.a q.b hi') (line_on q.a q.b e (at q.a q.b lo') (on_at q.a q.b e lo'))
          (line_on q.a q.b e (at q.a q.b hi') (on_at q.a q.b e hi')) c.second;
      positive = c.positive;
    }

    only : (x : Point) → IsCommonPoint (at p.a p.b lo) (at p.a p.b hi) (at q.a q.b lo') (at q.a q.b hi') x
        → Same x (at p.a p.b t)
    only x c = meet_once p.a p.b q.a q.b x (at p.a p.b t) m.across (common_on x c) r_on

    common : (IsOutside t lo hi → ⊥) → (IsOutside t' lo' hi' → ⊥)
        → IsCommonPoint (at p.a p.b lo) (at p.a p.b hi) (at q.a q.b lo') (at q.a q.b hi') (at p.a p.b t)
    common in_p in_q = record {
      positive = at-w p.a p.b t;
      first = in_span p.a p.b d lo hi t in_p;
      second = mix_moved (at q.a q.b t') (at p.a p.b t) (at q.a q.b lo' ∷ at q.a q.b hi' ∷ []) (at-w q.a q.b t') same
          (in_span q.a q.b e lo' hi' t' in_q);
    }

    none : (IsOutside t lo hi ⊎ IsOutside t' lo' hi')
        → HaveRelation Apart (at p.a p.b lo) (at p.a p.b hi) (at q.a q.b lo') (at q.a q.b hi')
    none (inl out) = λ x c.
        let o = m.cut_p in
        not_in_span p.a p.b d lo hi t o.order out
        (mix_moved x (at p.a p.b t) (at p.a p.b lo ∷ at p.a p.b hi ∷ []) c.positive
        (same_sym x (at p.a p.b t) (only x c)) c.first)
    none (inr out) = λ x c.
        let o = m.cut_q in
        not_in_span q.a q.b e lo' hi' t' o.order out
        (mix_moved x (at q.a q.b t') (at q.a q.b lo' ∷ at q.a q.b hi' ∷ []) c.positive
        (same_sym x (at q.a q.b t') (same_trans x (at p.a p.b t) (at q.a q.b t') (at-w p.a p.b t) (only x c) same))
        c.second)

    is_end : (IsEnd t lo hi ⊎ IsEnd t' lo' hi')
        → IsAnEnd (at p.a p.b lo) (at p.a p.b hi) (at q.a q.b lo') (at q.a q.b hi') (at p.a p.b t)
    is_end (inl (inl k)) = inl (same_at p.a p.b d t lo k)
    is_end (inl (inr k)) = inr (inl (same_at p.a p.b d t hi k))
    is_end (inr (inl k)) = inr (inr (inl (same_trans (at p.a p.b t) (at q.a q.b t') (at q.a q.b lo') (at-w q.a q.b t')
        same (same_at q.a q.b e t' lo' k))))
    is_end (inr (inr k)) = inr (inr (inr (same_trans (at p.a p.b t) (at q.a q.b t') (at q.a q.b hi') (at-w q.a q.b t')
        same (same_at q.a q.b e t' hi' k))))

    end_is : IsAnEnd (at p.a p.b lo) (at p.a p.b hi) (at q.a q.b lo') (at q.a q.b hi') (at p.a p.b t)
        → (IsEnd t lo hi ⊎ IsEnd t' lo' hi')
    end_is (inl k) = inl (inl (at_same p.a p.b d t lo k))
    end_is (inr (inl k)) = inl (inr (at_same p.a p.b d t hi k))
    end_is (inr (inr (inl k))) = inr (inl (at_same q.a q.b e t' lo'
        (same_trans (at q.a q.b t') (at p.a p.b t) (at q.a q.b lo') (at-w p.a p.b t)
        (same_sym (at p.a p.b t) (at q.a q.b t') same) k)))
    end_is (inr (inr (inr k))) = inr (inr (at_same q.a q.b e t' hi'
        (same_trans (at q.a q.b t') (at p.a p.b t) (at q.a q.b hi') (at-w p.a p.b t)
        (same_sym (at p.a p.b t) (at q.a q.b t') same) k)))

-- ---- on parallel lines that are not the same
between_both : (p q : Clip) (f l g h r : Point) → AreEnds p f l → AreEnds q g h → IsCommonPoint f l g h r
    → IsCommonPoint (whole p.a) (whole p.b) (whole q.a) (whole q.b) r
between_both p q f l g h r ends ends' c =
    let a = ends.forth r c.positive c.first in let b = ends'.forth r c.positive c.second in
    record { positive = c.positive; first = a.between; second = b.between }

pub apart_told : (p q : Clip) → HaveRelation Apart (whole p.a) (whole p.b) (whole q.a) (whole q.b) → (f l g h : Point)
    → AreEnds p f l → AreEnds q g h → HaveRelation Apart f l g h
apart_told p q none f l g h ends ends' = λ r c. none r (between_both p q f l g h r ends ends' c)

-- ---- all at one point
pub point_told : (p q : Clip) → p.a ≡ p.b → q.a ≡ q.b → p.a ≡ q.a → (f l g h : Point) → AreEnds p f l → AreEnds q g h
    → HaveRelation Touching f l g h
point_told p q ep eq e f l g h ends ends' = (
  f,
  (
    record {
      positive = ends.first_positive;
      first = mix_first f l;
      second = mix_moved g f (g ∷ h ∷ []) ends'.first_positive
          (same_trans f (whole p.a) g one f_same (same_sym g (whole p.a) g_same)) (mix_first g h);
    },
    λ r c.
        let a = ends.forth r c.positive c.first in
        same_trans r (whole p.a) f one (one_point p.a p.b r ep a.between) (same_sym f (whole p.a) f_same),
  ),
  inl (same_refl f),
)
  where
    f_same : Same f (whole p.a)
    f_same = let a = ends.forth f ends.first_positive (mix_first f l) in one_point p.a p.b f ep a.between

    g_same : Same g (whole p.a)
    g_same = let a = ends'.forth g ends'.first_positive (mix_first g h) in subst (λ (x : Pt). Same g (whole x)) (sym e)
        (one_point q.a q.b g eq a.between)

pub no_either : {A B : Type 0} → (A → ⊥) → (B → ⊥) → A ⊎ B → ⊥
no_either f g (inl a) = f a
no_either f g (inr b) = g b

-- ---- what two turns with one line say where they are the same
pub one_side : (u v : ℤ) → u ≡ v → (u ≡ pos 0 → ⊥) → AreOnOneSide u v
one_side u v e n = grind (arith, ≤_or_>)
