-- The points of a clip are those between two parameters: on its own segment, and on a way that holds the segment.
use Rattle.std.proofs.Common.{◌≡◌, ◌⊎◌, inl, inr, ℤ, pos, ◌<ℤ◌, [], ◌∷◌, sym, subst}
use lib.Signed.{lt_z_yes}
use Rattle.frac128.specs.Fractions.{IsAtMost}
use Rattle.frac128.specs.declared.frac.Frac.{Frac}
use Rattle.plane_base.specs.Plane.{Point, IsMix, whole, corners_of, along}
use Rattle.plane_base.specs.Slices.{IsParam, IsIn, IsCommon}
use Rattle.plane_base.specs.Laws.{HasParameter}
use Rattle.plane_base.specs.declared.shapes.Pt.{Pt}
use Rattle.plane_base.specs.declared.stretches.Stretch.{Stretch}
use Rattle.plane_base.proofs.MixLaws.Mixes.{same_refl, same_sym, mix_moved, mix_swapped, mixes_mix, turn_on_side}
use Rattle.plane_base.proofs.MixLaws.Parameters.{segments_have_parameters}
use Rattle.meet_rel.specs.declared.clips.Clip.{Clip}
use Rattle.meet_rel.specs.Clips.{IsOf, at, IsCut, StandsAt}
use Rattle.meet_rel.proofs.Scale.{Scale, IsOn, IsUpTo, up_to_trans, level_up, level_down, same_level, up_or}
use Rattle.meet_rel.proofs.Scale.{up_to_itself, line_moved, between_on, between_of, up_from_both, up_to_both}
use Rattle.meet_rel.proofs.Ways.{AreDifferent, way, on_at, on_along, on_line, line_on, at-w, up_along, up_at, at_up}

one : pos 0 <ℤ pos 1
one = lt_z_yes tt

-- the point at a parameter from 0 to 1 is on the way
param_between : (u v : Pt) (n d : ℤ) → IsParam n d → IsMix (along (whole u) (whole v) n d) (whole u ∷ whole v ∷ [])
param_between u v n d p = (segments_have_parameters (whole u) (whole v) (along (whole u) (whole v) n d)).1
    (record { n = n; d = d; param = p; same = same_refl (along (whole u) (whole v) n d) })

-- the parameter of a point of the clip
param_in : (clip : Clip) (u v : Pt) (slice : Stretch) (r : Point) → pos 0 <ℤ r.w → IsCommon u v clip.tri slice
    → IsMix r (corners_of clip.tri) → (h : HasParameter (whole u) (whole v) r) → IsIn u v clip.tri h.n h.d
param_in clip u v slice r hr common inside h = (
  h.param,
  mix_moved r (along (whole u) (whole v) h.n h.d) (corners_of clip.tri) hr
      (same_sym r (along (whole u) (whole v) h.n h.d) h.same) inside,
)

-- so a point of the triangle on the way is neither before lo nor after hi
from_lo : (clip : Clip) (u v : Pt) (w : AreDifferent u v) (slice : Stretch) (r : Point) → pos 0 <ℤ r.w
    → IsCommon u v clip.tri slice → IsMix r (corners_of clip.tri) → IsMix r (whole u ∷ whole v ∷ [])
    → IsOn (way u v w) r
    → IsUpTo (way u v w) (at u v slice.lo) r × IsUpTo (way u v w) r (at u v slice.hi)
from_lo clip u v w slice r hr common inside between on =
    let h = (segments_have_parameters (whole u) (whole v) r).0 between in
    let p = along (whole u) (whole v) h.n h.d in
    let within = common.2 h.n h.d (param_in clip u v slice r hr common inside h) in
    let on_p = on_along u v w h.n h.d h.param.0 in
    let level = same_level (way u v w) r p h.same in (
      up_to_trans (way u v w) (at u v slice.lo) p r (on_at u v w slice.lo) on_p on
          (up_along u v w slice.lo.num slice.lo.den h.n h.d within.0) (level_down (way u v w) r p level),
      up_to_trans (way u v w) r p (at u v slice.hi) on on_p (on_at u v w slice.hi) (level_up (way u v w) r p level)
          (up_along u v w h.n h.d slice.hi.num slice.hi.den within.1),
    )

-- ---- on its own segment
pub own_cut : (clip : Clip) (w : AreDifferent clip.a clip.b) (slice : Stretch) → IsCommon clip.a clip.b clip.tri slice
    → IsCut clip clip.a clip.b slice.lo slice.hi
own_cut clip w slice common =
    let lo = slice.lo in let hi = slice.hi in let a = clip.a in let b = clip.b in
    let in_lo : IsMix (at a b lo) (whole a ∷ whole b ∷ []) = param_between a b lo.num lo.den common.0.0 in
    let in_hi : IsMix (at a b hi) (whole a ∷ whole b ∷ []) = param_between a b hi.num hi.den common.1.0 in
    record {
      order = (common.2 lo.num lo.den common.0).1;
      forth = λ r hr m. record {
        between = mixes_mix r (at a b lo ∷ at a b hi ∷ []) (whole a ∷ whole b ∷ []) (at-w a b lo, (at-w a b hi, tt))
            (one, (one, tt)) (in_lo, (in_hi, tt)) m;
        inside = mixes_mix r (at a b lo ∷ at a b hi ∷ []) (corners_of clip.tri) (at-w a b lo, (at-w a b hi, tt))
            (one, (one, (one, tt))) (common.0.1, (common.1.1, tt)) m;
      };
      back = λ r hr of. (
          let on : IsOn (way a b w) r = on_line a b w r hr (turn_on_side (whole a) (whole b) r one one of.between) in
          let k = from_lo clip a b w slice r hr common of.inside of.between on in
          between_of (way a b w) (at a b lo) (at a b hi) r (on_at a b w lo) (on_at a b w hi) on k.0 k.1
          );
    }

-- ---- on a way that holds the segment
-- one of two parameters, and not above either, or not below either
pub record IsLesser (f g r : Frac) : Type 0 where
  pub one_of : (r ≡ f) ⊎ (r ≡ g)
  pub of_first : IsAtMost r f
  pub of_second : IsAtMost r g

pub record IsGreater (f g r : Frac) : Type 0 where
  pub one_of : (r ≡ f) ⊎ (r ≡ g)
  pub of_first : IsAtMost f r
  pub of_second : IsAtMost g r

-- the segment and the triangle's slice of the way
pub record IsHeld (clip : Clip) (u v : Pt) (slice : Stretch) (f g : Frac) : Type 0 where
  pub different : AreDifferent u v
  pub common : IsCommon u v clip.tri slice
  pub a_at : StandsAt u v clip.a f
  pub b_at : StandsAt u v clip.b g
  pub point : Point
  pub point_positive : pos 0 <ℤ point.w
  pub has_point : IsOf clip point

pub cut_on : (clip : Clip) (u v : Pt) (slice : Stretch) (f g near far lo hi : Frac) → IsHeld clip u v slice f g
    → IsLesser f g near → IsGreater f g far → IsGreater slice.lo near lo → IsLesser slice.hi far hi
    → IsCut clip u v lo hi
cut_on clip u v slice f g near far lo hi held is_near is_far is_lo is_hi =
    record {
      order = at_up u v w lo hi (up_to_trans s (at u v lo) held.point (at u v hi) (on_at u v w lo)
          (on_of held.point held.point_positive held.has_point) (on_at u v w hi)
          (from_of held.point held.point_positive held.has_point)
          (to_of held.point held.point_positive held.has_point));
      forth = λ r hr m. record {
        between = mixes_mix r (at u v lo ∷ at u v hi ∷ []) (whole clip.a ∷ whole clip.b ∷ [])
            (at-w u v lo, (at-w u v hi, tt)) (one, (one, tt))
            (end_between lo near_lo (lo_far), (end_between hi near_hi hi_far, tt)) m;
        inside = mixes_mix r (at u v lo ∷ at u v hi ∷ []) (corners_of clip.tri) (at-w u v lo, (at-w u v hi, tt))
            (one, (one, (one, tt))) (end_inside lo slice_lo lo_slice, (end_inside hi slice_hi hi_slice, tt)) m;
      };
      back = λ r hr of. between_of s (at u v lo) (at u v hi) r (on_at u v w lo) (on_at u v w hi) (on_of r hr of)
          (from_of r hr of) (to_of r hr of);
    }
  where
    w : AreDifferent u v
    w = held.different

    s : Scale
    s = way u v w

    a_on : IsOn (way u v held.different) (whole clip.a)
    a_on = on_line u v held.different (whole clip.a) one
        (line_moved (whole u) (whole v) (whole clip.a) (at u v f) (at-w u v f) held.a_at.same
        (line_on u v held.different (at u v f) (on_at u v held.different f)))

    b_on : IsOn (way u v held.different) (whole clip.b)
    b_on = on_line u v held.different (whole clip.b) one
        (line_moved (whole u) (whole v) (whole clip.b) (at u v g) (at-w u v g) held.b_at.same
        (line_on u v held.different (at u v g) (on_at u v held.different g)))

    a_between : IsMix (whole clip.a) (whole u ∷ whole v ∷ [])
    a_between = let p = held.a_at in (segments_have_parameters (whole u) (whole v) (whole clip.a)).1
        (record { n = f.num; d = f.den; param = p.param; same = p.same })

    b_between : IsMix (whole clip.b) (whole u ∷ whole v ∷ [])
    b_between = let p = held.b_at in (segments_have_parameters (whole u) (whole v) (whole clip.b)).1
        (record { n = g.num; d = g.den; param = p.param; same = p.same })

    on_of : (r : Point) → pos 0 <ℤ r.w → IsOf clip r → IsOn (way u v held.different) r
    on_of r hr of = between_on (way u v held.different) (whole clip.a) (whole clip.b) r a_on b_on hr of.between

    way_of : (r : Point) → IsOf clip r → IsMix r (whole u ∷ whole v ∷ [])
    way_of r of = mixes_mix r (whole clip.a ∷ whole clip.b ∷ []) (whole u ∷ whole v ∷ []) (one, (one, tt))
        (one, (one, tt)) (a_between, (b_between, tt)) of.between

    -- the ends of the segment and their parameters
    a_from : (x : Point) → IsOn (way u v held.different) x → IsUpTo (way u v held.different) x (at u v f)
        → IsUpTo (way u v held.different) x (whole clip.a)
    a_from x on o = up_to_trans (way u v held.different) x (at u v f) (whole clip.a) on (on_at u v held.different f)
        a_on o (level_down (way u v held.different) (whole clip.a) (at u v f)
        (same_level (way u v held.different) (whole clip.a) (at u v f) held.a_at.same))

    b_from : (x : Point) → IsOn (way u v held.different) x → IsUpTo (way u v held.different) x (at u v g)
        → IsUpTo (way u v held.different) x (whole clip.b)
    b_from x on o = up_to_trans (way u v held.different) x (at u v g) (whole clip.b) on (on_at u v held.different g)
        b_on o (level_down (way u v held.different) (whole clip.b) (at u v g)
        (same_level (way u v held.different) (whole clip.b) (at u v g) held.b_at.same))

    a_to : (x : Point) → IsOn (way u v held.different) x → IsUpTo (way u v held.different) (at u v f) x
        → IsUpTo (way u v held.different) (whole clip.a) x
    a_to x on o = up_to_trans (way u v held.different) (whole clip.a) (at u v f) x a_on (on_at u v held.different f) on
        (level_up (way u v held.different) (whole clip.a) (at u v f)
        (same_level (way u v held.different) (whole clip.a) (at u v f) held.a_at.same)) o

    b_to : (x : Point) → IsOn (way u v held.different) x → IsUpTo (way u v held.different) (at u v g) x
        → IsUpTo (way u v held.different) (whole clip.b) x
    b_to x on o = up_to_trans (way u v held.different) (whole clip.b) (at u v g) x b_on (on_at u v held.different g) on
        (level_up (way u v held.different) (whole clip.b) (at u v g)
        (same_level (way u v held.different) (whole clip.b) (at u v g) held.b_at.same)) o

    near_of : (r : Point) → pos 0 <ℤ r.w → IsOf clip r → IsUpTo (way u v held.different) (at u v near) r
    near_of r hr of =
        up_from_both (way u v held.different) (at u v near) (whole clip.a) (whole clip.b) r
        (on_at u v held.different near) a_on b_on hr
        (a_from (at u v near) (on_at u v held.different near) (up_at u v held.different near f is_near.of_first))
        (b_from (at u v near) (on_at u v held.different near) (up_at u v held.different near g is_near.of_second))
        of.between

    far_of : (r : Point) → pos 0 <ℤ r.w → IsOf clip r → IsUpTo (way u v held.different) r (at u v far)
    far_of r hr of =
        up_to_both (way u v held.different) (at u v far) (whole clip.a) (whole clip.b) r (on_at u v held.different far)
        a_on b_on hr
        (a_to (at u v far) (on_at u v held.different far) (up_at u v held.different f far is_far.of_first))
        (b_to (at u v far) (on_at u v held.different far) (up_at u v held.different g far is_far.of_second))
        of.between

    from_of : (r : Point) → pos 0 <ℤ r.w → IsOf clip r → IsUpTo (way u v held.different) (at u v lo) r
    from_of r hr of = go is_lo.one_of
      where
        go : (lo ≡ slice.lo) ⊎ (lo ≡ near) → IsUpTo (way u v held.different) (at u v lo) r
        go (inl e) = subst (λ (x : Frac). IsUpTo (way u v held.different) (at u v x) r) (sym e)
            (from_lo clip u v held.different slice r hr held.common of.inside (way_of r of) (on_of r hr of)).0
        go (inr e) = subst (λ (x : Frac). IsUpTo (way u v held.different) (at u v x) r) (sym e) (near_of r hr of)

    to_of : (r : Point) → pos 0 <ℤ r.w → IsOf clip r → IsUpTo (way u v held.different) r (at u v hi)
    to_of r hr of = go is_hi.one_of
      where
        go : (hi ≡ slice.hi) ⊎ (hi ≡ far) → IsUpTo (way u v held.different) r (at u v hi)
        go (inl e) = subst (λ (x : Frac). IsUpTo (way u v held.different) r (at u v x)) (sym e)
            (from_lo clip u v held.different slice r hr held.common of.inside (way_of r of) (on_of r hr of)).1
        go (inr e) = subst (λ (x : Frac). IsUpTo (way u v held.different) r (at u v x)) (sym e) (far_of r hr of)

    -- lo and hi are where the clip is
    lo_hi : IsUpTo (way u v held.different) (at u v lo) (at u v hi)
    lo_hi = up_to_trans (way u v held.different) (at u v lo) held.point (at u v hi) (on_at u v held.different lo)
        (on_of held.point held.point_positive held.has_point) (on_at u v held.different hi)
        (from_of held.point held.point_positive held.has_point) (to_of held.point held.point_positive held.has_point)

    up : (x y : Frac) → IsAtMost x y → IsUpTo (way u v held.different) (at u v x) (at u v y)
    up x y o = up_at u v held.different x y o

    then : (x y z : Frac) → IsUpTo (way u v held.different) (at u v x) (at u v y)
        → IsUpTo (way u v held.different) (at u v y) (at u v z) → IsUpTo (way u v held.different) (at u v x) (at u v z)
    then x y z o o' = up_to_trans (way u v held.different) (at u v x) (at u v y) (at u v z) (on_at u v held.different x)
        (on_at u v held.different y) (on_at u v held.different z) o o'

    slice_lo : IsUpTo (way u v held.different) (at u v slice.lo) (at u v lo)
    slice_lo = up slice.lo lo is_lo.of_first

    near_lo : IsUpTo (way u v held.different) (at u v near) (at u v lo)
    near_lo = up near lo is_lo.of_second

    hi_slice : IsUpTo (way u v held.different) (at u v hi) (at u v slice.hi)
    hi_slice = up hi slice.hi is_hi.of_first

    hi_far : IsUpTo (way u v held.different) (at u v hi) (at u v far)
    hi_far = up hi far is_hi.of_second

    lo_slice : IsUpTo (way u v held.different) (at u v lo) (at u v slice.hi)
    lo_slice = then lo hi slice.hi lo_hi hi_slice

    lo_far : IsUpTo (way u v held.different) (at u v lo) (at u v far)
    lo_far = then lo hi far lo_hi hi_far

    slice_hi : IsUpTo (way u v held.different) (at u v slice.lo) (at u v hi)
    slice_hi = then slice.lo lo hi slice_lo lo_hi

    near_hi : IsUpTo (way u v held.different) (at u v near) (at u v hi)
    near_hi = then near lo hi near_lo lo_hi

    end_inside : (x : Frac) → IsUpTo (way u v held.different) (at u v slice.lo) (at u v x)
        → IsUpTo (way u v held.different) (at u v x) (at u v slice.hi) → IsMix (at u v x) (corners_of clip.tri)
    end_inside x from to =
        mixes_mix (at u v x) (at u v slice.lo ∷ at u v slice.hi ∷ []) (corners_of clip.tri)
        (at-w u v slice.lo, (at-w u v slice.hi, tt)) (one, (one, (one, tt)))
        (held.common.0.1, (held.common.1.1, tt))
        (between_of (way u v held.different) (at u v slice.lo) (at u v slice.hi) (at u v x)
        (on_at u v held.different slice.lo) (on_at u v held.different slice.hi) (on_at u v held.different x) from
        to)

    -- near and far are the ends of the segment, in one order or the other
    end_between : (x : Frac) → IsUpTo (way u v held.different) (at u v near) (at u v x)
        → IsUpTo (way u v held.different) (at u v x) (at u v far) → IsMix (at u v x) (whole clip.a ∷ whole clip.b ∷ [])
    end_between x from to = go (up_or (way u v held.different) (whole clip.a) (whole clip.b))
      where
        go : IsUpTo (way u v held.different) (whole clip.a) (whole clip.b)
            ⊎ IsUpTo (way u v held.different) (whole clip.b) (whole clip.a)
            → IsMix (at u v x) (whole clip.a ∷ whole clip.b ∷ [])
        go (inl o) =
            between_of (way u v held.different) (whole clip.a) (whole clip.b) (at u v x) a_on b_on
            (on_at u v held.different x)
            (up_to_trans (way u v held.different) (whole clip.a) (at u v near) (at u v x) a_on
            (on_at u v held.different near) (on_at u v held.different x) (first is_near.one_of) from)
            (up_to_trans (way u v held.different) (at u v x) (at u v far) (whole clip.b) (on_at u v held.different x)
            (on_at u v held.different far) b_on to (last is_far.one_of))
          where
            first : (near ≡ f) ⊎ (near ≡ g) → IsUpTo (way u v held.different) (whole clip.a) (at u v near)
            first (inl e) = subst (λ (y : Frac). IsUpTo (way u v held.different) (whole clip.a) (at u v y)) (sym e)
                (a_to (at u v f) (on_at u v held.different f) (up_to_itself (way u v held.different) (at u v f)))
            first (inr e) = subst (λ (y : Frac). IsUpTo (way u v held.different) (whole clip.a) (at u v y)) (sym e)
                (up_to_trans (way u v held.different) (whole clip.a) (whole clip.b) (at u v g) a_on b_on
                (on_at u v held.different g) o (b_to (at u v g) (on_at u v held.different g)
                (up_to_itself (way u v held.different) (at u v g))))

            last : (far ≡ f) ⊎ (far ≡ g) → IsUpTo (way u v held.different) (at u v far) (whole clip.b)
            last (inl e) = subst (λ (y : Frac). IsUpTo (way u v held.different) (at u v y) (whole clip.b)) (sym e)
                (up_to_trans (way u v held.different) (at u v f) (whole clip.a) (whole clip.b)
                (on_at u v held.different f) a_on b_on
                (a_from (at u v f) (on_at u v held.different f) (up_to_itself (way u v held.different) (at u v f))) o)
            last (inr e) = subst (λ (y : Frac). IsUpTo (way u v held.different) (at u v y) (whole clip.b)) (sym e)
                (b_from (at u v g) (on_at u v held.different g) (up_to_itself (way u v held.different) (at u v g)))
        go (inr o) =
            mix_swapped (at u v x) (whole clip.b) (whole clip.a)
            (between_of (way u v held.different) (whole clip.b) (whole clip.a) (at u v x) b_on a_on
            (on_at u v held.different x)
            (up_to_trans (way u v held.different) (whole clip.b) (at u v near) (at u v x) b_on
            (on_at u v held.different near) (on_at u v held.different x) (first is_near.one_of) from)
            (up_to_trans (way u v held.different) (at u v x) (at u v far) (whole clip.a) (on_at u v held.different x)
            (on_at u v held.different far) a_on to (last is_far.one_of)))
          where
            first : (near ≡ f) ⊎ (near ≡ g) → IsUpTo (way u v held.different) (whole clip.b) (at u v near)
            first (inl e) = subst (λ (y : Frac). IsUpTo (way u v held.different) (whole clip.b) (at u v y)) (sym e)
                (up_to_trans (way u v held.different) (whole clip.b) (whole clip.a) (at u v f) b_on a_on
                (on_at u v held.different f) o (a_to (at u v f) (on_at u v held.different f)
                (up_to_itself (way u v held.different) (at u v f))))
            first (inr e) = subst (λ (y : Frac). IsUpTo (way u v held.different) (whole clip.b) (at u v y)) (sym e)
                (b_to (at u v g) (on_at u v held.different g) (up_to_itself (way u v held.different) (at u v g)))

            last : (far ≡ f) ⊎ (far ≡ g) → IsUpTo (way u v held.different) (at u v far) (whole clip.a)
            last (inl e) = subst (λ (y : Frac). IsUpTo (way u v held.different) (at u v y) (whole clip.a)) (sym e)
                (a_from (at u v f) (on_at u v held.different f) (up_to_itself (way u v held.different) (at u v f)))
            last (inr e) = subst (λ (y : Frac). IsUpTo (way u v held.different) (at u v y) (whole clip.a)) (sym e)
                (up_to_trans (way u v held.different) (at u v g) (whole clip.b) (whole clip.a)
                (on_at u v held.different g) b_on a_on
                (b_from (at u v g) (on_at u v held.different g) (up_to_itself (way u v held.different) (at u v g))) o)
