-- A slice of a way by the triangle of a clip, where the way holds the clip's segment.
use Rattle.std.proofs.Common.{◌≡◌, ℤ, pos, ◌<ℤ◌, [], ◌∷◌, Option, None, Some, refl, subst, arith}
use Rattle.std.specs.Option.{IsSome}
use lib.Signed.{lt_z_yes}
use Rattle.frac128.specs.declared.frac.Frac.{Frac}
use Rattle.plane_base.specs.Plane.{Point, IsMix, whole, corners_of, along}
use Rattle.plane_base.specs.Slices.{IsIn, IsCommon, slice_of}
use Rattle.plane_base.specs.declared.shapes.Pt.{Pt}
use Rattle.plane_base.specs.declared.shapes.Tri.{Tri}
use Rattle.plane_base.specs.declared.stretches.Stretch.{Stretch}
use Rattle.plane_base.proofs.MixLaws.Mixes.{same_sym, mix_moved, mixes_mix}
use Rattle.plane_base.proofs.MixLaws.Parameters.{segments_have_parameters}
use Rattle.meet_rel.specs.declared.clips.Clip.{Clip}
use Rattle.meet_rel.specs.Clips.{IsProper, StandsAt}

one : pos 0 <ℤ pos 1
one = lt_z_yes tt

-- the triangle has a point of the way
record HasPoint (u v : Pt) (t : Tri) : Type 0 where
  n : ℤ
  d : ℤ
  is_in : IsIn u v t n d

has_point : (clip : Clip) (u v : Pt) (r : Point) → pos 0 <ℤ r.w → IsMix r (whole u ∷ whole v ∷ [])
    → IsMix r (corners_of clip.tri) → HasPoint u v clip.tri
has_point clip u v r hr between inside =
    let h = (segments_have_parameters (whole u) (whole v) r).0 between in
    record {
      n = h.n;
      d = h.d;
      is_in = (
        h.param,
        mix_moved r (along (whole u) (whole v) h.n h.d) (corners_of clip.tri) hr
            (same_sym r (along (whole u) (whole v) h.n h.d) h.same) inside,
      );
    }

some_of : (u v : Pt) (t : Tri) (r : Option Stretch) → slice_of u v t r → HasPoint u v t → IsSome r
some_of u v t None h k = absurd (h k.n k.d k.is_in)
some_of u v t (Some s) h k = refl

pub own_some : (clip : Clip) (r : Option Stretch) → IsProper clip → slice_of clip.a clip.b clip.tri r → IsSome r
own_some clip r p h = grind (arith, some_of, has_point)

stands_between : (u v p : Pt) (f : Frac) → StandsAt u v p f → IsMix (whole p) (whole u ∷ whole v ∷ [])
stands_between u v p f s = (segments_have_parameters (whole u) (whole v) (whole p)).1
    (record { n = f.num; d = f.den; param = s.param; same = s.same })

pub way_some : (clip : Clip) (u v : Pt) (f g : Frac) (r : Option Stretch) → IsProper clip → StandsAt u v clip.a f
    → StandsAt u v clip.b g → slice_of u v clip.tri r → IsSome r
way_some clip u v f g r p sa sb h =
    let of = p.has_point in
    some_of u v clip.tri r h (has_point clip u v p.point p.point_positive
    (mixes_mix p.point (whole clip.a ∷ whole clip.b ∷ []) (whole u ∷ whole v ∷ []) (one, (one, tt)) (one, (one, tt))
    (stands_between u v clip.a f sa, (stands_between u v clip.b g sb, tt)) of.between) of.inside)

pub common_of : (u v : Pt) (t : Tri) (r : Option Stretch) (s : Stretch) → slice_of u v t r → r ≡ Some s
    → IsCommon u v t s
common_of u v t r s h e = subst (λ (o : Option Stretch). slice_of u v t o) e h
